-- A batch, entry by entry.
use Rattle.std.proofs.Common.{◌≡◌, ◌≢◌, ◌≤◌, ◌<◌, ◌+◌, ◌-◌, ◌*◌, ◌==◌, ℕ, zero, suc, List, [], ◌∷◌, ◌++◌, length, take, drop, map, nat_lt, Bool, true}
use Rattle.std.proofs.Common.{false, Option, Some, None, IfSome, if◌then◌else◌, arith, append_assoc, append-nil, length-append, Vec, Global, refl}
use Rattle.std.proofs.Common.{sym, ap, subst, ◌∙◌}
use Rattle.std.specs.Prelude.{not}
use Rattle.std.proofs.lemmas.Bool.Decides.{nat_tests}
use Rattle.std.proofs.lemmas.List.{take_at, drop_at, map-append}
use Rattle.std.specs.Io.KnownBytes.{Consumes, IsAtEnd}
use Rattle.std.proofs.KnownBytes.{Consumes-nil, Consumes-trans}
use Rattle.byteorder.specs.Endian.{big_number}
use Rattle.byteorder.specs.Numbers.{big_from-append}
use Rattle.gw_object.specs.declared.fault.Fault.{Fault}
use Rattle.gw_object.specs.declared.limits.TheConstants.{MOST_BYTES}
use Rattle.gw_object.specs.Codes.{truncation, limit}
use Rattle.gw_answers.specs.Service.{nowhere, service_full}
use Rattle.gw_batch.specs.declared.entry.Entry.{Entry as StoredEntry}
use Rattle.gw_batch.specs.declared.entry.Entry.TheVariants as stored
use Rattle.gw_batch.specs.Batch.{Entry, Object, Broken, Front, front, entry_of, sized_front, behind_length, first_entry, surplus, next_entry}
use Rattle.gw_batch.specs.Batch.{with_next, past, entries, unread_bytes, most_objects}
use Rattle.gw_console.specs.Calls.{LosesAtMost}
use Rattle.gpssw.specs.Framing.{left_of, IsFirst, surplus_entry, GivesEntry, GivesBatch}

-- ONE ENTRY

-- a reader at its end has nothing left
at_end : (known : Option (List ℕ)) → IsAtEnd known → left_of known ≡ []
at_end None end = refl
at_end (Some bytes) end = end

-- a length above the limit
pub too_long : (n : ℕ) (old : Option (List ℕ)) → MOST_BYTES < n
    → GivesEntry (λ bytes. Some (sized_front n bytes)) (Some (stored.Broken (nowhere limit))) old old
too_long n old long = let test : nat_lt MOST_BYTES n ≡ true = grind (arith, nat_tests, long) in ([], Consumes-nil old, rw test refl)

-- an object that is cut off
pub cut_off : (n : ℕ) (old new : Option (List ℕ)) (bytes : List ℕ) → n ≤ MOST_BYTES → length bytes < n → Consumes old new bytes → IsAtEnd new
    → GivesEntry (λ bs. Some (sized_front n bs)) (Some (stored.Broken (nowhere truncation))) old new
cut_off n old new bytes within short taken end =
    let test : nat_lt MOST_BYTES n ≡ false = grind (arith, nat_tests, within) in
    let all : bytes ++ left_of new ≡ bytes = ap (λ rest. bytes ++ rest) (at_end new end) ∙ append-nil bytes in
    let cut : nat_lt (length bytes) n ≡ true = grind (arith, nat_tests, short) in
    (bytes, taken, rw (test, all, cut, at_end new end) refl)

-- an object that is whole
pub whole_object : (n : ℕ) (old new : Option (List ℕ)) (object : Vec ℕ Global) → n ≤ MOST_BYTES → length object.items ≡ n → Consumes old new object.items
    → GivesEntry (λ bs. Some (sized_front n bs)) (Some (stored.Object object)) old new
whole_object n old new object within whole taken =
    let test : nat_lt MOST_BYTES n ≡ false = grind (arith, nat_tests, within) in (
      object.items,
      taken,
      λ more.
          let enough : nat_lt (length (object.items ++ more)) n ≡ false = grind (arith, nat_tests, whole, length-append object.items more) in
          rw (test, enough, take_at object.items more n whole, drop_at object.items more n whole) refl,
    )

-- no length, and no bytes
pub no_entry : (old new : Option (List ℕ)) (bytes : List ℕ) → length bytes ≡ 0 → Consumes old new bytes → IsAtEnd new → GivesEntry first_entry None old new
no_entry old new [] none taken end = ([], taken, rw (at_end new end) refl)
no_entry old new (b ∷ bs) none taken end = absurd cc

-- a length that is cut off
pub cut_length : (old new : Option (List ℕ)) (bytes : List ℕ) → length bytes ≢ 0 → length bytes < 4 → Consumes old new bytes → IsAtEnd new
    → GivesEntry first_entry (Some (stored.Broken (nowhere truncation))) old new
cut_length old new bytes some short taken end =
    let all : bytes ++ left_of new ≡ bytes = ap (λ rest. bytes ++ rest) (at_end new end) ∙ append-nil bytes in
    let full : (length bytes == 0) ≡ false = grind (arith, nat_tests, some) in
    let cut : nat_lt (length bytes) 4 ≡ true = grind (arith, nat_tests, short) in
    (bytes, taken, rw (all, full, cut, at_end new end) refl)

-- what stands behind a whole length
after_length : (bytes more : List ℕ) → length bytes ≡ 4 → first_entry (bytes ++ more) ≡ Some (sized_front (big_number 4 bytes) more)
after_length bytes more four =
    let size : length (bytes ++ more) ≡ 4 + length more = length-append bytes more ∙ ap (λ n. n + length more) four in
    let full : (length (bytes ++ more) == 0) ≡ false = grind (arith, nat_tests, size) in
    let enough : nat_lt (length (bytes ++ more)) 4 ≡ false = grind (arith, nat_tests, size) in
    let number : big_number 4 (bytes ++ more) ≡ big_number 4 bytes = big_from-append 4 bytes more (omega (arith, four)) in
    rw (full, enough, number, drop_at bytes more 4 four) refl

behind_four : (bytes read left : List ℕ) (entry : Option StoredEntry) → length bytes ≡ 4
    → IsFirst (λ bs. Some (sized_front (big_number 4 bytes) bs)) read left entry
    → IsFirst first_entry (bytes ++ read) left entry
behind_four bytes read left None four first = absurd cc
behind_four bytes read left (Some (stored.Object object)) four first =
    λ more. rw (append_assoc bytes read more, after_length bytes (read ++ more) four) (first more)
behind_four bytes read left (Some (stored.Broken fault)) four first = rw (append_assoc bytes read left, after_length bytes (read ++ left) four) first

-- an entry behind its length
pub sized_entry : (old mid new : Option (List ℕ)) (bytes : List ℕ) (entry : StoredEntry) → length bytes ≡ 4 → Consumes old mid bytes
    → GivesEntry (λ bs. Some (sized_front (big_number 4 bytes) bs)) (Some entry) mid new → GivesEntry first_entry (Some entry) old new
sized_entry old mid new bytes entry four taken given =
    (bytes ++ given.0, Consumes-trans old mid new bytes given.0 taken given.1, behind_four bytes given.0 (left_of new) (Some entry) four given.2)

-- no object too many
no_surplus : (old new : Option (List ℕ)) (bytes : List ℕ) → length bytes ≡ 0 → Consumes old new bytes → IsAtEnd new → GivesEntry surplus None old new
no_surplus old new [] none taken end = ([], taken, rw (at_end new end) refl)
no_surplus old new (b ∷ bs) none taken end = absurd cc

-- an object too many
one_surplus : (old new : Option (List ℕ)) (bytes : List ℕ) → length bytes ≡ 1 → Consumes old new bytes
    → GivesEntry surplus (Some (stored.Broken (nowhere service_full))) old new
one_surplus old new bytes one taken =
    let size : length (bytes ++ left_of new) ≡ 1 + length (left_of new) = length-append bytes (left_of new) ∙ ap (λ n. n + length (left_of new)) one in
    let full : (length (bytes ++ left_of new) == 0) ≡ false = grind (arith, nat_tests, size) in
    (bytes, taken, rw (full, drop_at bytes (left_of new) 1 one) refl)

-- whether there is a byte
pub read_one : (old new : Option (List ℕ)) (bytes : List ℕ) (n : ℕ) → length bytes ≡ n → n ≤ 1 → Consumes old new bytes → (n < 1 → IsAtEnd new)
    → GivesEntry surplus (surplus_entry (not (n == 0))) old new
read_one old new bytes zero count few taken end = no_surplus old new bytes count taken (end (omega arith))
read_one old new bytes (suc zero) count few taken end = one_surplus old new bytes count taken
read_one old new bytes (suc (suc n)) count few taken end = absurd (omega (arith, few))

-- ALL ENTRIES

-- so many objects may come yet: whatever comes behind what was read, the entries of all are those so far, and then its own
pub record GoesOn (left : ℕ) (es : List StoredEntry) (old mid : Option (List ℕ)) : Type 0 where
  pub read : List ℕ
  pub taken : Consumes old mid read
  pub entries : (more : List ℕ) → entries most_objects (read ++ more) ≡ map entry_of es ++ entries left more
  pub rest : (more : List ℕ) → unread_bytes most_objects (read ++ more) ≡ unread_bytes left more

pub begin : (old : Option (List ℕ)) → GoesOn most_objects [] old old
begin old = record { read = []; taken = Consumes-nil old; entries = λ more. refl; rest = λ more. refl }

-- the entries of bytes of which an object is the first
of_object : (left : ℕ) (bytes object behind : List ℕ) → first_entry bytes ≡ Some (front (Object object) behind) → entries (suc left) bytes
    ≡ Object object ∷ entries left behind
unfolding entries
of_object left bytes object behind first = rw (first, entries) refl

past_object : (left : ℕ) (bytes object behind : List ℕ) → first_entry bytes ≡ Some (front (Object object) behind)
    → unread_bytes (suc left) bytes ≡ unread_bytes left behind
unfolding unread_bytes
past_object left bytes object behind first = rw (first, unread_bytes) refl

-- one entry more, at the end of several
snoc : (es : List StoredEntry) (e : StoredEntry) (rest : List Entry) → map entry_of es ++ (entry_of e ∷ rest) ≡ map entry_of (es ++ e ∷ []) ++ rest
snoc es e rest = sym (ap (λ bs. bs ++ rest) (map-append entry_of es (e ∷ [])) ∙ append_assoc (map entry_of es) (entry_of e ∷ []) rest)

next_object : (left : ℕ) (es : List StoredEntry) (old mid new : Option (List ℕ)) (object : Vec ℕ Global) → GoesOn (suc left) es old mid
    → GivesEntry first_entry (Some (stored.Object object)) mid new → GoesOn left (es ++ stored.Object object ∷ []) old new
next_object left es old mid new object so_far given = record {
  read = so_far.read ++ given.0;
  taken = Consumes-trans old mid new so_far.read given.0 so_far.taken given.1;
  entries = λ more.
      ap (entries most_objects) (append_assoc so_far.read given.0 more) ∙ so_far.entries (given.0 ++ more)
      ∙ ap (λ rest. map entry_of es ++ rest) (of_object left (given.0 ++ more) object.items more (given.2 more))
      ∙ snoc es (stored.Object object) (entries left more);
  rest = λ more.
      ap (unread_bytes most_objects) (append_assoc so_far.read given.0 more) ∙ so_far.rest (given.0 ++ more)
      ∙ past_object left (given.0 ++ more) object.items more (given.2 more);
}

-- the entries of bytes of which the first is none, or ends the reading
of_none : (left : ℕ) (bytes : List ℕ) → next_entry left bytes ≡ None → entries left bytes ≡ []
unfolding entries
of_none zero bytes first = rw (first, entries) refl
of_none (suc left) bytes first = rw (first, entries) refl

past_none : (left : ℕ) (bytes : List ℕ) → next_entry left bytes ≡ None → unread_bytes left bytes ≡ []
unfolding unread_bytes
past_none zero bytes first = rw (first, unread_bytes) refl
past_none (suc left) bytes first = rw (first, unread_bytes) refl

of_broken : (left : ℕ) (bytes behind : List ℕ) (fault : Fault) → next_entry left bytes ≡ Some (front (Broken fault) behind)
    → entries left bytes ≡ Broken fault ∷ []
unfolding entries
of_broken zero bytes behind fault first = rw (first, entries) refl
of_broken (suc left) bytes behind fault first = rw (first, entries) refl

past_broken : (left : ℕ) (bytes behind : List ℕ) (fault : Fault) → next_entry left bytes ≡ Some (front (Broken fault) behind) → unread_bytes left bytes ≡ behind
unfolding unread_bytes
past_broken zero bytes behind fault first = rw (first, unread_bytes) refl
past_broken (suc left) bytes behind fault first = rw (first, unread_bytes) refl

-- where there is no entry there are no bytes
no_bytes : (b : Bool) (o : Front) → (if b then None else Some o) ≡ None → b ≡ true
no_bytes true o h = refl
no_bytes false o h = absurd cc

has_none : (left : ℕ) (bytes : List ℕ) → next_entry left bytes ≡ None → (length bytes == 0) ≡ true
has_none zero bytes first = no_bytes (length bytes == 0) (front (Broken (nowhere service_full)) (drop 1 bytes)) first
has_none (suc left) bytes first = no_bytes (length bytes == 0) (behind_length bytes) first

none_is_empty : (left : ℕ) (bytes : List ℕ) → next_entry left bytes ≡ None → length bytes ≡ 0
none_is_empty left bytes first = let test = has_none left bytes first in grind (arith, nat_tests, test)

is_nothing : (bytes : List ℕ) → length bytes ≡ 0 → bytes ≡ []
is_nothing [] h = refl
is_nothing (b ∷ bs) h = absurd cc

nothing_left : (left : ℕ) (read rest : List ℕ) → next_entry left (read ++ rest) ≡ None → rest ≡ []
nothing_left left read rest first =
    let none : length (read ++ rest) ≡ 0 = none_is_empty left (read ++ rest) first in
    is_nothing rest (omega (arith, none, length-append read rest))

-- nothing more came
ended_by_none : (left : ℕ) (es : List StoredEntry) (old mid new : Option (List ℕ)) → GoesOn left es old mid
    → GivesEntry (next_entry left) None mid new → GivesBatch es old new
ended_by_none left es old mid new so_far given = record {
  read = so_far.read ++ given.0;
  taken = Consumes-trans old mid new so_far.read given.0 so_far.taken given.1;
  entries =
      ap (entries most_objects) (append_assoc so_far.read given.0 (left_of new)) ∙ so_far.entries (given.0 ++ left_of new)
      ∙ ap (λ rest. map entry_of es ++ rest) (of_none left (given.0 ++ left_of new) given.2) ∙ append-nil (map entry_of es);
  rest =
      ap (unread_bytes most_objects) (append_assoc so_far.read given.0 (left_of new)) ∙ so_far.rest (given.0 ++ left_of new)
      ∙ past_none left (given.0 ++ left_of new) given.2 ∙ sym (nothing_left left given.0 (left_of new) given.2);
}

-- the reading was ended
ended_by_fault : (left : ℕ) (es : List StoredEntry) (old mid new : Option (List ℕ)) (fault : Fault) → GoesOn left es old mid
    → GivesEntry (next_entry left) (Some (stored.Broken fault)) mid new → GivesBatch (es ++ stored.Broken fault ∷ []) old new
ended_by_fault left es old mid new fault so_far given = record {
  read = so_far.read ++ given.0;
  taken = Consumes-trans old mid new so_far.read given.0 so_far.taken given.1;
  entries =
      ap (entries most_objects) (append_assoc so_far.read given.0 (left_of new)) ∙ so_far.entries (given.0 ++ left_of new)
      ∙ ap (λ rest. map entry_of es ++ rest) (of_broken left (given.0 ++ left_of new) (left_of new) fault given.2)
      ∙ sym (map-append entry_of es (stored.Broken fault ∷ []));
  rest =
      ap (unread_bytes most_objects) (append_assoc so_far.read given.0 (left_of new)) ∙ so_far.rest (given.0 ++ left_of new)
      ∙ past_broken left (given.0 ++ left_of new) (left_of new) fault given.2;
}

-- by how many entries there are so far
before_last : (i : ℕ) → i < 1024 → 1024 - i ≡ suc (1024 - (i + 1))
before_last i h = omega (arith, h)

at_last : (i : ℕ) → 1024 ≤ i → 1024 - i ≡ 0
at_last i h = omega (arith, h)

pub object_read : (i : ℕ) (es : List StoredEntry) (old mid new : Option (List ℕ)) (object : Vec ℕ Global) → i < 1024 → GoesOn (1024 - i) es old mid
    → GivesEntry first_entry (Some (stored.Object object)) mid new → GoesOn (1024 - (i + 1)) (es ++ stored.Object object ∷ []) old new
object_read i es old mid new object few so_far given =
    next_object (1024 - (i + 1)) es old mid new object (subst (λ n. GoesOn n es old mid) (before_last i few) so_far) given

pub fault_read : (i : ℕ) (es : List StoredEntry) (old mid new : Option (List ℕ)) (fault : Fault) → i < 1024 → GoesOn (1024 - i) es old mid
    → GivesEntry first_entry (Some (stored.Broken fault)) mid new → GivesBatch (es ++ stored.Broken fault ∷ []) old new
fault_read i es old mid new fault few so_far given =
    ended_by_fault (suc (1024 - (i + 1))) es old mid new fault (subst (λ n. GoesOn n es old mid) (before_last i few) so_far) given

pub none_read : (i : ℕ) (es : List StoredEntry) (old mid new : Option (List ℕ)) → i < 1024 → GoesOn (1024 - i) es old mid
    → GivesEntry first_entry None mid new → GivesBatch es old new
none_read i es old mid new few so_far given =
    ended_by_none (suc (1024 - (i + 1))) es old mid new (subst (λ n. GoesOn n es old mid) (before_last i few) so_far) given

pub surplus_read : (i : ℕ) (es : List StoredEntry) (old mid new : Option (List ℕ)) (is_there : Bool) → 1024 ≤ i → is_there ≡ true → GoesOn (1024 - i) es old mid
    → GivesEntry surplus (surplus_entry is_there) mid new → GivesBatch (es ++ stored.Broken (nowhere service_full) ∷ []) old new
surplus_read i es old mid new true all there so_far given =
    ended_by_fault zero es old mid new (nowhere service_full) (subst (λ n. GoesOn n es old mid) (at_last i all) so_far) given
surplus_read i es old mid new false all there so_far given = absurd cc

pub no_surplus_read : (i : ℕ) (es : List StoredEntry) (old mid new : Option (List ℕ)) (is_there : Bool) → 1024 ≤ i → is_there ≡ false
    → GoesOn (1024 - i) es old mid
    → GivesEntry surplus (surplus_entry is_there) mid new → GivesBatch es old new
no_surplus_read i es old mid new false all lacks so_far given =
    ended_by_none zero es old mid new (subst (λ n. GoesOn n es old mid) (at_last i all) so_far) given
no_surplus_read i es old mid new true all lacks so_far given = absurd cc

-- HOW MANY BYTES

pub lost_both : (m n : ℕ) (old mid new : Option (List ℕ)) → LosesAtMost m old mid → LosesAtMost n mid new → LosesAtMost (m + n) old new
lost_both m n old mid new one other =
    (one.0 ++ other.0, omega (arith, one.1, other.1, length-append one.0 other.0), Consumes-trans old mid new one.0 other.0 one.2 other.2)

pub lost_fewer : (m n : ℕ) (old new : Option (List ℕ)) → m ≤ n → LosesAtMost m old new → LosesAtMost n old new
lost_fewer m n old new few lost = (lost.0, omega (arith, few, lost.1), lost.2)

pub lost_none : (n : ℕ) (old : Option (List ℕ)) → LosesAtMost n old old
lost_none n old = ([], omega arith, Consumes-nil old)

-- so many bytes for each of the entries so far, and one entry more, are no more than all of a batch
pub lost_so_far : (i more n : ℕ) (old mid new : Option (List ℕ)) → i * 1048580 + more ≤ n → LosesAtMost (i * 1048580) old mid
    → LosesAtMost more mid new → LosesAtMost n old new
lost_so_far i more n old mid new few one other = lost_fewer (i * 1048580 + more) n old new few (lost_both (i * 1048580) more old mid new one other)
