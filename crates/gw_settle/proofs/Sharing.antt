-- Rows of one version, and what a block sends that sets the parameter in which its row has changed.
use Rattle.std.proofs.Common.{◌≡◌, ◌≢◌, ◌⊎◌, inl, inr, ⊎_elim, ℕ, zero, suc, ◌+◌, ◌-◌, ◌<◌, ◌≤◌, List, [], ◌∷◌, map, filter, length, get_or, set}
use Rattle.std.proofs.Common.{slice_set, replicate, Option, Some, None, Bool, true, false, not, ◌==◌, nat_lt, if◌then◌else◌, refl, sym, ap, subst}
use Rattle.std.proofs.Common.{◌∙◌, arith}
use Rattle.std.specs.Prelude.{All, IsSomeAnd, slice_get, option_to_list}
use Rattle.std.specs.Option.{option_flatten}
use Rattle.std.proofs.lemmas.Bool.{cases_eq, false≢true, eqb-true, eq-eqb, ltb-true, ne_eqb}
use Rattle.std.proofs.lemmas.List.{append-nil, get_or-set_same, get_or-set_other, length-set}
use Rattle.std.proofs.lemmas.List.Elements.{All-nil, All-cons, All-head, All-tail}
use Rattle.gw_object.specs.declared.blocks.Block.{Block}
use Rattle.gw_object.specs.declared.blocks.Block.TheVariants as blocks
use Rattle.gw_object.specs.declared.blocks.Call.{Call}
use Rattle.gw_object.specs.declared.parts.Parts.{Parts}
use Rattle.gw_rules.specs.Exits.{returns_to}
use Rattle.gw_rules.specs.Kinds.{block_at}
use Rattle.gw_rules.specs.declared.edges.Target.TheVariants as targets
use Rattle.gw_rules.specs.Blocks.{FlowEdge, Table, after, move, edges_along}
use Rattle.gw_rules.specs.Entries.{with_entry}
use Rattle.gw_rules.specs.Rows.{Row, ParamKind, kind_of, return_blocks}
use Rattle.gw_settle.specs.declared.table.Change.{Change}
use Rattle.gw_settle.specs.declared.table.Change.TheVariants.{Same, Less, More}
use Rattle.gw_settle.specs.declared.passing.Behind.{Behind}
use Rattle.gw_settle.specs.declared.passing.Latest.{Latest}
use Rattle.gw_settle.specs.declared.passing.Like.{Like}
use Rattle.gw_settle.specs.Joins.{is_within, with_state}
use Rattle.gw_settle.specs.Keeps.{MayEnter, sets_return, IsIdle, IsIdleAt}
use Rattle.gw_settle.specs.Marks.{MarksFollow}
use Rattle.gw_settle.specs.Rounds.{rows_of, as_table, sent_at, all_sent, sends_in, sends, visit_block, change_of, followed_by, changes_of, change_at}
use Rattle.gw_settle.specs.Versions.{AreOf, AreAtMost, IsFound, AreVersions, HaveVersion, IsOneVersion, IsReturnAt, IsGiven, without_version}
use Rattle.gw_settle.specs.Versions.{SaySameBut, Makes, IsSharing, moves_behind, sent_behind, change_behind, goes_on_to, blocks_behind}
use Rattle.gw_settle.specs.Versions.{numbers_behind, rules_hold, SendsBehind}
use Rattle.gw_settle.proofs.Rows.{length-changed, at_place, at_other, block_within}
use Rattle.gw_settle.proofs.Falling.{same_rows}
use Rattle.gw_settle.proofs.Sent.{set_is, sends_are}
use Rattle.gw_settle.proofs.Marking.{grown_itself, follow_grown, sends_same}

-- FILTERS

-- what passes one test passes another: only what passes that one counts
filter_step : {X : Type 0} (p r : X → Bool) (x : X) (xs : List X) (a b : Bool) → p x ≡ a → r x ≡ b → (a ≡ true → b ≡ true)
    → filter p (filter r xs) ≡ filter p xs → filter p (filter r (x ∷ xs)) ≡ filter p (x ∷ xs)
filter_step p r x xs true true is also h rest = rw (also, is) (ap (λ ys. x ∷ ys) rest)
filter_step p r x xs true false is also h rest = absurd (false≢true (h refl))
filter_step p r x xs false true is also h rest = rw (also, is) rest
filter_step p r x xs false false is also h rest = rw (also, is) rest

filter_within : {X : Type 0} (p r : X → Bool) (xs : List X) → ((x : X) → p x ≡ true → r x ≡ true) → filter p (filter r xs) ≡ filter p xs
filter_within p r [] h = refl
filter_within p r (x ∷ xs) h = filter_step p r x xs (p x) (r x) refl refl (h x) (filter_within p r xs h)

lt_ne : (m n : ℕ) → nat_lt m n ≡ true → not (m == n) ≡ true
lt_ne m n is = rw (ne_eqb m n (λ e. omega (arith, e, ltb-true m n is))) refl

gt_ne : (m n : ℕ) → nat_lt n m ≡ true → not (m == n) ≡ true
gt_ne m n is = rw (ne_eqb m n (λ e. omega (arith, e, ltb-true n m is))) refl

same_filtered : (q : ℕ) (p : ℕ × ParamKind → Bool) (es fs : List (ℕ × ParamKind))
    → ((e : ℕ × ParamKind) → p e ≡ true → not (e.0 == q) ≡ true) → filter (λ e. not (e.0 == q)) es ≡ filter (λ e. not (e.0 == q)) fs → filter p es ≡ filter p fs
same_filtered q p es fs h is = sym (filter_within p (λ e. not (e.0 == q)) es h) ∙ ap (filter p) is ∙ filter_within p (λ e. not (e.0 == q)) fs h

-- a parameter that is set anew
same_with : (q : ℕ) (kind : ParamKind) (es fs : List (ℕ × ParamKind)) → filter (λ e. not (e.0 == q)) es ≡ filter (λ e. not (e.0 == q)) fs
    → with_entry q (Some kind) es ≡ with_entry q (Some kind) fs
same_with q kind es fs is =
    let below = same_filtered q (λ e. nat_lt e.0 q) es fs (λ e h. lt_ne e.0 q h) is in
    let above = same_filtered q (λ e. nat_lt q e.0) es fs (λ e h. gt_ne e.0 q h) is in
    rw (below, above) refl

same_row : (row other : Row) → row.params ≡ other.params → row.facilities ≡ other.facilities → row.units ≡ other.units → row ≡ other
same_row row other a b c = ap (λ ps. record row { params = ps }) a ∙ ap (λ fs. record row { params = other.params; facilities = fs }) b
    ∙ ap (λ us. record row { params = other.params; facilities = other.facilities; units = us }) c

-- a TRANSFER to a subroutine sends what it sent where its own parameter alone has changed
call_sends : (p : Parts) (s t : Table) (b : ℕ) (c : Call) (row other : Row) → SaySameBut c.parameter row other
    → sends_in p t b (Some (blocks.TransferToSubroutine c)) (Some other) ≡ sends_in p s b (Some (blocks.TransferToSubroutine c)) (Some row)
call_sends p s t b c row other h =
    let passed : after b (blocks.TransferToSubroutine c) other ≡ after b (blocks.TransferToSubroutine c) row =
    same_row _ _ (sym (same_with c.parameter _ row.params other.params h.params)) (sym h.facilities) (sym h.units) in
    ap (λ state. move c.target state ∷ []) passed

pub return_sends : (p : Parts) (s t : Table) (b q : ℕ) (block : Option Block) (row other : Row) → sets_return block q ≡ true
    → SaySameBut q row other → sends_in p t b block (Some other) ≡ sends_in p s b block (Some row)
return_sends p s t b q None row other is h = absurd (false≢true is)
return_sends p s t b q (Some (blocks.TransferToSubroutine c)) row other is h =
    call_sends p s t b c row other (subst (λ n. SaySameBut n row other) (sym (eqb-true c.parameter q is)) h)
return_sends p s t b q (Some block) row other is h = absurd (false≢true is)

-- what a TRANSFER in parameter mode sends
pub along_returns : (b : ℕ) (row : Row) (bs : List ℕ) → edges_along b (map returns_to bs) row ≡ moves_behind row bs
along_returns b row [] = refl
along_returns b row (c ∷ bs) = ap (λ es. move (c + 1) row ∷ es) (along_returns b row bs)

-- ONE ROW

same_if : (stays : Bool) (state row : Row) (k : ℕ) (rows : List (Option Row)) → option_flatten (slice_get rows k) ≡ Some row
    → is_within state row ≡ stays → (if stays then Same else Less) ≡ Same → sent_at state k rows ≡ rows
same_if true state row k rows is within h = same_rows state row k rows is (rw within refl)
same_if false state row k rows is within h = absurd (cc)

same_in : (o : Option Row) (state : Row) (k : ℕ) (rows : List (Option Row)) → option_flatten (slice_get rows k) ≡ o → change_of state o
    ≡ Same → sent_at state k rows ≡ rows
same_in None state k rows is h = absurd (cc)
same_in (Some row) state k rows is h = same_if (is_within state row) state row k rows is refl h

-- a state that changes nothing leaves the rows as they are
pub same_at : (state : Row) (k : ℕ) (rows : List (Option Row)) → change_of state (option_flatten (slice_get rows k)) ≡ Same → sent_at state k rows ≡ rows
same_at state k rows h = same_in (option_flatten (slice_get rows k)) state k rows refl h

full_in : (o : Option (Option Row)) (row : Row) → option_flatten o ≡ Some row → o ≡ Some (Some row)
full_in None row h = absurd (cc)
full_in (Some None) row h = absurd (cc)
full_in (Some (Some other)) row h = let same : other ≡ row = cc in ap (λ r. Some (Some r)) same

-- a row that says then what was sent is what the state makes of it
pub itself_is : (state : Row) (k : ℕ) (rows next : List (Option Row)) → k < length rows → next ≡ sent_at state k rows
    → option_flatten (slice_get next k) ≡ Some state → with_state state (option_flatten (slice_get rows k)) ≡ state
itself_is state k rows next lt new same =
    let both : Some (with_state state (option_flatten (slice_get rows k))) ≡ Some state = sym (at_place state k rows lt)
    ∙ ap (λ xs. option_flatten (slice_get xs k)) (sym new) ∙ same in
    cc

-- VERSIONS

-- what is read at a place that is there, whatever is read past the last one
pub read_or : (xs : List ℕ) (k d e : ℕ) → k < length xs → get_or xs k d ≡ get_or xs k e
read_or [] k d e lt = absurd (omega (arith, lt))
read_or (x ∷ xs) zero d e lt = refl
read_or (x ∷ xs) (suc k) d e lt = read_or xs k d e (omega (arith, lt))

-- a version at a place, where the rows elsewhere are as they were
pub are_set : (row : ℕ → Row) (versions : List ℕ) (rows next : List (Option Row)) (k v : ℕ) → k < length versions → AreOf row versions rows
    → ((i : ℕ) → k ≢ i → slice_get next i ≡ slice_get rows i) → (v ≢ 0 → slice_get next k ≡ Some (Some (row v))) → AreOf row (set versions k v) next
are_set row versions rows next k v lt are others own i has = ⊎_elim
    (λ (q : k ≡ i).
    let here : get_or (set versions k v) i 0 ≡ v = subst (λ n. get_or (set versions k v) n 0 ≡ v) q (get_or-set_same versions k v 0 lt) in
    let nonzero : v ≢ 0 = λ (z : v ≡ 0). has (here ∙ z) in
    rw here (subst (λ n. slice_get next n ≡ Some (Some (row v))) q (own nonzero)))
    (λ (ne : k ≢ i).
    let there : get_or (set versions k v) i 0 ≡ get_or versions i 0 = get_or-set_other versions k i v 0 (λ (q : i ≡ k). ne (sym q)) in
    rw there (others i ne ∙ are i (λ (z : get_or versions i 0 ≡ 0). has (there ∙ z))))
    (cases_eq k i)

are_without : (row : ℕ → Row) (versions : List ℕ) (rows : List (Option Row)) (state : Row) (k : ℕ) → k < length versions
    → AreOf row versions rows → AreOf row (set versions k 0) (sent_at state k rows)
are_without row versions rows state k lt are =
    are_set row versions rows (sent_at state k rows) k 0 lt are (λ i ne. at_other state k i rows ne) (λ (z : ◌≢◌ {A = ℕ} 0 0). absurd (z refl))

are_sent : (row : ℕ → Row) (versions : List ℕ) (rows : List (Option Row)) (state : Row) (k : ℕ) (c : Change) → k < length versions → c
    ≡ change_of state (option_flatten (slice_get rows k)) → AreOf row versions rows → AreOf row (without_version c k versions) (sent_at state k rows)
are_sent row versions rows state k Same lt is are = subst (AreOf row versions) (sym (same_at state k rows (sym is))) are
are_sent row versions rows state k Less lt is are = are_without row versions rows state k lt are
are_sent row versions rows state k More lt is are = are_without row versions rows state k lt are

length_without : (c : Change) (k : ℕ) (versions : List ℕ) → length (without_version c k versions) ≡ length versions
length_without Same k versions = refl
length_without Less k versions = length-set versions k 0
length_without More k versions = length-set versions k 0

pub length_sent : (state : Row) (k : ℕ) (rows : List (Option Row)) → length (sent_at state k rows) ≡ length rows
length_sent state k rows = length-changed (λ row. Some (with_state state row)) k rows

-- at most the newest also where one is set
at_most : (versions : List ℕ) (k i v newest : ℕ) → v ≤ newest → get_or versions i 0 ≤ newest → get_or (set versions k v) i 0 ≤ newest
at_most [] k i v newest le h = h
at_most (x ∷ versions) zero zero v newest le h = le
at_most (x ∷ versions) zero (suc i) v newest le h = h
at_most (x ∷ versions) (suc k) zero v newest le h = h
at_most (x ∷ versions) (suc k) (suc i) v newest le h = at_most versions k i v newest le h

most_set : (newest v k : ℕ) (versions : List ℕ) → v ≤ newest → AreAtMost newest versions → AreAtMost newest (set versions k v)
most_set newest v k versions le h = λ i. at_most versions k i v newest le (h i)

most_without : (newest : ℕ) (c : Change) (k : ℕ) (versions : List ℕ) → AreAtMost newest versions → AreAtMost newest (without_version c k versions)
most_without newest Same k versions h = h
most_without newest Less k versions h = most_set newest 0 k versions (omega arith) h
most_without newest More k versions h = most_set newest 0 k versions (omega arith) h

-- a row to which a state was sent has no version, if it has changed
pub versions_sent : (newest : ℕ) (latest : Latest) (versions after : List ℕ) (rows next : List (Option Row)) (state : Row) (k : ℕ)
    (c : Change) → k < length versions → c ≡ change_of state (option_flatten (slice_get rows k)) → after ≡ without_version c k versions
    → next ≡ sent_at state k rows →
    AreVersions newest latest versions rows → AreVersions newest latest after next
versions_sent newest latest versions after rows next state k c lt is without new h = record {
  length = ap length without ∙ length_without c k versions ∙ h.length ∙ sym (ap length new ∙ length_sent state k rows);
  row = h.row;
  are = rw (without, new) (are_sent h.row versions rows state k c lt is h.are);
  most = rw without (most_without newest c k versions h.most);
  found = h.found;
}

zero_at : (m i : ℕ) → ◌≡◌ {A = ℕ} (get_or (replicate m 0) i 0) 0
zero_at zero i = refl
zero_at (suc m) zero = refl
zero_at (suc m) (suc i) = zero_at m i

pub no_versions_are : (latest : Latest) (n : ℕ) (versions : List ℕ) (rows : List (Option Row)) → latest.like.version ≡ 0 → versions
    ≡ replicate n 0 → length versions ≡ length rows → AreVersions 0 latest versions rows
no_versions_are latest n versions rows none is all = record {
  length = all;
  row = λ _. record { params = []; facilities = []; units = [] };
  are = λ i has. absurd (has (rw is (zero_at n i)));
  most = λ i. let zeros : get_or versions i 0 ≡ 0 = rw is (zero_at n i) in omega (arith, zeros);
  found = λ has. absurd (has none);
}

-- a version that was given to the row at a place is one of rows that say what it says
module _ (latest : Latest) (versions : List ℕ) (rows : List (Option Row)) (newest : ℕ) (h : AreVersions newest latest versions rows) (state : Row) where
  there_says : (k : ℕ) → option_flatten (slice_get rows k) ≡ Some state → get_or versions k 0 ≢ 0 → h.row (get_or versions k 0) ≡ state
  there_says k is has = let both : Some (h.row (get_or versions k 0)) ≡ Some state = sym (ap option_flatten (h.are k has)) ∙ is in cc

  abbrev also : ℕ → Row
  also n = if n == newest + 1 then state else h.row n

  also_old : (n : ℕ) → n ≤ newest → also n ≡ h.row n
  also_old n le = rw (ne_eqb n (newest + 1) (λ e. omega (arith, e, le))) refl

  found_also : IsFound newest h.row latest → IsFound (newest + 1) also latest
  found_also f = record {
    sent = omega (arith, f.sent);
    like = omega (arith, f.like);
    makes = rw (also_old latest.version f.sent, also_old latest.like.version f.like) f.makes;
  }

  next_given : HaveVersion (newest + 1) state (newest + 1) latest versions rows
  next_given = record {
    all = record {
      length = h.length;
      row = also;
      are = λ i has. rw (also_old (get_or versions i 0) (h.most i)) (h.are i has);
      most = λ i. let most = h.most i in omega (arith, most);
      found = λ has. found_also (h.found has);
    };
    own = λ _. rw (eq-eqb (newest + 1) (newest + 1) refl) refl;
    within = omega arith;
  }

  pub version_given : (k version next : ℕ) → option_flatten (slice_get rows k) ≡ Some state
      → IsGiven (get_or versions k 0) newest version next → HaveVersion version state next latest versions rows
  version_given k version next is (inl own) = rw (own.0, own.1) (record { all = h; own = there_says k is; within = h.most k })
  version_given k version next is (inr new) = rw (new.0, new.1) next_given

-- SHARING

module _ (q : ℕ) (state : Row) (version newest : ℕ) where
  -- what was found out last is known of a row of the same version
  pub sharing_known : (latest : Latest) (like : Like) (versions : List ℕ) (rows : List (Option Row)) → (like.version ≡ 0)
      ⊎ ((version ≢ 0) × (version ≡ latest.version) × (q ≡ latest.parameter) × (like ≡ latest.like)) →
      HaveVersion version state newest latest versions rows → IsSharing q state version newest like versions rows
  sharing_known latest like versions rows (inl none) h = record {
    length = h.all.length;
    row = h.all.row;
    are = h.all.are;
    own = h.own;
    makes = λ has. absurd (has none);
    most = h.all.most;
    within = h.within;
    like_within = omega (arith, none);
  }
  sharing_known latest like versions rows (inr (has, same, by, is)) h =
      let also : like.version ≡ latest.like.version = ap (λ (l : Like). l.version) is in
      let found : like.version ≢ 0 → IsFound newest h.all.row latest = λ some. h.all.found (λ z. some (also ∙ z)) in
      let says : h.all.row latest.version ≡ state = ap h.all.row (sym same) ∙ h.own has in
      record {
        length = h.all.length;
        row = h.all.row;
        are = h.all.are;
        own = h.own;
        makes = λ some. rw (by, is) (subst (λ s. Makes latest.parameter s latest.like (h.all.row latest.like.version)) says (found some).makes);
        most = h.all.most;
        within = h.within;
        like_within = ⊎_elim
            (λ (z : like.version ≡ 0). omega (arith, z))
            (λ (some : like.version ≢ 0). let le = (found some).like in omega (arith, le, also))
            (cases_eq like.version 0);
      }

  -- and what is known then was found out last
  pub sharing_ends : (latest : Latest) (like : Like) (versions : List ℕ) (rows : List (Option Row)) → (latest.like.version ≡ 0)
      ⊎ ((version ≢ 0) × (latest.version ≡ version) × (latest.parameter ≡ q) × (latest.like ≡ like)) →
      IsSharing q state version newest like versions rows → AreVersions newest latest versions rows
  sharing_ends latest like versions rows (inl none) h = record { length = h.length; row = h.row; are = h.are; most = h.most; found = λ has. absurd (has none) }
  sharing_ends latest like versions rows (inr (has, same, by, is)) h = record {
    length = h.length;
    row = h.row;
    are = h.are;
    most = h.most;
    found = λ some.
        let known : like.version ≢ 0 = λ z. some (ap (λ (l : Like). l.version) is ∙ z) in
        record {
          sent = rw same h.within;
          like = rw is h.like_within;
          makes = rw (by, same, is) (subst (λ s. Makes q s like (h.row like.version)) (sym (h.own has)) (h.makes known));
        };
  }

  most_if : (itself : Bool) (versions : List ℕ) (k : ℕ) → version ≤ newest → AreAtMost newest versions
      → AreAtMost newest (if itself then set versions k version else versions)
  most_if true versions k le h = most_set newest version k versions le h
  most_if false versions k le h = h

  shared_if : (row : ℕ → Row) (itself : Bool) (versions : List ℕ) (rows : List (Option Row)) (k : ℕ) → k < length versions
      → AreOf row versions rows → (version ≢ 0 → row version ≡ state) → (itself ≡ true → option_flatten (slice_get rows k) ≡ Some state)
      → AreOf row (if itself then set versions k version else versions) rows
  shared_if row true versions rows k lt are own same =
      are_set row versions rows rows k version lt are (λ i ne. refl)
      (λ has. full_in (slice_get rows k) state (same refl) ∙ ap (λ r. Some (Some r)) (sym (own has)))
  shared_if row false versions rows k lt are own same = are

  length_if : (itself : Bool) (versions : List ℕ) (k : ℕ) → length (if itself then set versions k version else versions) ≡ length versions
  length_if true versions k = length-set versions k version
  length_if false versions k = refl

  like_in : (like : Like) (o : Option Row) (row : Row) → o ≡ Some row → IsSomeAnd o (Makes q state like) → Makes q state like row
  like_in like o row is h = subst (λ x. IsSomeAnd x (Makes q state like)) is h

  -- a state was sent to a row of which it wasn't known what becomes of it
  pub sharing_first : (old like : Like) (versions given after : List ℕ) (rows next : List (Option Row)) (k : ℕ) (c : Change)
      (itself : Bool) → k < length versions →
      c ≡ change_of state (option_flatten (slice_get rows k)) → next ≡ sent_at state k rows → given ≡ without_version c k versions → after
      ≡ (if itself then set given k version else given) → (itself ≡ true → option_flatten (slice_get next k) ≡ Some state) →
      (like.version ≢ 0 → (like.version ≡ get_or versions k 0) × IsSomeAnd (option_flatten (slice_get rows k)) (Makes q state like))
      → IsSharing q state version newest old versions rows → IsSharing q state version newest like after next
  sharing_first old like versions given after rows next k c itself lt is new without shared same known h =
      let within : k < length given = omega (arith, lt, ap length without, length_without c k versions) in
      let are : AreOf h.row given next = rw (without, new) (are_sent h.row versions rows state k c lt is h.are) in
      record {
        length = ap length shared ∙ length_if itself given k ∙ ap length without ∙ length_without c k versions ∙ h.length
            ∙ sym (ap length new ∙ length_sent state k rows);
        row = h.row;
        are = rw shared (shared_if h.row itself given next k within are h.own same);
        own = h.own;
        makes = λ has.
            let it = known has in
            let was : get_or versions k 0 ≢ 0 = λ (z : get_or versions k 0 ≡ 0). has (it.0 ∙ z) in
            let there : option_flatten (slice_get rows k) ≡ Some (h.row (get_or versions k 0)) = ap option_flatten (h.are k was) in
            subst (λ n. Makes q state like (h.row n)) (sym it.0) (like_in like (option_flatten (slice_get rows k)) (h.row (get_or versions k 0)) there it.1);
        most = rw shared (most_if itself given k h.within (rw without (most_without newest c k versions h.most)));
        within = h.within;
        like_within = ⊎_elim
            (λ (z : like.version ≡ 0). omega (arith, z))
            (λ (has : like.version ≢ 0). let le = h.most k in let at = (known has).0 in omega (arith, le, at))
            (cases_eq like.version 0);
      }

  module _ (like : Like) (versions : List ℕ) (rows : List (Option Row)) (k : ℕ) (lt : k < length versions)
      (is : get_or versions k 0 ≡ like.version) (known : like.version ≢ 0) (h : IsSharing q state version newest like versions rows) where
    pub like_there : slice_get rows k ≡ Some (Some (h.row like.version))
    like_there = subst (λ n. slice_get rows k ≡ Some (Some (h.row n))) is (h.are k (λ (z : get_or versions k 0 ≡ 0). known (sym is ∙ z)))

    pub like_changes : change_of state (option_flatten (slice_get rows k)) ≡ like.change
    like_changes = ap (λ o. change_of state (option_flatten o)) like_there ∙ (h.makes known).change

    pub like_same : like.change ≡ Same → sent_at state k rows ≡ rows
    like_same same = same_at state k rows (like_changes ∙ same)

    less_only : (c : Change) → c ≢ Same → c ≢ More → c ≡ Less
    less_only Same ne other = absurd (ne refl)
    less_only Less ne other = refl
    less_only More ne other = absurd (other refl)

    pub like_less : like.change ≢ Same → like.change ≡ Less
    like_less ne = less_only like.change ne (h.makes known).stays

    pub like_set : like.change ≢ Same → slice_set rows k (Some state) ≡ sent_at state k rows
    like_set ne = ap (λ r. slice_set rows k (Some r)) (sym ((h.makes known).itself (like_less ne))) ∙ set_is state k rows (Some (h.row like.version)) like_there

    pub like_shared : (after : List ℕ) (next : List (Option Row)) → like.change ≢ Same → next ≡ slice_set rows k (Some state) → after
        ≡ set versions k version → IsSharing q state version newest like after next
    like_shared after next ne new shared =
        let sent_there : next ≡ sent_at state k rows = new ∙ like_set ne in
        let itself : option_flatten (slice_get (sent_at state k rows) k) ≡ Some state = at_place state k rows (omega (arith, lt, h.length))
        ∙ ap (λ o. Some (with_state state (option_flatten o))) like_there ∙ ap Some ((h.makes known).itself (like_less ne)) in
        record {
          length = ap length shared ∙ length-set versions k version ∙ h.length ∙ sym (ap length sent_there ∙ length_sent state k rows);
          row = h.row;
          are = rw (shared, sent_there)
              (are_set h.row versions rows (sent_at state k rows) k version lt h.are (λ i other. at_other state k i rows other)
              (λ has. full_in (slice_get (sent_at state k rows) k) state itself ∙ ap (λ r. Some (Some r)) (sym (h.own has))));
          own = h.own;
          makes = h.makes;
          most = rw shared (most_set newest version k versions h.within h.most);
          within = h.within;
          like_within = h.like_within;
        }

    -- and a block that sets the parameter in which alone its row has changed sends what it sent
    quiet_sends : (p : Parts) (chains : List (Option Row)) → like.change ≢ Same → like.alone ≡ true
        → sets_return (block_at p.blocks (suc k)) q ≡ true → (b : ℕ) → sends p (as_table p (rows_of (sent_at state k rows) chains)) b
        ≡ sends p (as_table p (rows_of rows chains)) b
    quiet_sends p chains ne alone sets zero =
        sends_same p (as_table p (rows_of rows chains)) (as_table p (rows_of (sent_at state k rows) chains)) zero refl (λ u there. refl)
    quiet_sends p chains ne alone sets (suc j) = ⊎_elim
        (λ (same : k ≡ j).
        let s = as_table p (rows_of rows chains) in
        let t = as_table p (rows_of (sent_at state k rows) chains) in
        let was : s (targets.Block (suc k)) ≡ Some (h.row like.version) = ap option_flatten like_there in
        let is_then : t (targets.Block (suc k)) ≡ Some state = at_place state k rows (omega (arith, lt, h.length))
        ∙ ap (λ o. Some (with_state state (option_flatten o))) like_there ∙ ap Some ((h.makes known).itself (like_less ne)) in
        let here : sends p t (suc k) ≡ sends p s (suc k) =
        ap (sends_in p t (suc k) (block_at p.blocks (suc k))) is_then
        ∙ return_sends p s t (suc k) q (block_at p.blocks (suc k)) (h.row like.version) state sets ((h.makes known).alone alone)
        ∙ ap (sends_in p s (suc k) (block_at p.blocks (suc k))) (sym was) in
        subst (λ n. sends p t (suc n) ≡ sends p s (suc n)) same here)
        (λ (other : k ≢ j). sends_same p (as_table p (rows_of rows chains)) (as_table p (rows_of (sent_at state k rows) chains)) (suc j)
        (ap option_flatten (at_other state k j rows other)) (λ u there. refl))
        (cases_eq k j)

    pub quiet_follows : (p : Parts) (marks : List Bool) (next : List (Option Row)) → like.change ≢ Same → like.alone ≡ true
        → sets_return (slice_get p.blocks k) q ≡ true → next ≡ slice_set rows k (Some state) → (chains : List (Option Row))
        → MarksFollow p marks marks (as_table p (rows_of rows chains)) (as_table p (rows_of next chains))
    quiet_follows p marks next ne alone sets new chains =
        let sent_there : next ≡ sent_at state k rows = new ∙ like_set ne in
        rw sent_there (follow_grown p marks marks (as_table p (rows_of rows chains)) (as_table p (rows_of (sent_at state k rows) chains))
        (grown_itself marks) (λ b unmarked. quiet_sends p chains ne alone sets b))

-- A VISIT

next_number : (b : ℕ) → b + 1 ≡ suc b
next_number b = omega arith

pub behind_sent : (p : Parts) (state : Row) (bs : List ℕ) (rows chains : List (Option Row)) →
    (all_sent p (moves_behind state bs) (rows_of rows chains) ≡ rows_of (sent_behind state bs rows) chains)
    × (changes_of p (moves_behind state bs) (rows_of rows chains) ≡ change_behind state bs rows)
behind_sent p state [] rows chains = (refl, refl)
behind_sent p state (b ∷ bs) rows chains = rw (next_number b) (
  (behind_sent p state bs (sent_at state b rows) chains).0,
  ap (followed_by (change_of state (option_flatten (slice_get rows b)))) (behind_sent p state bs (sent_at state b rows) chains).1,
)

-- a TRANSFER in parameter mode sends its row as it is behind those to which the parameter may return
pub return_is : (p : Parts) (b q : ℕ) (row : Row) → SendsBehind p b (blocks.TransferByParameter q) row (return_blocks (kind_of row q))
return_is p b q row table =
    ap (λ (es : List FlowEdge). if rules_hold p (blocks.TransferByParameter q) row then es else [])
    (append-nil (edges_along b (map returns_to (return_blocks (kind_of row q))) row) ∙ along_returns b row (return_blocks (kind_of row q)))

-- what a block sends that goes on with its row to some blocks
abbrev pub moves_to : Row → List ℕ → List FlowEdge
moves_to row ns = map (λ n. move n row) ns

moves_are : (row : Row) (bs : List ℕ) → moves_to row (map (λ b. b + 1) bs) ≡ moves_behind row bs
moves_are row [] = refl
moves_are row (b ∷ bs) = ap (λ es. move (b + 1) row ∷ es) (moves_are row bs)

goes_to : (p : Parts) (b : ℕ) (block : Block) (row : Row) (n : ℕ) (ns : List ℕ) → goes_on_to b block ≡ n ∷ ns → (table : Table) →
    sends_in p table b (Some block) (Some row) ≡ (if rules_hold p block row then moves_to row (goes_on_to b block) else [])
goes_to p b (blocks.Advance time) row n ns is table = refl
goes_to p b (blocks.Savevalue save) row n ns is table = refl
goes_to p b (blocks.Tabulate entity) row n ns is table = refl
goes_to p b (blocks.Logic logic) row n ns is table = refl
goes_to p b (blocks.Priority priority) row n ns is table = refl
goes_to p b blocks.Buffer row n ns is table = refl
goes_to p b (blocks.Transfer target) row n ns is table = refl
goes_to p b (blocks.TransferByFraction f) row n ns is table = refl
goes_to p b block row n ns is table = absurd (cc)

-- and one that is known to go on behind these sends its row as it is behind them
pub goes_behind : (p : Parts) (b : ℕ) (block : Block) (row : Row) (behind : Behind) → numbers_behind behind ≡ goes_on_to b block
    → SendsBehind p b block row (blocks_behind behind)
goes_behind p b block row behind is table =
    goes_to p b block row (behind.first + 1) (map (λ b. b + 1) (option_to_list behind.second)) (sym is) table
    ∙ ap (λ ns. if rules_hold p block row then moves_to row ns else []) (sym is)
    ∙ ap (λ (es : List FlowEdge). if rules_hold p block row then es else []) (moves_are row (blocks_behind behind))

-- what a block sends that sends its row as it is
module _ (p : Parts) (b : ℕ) (block : Block) (row : Row) (bs : List ℕ) (rows chains : List (Option Row))
    (is : block_at p.blocks b ≡ Some block) (has : as_table p (rows_of rows chains) (targets.Block b) ≡ Some row) (behind : SendsBehind p b block row bs) where
  abbrev held : Table
  held = as_table p (rows_of rows chains)

  sent_if : (holds : Bool) → rules_hold p block row ≡ holds → sends p held b ≡ (if holds then moves_behind row bs else [])
  sent_if holds h = sym (sends_are p held b block row is has) ∙ behind held ∙ ap (λ x. if x then moves_behind row bs else []) h

  pub passed_visited : rules_hold p block row ≡ true →
      (visit_block p b (rows_of rows chains) ≡ rows_of (sent_behind row bs rows) chains) × (change_at p b (rows_of rows chains) ≡ change_behind row bs rows)
  passed_visited holds =
      let sent_then = sent_if true holds in
      let both = behind_sent p row bs rows chains in
      (ap (λ es. all_sent p es (rows_of rows chains)) sent_then ∙ both.0, ap (λ es. changes_of p es (rows_of rows chains)) sent_then ∙ both.1)

  pub passed_none : rules_hold p block row ≡ false → (visit_block p b (rows_of rows chains) ≡ rows_of rows chains)
      × (change_at p b (rows_of rows chains) ≡ Same)
  passed_none holds =
      let sent_then = sent_if false holds in
      (ap (λ es. all_sent p es (rows_of rows chains)) sent_then, ap (λ es. changes_of p es (rows_of rows chains)) sent_then)

-- a block that may be entered has a place
pub entered_within : (p : Parts) (b : ℕ) → MayEnter p (targets.Block b) → b - 1 < length p.blocks
entered_within p zero enters = absurd (false≢true enters)
entered_within p (suc k) enters = omega (arith, block_within p k enters)

-- where the row goes has a place
behind_within : (p : Parts) (row : Row) (bs : List ℕ) → All (λ (e : FlowEdge). MayEnter p e.target) (moves_behind row bs) → All (λ b. b < length p.blocks) bs
behind_within p row [] h = All-nil (λ b. b < length p.blocks)
behind_within p row (b ∷ bs) h =
    let enters : MayEnter p (targets.Block (suc b)) =
    subst (λ n. MayEnter p (targets.Block n)) (next_number b)
    (All-head (λ (e : FlowEdge). MayEnter p e.target) (move (b + 1) row) (moves_behind row bs) h) in
    All-cons (λ n. n < length p.blocks) b bs (block_within p b enters)
    (behind_within p row bs (All-tail (λ (e : FlowEdge). MayEnter p e.target) (move (b + 1) row) (moves_behind row bs) h))

pub passed_within : (p : Parts) (b : ℕ) (block : Block) (row : Row) (bs : List ℕ) (rows chains : List (Option Row)) → block_at p.blocks b
    ≡ Some block → as_table p (rows_of rows chains) (targets.Block b) ≡ Some row → SendsBehind p b block row bs →
    All (λ (e : FlowEdge). MayEnter p e.target) (sends p (as_table p (rows_of rows chains)) b) → rules_hold p block row ≡ true
    → All (λ c. c < length p.blocks) bs
passed_within p b block row bs rows chains is has behind enters holds =
    behind_within p row bs (subst (All (λ (e : FlowEdge). MayEnter p e.target)) (sent_if p b block row bs rows chains is has behind true holds) enters)

-- A ROW THAT WAS SENT ALREADY

module _ (p : Parts) (rows chains : List (Option Row)) where
  abbrev table : Table
  table = as_table p (rows_of rows chains)

  return_sent : (k q : ℕ) (row : Row) → slice_get p.blocks k ≡ Some (blocks.TransferByParameter q) → slice_get rows k ≡ Some (Some row) →
      sends p table (suc k) ≡ (if rules_hold p (blocks.TransferByParameter q) row then moves_behind row (return_blocks (kind_of row q)) else [])
  return_sent k q row is has = sym (sends_are p table (suc k) (blocks.TransferByParameter q) row is (ap option_flatten has)) ∙ return_is p (suc k) q row table

  -- of two TRANSFERs by one parameter in rows of one version both are idle, if one is
  pub idle_like : (newest : ℕ) (latest : Latest) (versions : List ℕ) (k j q : ℕ) → AreVersions newest latest versions rows
      → IsReturnAt p.blocks q k → IsReturnAt p.blocks q j → IsOneVersion versions k j → IsIdleAt p table (suc j) → IsIdleAt p table (k + 1)
  idle_like newest latest versions k j q h is other one idle =
      let row = h.row (get_or versions k 0) in
      let here : slice_get rows k ≡ Some (Some row) = h.are k one.0 in
      let there : slice_get rows j ≡ Some (Some row) = h.are j (λ z. one.0 (one.1 ∙ z)) ∙ ap (λ v. Some (Some (h.row v))) (sym one.1) in
      let next : suc k ≡ k + 1 = omega arith in
      subst (IsIdleAt p table) next (subst (All (IsIdle table)) (return_sent j q row other there ∙ sym (return_sent k q row is here)) idle)
