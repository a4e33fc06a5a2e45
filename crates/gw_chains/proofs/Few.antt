-- Few future events in a vector, the first to come last: where a newcomer stands, and how all come to buckets.
use Rattle.std.proofs.Common.{◌≡◌, ◌∙◌, ℕ, ℤ, zero, suc, min, max, ◌+◌, ◌-◌, ◌^◌, ◌<◌, ◌≤◌, ◌≤ℤ◌, List, [], ◌∷◌, ◌++◌, length, take, drop, reverse}
use Rattle.std.proofs.Common.{get_or, set, Bool, true, false, true≢false, if◌then◌else◌, refl, sym, ap, subst, arith, append_assoc}
use Rattle.std.specs.Prelude.{◌==◌, insert, int_le, All, AllPairs}
use Rattle.std.specs.List.{AllByRecursion}
use Rattle.std.specs.declared.collections.VecDeque.{VecDeque}
use Rattle.std.proofs.lemmas.Grind.{common_steps}
use Rattle.std.proofs.lemmas.Int.{ints}
use Rattle.std.proofs.lemmas.List.Edits.{get_or-insert_below, insert_end}
use Rattle.std.proofs.lemmas.List.{get_or-set_other, length-set, set-set, append-nil, length-append, reverse-append, take_more, drop_more}
use Rattle.std.proofs.Math.ListN.{get_or-append}
use Rattle.std.proofs.Math.Seq.{get_or-append_seam, take-length}
use Rattle.gw_members.specs.Chain.{placed_behind, in_time, rest}
use Rattle.gw_members.specs.declared.tx.Event.{Event}
use Rattle.gw_chains.specs.Chunks.{all_of, room_beside, IsChunk}
use Rattle.gw_chains.specs.Buckets.{Links, members_of, total, AreCounted}
use Rattle.gw_chains.specs.Events.{most_few, NotLater, Bucketed, room_behind, space_beside, room_for_events}
use Rattle.gw_chains.specs.declared.bucket.Bucket.{Bucket}
use Rattle.gw_chains.proofs.Linking.{placed_past}
use Rattle.gw_chains.proofs.Places.{pairs_first, pairs_rest, pairs_rest_of}

module _ {A : Type 0} where
  -- what a list is from behind
  pub reverse-last : (xs : List A) (y : A) → reverse (xs ++ y ∷ []) ≡ y ∷ reverse xs
  reverse-last xs y = reverse-append xs (y ∷ [])

  reverse-first : (y : A) (xs : List A) → reverse (y ∷ xs) ≡ reverse xs ++ y ∷ []
  reverse-first y xs = reverse-append (y ∷ []) xs

  -- one that is inserted at a place, and goes past the one before that
  pub insert_lower : (e y : A) (xs : List A) (i : ℕ) → i < length xs → y ≡ get_or xs i y → set (set (insert xs (suc i) e) (suc i) y) i e ≡ insert xs i e
  insert_lower e y [] i within is = absurd (omega (arith, within))
  insert_lower e y (x ∷ xs) zero within is = ap (λ z. e ∷ z ∷ xs) is
  insert_lower e y (x ∷ xs) (suc i) within is = ap (λ zs. x ∷ zs) (insert_lower e y xs i (omega (arith, within)) is)

  -- a list that becomes that with one inserted at a place, once that one is written there
  abbrev pub IsVacantAt : A → List A → List A → ℕ → Type 0
  IsVacantAt e xs ys i = (length ys ≡ length xs + 1) × (set ys i e ≡ insert xs i e)

  pub vacant_at_end : (e : A) (xs ys : List A) (n : ℕ) → n ≡ length xs → ys ≡ xs ++ e ∷ [] → IsVacantAt e xs ys n
  vacant_at_end e xs ys n end is = (
    omega (arith, ap length is, length-append xs (e ∷ [])),
    rw (is, end) (set-last xs ∙ sym (insert_end xs e)),
  )
    where
      set-last : (zs : List A) → set (zs ++ e ∷ []) (length zs) e ≡ zs ++ e ∷ []
      set-last [] = refl
      set-last (z ∷ zs) = ap (λ ws. z ∷ ws) (set-last zs)

  -- the one before the open place is that of the list
  pub before_vacant : (e : A) (xs ys : List A) (i : ℕ) (d : A) → 0 < i → i ≤ length xs → IsVacantAt e xs ys i → get_or ys (i - 1) d ≡ get_or xs (i - 1) d
  before_vacant e xs ys i d some within vacant =
      sym (get_or-set_other ys i (i - 1) e d (omega (arith, some))) ∙ ap (λ zs. get_or zs (i - 1) d) vacant.1
      ∙ get_or-insert_below xs i e d (i - 1) (omega (arith, some)) within

  pub vacant_lower : (e y : A) (xs ys zs : List A) (i : ℕ) → 0 < i → i ≤ length xs → y ≡ get_or xs (i - 1) y → IsVacantAt e xs ys i → zs
      ≡ set ys i y → IsVacantAt e xs zs (i - 1)
  vacant_lower e y xs ys zs i some within is vacant moved =
      let next : suc (i - 1) ≡ i = omega (arith, some) in (
        omega (arith, ap length moved, length-set ys i y, vacant.0),
        ap (λ ws. set ws (i - 1) e) (moved ∙ sym (set-set ys i e y) ∙ ap (λ ws. set ws i y) vacant.1)
            ∙ ap (λ n. set (set (insert xs n e) n y) (i - 1) e) (sym next)
            ∙ insert_lower e y xs (i - 1) (omega (arith, some, within)) is,
      )

  module _ (p : A → Bool) (e : A) (xs : List A) where
    -- a newcomer, from behind, goes past all from this place on
    abbrev pub GoesPast : ℕ → Type 0
    GoesPast i = placed_behind p e (reverse xs) ≡ reverse (drop i xs) ++ placed_behind p e (reverse (take i xs))

    pub past_none : (n : ℕ) → n ≡ length xs → GoesPast n
    past_none n all = rw all (rw (drop-length xs, take-length xs) refl)
      where
        drop-length : (ys : List A) → drop (length ys) ys ≡ []
        drop-length [] = refl
        drop-length (y ∷ ys) = drop-length ys

    pub past_one : (i : ℕ) (y : A) → 0 < i → i ≤ length xs → y ≡ get_or xs (i - 1) y → p y ≡ true → GoesPast i → GoesPast (i - 1)
    past_one i y some within is passes past =
        let next : (i - 1) + 1 ≡ i = omega arith in
        let taken : take i xs ≡ take (i - 1) xs ++ y ∷ [] =
        ap (λ n. take n xs) (sym next) ∙ take_more xs (i - 1) y (omega arith) ∙ ap (λ z. take (i - 1) xs ++ z ∷ []) (sym is) in
        let left : drop (i - 1) xs ≡ y ∷ drop i xs =
        drop_more xs (i - 1) y (omega arith) ∙ ap (λ z. z ∷ drop ((i - 1) + 1) xs) (sym is) ∙ ap (λ n. y ∷ drop n xs) next in
        let there : reverse (take i xs) ≡ y ∷ reverse (take (i - 1) xs) = ap reverse taken ∙ reverse-last (take (i - 1) xs) y in
        past
        ∙ ap (λ ys. reverse (drop i xs) ++ placed_behind p e ys) there
        ∙ ap (λ ys. reverse (drop i xs) ++ ys) (one_past (reverse (take (i - 1) xs)))
        ∙ sym (append_assoc (reverse (drop i xs)) (y ∷ []) (placed_behind p e (reverse (take (i - 1) xs))))
        ∙ ap (λ ys. ys ++ placed_behind p e (reverse (take (i - 1) xs))) (sym (ap reverse left ∙ reverse-first y (drop i xs)))
      where
        one_past : (ys : List A) → placed_behind p e (y ∷ ys) ≡ y ∷ placed_behind p e ys
        one_past ys = rw passes refl

    -- and stands there before one that fails, or before none
    pub stands_there : (i : ℕ) → placed_behind p e (reverse (take i xs)) ≡ e ∷ reverse (take i xs) → GoesPast i → reverse (insert xs i e)
        ≡ placed_behind p e (reverse xs)
    stands_there i here past =
        reverse-append (take i xs) (e ∷ drop i xs)
        ∙ ap (λ ys. ys ++ reverse (take i xs)) (reverse-first e (drop i xs))
        ∙ append_assoc (reverse (drop i xs)) (e ∷ []) (reverse (take i xs))
        ∙ sym (past ∙ ap (λ ys. reverse (drop i xs) ++ ys) here)

    pub before_one : (i : ℕ) (y : A) → 0 < i → i ≤ length xs → y ≡ get_or xs (i - 1) y → p y ≡ false
        → placed_behind p e (reverse (take i xs)) ≡ e ∷ reverse (take i xs)
    before_one i y some within is fails =
        let next : (i - 1) + 1 ≡ i = omega arith in
        let taken : take i xs ≡ take (i - 1) xs ++ y ∷ [] =
        ap (λ n. take n xs) (sym next) ∙ take_more xs (i - 1) y (omega arith) ∙ ap (λ z. take (i - 1) xs ++ z ∷ []) (sym is) in
        let there : reverse (take i xs) ≡ y ∷ reverse (take (i - 1) xs) = ap reverse taken ∙ reverse-last (take (i - 1) xs) y in
        rw there (rw fails refl)

    pub before_none : (i : ℕ) → i ≡ 0 → placed_behind p e (reverse (take i xs)) ≡ e ∷ reverse (take i xs)
    before_none i none = rw none refl

-- events that come by their times: the next stands behind all that came before it
comes_last : (e : Event) (ms rest : List Event) → AllPairs NotLater (ms ++ e ∷ rest) → AllByRecursion (λ (m : Event). int_le m.time e.time ≡ true) ms
comes_last e [] rest pairs = tt
comes_last e (m ∷ ms) rest pairs =
    let later : m.time ≤ℤ e.time =
    subst (λ (z : Event). m.time ≤ℤ z.time) (get_or-append_seam ms e rest e)
    (pairs_first NotLater m (ms ++ e ∷ rest) pairs (length ms) e (omega (arith, length-append ms (e ∷ rest)))) in
    (grind (arith, ints), comes_last e ms rest (pairs_rest NotLater m (ms ++ e ∷ rest) pairs))

pub come_in_order : (e : Event) (ms ns rest all : List Event) → AllPairs NotLater all → ms ++ e ∷ rest ≡ all → ns
    ≡ in_time (λ (m : Event). m.time) e ms → ns ++ rest ≡ all
come_in_order e ms ns rest all pairs is placed =
    let last = comes_last e ms rest (subst (AllPairs NotLater) (sym is) pairs) in
    let end : in_time (λ (m : Event). m.time) e ms ≡ ms ++ e ∷ [] =
    ap (placed_behind (λ (m : Event). int_le m.time e.time) e) (sym (append-nil ms)) ∙ placed_past (λ (m : Event). int_le m.time e.time) e ms [] last in
    ap (λ ys. ys ++ rest) (placed ∙ end) ∙ append_assoc ms (e ∷ []) rest ∙ is

-- where the first may have left, the others stand as before
pub left_in_order : (left : Bool) (es fs : List Event) → fs ≡ (if left then rest es else es) → AllPairs NotLater es → AllPairs NotLater fs
left_in_order true es fs is pairs = subst (AllPairs NotLater) (sym is) (pairs_rest_of NotLater es pairs)
left_in_order false es fs is pairs = subst (AllPairs NotLater) (sym is) pairs

-- ROOM FOR EVENTS

-- few go to buckets that have none
pub room_taken : (few : ℕ) (b v : Bucketed) → 0 < few → length b.items ≡ 0 → length v.items ≡ few → b.links ≤ v.links + few → b.spare
    ≤ v.spare + 1 → b.chunks ≤ v.chunks + 1 → room_behind few b ≤ room_behind 0 v
room_taken few b v some none all links spare chunks = omega (arith, some, none, all, links, spare, chunks)

-- and one more comes to buckets
pub room_scheduled : (b v : Bucketed) → length v.items ≡ length b.items + 1 → b.links ≤ v.links + 1 → b.spare ≤ v.spare + 1 → b.chunks
    ≤ v.chunks + 1 → room_behind 0 b ≤ room_behind 0 v + 1
room_scheduled b v more links spare chunks = omega (arith, more, links, spare, chunks)

pub through : (a b mid d : ℕ) → a ≤ b → mid ≡ b → mid ≤ d + 1 → a ≤ d + 1
through a b mid d one same other = omega (arith, one, same, other)

pub none_taken : (few : ℕ) (b : Bucketed) → few ≡ 0 → room_behind few b ≤ room_behind 0 b
none_taken few b none = subst (λ n. room_behind n b ≤ room_behind 0 b) (sym none) (omega arith)

pub not_none : (n : ℕ) → false ≡ (n == 0) → 0 < n
not_none zero is = absurd (true≢false (sym is))
not_none (suc n) is = omega arith

pub is_none : (n : ℕ) → true ≡ (n == 0) → n ≡ 0
is_none n is = grind (arith, common_steps)

-- room that is less by one at most, or no less
beside_less : (m n l k s r c d : ℕ) → n ≤ m + 1 → l ≤ k + 1 → s ≤ r + 1 → c ≤ d + 1 → room_beside m l s c ≤ room_beside n k r d + 1
beside_less m n l k s r c d members links spare chunks = omega (arith, members, links, spare, chunks)

beside_kept : (m n l k s r c d : ℕ) → n ≤ m → l ≤ k → s ≤ r → c ≤ d → room_beside m l s c ≤ room_beside n k r d
beside_kept m n l k s r c d members links spare chunks = omega (arith, members, links, spare, chunks)

either_less : (a b x y : ℕ) → a ≤ b + 1 → x ≤ y + 1 → max a x ≤ max b y + 1
either_less a b x y one other = omega (arith, one, other)

either_kept : (a b x y : ℕ) → a ≤ b → x ≤ y → max a x ≤ max b y
either_kept a b x y one other = omega (arith, one, other)

-- there is none while there are some in buckets
no_space : (many capacity few : ℕ) → space_beside (suc many) capacity few ≡ 0
no_space many capacity few = grind (arith, common_steps)

pub some_space : (many capacity few : ℕ) → 0 < space_beside many capacity few → (many ≡ 0) × (few < most_few) × (few < capacity)
some_space zero capacity few some = (refl, omega (arith, some), omega (arith, some))
some_space (suc many) capacity few some = absurd (omega (arith, some, no_space many capacity few))

space_joined : (many capacity larger few more : ℕ) → more ≡ few + 1 → capacity ≤ larger → space_beside many capacity few ≤ space_beside many larger more + 1
space_joined zero capacity larger few more one grows = omega (arith, one, grows)
space_joined (suc many) capacity larger few more one grows = omega (arith, no_space many capacity few)

pub space_kept : (many capacity larger few fewer : ℕ) → fewer ≤ few → capacity ≤ larger → space_beside many capacity few ≤ space_beside many larger fewer
space_kept zero capacity larger few fewer less grows = omega (arith, less, grows)
space_kept (suc many) capacity larger few fewer less grows = omega (arith, no_space many capacity few)

-- one more comes to the few
pub room_joined : (b : Bucketed) (capacity larger few more : ℕ) → more ≡ few + 1 → capacity ≤ larger → room_for_events capacity few b
    ≤ room_for_events larger more b + 1
room_joined b capacity larger few more one grows =
    either_less _ _ _ _ (space_joined (length b.items) capacity larger few more one grows)
    (beside_less (few + length b.items) (more + length b.items) (b.links - few) (b.links - more) (b.spare - min few 1)
    (b.spare - min more 1) (b.chunks - min few 1) (b.chunks - min more 1) (omega (arith, one)) (omega (arith, one))
    (omega (arith, one)) (omega (arith, one)))

-- one of the few leaves
pub room_left : (b : Bucketed) (capacity same few fewer : ℕ) → fewer ≤ few → same ≡ capacity → room_for_events capacity few b ≤ room_for_events same fewer b
room_left b capacity same few fewer less is =
    either_kept _ _ _ _ (space_kept (length b.items) capacity same few fewer less (omega (arith, is)))
    (beside_kept (few + length b.items) (fewer + length b.items) (b.links - few) (b.links - fewer) (b.spare - min few 1)
    (b.spare - min fewer 1) (b.chunks - min few 1) (b.chunks - min fewer 1) (omega (arith, less)) (omega (arith, less))
    (omega (arith, less)) (omega (arith, less)))

-- room that was made
pub room_grown : (b v : Bucketed) (capacity larger few same : ℕ) → same ≡ few → capacity ≤ larger → v.items ≡ b.items → b.links ≤ v.links
    → b.spare ≤ v.spare → b.chunks ≤ v.chunks → room_for_events capacity few b ≤ room_for_events larger same v
room_grown b v capacity larger few same is grows items links spare chunks =
    let many : length v.items ≡ length b.items = ap length items in
    either_kept _ _ _ _ (subst (λ n. space_beside (length b.items) capacity few ≤ space_beside n larger same) (sym many)
    (space_kept (length b.items) capacity larger few same (omega (arith, is)) grows))
    (beside_kept (few + length b.items) (same + length v.items) (b.links - few) (v.links - same) (b.spare - min few 1)
    (v.spare - min same 1) (b.chunks - min few 1) (v.chunks - min same 1) (omega (arith, is, many)) (omega (arith, is, links))
    (omega (arith, is, spare)) (omega (arith, is, chunks)))

-- where there is room in buckets alone, all are few enough for one more
pub within_memory : (b : Bucketed) (capacity few : ℕ) → 0 < room_for_events capacity few b → space_beside (length b.items) capacity few ≤ 0
    → few + length b.items < 2 ^ 62
within_memory b capacity few some none = omega (arith, some, none)

-- BUCKETS THAT HAVE NONE

pub no_bucket : {X : Type 0} (rank : X → ℤ) (S : Links X) (bs : List Bucket) (n : ℕ) → AreCounted rank S bs n → members_of S bs ≡ [] → bs ≡ []
no_bucket rank S [] n are none = refl
no_bucket rank S (b ∷ bs) n are none = absurd (omega (arith, are.0.each.0.some, are.1, are.2, ap length none))

pub some_bucket : (bs : List Bucket) → 0 < total bs → 0 < length bs
some_bucket [] some = absurd (omega (arith, some))
some_bucket (b ∷ bs) some = omega arith

module _ {X Z : Type 0} where
  pub no_chunk : (cs : List (VecDeque X Z)) → All IsChunk cs → all_of cs ≡ [] → cs ≡ []
  no_chunk [] chunks none = refl
  no_chunk (c ∷ cs) chunks none = absurd (omega (arith, (chunks 0 c (omega arith)).some, c.ok.0, ap length none, length-append c.items (all_of cs)))

  -- one chunk behind none
  pub one_chunk : (cs ds : List (VecDeque X Z)) (c : VecDeque X Z) → cs ≡ [] → ds ≡ cs ++ c ∷ [] → all_of ds ≡ c.items
  one_chunk cs ds c none is = ap all_of (is ∙ ap (λ es. es ++ c ∷ []) none) ∙ append-nil c.items

module _ {A : Type 0} (P : A → Type 0) where
  -- what holds of all holds of the last and of those before it
  pub All-last : (xs ys : List A) (y : A) → xs ≡ ys ++ y ∷ [] → All P xs → P y
  All-last xs ys y is all =
      subst P (get_or-append_seam ys y [] y) (subst (All P) is all (length ys) y (omega (arith, length-append ys (y ∷ []))))

  pub All-before : (xs ys : List A) (y : A) → xs ≡ ys ++ y ∷ [] → All P xs → All P ys
  All-before xs ys y is all = λ k d below.
      subst P (get_or-append ys (y ∷ []) d k below) (subst (All P) is all k d (omega (arith, below, length-append ys (y ∷ []))))

  pub All-one : (xs ys : List A) (y : A) → xs ≡ [] → ys ≡ xs ++ y ∷ [] → P y → All P ys
  All-one xs ys y none is this = rw (is, none) (λ k d below. let first : k ≡ 0 = omega (arith, below) in rw first this)
