-- Lists that ascend by a key.
use Rattle.std.proofs.Common.{◌≡◌, ℕ, zero, suc, ◌+◌, ◌<◌, ◌↔◌, Bool, true, false, nat_lt, IsTrue, List, [], ◌∷◌, ◌++◌, length, get_or, map, drop}
use Rattle.std.proofs.Common.{refl, sym, subst, subst₂, ◌∙◌, inl, inr, true≢false, arith}
use Rattle.std.specs.Prelude.{All, AllPairs, filter}
use Rattle.std.specs.List.{AllAdjacentBelow, IsAllAdjacentAnswer}
use Rattle.std.proofs.Math.ListN.{get_or-map}
use Rattle.std.proofs.lemmas.List.{length-map}
use Rattle.std.proofs.lemmas.Bool.{cases_lt, ltb-true, lt-ltb}
use Rattle.std.proofs.lemmas.List.Elements.{All-head, All-tail, All-append, All-map, filter_passes}
use Rattle.std.proofs.lemmas.List.Kept.{AllPairs-cons, AllPairs-filter}

pub All-from_map : {X Y : Type 0} (P : X → Type 0) (f : Y → X) (ys : List Y) → All P (map f ys) → All (λ y. P (f y)) ys
All-from_map P f ys h i d within = subst P (get_or-map f ys i d) (h i (f d) (omega (arith, length-map ys f)))

-- PAIRS

module _ {X : Type 0} (R : X → X → Type 0) where
  pub AllPairs-head : (x : X) (xs : List X) → AllPairs R (x ∷ xs) → All (R x) xs
  AllPairs-head x xs h k d within = h zero (suc k) d (omega arith) (omega arith)

  pub AllPairs-tail : (x : X) (xs : List X) → AllPairs R (x ∷ xs) → AllPairs R xs
  AllPairs-tail x xs h i j d lt within = h (suc i) (suc j) d (omega arith) (omega arith)

  pub AllPairs-drop : (n : ℕ) (xs : List X) → AllPairs R xs → AllPairs R (drop n xs)
  AllPairs-drop zero xs h = h
  AllPairs-drop (suc n) [] h = h
  AllPairs-drop (suc n) (x ∷ xs) h = AllPairs-drop n xs (AllPairs-tail x xs h)

  pub AllPairs-append : (xs ys : List X) → AllPairs R xs → AllPairs R ys → All (λ x. All (R x) ys) xs → AllPairs R (xs ++ ys)
  AllPairs-append [] ys h g between = g
  AllPairs-append (x ∷ xs) ys h g between =
      AllPairs-cons R x (xs ++ ys)
      (All-append (R x) xs ys (AllPairs-head x xs h) (All-head (λ x. All (R x) ys) x xs between))
      (AllPairs-append xs ys (AllPairs-tail x xs h) g (All-tail (λ x. All (R x) ys) x xs between))

  pub AllPairs-map : {Y : Type 0} (f : Y → X) (ys : List Y) → AllPairs (λ a b. R (f a) (f b)) ys → AllPairs R (map f ys)
  AllPairs-map f [] h = λ i j d lt within. absurd (omega arith)
  AllPairs-map f (y ∷ ys) h =
      AllPairs-cons R (f y) (map f ys) (All-map (R (f y)) f ys (λ k d within. h zero (suc k) d (omega arith) (omega arith)))
      (AllPairs-map f ys (λ i j d lt within. h (suc i) (suc j) d (omega arith) (omega arith)))

  pub AllPairs-from_map : {Y : Type 0} (f : Y → X) (ys : List Y) → AllPairs R (map f ys) → AllPairs (λ a b. R (f a) (f b)) ys
  AllPairs-from_map f ys h i j d lt within = subst₂ R (get_or-map f ys i d) (get_or-map f ys j d) (h i j (f d) lt (omega (arith, length-map ys f)))

-- KEYS

module _ {X : Type 0} (key : X → ℕ) where
  -- the keys ascend
  abbrev pub Ascends : List X → Type 0
  Ascends xs = AllPairs (λ a b. key a < key b) xs

  by_neighbours : (xs : List X) → AllAdjacentBelow (λ a b. true ≡ nat_lt (key a) (key b)) xs (length xs) → Ascends xs
  by_neighbours xs near i zero d lt within = absurd (omega arith)
  by_neighbours xs near i (suc j) d lt within =
      let next : key (get_or xs j d) < key (get_or xs (suc j) d) = let e : j + 1 ≡ suc j = omega arith in
      subst (λ n. key (get_or xs j d) < key (get_or xs n d)) e (ltb-true _ _ (sym (near j d (omega arith)))) in
      elim (cases_lt i j) [
        | inl earlier ↦ omega (arith, by_neighbours xs near i j d earlier (omega arith), next)
        | inr last ↦ let same : i ≡ j = omega arith in rw same next
      ]

  not_broken : (xs : List X) (k : ℕ) → k + 1 < length xs → ((d : X) → false ≡ nat_lt (key (get_or xs k d)) (key (get_or xs (k + 1) d)))
      → Ascends xs → IsTrue false
  not_broken [] k within broken up = absurd (omega arith)
  not_broken (x ∷ xs) k within broken up = broken x ∙ lt-ltb _ _ (up k (k + 1) x (omega arith) within)

  -- what is answered of each element and the next says whether all ascend
  pub ascends_by_answer : (xs : List X) (r : Bool) → IsAllAdjacentAnswer (λ a b answer. answer ≡ nat_lt (key a) (key b)) xs r → IsTrue r ↔ Ascends xs
  ascends_by_answer xs true h = (λ t. by_neighbours xs h, λ up. refl)
  ascends_by_answer xs false h = (λ f. absurd (true≢false (sym f)), λ up. not_broken xs h.0 h.1 h.2 up)

  -- what is below a number, what is at it, and what is above it
  pub ascends_placed : (n : ℕ) (here xs : List X) → Ascends here → All (λ x. key x ≡ n) here → Ascends xs →
      Ascends (filter (λ x. nat_lt (key x) n) xs ++ here ++ filter (λ x. nat_lt n (key x)) xs)
  ascends_placed n here xs up at whole =
      let below = filter_passes (λ x. nat_lt (key x) n) xs in
      let above = filter_passes (λ x. nat_lt n (key x)) xs in
      AllPairs-append (λ a b. key a < key b) (filter (λ x. nat_lt (key x) n) xs ++ here) (filter (λ x. nat_lt n (key x)) xs)
      (AllPairs-append (λ a b. key a < key b) (filter (λ x. nat_lt (key x) n) xs) here
      (AllPairs-filter (λ a b. key a < key b) (λ x. nat_lt (key x) n) xs whole)
      up
      (λ i d lt j e within. omega (arith, ltb-true _ _ (below i d lt), at j e within)))
      (AllPairs-filter (λ a b. key a < key b) (λ x. nat_lt n (key x)) xs whole)
      (All-append (λ x. All (λ y. key x < key y) (filter (λ x. nat_lt n (key x)) xs)) (filter (λ x. nat_lt (key x) n) xs) here
      (λ i d lt j e within. omega (arith, ltb-true _ _ (below i d lt), ltb-true _ _ (above j e within)))
      (λ i d lt j e within. omega (arith, at i d lt, ltb-true _ _ (above j e within))))
