-- A newcomer's place in a list that is kept in order.
use Rattle.std.proofs.Common.{◌≡◌, ◌∙◌, ℕ, zero, suc, ◌+◌, ◌-◌, ◌<◌, ◌≤◌, List, [], ◌∷◌, length, Some, Bool, true, false, true≢false, if◌then◌else◌}
use Rattle.std.proofs.Common.{refl, ap, sym, arith, get_or, subst, inl, inr, ℤ, ◌≤ℤ◌}
use Rattle.std.specs.Prelude.{All, AllPairs, insert, int_le, int_lt}
use Rattle.std.proofs.lemmas.List.Elements.{All-head, All-tail, All-cons, All-nil}
use Rattle.std.specs.List.Sorted.{IsPartitionedBy, IsPartitionPoint}
use Rattle.std.proofs.lemmas.Int.{ints}
use Rattle.std.proofs.lemmas.Bool.{cases_order}
use Rattle.std.proofs.lemmas.List.{get_or_default}
use Rattle.std.proofs.lemmas.List.Edits.{get_or-insert_below, get_or-insert_at, get_or-insert_above, length-insert}
use Rattle.gw_members.specs.Chain.{placed_behind, first, rest}

module _ {A : Type 0} where
  -- the place behind the longest front that passes
  pub insert-placed_behind : (p : A → Bool) (x : A) (xs : List A) (i : ℕ) → i ≤ length xs
      → IsPartitionPoint (λ y. p y ≡ true) (λ y. p y ≡ false) xs i → insert xs i x ≡ placed_behind p x xs
  insert-placed_behind p x [] zero within point = refl
  insert-placed_behind p x [] (suc i) within point = absurd (omega arith)
  insert-placed_behind p x (y ∷ ys) zero within point = rw (point.1 0 y (omega arith) (omega arith))
  insert-placed_behind p x (y ∷ ys) (suc i) within point =
      rw (point.0 0 y (omega arith) (omega arith))
      (ap (λ zs. y ∷ zs) (insert-placed_behind p x ys i (omega arith)
      (λ k d a b. point.0 (suc k) d (omega arith) (omega arith), λ k d a b. point.1 (suc k) d (omega arith) (omega arith))))

  related : (R : A → A → Type 0) (u v s t : A) → u ≡ s → v ≡ t → R s t → R u v
  related R u v s t p q h = subst (λ y. R u y) (sym q) (subst (λ y. R y t) (sym p) h)

  above : (x : A) (xs : List A) (i b : ℕ) (d : A) → i ≤ length xs → i < b → get_or (insert xs i x) b d ≡ get_or xs (b - 1) d
  above x xs i b d within over =
      let e : (b - 1) + 1 ≡ b = omega arith in
      subst (λ n. get_or (insert xs i x) n d ≡ get_or xs (b - 1) d) e (get_or-insert_above xs i x d (b - 1) (omega arith) within)

  at_place : (x : A) (xs : List A) (i b : ℕ) (d : A) → i ≤ length xs → b ≡ i → get_or (insert xs i x) b d ≡ x
  at_place x xs i b d within same = subst (λ n. get_or (insert xs i x) n d ≡ x) (sym same) (get_or-insert_at xs i x d within)

  -- an insertion between what may come before x and what may come after it keeps the order
  AllPairs-insert : (R : A → A → Type 0) (x : A) (xs : List A) (i : ℕ) → i ≤ length xs → ((k : ℕ) (d : A) → k < i → R (get_or xs k d) x)
      → ((k : ℕ) (d : A) → i ≤ k → k < length xs → R x (get_or xs k d)) → AllPairs R xs → AllPairs R (insert xs i x)
  AllPairs-insert R x xs i within front back ordered a b d lt below =
      let long : length (insert xs i x) ≡ length xs + 1 = length-insert xs i x within in
      elim (cases_order b i) [
        | inl same ↦ related R _ _ _ _ (get_or-insert_below xs i x d a (omega arith) within) (at_place x xs i b d within same) (front a d (omega arith))
        | inr (inl under) ↦ related R _ _ _ _ (get_or-insert_below xs i x d a (omega arith) within)
            (get_or-insert_below xs i x d b under within) (ordered a b d lt (omega arith))
        | inr (inr over) ↦ elim (cases_order a i) [
          | inl same ↦ related R _ _ _ _ (at_place x xs i a d within same) (above x xs i b d within over) (back (b - 1) d (omega arith) (omega arith))
          | inr (inl under) ↦ related R _ _ _ _ (get_or-insert_below xs i x d a under within) (above x xs i b d within over)
              (ordered a (b - 1) d (omega arith) (omega arith))
          | inr (inr higher) ↦ related R _ _ _ _ (above x xs i a d within higher) (above x xs i b d within over)
              (ordered (a - 1) (b - 1) d (omega arith) (omega arith))
        ]
      ]

  -- R is the order of a list, and x stands behind all that pass p, and before all that fail it
  pub record Ranks (R : A → A → Type 0) (p : A → Bool) (x : A) : Type 0 where
    pub falls : (y z : A) → R y z → p z ≡ true → p y ≡ true
    pub behind : (y : A) → p y ≡ true → R y x
    pub before : (y : A) → p y ≡ false → R x y

  -- in a list in order, none that passes comes after one that fails
  pub parts_in_order : (R : A → A → Type 0) (p : A → Bool) (xs : List A) → ((y z : A) → R y z → p z ≡ true → p y ≡ true) → AllPairs R xs → IsPartitionedBy p xs
  parts_in_order R p xs falls ordered i j d le within passes =
      elim (cases_order i j) [
        | inl same ↦ subst (λ n. p (get_or xs n d) ≡ true) (sym same) passes
        | inr (inl under) ↦ falls (get_or xs i d) (get_or xs j d) (ordered i j d under within) passes
        | inr (inr over) ↦ absurd (omega arith)
      ]

  pub partitioned : (R : A → A → Type 0) (p : A → Bool) (x : A) (xs : List A) → Ranks R p x → AllPairs R xs → IsPartitionedBy p xs
  partitioned R p x xs ranks ordered = parts_in_order R p xs ranks.falls ordered

  -- where the last passes, all do, and the partition point is the end
  pub all_pass : (p : A → Bool) (xs : List A) (last : A) → 0 < length xs → last ≡ get_or xs (length xs - 1) last → p last ≡ true
      → IsPartitionedBy p xs → IsPartitionPoint (λ y. p y ≡ true) (λ y. p y ≡ false) xs (length xs)
  all_pass p xs last some is passes parts = (
    λ k d a b. parts k (length xs - 1) d (omega arith) (omega arith)
        (subst (λ y. p y ≡ true) (is ∙ get_or_default xs (length xs - 1) last d (omega arith)) passes),
    λ k d a b. absurd (omega arith),
  )

  -- an insertion at the partition point puts x at its place, and keeps the order
  pub in_order : (R : A → A → Type 0) (p : A → Bool) (x : A) (xs ys : List A) (i : ℕ) → Ranks R p x → AllPairs R xs → i ≤ length xs
      → (IsPartitionedBy p xs → IsPartitionPoint (λ y. p y ≡ true) (λ y. p y ≡ false) xs i) → ys ≡ insert xs i x → AllPairs R ys × (ys ≡ placed_behind p x xs)
  in_order R p x xs ys i ranks ordered within divides inserted =
      let point : IsPartitionPoint (λ y. p y ≡ true) (λ y. p y ≡ false) xs i = divides (partitioned R p x xs ranks ordered) in
      rw inserted (
        AllPairs-insert R x xs i within (λ k d a. ranks.behind (get_or xs k d) (point.0 k d (omega arith) a))
            (λ k d a b. ranks.before (get_or xs k d) (point.1 k d a b)) ordered,
        insert-placed_behind p x xs i within point,
      )

  -- the places by priority and by time
  pub ranks_behind : (priority : A → ℤ) (x : A) → Ranks (λ y z. priority z ≤ℤ priority y) (λ y. int_le (priority x) (priority y)) x
  ranks_behind priority x = record {
    falls = λ y z r t. grind (arith, ints);
    behind = λ y t. grind (arith, ints);
    before = λ y t. grind (arith, ints);
  }

  pub ranks_ahead : (priority : A → ℤ) (x : A) → Ranks (λ y z. priority z ≤ℤ priority y) (λ y. int_lt (priority x) (priority y)) x
  ranks_ahead priority x = record {
    falls = λ y z r t. grind (arith, ints);
    behind = λ y t. grind (arith, ints);
    before = λ y t. grind (arith, ints);
  }

  pub ranks_in_time : (time : A → ℤ) (x : A) → Ranks (λ y z. time y ≤ℤ time z) (λ y. int_le (time y) (time x)) x
  ranks_in_time time x = record {
    falls = λ y z r t. grind (arith, ints);
    behind = λ y t. grind (arith, ints);
    before = λ y t. grind (arith, ints);
  }

  -- ORDER OF A LIST THAT A NEWCOMER JOINED

  pub pairs_cons : (R : A → A → Type 0) (x : A) (xs : List A) → All (R x) xs → AllPairs R xs → AllPairs R (x ∷ xs)
  pairs_cons R x xs all pairs zero zero d lt below = absurd (omega (arith, lt))
  pairs_cons R x xs all pairs zero (suc b) d lt below = all b d (omega arith)
  pairs_cons R x xs all pairs (suc a) zero d lt below = absurd (omega (arith, lt))
  pairs_cons R x xs all pairs (suc a) (suc b) d lt below = pairs a b d (omega arith) (omega arith)

  pub pairs_rest : (R : A → A → Type 0) (x : A) (xs : List A) → AllPairs R (x ∷ xs) → AllPairs R xs
  pairs_rest R x xs pairs a b d lt below = pairs (suc a) (suc b) d (omega arith) (omega arith)

  pub pairs_first : (R : A → A → Type 0) (x : A) (xs : List A) → AllPairs R (x ∷ xs) → All (R x) xs
  pairs_first R x xs pairs b d below = pairs zero (suc b) d (omega arith) (omega arith)

  all_placed : (P : A → Type 0) (p : A → Bool) (x : A) (xs : List A) → P x → All P xs → All P (placed_behind p x xs)
  all_placed P p x [] this all = All-cons P x [] this all
  all_placed P p x (y ∷ ys) this all = case (p y) (all_placed P p x ys this (All-tail P y ys all))
    where
      case : (b : Bool) → All P (placed_behind p x ys) → All P (if b then y ∷ placed_behind p x ys else x ∷ y ∷ ys)
      case true later = All-cons P y (placed_behind p x ys) (All-head P y ys all) later
      case false later = All-cons P x (y ∷ ys) this all

  -- none that fails stands before one that passes
  all_before : (R : A → A → Type 0) (p : A → Bool) (x y : A) (ys : List A) → Ranks R p x → p y ≡ false → All (R y) ys → All (R x) (y ∷ ys)
  all_before R p x y ys ranks fails all =
      All-cons (R x) y ys (ranks.before y fails) (λ k d below. case (get_or ys k d) (all k d below) (p (get_or ys k d)) refl)
    where
      case : (z : A) → R y z → (b : Bool) → p z ≡ b → R x z
      case z r true is = absurd (true≢false (sym (ranks.falls y z r is) ∙ fails))
      case z r false is = ranks.before z is

  pub placed_in_order : (R : A → A → Type 0) (p : A → Bool) (x : A) (xs : List A) → Ranks R p x → AllPairs R xs → AllPairs R (placed_behind p x xs)
  placed_in_order R p x [] ranks pairs = pairs_cons R x [] (All-nil (R x)) pairs
  placed_in_order R p x (y ∷ ys) ranks pairs = case (p y) refl (placed_in_order R p x ys ranks (pairs_rest R y ys pairs))
    where
      case : (b : Bool) → p y ≡ b → AllPairs R (placed_behind p x ys) → AllPairs R (if b then y ∷ placed_behind p x ys else x ∷ y ∷ ys)
      case true is later = pairs_cons R y (placed_behind p x ys) (all_placed (R y) p x ys (ranks.behind y is) (pairs_first R y ys pairs)) later
      case false is later = pairs_cons R x (y ∷ ys) (all_before R p x y ys ranks is (pairs_first R y ys pairs)) pairs

  pub length-placed : (p : A → Bool) (x : A) (xs : List A) → length (placed_behind p x xs) ≡ length xs + 1
  length-placed p x [] = refl
  length-placed p x (y ∷ ys) = case (p y) (length-placed p x ys)
    where
      case : (b : Bool) → length (placed_behind p x ys) ≡ length ys + 1 → length (if b then y ∷ placed_behind p x ys else x ∷ y ∷ ys) ≡ length (y ∷ ys) + 1
      case true same = omega (arith, same)
      case false same = omega (arith)

  pub pairs_rest_of : (R : A → A → Type 0) (xs : List A) → AllPairs R xs → AllPairs R (rest xs)
  pairs_rest_of R [] pairs = pairs
  pairs_rest_of R (x ∷ xs) pairs = pairs_rest R x xs pairs

  pub length-rest : (xs : List A) (x : A) → Some x ≡ first xs → length xs ≡ length (rest xs) + 1
  length-rest [] x is = absurd cc
  length-rest (y ∷ ys) x is = omega arith
