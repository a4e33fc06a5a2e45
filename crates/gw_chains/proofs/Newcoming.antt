-- A newcomer among those that are kept in an order, at its place: its like takes it in, or it stands there.
use Rattle.std.proofs.Common.{◌≡◌, ◌∙◌, ℕ, zero, suc, ◌-◌, ◌<◌, ◌≤◌, List, [], ◌∷◌, ◌++◌, length, Some, None, Bool, true, false, if◌then◌else◌, refl}
use Rattle.std.proofs.Common.{sym, ap, arith, get_or, set}
use Rattle.std.specs.Prelude.{insert}
use Rattle.std.specs.List.Sorted.{IsPartitionPoint}
use Rattle.std.specs.List.{AllByRecursion}
use Rattle.gw_chains.specs.Newcomers.{host, with_newcomer, IsHostLast}
use Rattle.gw_chains.specs.Chunks.{begins_in}

module _ {A : Type 0} (goes : A → A → Bool) (x : A) where
  -- the place behind all that go first
  abbrev pub IsPlace : List A → ℕ → Type 0
  IsPlace xs i = IsPartitionPoint (λ y. goes y x ≡ true) (λ y. goes y x ≡ false) xs i

  place_rest : (y : A) (ys : List A) (i : ℕ) → IsPlace (y ∷ ys) (suc i) → IsPlace ys i
  place_rest y ys i point = (λ k d a b. point.0 (suc k) d (omega arith) (omega arith), λ k d a b. point.1 (suc k) d (omega arith) (omega arith))

  last_rest : (y : A) (ys : List A) → IsHostLast goes x (y ∷ ys) → IsHostLast goes x ys
  last_rest y ys last = λ a b d lt below. last (suc a) (suc b) d (omega arith) (omega arith)

  -- one that stands before another that goes first takes nobody in
  early : (y : A) (ys : List A) (i : ℕ) (d : A) → suc i ≤ length ys → IsPlace (y ∷ ys) (suc (suc i)) → IsHostLast goes x (y ∷ ys) → goes x y ≡ false
  early y ys i d within point last = last 0 (suc i) d (omega arith) (omega arith) (point.0 (suc i) d (omega arith) (omega arith))

  pub host-none : (xs : List A) → IsPlace xs 0 → host goes x xs ≡ None
  host-none [] point = refl
  host-none (y ∷ ys) point = rw (point.1 0 y (omega arith) (omega arith)) refl

  pub host-before : (xs : List A) (i : ℕ) (d : A) → suc i ≤ length xs → IsPlace xs (suc i) → IsHostLast goes x xs → host goes x xs
      ≡ (if goes x (get_or xs i d) then Some (get_or xs i d) else None)
  host-before [] i d within point last = absurd (omega (arith, within))
  host-before (y ∷ ys) zero d within point last =
      rw (point.0 0 y (omega arith) (omega arith)) (ap (λ o. if goes x y then Some y else o) (host-none ys (place_rest y ys 0 point)))
  host-before (y ∷ ys) (suc i) d within point last =
      rw (point.0 0 y (omega arith) (omega arith), early y ys i d (omega (arith, within)) point last)
      (host-before ys i d (omega (arith, within)) (place_rest y ys (suc i) point) (last_rest y ys last))

  -- the one before a newcomer's place is its host, if it would go first of that one too
  pub host-tested : (xs : List A) (n : ℕ) (y : A) (t : Bool) → 0 < n → n ≤ length xs → IsPlace xs n → IsHostLast goes x xs → y
      ≡ get_or xs (n - 1) y → goes x y ≡ t → (if t then Some y else None) ≡ host goes x xs
  host-tested xs zero y t some within point last is test = absurd (omega (arith, some))
  host-tested xs (suc i) y t some within point last is test =
      let one : suc i - 1 ≡ i = omega arith in
      sym (
      host-before xs i y within point last
      ∙ ap (λ z. if goes x z then Some z else None) (sym (is ∙ ap (λ m. get_or xs m y) one))
      ∙ ap (λ b. if b then Some y else None) test
      )

  module _ (unite : A → A → A) where
    pub first-newcomer : (xs : List A) → IsPlace xs 0 → insert xs 0 x ≡ with_newcomer goes unite x xs
    first-newcomer [] point = refl
    first-newcomer (y ∷ ys) point = rw (point.1 0 y (omega arith) (omega arith)) refl

    pub newcomer-taken : (xs : List A) (i : ℕ) (d : A) → suc i ≤ length xs → IsPlace xs (suc i) → IsHostLast goes x xs
        → goes x (get_or xs i d) ≡ true → set xs i (unite (get_or xs i d) x) ≡ with_newcomer goes unite x xs
    newcomer-taken [] i d within point last takes = absurd (omega (arith, within))
    newcomer-taken (y ∷ ys) zero d within point last takes = rw (point.0 0 y (omega arith) (omega arith), takes) refl
    newcomer-taken (y ∷ ys) (suc i) d within point last takes =
        rw (point.0 0 y (omega arith) (omega arith), early y ys i d (omega (arith, within)) point last)
        (ap (λ zs. y ∷ zs) (newcomer-taken ys i d (omega (arith, within)) (place_rest y ys (suc i) point) (last_rest y ys last) takes))

    pub newcomer-behind : (xs : List A) (i : ℕ) (d : A) → suc i ≤ length xs → IsPlace xs (suc i) → IsHostLast goes x xs
        → goes x (get_or xs i d) ≡ false → insert xs (suc i) x ≡ with_newcomer goes unite x xs
    newcomer-behind [] i d within point last fails = absurd (omega (arith, within))
    newcomer-behind (y ∷ ys) zero d within point last fails =
        rw (point.0 0 y (omega arith) (omega arith), fails) (ap (λ zs. y ∷ zs) (first-newcomer ys (place_rest y ys 0 point)))
    newcomer-behind (y ∷ ys) (suc i) d within point last fails =
        rw (point.0 0 y (omega arith) (omega arith), early y ys i d (omega (arith, within)) point last)
        (ap (λ zs. y ∷ zs) (newcomer-behind ys i d (omega (arith, within)) (place_rest y ys (suc i) point) (last_rest y ys last) fails))

    -- at its place, whatever its host is
    pub newcomer-unhosted : (xs : List A) (n : ℕ) → n ≤ length xs → IsPlace xs n → IsHostLast goes x xs → None ≡ host goes x xs
        → insert xs n x ≡ with_newcomer goes unite x xs
    newcomer-unhosted xs zero within point last is = first-newcomer xs point
    newcomer-unhosted [] (suc i) within point last is = absurd (omega (arith, within))
    newcomer-unhosted (y ∷ ys) (suc i) within point last is =
        newcomer-behind (y ∷ ys) i y within point last (by_test (goes x (get_or (y ∷ ys) i y)) refl (is ∙ host-before (y ∷ ys) i y within point last))
      where
        by_test : (b : Bool) → goes x (get_or (y ∷ ys) i y) ≡ b → None ≡ (if b then Some (get_or (y ∷ ys) i y) else None) → goes x (get_or (y ∷ ys) i y) ≡ false
        by_test true test none = absurd cc
        by_test false test none = test

    pub newcomer-hosted : (xs : List A) (n : ℕ) (h : A) → 0 < n → n ≤ length xs → IsPlace xs n → IsHostLast goes x xs → Some h
        ≡ host goes x xs → set xs (n - 1) (unite h x) ≡ with_newcomer goes unite x xs
    newcomer-hosted xs zero h some within point last is = absurd (omega (arith, some))
    newcomer-hosted xs (suc i) h some within point last is =
        let one : suc i - 1 ≡ i = omega arith in
        ap (λ m. set xs m (unite h x)) one ∙ by_test (goes x (get_or xs i h)) refl (is ∙ host-before xs i h within point last)
      where
        same : (a b : A) → Some a ≡ Some b → a ≡ b
        same a b e = cc

        by_test : (b : Bool) → goes x (get_or xs i h) ≡ b → Some h ≡ (if b then Some (get_or xs i h) else None) → set xs i (unite h x)
            ≡ with_newcomer goes unite x xs
        by_test true test found = ap (λ z. set xs i (unite z x)) (same h (get_or xs i h) found) ∙ newcomer-taken xs i h within point last test
        by_test false test found = absurd cc

    -- IN A PART OF A LIST

    -- a newcomer goes behind those that all go first, and take nobody in
    pub newcomer_past : (front back : List A) → AllByRecursion (λ y. (goes y x ≡ true) × (goes x y ≡ false)) front
        → with_newcomer goes unite x (front ++ back) ≡ front ++ with_newcomer goes unite x back
    newcomer_past [] back all = refl
    newcomer_past (y ∷ ys) back all = rw (all.0.0, all.0.1) (ap (λ zs. y ∷ zs) (newcomer_past ys back all.1))

    -- and before those of whom the first doesn't go first
    pub newcomer_first : (back : List A) → begins_in (λ y. goes y x) back ≡ false → with_newcomer goes unite x back ≡ x ∷ back
    newcomer_first [] fails = refl
    newcomer_first (z ∷ zs) fails = rw fails refl

    pub newcomer_within : (front back : List A) → begins_in (λ y. goes y x) back ≡ false → with_newcomer goes unite x (front ++ back)
        ≡ with_newcomer goes unite x front ++ back
    newcomer_within [] back fails = newcomer_first back fails
    newcomer_within (y ∷ ys) back fails = case (goes y x) (goes x y) (newcomer_within ys back fails)
      where
        case : (b c : Bool) → with_newcomer goes unite x (ys ++ back) ≡ with_newcomer goes unite x ys ++ back
            → (if b then (if c then unite y x ∷ (ys ++ back) else y ∷ with_newcomer goes unite x (ys ++ back)) else x ∷ y ∷ (ys ++ back))
            ≡ (if b then (if c then unite y x ∷ ys else y ∷ with_newcomer goes unite x ys) else x ∷ y ∷ ys) ++ back
        case true true same = refl
        case true false same = ap (λ ws. y ∷ ws) same
        case false c same = refl

  pub host_past : (front back : List A) → AllByRecursion (λ y. (goes y x ≡ true) × (goes x y ≡ false)) front → host goes x (front ++ back) ≡ host goes x back
  host_past [] back all = refl
  host_past (y ∷ ys) back all = rw (all.0.0, all.0.1) (host_past ys back all.1)

  pub host_first : (back : List A) → begins_in (λ y. goes y x) back ≡ false → host goes x back ≡ None
  host_first [] fails = refl
  host_first (z ∷ zs) fails = rw fails refl

  pub host_within : (front back : List A) → begins_in (λ y. goes y x) back ≡ false → host goes x (front ++ back) ≡ host goes x front
  host_within [] back fails = host_first back fails
  host_within (y ∷ ys) back fails = case (goes y x) (goes x y) (host_within ys back fails)
    where
      case : (b c : Bool) → host goes x (ys ++ back) ≡ host goes x ys
          → (if b then (if c then Some y else host goes x (ys ++ back)) else None) ≡ (if b then (if c then Some y else host goes x ys) else None)
      case true true same = refl
      case true false same = same
      case false c same = refl
