-- The rules of elements, each by its place.
use Rattle.std.proofs.Common.{◌≡◌, ℕ, zero, suc, ◌+◌, ◌<◌, List, [], ◌∷◌, length, All, Option, Some, None, arith, subst, get_or, refl}
use Rattle.std.specs.Option.{option_to_list}
use Rattle.std.proofs.lemmas.List.Elements.{All-nil, All-cons, All-head, All-append}
use Rattle.gw_rules.proofs.EachBlock.{All-front, All-back}
use Rattle.gw_least_weights.specs.declared.rules.Rule.{Rule}
use Rattle.gw_weighing.specs.Rules.{from_place}

module _ (P : Rule → Type 0) where
  -- of a rule that may be there
  pub All-there : (r : Option Rule) → ((rule : Rule) → r ≡ Some rule → P rule) → All P (option_to_list r)
  All-there None h = All-nil P
  All-there (Some rule) h = All-cons P rule [] (h rule refl) (All-nil P)

  pub there-All : (r : Option Rule) (rule : Rule) → r ≡ Some rule → All P (option_to_list r) → P rule
  there-All r rule is h = All-head P rule [] (subst (λ (o : Option Rule). All P (option_to_list o)) is h)

  module _ {A : Type 0} (rules : ℕ → A → List Rule) where
    -- what holds of the rules of each element
    all_placed : (first : ℕ) (xs : List A) → ((i : ℕ) (d : A) → i < length xs → All P (rules (first + i) (get_or xs i d))) → All P (from_place rules first xs)
    all_placed first [] h = All-nil P
    all_placed first (x ∷ xs) h =
        All-append P (rules first x) (from_place rules (first + 1) xs)
        (subst (λ n. All P (rules n x)) (let e : first + 0 ≡ first = omega arith in e) (h 0 x (omega arith)))
        (all_placed (first + 1) xs
        (λ i d within. subst (λ n. All P (rules n (get_or xs i d))) (let e : first + suc i ≡ first + 1 + i = omega arith in e)
        (h (suc i) d (omega (arith, within)))))

    each_placed : (first : ℕ) (xs : List A) → All P (from_place rules first xs) → (i : ℕ) (d : A) → i < length xs → All P (rules (first + i) (get_or xs i d))
    each_placed first [] h i d within = absurd (omega (arith, within))
    each_placed first (x ∷ xs) h zero d within =
        subst (λ n. All P (rules n x)) (let e : first ≡ first + 0 = omega arith in e) (All-front P (rules first x) (from_place rules (first + 1) xs) h)
    each_placed first (x ∷ xs) h (suc i) d within =
        subst (λ n. All P (rules n (get_or xs i d))) (let e : first + 1 + i ≡ first + suc i = omega arith in e)
        (each_placed (first + 1) xs (All-back P (rules first x) (from_place rules (first + 1) xs) h) i d (omega (arith, within)))

    -- and from the first place on
    pub all_from_first : (xs : List A) → ((i : ℕ) (d : A) → i < length xs → All P (rules i (get_or xs i d))) → All P (from_place rules 0 xs)
    all_from_first xs h = all_placed 0 xs (λ i d within. subst (λ n. All P (rules n (get_or xs i d))) (let e : i ≡ 0 + i = omega arith in e) (h i d within))

    pub each_from_first : (xs : List A) → All P (from_place rules 0 xs) → (i : ℕ) (d : A) → i < length xs → All P (rules i (get_or xs i d))
    each_from_first xs h i d within = subst (λ n. All P (rules n (get_or xs i d))) (let e : 0 + i ≡ i = omega arith in e) (each_placed 0 xs h i d within)
