use Rattle.std.proofs.Common.{◌≡◌, ℕ, List, [], ◌∷◌, refl, ap, ◌∙◌, arith, ◌==◌}
use Rattle.std.proofs.lemmas.Bool.Decides.{nat_tests}
use Rattle.std.specs.Prelude.{◌||◌}
use Rattle.std.specs.List.{list_any}
use Rattle.gw_rules.specs.Code.{is_among}
use Rattle.gw_code_flow.proofs.parameters.is_among.Goals as goal

eq_other : (a b : ℕ) → (a == b) ≡ (b == a)
eq_other a b = grind (arith, nat_tests)

any_is_among : (numbers : List ℕ) (number : ℕ) → list_any (λ y. y == number) numbers ≡ is_among numbers number
any_is_among [] number = refl
any_is_among (y ∷ numbers) number = ap (λ b. b || list_any (λ y. y == number) numbers) (eq_other y number)
    ∙ ap (λ b. number == y || b) (any_is_among numbers number)

pub returns : goal.returns
returns c = c.contains.ensures.value ∙ any_is_among c.args.numbers.now c.args.number
