-- A text that was made is one with another number.
use Rattle.std.proofs.Common.{◌≡◌, ℕ, ℤ, List, [], ◌∷◌, Some, Result, Ok, Err, MatchResult, get_or}
use Rattle.gw_parameters.specs.Operands.{cut_of, with_number_between}
use Rattle.gw_parameters.specs.Texts.{lines_of, text_from, IsRenumbered, IsRefused}
use Rattle.gw_parameters.specs.declared.fault.NoAnswer.{NoAnswer}
use Rattle.gw_parameters.specs.declared.fault.NoAnswer.TheVariants.{Memory}

pub renumbered : {V : Type 0} (items : V → List ℕ) (lines : List (List ℕ)) (name : List ℕ) (value : ℤ) (number : ℕ) (cut : List ℕ × List ℕ)
    (r : Result V NoAnswer)
    → lines_of name 0 lines ≡ number ∷ [] → cut_of name (get_or lines number []) ≡ Some cut
    → MatchResult r (λ text. items text ≡ text_from 0 number (with_number_between value cut) lines) (λ none. none ≡ Memory)
    → MatchResult r (λ text. IsRenumbered lines name value (items text)) (IsRefused lines name)
renumbered items lines name value number cut (Ok text) one there made = record { number = number; cut = cut; one = one; there = there; made = made }
renumbered items lines name value number cut (Err none) one there is = rw is tt
