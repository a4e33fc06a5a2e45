-- Lists of numbers that are each above the one before.
use Rattle.std.proofs.Common.{ℕ, ◌<◌, List, [], refl, arith}
use Rattle.std.specs.Prelude.{nat_lt}
use Rattle.std.specs.List.{All, AllPairs}
use Rattle.gw_fields.specs.Fields.{Field, nothing, above_last, ElementsFit}
use Rattle.gw_field_bytes.proofs.Ascending.{ascending_exact, nat_order, ascends, ascending_fit}
use Rattle.gw_field_bytes.proofs.Exact.{IsExact, nothing_exact}
use Rattle.gw_field_bytes.proofs.ExactLists.{IsExactElement}

abbrev first : ℕ × Unit {0} → ℕ
first x = x.0

abbrev alone : ℕ → ℕ × Unit {0}
alone n = (n, tt)

pub above_last_exact : (f : Field ℕ) → IsExact f → IsExactElement (above_last f)
above_last_exact f exact = ascending_exact nat_lt first alone f nothing (λ x. refl) (λ n. refl) exact nothing_exact

-- numbers that fit and ascend fit their list
pub above_last_fit : (f : Field ℕ) (xs : List ℕ) → All f.Fits xs → AllPairs (λ a b. a < b) xs → ElementsFit (above_last f).Fits [] xs
above_last_fit f xs each up = ascending_fit nat_order first alone f nothing xs [] each (λ k d lt. tt) up

-- numbers that fit their list ascend
pub above_last_ascends : (f : Field ℕ) (xs : List ℕ) → ElementsFit (above_last f).Fits [] xs → AllPairs (λ a b. a < b) xs
above_last_ascends f xs fits = ascends nat_order first alone f nothing xs [] (λ i j d lt in_none. absurd (omega arith)) fits
