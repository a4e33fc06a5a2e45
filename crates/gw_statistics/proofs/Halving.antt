-- Looking for the first number that is enough.
use Rattle.std.proofs.Common.{◌≡◌, ◌<◌, ℕ, zero, suc, ◌+◌, ◌-◌, true, false, rules, refl, arith}
use Rattle.gw_statistics.specs.Quantiles.{is_enough, first_enough}

-- it is this one
pub enough_here : (n all left : ℕ) → is_enough n all ≡ true → first_enough n all left ≡ all
unfolding first_enough
enough_here n all zero is = refl
enough_here n all (suc left) is = search (rules, is)

-- it is behind this one
pub enough_later : (n all left : ℕ) → is_enough n all ≡ false → 0 < left → first_enough n all left ≡ first_enough n (all + 1) (left - 1)
unfolding first_enough
enough_later n all zero is some = omega arith
enough_later n all (suc left) is some = search (rules, is)

-- none is left
pub none_left : (n all : ℕ) → first_enough n all 0 ≡ all
unfolding first_enough
none_left n all = refl
