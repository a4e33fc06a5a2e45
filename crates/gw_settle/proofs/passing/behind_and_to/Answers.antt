use Rattle.std.proofs.Common.{◌≡◌, ◌+◌, ◌-◌, ◌∷◌, [], ap, arith}
use Rattle.gw_settle.proofs.passing.behind_and_to.Goals as goal

pub returns : goal.returns
returns c = let again : c.args.target - 1 + 1 ≡ c.args.target = omega arith in ap (λ n. (c.args.first + 1) ∷ n ∷ []) again
