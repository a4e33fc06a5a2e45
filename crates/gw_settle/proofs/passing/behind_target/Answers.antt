use Rattle.std.proofs.Common.{◌≡◌, ◌+◌, ◌-◌, ◌∷◌, [], ap, arith}
use Rattle.gw_settle.proofs.passing.behind_target.Goals as goal

pub returns : goal.returns
returns c = let again : c.args.target - 1 + 1 ≡ c.args.target = omega arith in ap (λ n. n ∷ []) again
