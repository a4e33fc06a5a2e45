use Rattle.std.proofs.Common.{◌≡◌, drop}
use Rattle.std.specs.Prelude.{max}
use Rattle.gw_rules.specs.Accepted.{heaviest}
use Rattle.gw_rules.proofs.verified.Verified.heaviest.Given as goal

-- the greatest so far, and that of the weights that are left
abbrev pub invariant-loop-weight : goal.invariant-loop-weight
invariant-loop-weight l = max l.heaviest (heaviest (drop l.weight-index l.weight-items)) ≡ heaviest l.weight-items
