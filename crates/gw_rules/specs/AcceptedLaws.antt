-- What checked and accepted objects are, said apart from the order of the checks.
use Rattle.std.specs.Prelude.{◌↔◌}
use Rattle.gw_object.specs.declared.parts.Parts.{Parts}
use Rattle.gw_rules.specs.Pass.{KindsPass}
use Rattle.gw_rules.specs.PlusChecks.{PlusPasses}
use Rattle.gw_rules.specs.Flow.{own_table, FlowPasses}
use Rattle.gw_rules.specs.Weights.{WeightsPass}
use Rattle.gw_rules.specs.Accepted.{Checked, Accepted}

-- an object is checked exactly where kinds pass, PLUS code passes, and flow passes with its own table
abbrev pub CheckedWhereAllPass : Type 0
CheckedWhereAllPass = (p : Parts) → Checked p ↔ KindsPass p × PlusPasses p × FlowPasses p (own_table p)

-- an object is accepted exactly where it is checked and its weights pass
abbrev pub AcceptedWhereCheckedAndWeighted : Type 0
AcceptedWhereCheckedAndWeighted = (p : Parts) → Accepted p ↔ Checked p × WeightsPass p
