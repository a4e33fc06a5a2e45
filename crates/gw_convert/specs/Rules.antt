-- How rules are marked.
use Rattle.std.specs.Prelude.{ℕ, List, [], codes}
use Rattle.gw_convert.specs.declared.rules.Rule.{Rule}
use Rattle.gw_convert.specs.declared.rules.Rule.TheVariants.{Steps, Exponential, Normal, Triangular, Time, Run, Form}

-- what the comment begins with that a rule has before its line: what keeps a model nearly is marked, and so is what is
-- left as it is; what keeps it exactly has none
abbrev pub mark_of : Rule → List ℕ
mark_of Steps = codes "; NEAR: "
mark_of Exponential = codes "; NEAR: "
mark_of Normal = codes "; NEAR: "
mark_of Triangular = codes "; NEAR: "
mark_of Time = codes "; LEFT: "
mark_of Run = codes "; LEFT: "
mark_of Form = codes "; LEFT: "
mark_of rule = []
