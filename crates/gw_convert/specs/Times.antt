-- Which numbers of a text are times.
use Rattle.std.specs.Prelude.{ℕ, nat_lt, Bool, false}
use Rattle.gw_convert.specs.declared.statement.Kind.{Kind}
use Rattle.gw_convert.specs.declared.statement.Kind.TheVariants.{Generate, Advance}

-- an operand, from 0, of a statement is a time: mean, spread and first arrival of a GENERATE, mean and spread of an ADVANCE
abbrev pub is_time : Kind → ℕ → Bool
is_time Generate operand = nat_lt operand 3
is_time Advance operand = nat_lt operand 2
is_time kind operand = false
