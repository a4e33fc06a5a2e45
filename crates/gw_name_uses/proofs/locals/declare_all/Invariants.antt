use Rattle.std.proofs.Common.{◌≡◌, drop}
use Rattle.gw_name_uses.specs.Locals.{names_of}
use Rattle.gw_name_uses.specs.Mentions.{with_declared}
use Rattle.gw_name_uses.proofs.locals.declare_all.Given as goal

-- those that are left are still to come
abbrev pub invariant-loop-i : goal.invariant-loop-i
invariant-loop-i l = with_declared (names_of l.fn.locals) l.names ≡ with_declared (names_of l.locals) (drop l.i l.names)
