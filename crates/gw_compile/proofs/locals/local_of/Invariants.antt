use Rattle.std.proofs.Common.{◌≡◌, drop}
use Rattle.gw_compile.specs.Numbers.{number_from, number_of}
use Rattle.gw_compile.specs.Scope.{scope_of}
use Rattle.gw_compile.proofs.locals.local_of.Given as goal

-- what is looked for is among those to come
abbrev pub invariant-loop-i : goal.invariant-loop-i
invariant-loop-i l =
    number_of (scope_of l.locals) l.name ≡ number_from l.i (scope_of (drop l.i l.locals)) l.name
