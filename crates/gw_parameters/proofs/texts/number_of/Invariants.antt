-- the line that was found, which is one of those before, and the lines that are left have the lines of the name
use Rattle.std.proofs.Common.{◌≡◌, ◌++◌, ◌<◌, drop, map, IfSome}
use Rattle.gw_parameters.specs.Texts.{lines_of, list_of}
use Rattle.gw_parameters.proofs.texts.number_of.Given as goal

abbrev pub invariant-loop-i : goal.invariant-loop-i
invariant-loop-i l =
    (lines_of l.name 0 (map (λ x. x.now) l.lines) ≡ list_of l.found ++ lines_of l.name l.i (map (λ x. x.now) (drop l.i l.lines)))
    × IfSome l.found (λ number. number < l.i)
