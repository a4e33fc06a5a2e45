-- what is written, and the lines that are left, are what was there and all lines
use Rattle.std.proofs.Common.{◌≡◌, ◌++◌, drop, map}
use Rattle.gw_parameters.specs.Texts.{text_from}
use Rattle.gw_parameters.proofs.texts.put_lines.Given as goal

abbrev pub invariant-loop-i : goal.invariant-loop-i
invariant-loop-i l =
    l.out.items ++ text_from l.i l.number l.other (map (λ x. x.now) (drop l.i l.lines)) ≡ l.initial.out.items
    ++ text_from 0 l.number l.other (map (λ x. x.now) l.lines)
