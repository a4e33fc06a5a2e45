use Rattle.gw_drawing.specs.Text.{digits_in_threes}
use Rattle.gw_drawing.proofs.Series.{Lacks}
use Rattle.gw_drawing.proofs.text.put_digits.Given as goal

-- what is written, and the digits that are left, are what was there and all digits
abbrev pub invariant-loop-i : goal.invariant-loop-i
invariant-loop-i l = Lacks digits_in_threes l.digits l.i l.initial.out.items l.out.items
