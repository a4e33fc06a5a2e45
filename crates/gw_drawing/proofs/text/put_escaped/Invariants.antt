use Rattle.gw_drawing.specs.Text.{xml_text}
use Rattle.gw_drawing.proofs.Series.{Lacks}
use Rattle.gw_drawing.proofs.text.put_escaped.Given as goal

-- what is written, and the bytes that are left, are what was there and all bytes
abbrev pub invariant-loop-i : goal.invariant-loop-i
invariant-loop-i l = Lacks xml_text l.text l.i l.initial.out.items l.out.items
