use Rattle.std.proofs.Common.{w64, sym}
use Rattle.std.proofs.lemmas.Int.{to_z-of_z}
use Rattle.gw_parameters.proofs.Renumbering.{renumbered}
use Rattle.gw_parameters.proofs.texts.text_at.Goals as goal

pub returns-in-Some : goal.returns-in-Some
returns-in-Some c =
    let there = sym (rw c.line_at.ensures at (rw c.in-Some.is at c.cut_of.ensures)) in
    renumbered _ _ _ c.args.value c.args.number _ c.text_if_room.result c.requires.one there
    (rw (to_z-of_z w64 c.args.value c.ranges.value) at c.text_if_room.ensures)
