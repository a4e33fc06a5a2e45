-- what is written, and what is left, are all; the numbers of the streams so far are in range
use Rattle.std.proofs.Common.{◌≡◌, ◌++◌, drop, take}
use Rattle.std.specs.List.{All}
use Rattle.gw_rows.specs.Reading.{IsStreamInRange}
use Rattle.gw_rows.specs.Rows.{overdraws_text}
use Rattle.gw_rows.proofs.overdraws.overdraws_field.Given as goal

abbrev pub invariant-loop-i : goal.invariant-loop-i
invariant-loop-i l = record {
  field : l.field.items ++ overdraws_text l.i (drop l.i l.overdraws) ≡ overdraws_text 0 l.overdraws;
  range : All IsStreamInRange (take l.i l.overdraws);
}
