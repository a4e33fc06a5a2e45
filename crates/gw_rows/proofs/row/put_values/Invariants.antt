-- the fields so far, and those of the values that are left, are all; the values so far are amounts
use Rattle.std.proofs.Common.{◌≡◌, ◌++◌, drop, map, take}
use Rattle.std.specs.List.{All}
use Rattle.gw_rows.specs.Amounts.{amount_field}
use Rattle.gw_rows.specs.Reading.{IsAmount}
use Rattle.gw_rows.specs.Rows.{texts}
use Rattle.gw_rows.proofs.row.put_values.Given as goal

abbrev pub invariant-loop-i : goal.invariant-loop-i
invariant-loop-i l = record {
  fields : texts l.fields.items ++ map amount_field (drop l.i l.values) ≡ texts l.initial.fields.items ++ map amount_field l.values;
  range : All IsAmount (take l.i l.values);
}
