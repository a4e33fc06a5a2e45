use Rattle.std.proofs.Common.{◌≡◌, length, take}
use Rattle.gw_rules.specs.Seen.{seen_rows}
use Rattle.gw_settle.specs.Written.{StatesName}
use Rattle.gw_settle.proofs.written.states_written.Given as goal

abbrev pub invariant-loop-row : goal.invariant-loop-row
invariant-loop-row l = record {
  said : seen_rows l.returns l.all.items ≡ take l.row-index l.rows;
  numbers : StatesName (length l.returns) l.all.items;
}
