use Rattle.std.proofs.Common.{◌≡◌, ◌≤◌, length, take}
use Rattle.gw_settle.specs.Numbers.{sets_of, with_rows}
use Rattle.gw_settle.proofs.written.add_states.Given as goal

abbrev pub invariant-loop-row : goal.invariant-loop-row
invariant-loop-row l = record {
  sets : sets_of l.returns.items ≡ with_rows (sets_of l.fn.returns.items) (take l.row-index l.rows);
  few : length l.returns.items ≤ 4096;
}
