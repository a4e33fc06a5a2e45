use Rattle.std.proofs.Common.{◌≡◌, length}
use Rattle.gw_returns.specs.Columns.{TellHolders}
use Rattle.gw_returns.proofs.columns.tell_holders.Given as goal

-- the words tell of the rows so far
abbrev pub invariant-loop-place : goal.invariant-loop-place
invariant-loop-place l = record {
  tell : TellHolders l.rows l.first l.place l.words;
  length : length l.words ≡ length l.fn.words;
}
