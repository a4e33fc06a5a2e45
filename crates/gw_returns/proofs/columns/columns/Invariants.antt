use Rattle.std.proofs.Common.{◌≡◌, length}
use Rattle.gw_returns.specs.Columns.{words_of, AreFirst}
use Rattle.gw_returns.proofs.columns.columns.Given as goal

-- the columns so far are the first
abbrev pub invariant-loop-k : goal.invariant-loop-k
invariant-loop-k l = record {
  first : AreFirst l.rows (words_of l.all.items);
  count : length l.all.items ≡ l.k;
}
