use Rattle.std.proofs.Common.{◌≡◌, ◌≤◌, replicate}
use Rattle.std.specs.Prelude.{vec_len, vec_capacity}
use Rattle.gw_transactions.proofs.Transactions.parameters_for.Given as goal

abbrev pub invariant-loop : goal.invariant-loop
invariant-loop l = record {
  items : l.all.items ≡ replicate l.counter l.parameters;
  len : vec_len l.all ≡ l.counter;
  room : l.copies ≤ vec_capacity l.all;
}
