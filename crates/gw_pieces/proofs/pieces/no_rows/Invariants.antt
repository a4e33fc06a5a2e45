-- as many rows as were counted, of which none is there
use Rattle.std.proofs.Common.{◌≡◌, replicate, None}
use Rattle.gw_pieces.proofs.pieces.no_rows.Given as goal

abbrev pub invariant-loop : goal.invariant-loop
invariant-loop l = l.rows.items ≡ replicate l.counter None
