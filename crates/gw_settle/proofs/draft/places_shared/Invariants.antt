use Rattle.std.proofs.Common.{◌≡◌, take}
use Rattle.gw_settle.proofs.draft.places_shared.Given as goal

-- the rows so far are these
abbrev pub invariant-loop-row : goal.invariant-loop-row
invariant-loop-row l = l.all.items ≡ take l.row-index l.rows
