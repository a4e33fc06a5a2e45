use Rattle.std.proofs.Common.{◌≡◌, ◌<◌, ℕ}
use Rattle.gw_num.specs.Table.{at}
use Rattle.gw_machine.specs.Wants.{nobody}
use Rattle.gw_machine.proofs.wants.place_of.Given as goal

-- none before is for the block and counts so many
abbrev pub invariant-loop-i : goal.invariant-loop-i
invariant-loop-i l = (j : ℕ) → j < l.i → (at nobody l.wants j).block ≡ l.block → (at nobody l.wants j).waiting < l.least
