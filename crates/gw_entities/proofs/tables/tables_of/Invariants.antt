use Rattle.std.proofs.Common.{◌≡◌, take}
use Rattle.gw_entities.specs.Numbered.{of_each}
use Rattle.gw_entities.specs.Table.{nothing_entered}
use Rattle.gw_entities.proofs.tables.tables_of.Given as goal

abbrev pub invariant-loop-entity : goal.invariant-loop-entity
invariant-loop-entity l = l.tables.items ≡ of_each nothing_entered (take l.entity-index l.entities)
