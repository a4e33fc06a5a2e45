-- The entities of a machine, a table for each kind: as they begin, what a state says of them, and what time makes of them.
use Rattle.std.specs.Prelude.{◌≡◌, ℕ, ℤ, pos, List}
use Rattle.gw_object.specs.declared.parts.Entity.{Entity}
use Rattle.gw_object.specs.Entities.{capacity_of}
use Rattle.gw_entities.specs.Contents.{empty, contents_after}
use Rattle.gw_entities.specs.Facility.{idle, facility_after}
use Rattle.gw_entities.specs.Storage.{vacant, storage_after}
use Rattle.gw_entities.specs.Numbered.{at_start, of_each, values_after}
use Rattle.gw_entities.specs.Table.{initial_setting, initial_value, nothing_entered}
use Rattle.gw_step.specs.State.{EntityStates}
use Rattle.gw_machine.specs.declared.entity_tables.EntityTables.{EntityTables}

-- the tables of these entities, to which nothing happened
pub record AreAtStart (entities : List Entity) (t : EntityTables) : Type 0 where
  pub facilities : t.facilities ≡ at_start (λ k. idle) entities
  pub storages : t.storages ≡ at_start (λ k. vacant (capacity_of k)) entities
  pub queues : t.queues ≡ at_start (λ k. empty) entities
  pub switches : t.switches ≡ of_each initial_setting entities
  pub savevalues : t.savevalues ≡ of_each initial_value entities
  pub tables : t.tables ≡ of_each nothing_entered entities

-- the entities as they are now
abbrev pub states_of : EntityTables → EntityStates
states_of t = record {
  facilities = t.facilities.values;
  storages = t.storages.values;
  queues = t.queues.values;
  switches = t.switches;
  savevalues = t.savevalues;
  tables = t.tables;
}

-- so many clock units later
abbrev pub tables_after : ℕ → EntityTables → EntityTables
tables_after time t = record t {
  facilities = values_after facility_after time t.facilities;
  storages = values_after storage_after time t.storages;
  queues = values_after contents_after time t.queues;
}

-- the clock units that passed over the entities are the clock
pub record AreTimed (t : EntityTables) (clock : ℤ) : Type 0 where
  pub facilities : pos t.facilities.passed ≡ clock
  pub storages : pos t.storages.passed ≡ clock
  pub queues : pos t.queues.passed ≡ clock
