-- The tables of entities: as they begin, and what time makes of them.
use Rattle.std.proofs.Common.{◌≡◌, ℕ, ◌-ℤ◌, pos, List, length, refl, sym, ap, ◌∙◌, subst, arith}
use Rattle.std.specs.Prelude.{ℤ, Bool}
use Rattle.std.proofs.lemmas.Int.{ints}
use Rattle.std.proofs.lemmas.List.{length-map}
use Rattle.gw_object.specs.declared.parts.Entity.{Entity}
use Rattle.gw_object.specs.declared.parts.Parts.{Parts}
use Rattle.gw_object.specs.Entities.{capacity_of}
use Rattle.gw_entities.specs.declared.facilities.Facility.{Facility}
use Rattle.gw_entities.specs.declared.storages.Storage.{Storage}
use Rattle.gw_entities.specs.declared.contents.Contents.{Contents}
use Rattle.gw_entities.specs.Contents.{empty}
use Rattle.gw_entities.specs.Facility.{idle, facility_after}
use Rattle.gw_entities.specs.Storage.{vacant}
use Rattle.gw_entities.specs.Numbered.{ByNumber}
use Rattle.gw_entities.specs.Table.{initial_setting, initial_value, nothing_entered}
use Rattle.gw_entities.specs.Tabulation.{Tabulation}
use Rattle.gw_step.specs.Numbers.{AreWhole}
use Rattle.gw_step.specs.Start.{nothing}
use Rattle.gw_machine.specs.EntityTables.{AreAtStart, AreTimed, states_of, tables_after}
use Rattle.gw_machine.specs.declared.entity_tables.EntityTables.{EntityTables}

-- AT THE START

pub states-at_start : (p : Parts) (count : ℕ) (streams : List ℕ) (t : EntityTables) → AreAtStart p.entities t → states_of t ≡ (nothing p count streams).entities
states-at_start p count streams t b =
    let f = ap (λ (x : ByNumber Facility). x.values) b.facilities in
    let s = ap (λ (x : ByNumber Storage). x.values) b.storages in
    let q = ap (λ (x : ByNumber Contents). x.values) b.queues in
    rw (f, s, q, b.switches, b.savevalues, b.tables) refl

pub whole-at_start : (es : List Entity) (t : EntityTables) → AreAtStart es t → AreWhole (length es) (states_of t)
whole-at_start es t b = record {
  facilities = ap (λ (x : ByNumber Facility). length x.values) b.facilities ∙ length-map es (λ _. idle);
  storages = ap (λ (x : ByNumber Storage). length x.values) b.storages ∙ length-map es (λ (e : Entity). vacant (capacity_of e.kind));
  queues = ap (λ (x : ByNumber Contents). length x.values) b.queues ∙ length-map es (λ _. empty);
  switches = ap (λ (xs : List Bool). length xs) b.switches ∙ length-map es (λ (e : Entity). initial_setting e.kind);
  savevalues = ap (λ (xs : List ℤ). length xs) b.savevalues ∙ length-map es (λ (e : Entity). initial_value e.kind);
  tables = ap (λ (xs : List Tabulation). length xs) b.tables ∙ length-map es (λ (e : Entity). nothing_entered e.kind);
}

pub timed-at_start : (es : List Entity) (t : EntityTables) → AreAtStart es t → AreTimed t (pos 0)
timed-at_start es t b = record { facilities = rw b.facilities refl; storages = rw b.storages refl; queues = rw b.queues refl }

-- TIME

timed-after : (t : EntityTables) (dt : ℕ) (clock time : ℤ) → pos dt ≡ time -ℤ clock → AreTimed t clock → AreTimed (tables_after dt t) time
timed-after t dt clock time is h = record {
  facilities = omega (arith, ints, h.facilities, is);
  storages = omega (arith, ints, h.storages, is);
  queues = omega (arith, ints, h.queues, is);
}

module _ (t new : EntityTables) (dt : ℕ) (is : new ≡ tables_after dt t) where
  pub count-passed : length new.facilities.values ≡ length t.facilities.values
  count-passed = ap (λ (x : EntityTables). length x.facilities.values) is ∙ length-map t.facilities.values (facility_after dt)

  pub timed-passed : (clock time : ℤ) → pos dt ≡ time -ℤ clock → AreTimed t clock → AreTimed new time
  timed-passed clock time passed h = subst (λ (x : EntityTables). AreTimed x time) (sym is) (timed-after t dt clock time passed h)
