-- The values of the figures of a window, in millionths: none where nothing can be told.
use Rattle.std.specs.Prelude.{ℕ, zero, suc, ◌+◌, ◌-◌, ◌*◌, ◌<◌, ◌≤◌, nat_le, nat_lt, ◌==◌, List, [], ◌∷◌, ◌++◌, map, length, sum, take, ℤ, pos, ◌+ℤ◌}
use Rattle.std.specs.Prelude.{◌-ℤ◌, Option, None, if◌then◌else◌}
use Rattle.std.specs.Int.{from_bool}
use Rattle.gw_object.specs.declared.parts.Entity.{Entity}
use Rattle.gw_object.specs.declared.parts.Kind.{Kind}
use Rattle.gw_object.specs.declared.parts.Kind.TheVariants as kinds
use Rattle.gw_object.specs.declared.parts.Parts.{Parts}
use Rattle.gw_object.specs.declared.parts.Table.{Table}
use Rattle.gw_entities.specs.declared.contents.Contents.{Contents}
use Rattle.gw_report.specs.declared.entries.TableFigures.{TableFigures}
use Rattle.gw_report.specs.Figures.{block_at, entity_at, classes_at}
use Rattle.gw_figures.specs.Windows.{Span, span_length, units, signed_units, rise, quotient, signed_quotient, greatest, rises}

-- PERCENTILES

-- the place of the first class up to which the classes hold as much as this, where each value counts
-- as a hundred; how many classes there are where they don't
unfoldable pub class_reaching : ℕ → List ℕ → ℕ
class_reaching left [] = 0
class_reaching left (values ∷ rest) =
    if nat_le left (100 * values) then 0 else class_reaching (left - 100 * values) rest + 1

-- the upper limit of a class of a table, by its number
abbrev pub upper_limit : Table → ℕ → ℤ
upper_limit t i = t.limit +ℤ pos (i * t.width)

-- the upper limit of the class of a number, of so many; the last has none
abbrev pub limit_of : Table → ℕ → ℕ → Option ℤ
limit_of t classes i = if nat_lt (i + 1) classes then signed_units (upper_limit t i) else None

-- a percentile of so many values of a table: the upper limit of the first class up to which so many of
-- a hundred of them lie; none of no value, and of the last class
abbrev pub percentile : Table → ℕ → ℕ → List ℕ → Option ℤ
percentile t percent count classes =
    if count == 0 then None
    else limit_of t (length classes) (class_reaching (percent * count) classes)

-- which part of so many values each class has
abbrev pub shares : ℕ → List ℕ → List (Option ℤ)
shares count classes = map (λ values. quotient values count) classes

-- OF EACH KIND

-- of how the run ended: the clock units of the window, its steps and entries, and what is left to count
abbrev pub end_values : Span → List (Option ℤ)
end_values w =
    units (span_length w) ∷ rise w.start.steps w.end.steps ∷ rise w.start.entries w.end.entries
    ∷ signed_units w.end.count ∷ []

-- of the block at a place, from 0: its entries, and how many are in it at the end
abbrev pub block_values : Span → ℕ → List (Option ℤ)
block_values w i =
    rise (block_at i w.start).entries (block_at i w.end).entries ∷ units (block_at i w.end).here ∷ []

-- of a facility: its entries, who waits at the end, which part of the time it was owned, and for how
-- long by one entry
abbrev pub facility_values : Span → ℕ → List (Option ℤ)
facility_values w e =
    let before = (entity_at e w.start).facility in
    let after = (entity_at e w.end).facility in
    rise before.entries after.entries ∷ units (entity_at e w.end).waiting
    ∷ quotient (after.busy - before.busy) (span_length w)
    ∷ quotient (after.busy - before.busy) (after.entries - before.entries) ∷ []

-- of contents over time: their average, and how long each unit stayed
abbrev pub stay_values : Span → Contents → Contents → List (Option ℤ)
stay_values w before after =
    quotient (after.time_sum - before.time_sum) (span_length w)
    ∷ quotient (after.time_sum - before.time_sum) (after.entries - before.entries) ∷ []

-- of contents: those at the end, the most at one moment, and the units that came in
abbrev pub contents_values : Span → Contents → Contents → List (Option ℤ)
contents_values w before after =
    units after.content ∷ greatest w after.maximum ∷ rise before.entries after.entries ∷ []

-- of a storage: its contents, who waits at the end, and its contents over time
abbrev pub storage_values : Span → ℕ → List (Option ℤ)
storage_values w e =
    let before = (entity_at e w.start).storage.contents in
    let after = (entity_at e w.end).storage.contents in
    contents_values w before after ++ units (entity_at e w.end).waiting ∷ []
    ++ stay_values w before after

-- of a queue: its contents, and those over time
abbrev pub queue_values : Span → ℕ → List (Option ℤ)
queue_values w e =
    let before = (entity_at e w.start).queue in
    let after = (entity_at e w.end).queue in
    contents_values w before after ++ stay_values w before after

-- of the sums of a table: how many values it got, their sum, and their mean
abbrev pub sum_values : TableFigures → TableFigures → List (Option ℤ)
sum_values before after =
    units (after.count - before.count) ∷ signed_units (after.sum -ℤ before.sum)
    ∷ signed_quotient (after.sum -ℤ before.sum) (after.count - before.count) ∷ []

-- of the classes of a table with so many values: percentiles, and the part of each class
abbrev pub classes_values : Table → ℕ → List ℕ → List (Option ℤ)
classes_values t count classes =
    percentile t 50 count classes ∷ percentile t 90 count classes ∷ percentile t 95 count classes
    ∷ shares count classes

-- of a table
abbrev pub table_values : Table → Span → ℕ → List (Option ℤ)
table_values t w e =
    let before = (entity_at e w.start).table in
    let after = (entity_at e w.end).table in
    sum_values before after
    ++ classes_values t (after.count - before.count) (rises t.classes (classes_at e w.start) (classes_at e w.end))

-- of an entity of this kind and this number
abbrev pub kind_values : Kind → Span → ℕ → List (Option ℤ)
kind_values kinds.Facility w e = facility_values w e
kind_values (kinds.Storage capacity) w e = storage_values w e
kind_values kinds.Queue w e = queue_values w e
kind_values (kinds.Switch set) w e = units (from_bool (entity_at e w.end).switch) ∷ []
kind_values (kinds.Savevalue value) w e = signed_units (entity_at e w.end).savevalue ∷ []
kind_values (kinds.Table t) w e = table_values t w e
kind_values kinds.Chain w e = units (entity_at e w.end).members ∷ []
kind_values (kinds.Variable procedure) w e = []
kind_values (kinds.BooleanVariable procedure) w e = []
kind_values (kinds.Function operands) w e = []

-- OF A RUN

-- those of so many blocks, the first of which is at this place
unfoldable pub blocks_values : Span → ℕ → ℕ → List (Option ℤ)
blocks_values w i zero = []
blocks_values w i (suc left) = block_values w i ++ blocks_values w (i + 1) left

-- those of these entities, the first of which has this number
unfoldable pub entities_values : Span → ℕ → List Entity → List (Option ℤ)
entities_values w e [] = []
entities_values w e (entity ∷ rest) = kind_values entity.kind w e ++ entities_values w (e + 1) rest

-- all of a window, in the order of the model's parts
abbrev pub values_of : Parts → Span → List (Option ℤ)
values_of parts w =
    end_values w ++ blocks_values w 0 (length parts.blocks) ++ entities_values w 0 parts.entities

-- LAWS

-- the place of the class in which a part of the values is reached: there, as many are in the classes
-- up to it, and before it fewer
pub record IsClassReaching (goal : ℕ) (classes : List ℕ) (i : ℕ) : Type 0 where
  pub reached : i < length classes → goal ≤ 100 * sum (take (i + 1) classes)
  pub before : (k : ℕ) → k < i → 100 * sum (take (k + 1) classes) < goal

-- the class up to which a percentile lies is the first in which so many of a hundred values are reached
abbrev pub PercentilesAreOfFirstClasses : Type 0
PercentilesAreOfFirstClasses =
    (goal : ℕ) (classes : List ℕ) → IsClassReaching goal classes (class_reaching goal classes)
