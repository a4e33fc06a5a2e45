-- The figures of a model: what they are called, in the order of its parts.
use Rattle.std.specs.Prelude.{◌≡◌, Result, OnOk, Vec, ℕ, zero, suc, ◌+◌, ◌-◌, List, [], ◌∷◌, ◌++◌, map, codes, Bool, true, false, ℤ, pos, ◌+ℤ◌, ◌==◌}
use Rattle.std.specs.Prelude.{if◌then◌else◌}
use Rattle.std.specs.Fmt.{decimal, signed_decimal}
use Rattle.std.specs.Global.{Global}
use Rattle.gw_object.specs.declared.blocks.Block.{Block}
use Rattle.gw_object.specs.BlockGrammar.{block_word}
use Rattle.gw_object.specs.declared.parts.Entity.{Entity}
use Rattle.gw_object.specs.declared.parts.Kind.{Kind}
use Rattle.gw_object.specs.declared.parts.Kind.TheVariants as kinds
use Rattle.gw_object.specs.declared.parts.Parts.{Parts}
use Rattle.gw_object.specs.declared.parts.Table.{Table}
use Rattle.gw_figures.specs.declared.figure.Figure.{Figure}
use Rattle.gw_figures.specs.Values.{upper_limit}

-- a figure: what it is called, whether it is told where not all are asked for, whether it is an average,
-- and whether it is how many are there at a moment
pub record Label : Type 0 where
  pub name : List ℕ
  pub main : Bool
  pub average : Bool
  pub content : Bool

-- that of a figure
abbrev pub label_of : Figure → Label
label_of figure =
    record { name = figure.name.items; main = figure.main; average = figure.average; content = figure.content }

-- those of figures
abbrev pub labels : List Figure → List Label
labels figures = map label_of figures

-- where all went well, figures of these labels are added to others
abbrev pub AddsFigures : {E : Type 0} → Result (Unit {0}) E → Vec Figure Global → Vec Figure Global → List Label → Type 0
AddsFigures result old new added = OnOk result (labels new.items ≡ labels old.items ++ added)

-- a number that is always told; one that is told only among all; an average; and how many are there; each
-- by what it tells of and its own name
abbrev pub plain : List ℕ → List ℕ → Label
plain front what = record { name = front ++ what; main = true; average = false; content = false }

abbrev pub detail : List ℕ → List ℕ → Label
detail front what = record { name = front ++ what; main = false; average = false; content = false }

abbrev pub mean : List ℕ → List ℕ → Label
mean front what = record { name = front ++ what; main = true; average = true; content = false }

abbrev pub content : List ℕ → List ℕ → Label
content front what = record { name = front ++ what; main = true; average = false; content = true }

-- OF EACH KIND

-- of how the run ended
abbrev pub end_labels : List Label
end_labels =
    plain [] (codes "CLOCK") ∷ plain [] (codes "STEPS") ∷ plain [] (codes "ENTRIES")
    ∷ plain [] (codes "COUNT") ∷ []

-- what the figures of a block begin with
abbrev pub block_front : ℕ → Block → List ℕ
block_front i block = codes "BLOCK " ++ decimal (i + 1) ++ codes " " ++ block_word block ++ codes " "

-- of the block at a place, from 0
abbrev pub block_labels : ℕ → Block → List Label
block_labels i block =
    let front = block_front i block in
    detail front (codes "ENTRIES") ∷ detail front (codes "HERE") ∷ []

-- what the figures of an entity begin with
abbrev pub front_of : List ℕ → List ℕ → List ℕ
front_of word name = word ++ name ++ codes " "

-- of a facility
abbrev pub facility_labels : List ℕ → List Label
facility_labels front =
    plain front (codes "ENTRIES") ∷ content front (codes "WAIT") ∷ mean front (codes "UTIL")
    ∷ mean front (codes "TIME") ∷ []

-- of contents
abbrev pub contents_labels : List ℕ → List Label
contents_labels front =
    content front (codes "CONTENT") ∷ plain front (codes "MAX") ∷ plain front (codes "ENTRIES") ∷ []

-- of contents over time
abbrev pub stay_labels : List ℕ → List Label
stay_labels front = mean front (codes "AVG") ∷ mean front (codes "TIME") ∷ []

-- of a storage and a queue
abbrev pub storage_labels : List ℕ → List Label
storage_labels front = contents_labels front ++ content front (codes "WAIT") ∷ [] ++ stay_labels front

abbrev pub queue_labels : List ℕ → List Label
queue_labels front = contents_labels front ++ stay_labels front

-- the least value of a class of a table behind the first
abbrev pub least_value : Table → ℕ → ℤ
least_value t i = upper_limit t (i - 1) +ℤ pos 1

-- what the part of the first class is called, by its upper limit
abbrev pub first_class_text : ℤ → List ℕ
first_class_text limit = codes "TO " ++ signed_decimal limit ++ codes " SHARE"

-- what that of the last is called, by its least value
abbrev pub last_class_text : ℤ → List ℕ
last_class_text least = codes "FROM " ++ signed_decimal least ++ codes " SHARE"

-- what that of one between them is called, by both
abbrev pub class_between_text : ℤ → ℤ → List ℕ
class_between_text least limit =
    signed_decimal least ++ codes " TO " ++ signed_decimal limit ++ codes " SHARE"

-- what the part of a class is called, by its number, where so many are behind it
abbrev pub class_text : Table → ℕ → ℕ → List ℕ
class_text t i left =
    if i == 0 then first_class_text t.limit
    else if left == 0 then last_class_text (least_value t i)
    else class_between_text (least_value t i) (upper_limit t i)

-- of the classes of a table, of which the first has this number, and of which so many are left
unfoldable pub class_labels : Table → List ℕ → ℕ → ℕ → List Label
class_labels t front i zero = []
class_labels t front i (suc left) =
    plain front (class_text t i left) ∷ class_labels t front (i + 1) left

-- of all classes of a table
abbrev pub all_class_labels : Table → List ℕ → List Label
all_class_labels t front = class_labels t front 0 t.classes

-- of a table
abbrev pub table_labels : Table → List ℕ → List Label
table_labels t front =
    plain front (codes "COUNT") ∷ plain front (codes "SUM") ∷ mean front (codes "MEAN")
    ∷ plain front (codes "P50") ∷ plain front (codes "P90") ∷ plain front (codes "P95")
    ∷ all_class_labels t front

-- of an entity of this kind and this name
abbrev pub kind_labels : Kind → List ℕ → List Label
kind_labels kinds.Facility name = facility_labels (front_of (codes "FACILITY ") name)
kind_labels (kinds.Storage capacity) name = storage_labels (front_of (codes "STORAGE ") name)
kind_labels kinds.Queue name = queue_labels (front_of (codes "QUEUE ") name)
kind_labels (kinds.Switch set) name = detail (front_of (codes "SWITCH ") name) (codes "SET") ∷ []
kind_labels (kinds.Savevalue value) name =
    plain (front_of (codes "SAVEVALUE ") name) (codes "VALUE") ∷ []
kind_labels (kinds.Table t) name = table_labels t (front_of (codes "TABLE ") name)
kind_labels kinds.Chain name = detail (front_of (codes "CHAIN ") name) (codes "CONTENT") ∷ []
kind_labels (kinds.Variable procedure) name = []
kind_labels (kinds.BooleanVariable procedure) name = []
kind_labels (kinds.Function operands) name = []

-- OF A MODEL

-- those of these blocks, the first of which is at this place
unfoldable pub blocks_labels : ℕ → List Block → List Label
blocks_labels i [] = []
blocks_labels i (block ∷ rest) = block_labels i block ++ blocks_labels (i + 1) rest

-- those of these entities
unfoldable pub entities_labels : List Entity → List Label
entities_labels [] = []
entities_labels (entity ∷ rest) = kind_labels entity.kind entity.name ++ entities_labels rest

-- all of a model, in the order of its parts
abbrev pub labels_of : Parts → List Label
labels_of parts = end_labels ++ blocks_labels 0 parts.blocks ++ entities_labels parts.entities
