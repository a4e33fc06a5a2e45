-- The text of a report: one line per item, words separated by one space, each ended by LF.
use Rattle.std.specs.Prelude.{◌≡◌, ℕ, ◌+◌, List, [], ◌∷◌, ◌++◌, codes, unsigned_abs}
use Rattle.std.specs.Fmt.{decimal, signed_decimal}
use Rattle.std.specs.Int.{from_bool}
use Rattle.std.specs.Option.{unwrap_or}
use Rattle.gw_object.specs.declared.blocks.Block.{Block}
use Rattle.gw_object.specs.BlockGrammar.{block_word}
use Rattle.gw_object.specs.declared.parts.Entity.{Entity}
use Rattle.gw_object.specs.declared.parts.Kind.{Kind}
use Rattle.gw_object.specs.declared.parts.Kind.TheVariants as kinds
use Rattle.gw_entities.specs.declared.average.Average.{Average}
use Rattle.gw_entities.specs.declared.contents.Contents.{Contents}
use Rattle.gw_entities.specs.declared.facilities.Facility.{Facility}
use Rattle.gw_entities.specs.Average.{average}
use Rattle.gw_step.specs.declared.ends.End.TheVariants.{Done, Number, ZeroDivisor, NegativeTime, LoopLimit, NoMoreEvents, Budget, Live}
use Rattle.gw_step.specs.State.{State}
use Rattle.gw_scan.specs.declared.sim.Status.{Status}
use Rattle.gw_scan.specs.declared.sim.Status.TheVariants.{Running, Ended}
use Rattle.gw_step.specs.Job.{Job, Progress, Alone, IsFinal}
use Rattle.gw_object.specs.declared.parts.Parts.{Parts}
use Rattle.gw_writing.specs.Decimals.{behind_point}
use Rattle.gw_report.specs.Figures.{Figures, block_at, entity_at, classes_at, figures_of}

-- how a job stands: the name of its end, if one stands
abbrev pub status_word : Status → List ℕ
status_word Running = codes "Running"
status_word (Ended Done) = codes "Done"
status_word (Ended Number) = codes "Number"
status_word (Ended ZeroDivisor) = codes "ZeroDivisor"
status_word (Ended NegativeTime) = codes "NegativeTime"
status_word (Ended LoopLimit) = codes "LoopLimit"
status_word (Ended NoMoreEvents) = codes "NoMoreEvents"
status_word (Ended Budget) = codes "Budget"
status_word (Ended Live) = codes "Live"

-- the entries of all blocks, and the termination count
abbrev pub counts : Figures → List ℕ
counts f = codes " ENTRIES " ++ decimal f.entries ++ codes " COUNT " ++ signed_decimal f.count

-- how the job stands, the clock, the steps and the counts
abbrev pub end_line : Figures → List ℕ
end_line f =
    codes "END " ++ status_word f.status ++ codes " CLOCK " ++ signed_decimal f.clock ++ codes " STEPS " ++ decimal f.steps
    ++ counts f ++ codes "\n"

-- the block at a place, from 0: its number, its word, its entries, and the live transactions whose current block it is
abbrev pub block_line : Figures → ℕ → Block → List ℕ
block_line f i block =
    codes "BLOCK " ++ decimal (i + 1) ++ codes " " ++ block_word block ++ codes " " ++ decimal (block_at i f).entries ++ codes " "
    ++ decimal (block_at i f).here ++ codes "\n"

-- the lines of these blocks, the first of which is at this place
unfoldable pub block_lines : Figures → ℕ → List Block → List ℕ
block_lines f i [] = []
block_lines f i (block ∷ rest) = block_line f i block ++ block_lines f (i + 1) rest

-- an average: its whole part and the three digits of its thousandths
abbrev pub average_text : Average → List ℕ
average_text a = decimal a.whole ++ behind_point 3 a.thousandths

-- an average of this whole part and so many thousandths
abbrev pub quotient_text : ℕ → ℕ → List ℕ
quotient_text whole thousandths = average_text (record { whole = whole; thousandths = thousandths })

-- the average over the clock of what sums up to this
abbrev pub average_so_far : ℕ → Figures → List ℕ
average_so_far time_sum f = average_text (average time_sum (unsigned_abs f.clock))

-- how often a facility was seized, and the number of the transaction that owns it: 0 where nobody does
abbrev pub ownership_text : Facility → List ℕ
ownership_text f = codes " ENTRIES " ++ decimal f.entries ++ codes " OWNER " ++ decimal (unwrap_or f.owner 0)

-- the units that are inside, the most that were at one moment, and those that came in
abbrev pub contents_text : Contents → List ℕ
contents_text c =
    codes " CONTENT " ++ decimal c.content ++ codes " MAX " ++ decimal c.maximum ++ codes " ENTRIES " ++ decimal c.entries

-- the facility of a number and a name: its entries and owner, its waiters, and its utilisation
abbrev pub facility_line : Figures → ℕ → List ℕ → List ℕ
facility_line f e name =
    let here = entity_at e f in
    codes "FACILITY " ++ name ++ ownership_text here.facility ++ codes " WAIT " ++ decimal here.waiting ++ codes " UTIL "
    ++ average_so_far here.facility.busy f ++ codes "\n"

-- the storage of a number and a name: its capacity, what is inside, its waiters, and its average content
abbrev pub storage_line : Figures → ℕ → List ℕ → List ℕ
storage_line f e name =
    let here = entity_at e f in
    codes "STORAGE " ++ name ++ codes " CAP " ++ decimal here.storage.capacity ++ contents_text here.storage.contents
    ++ codes " WAIT " ++ decimal here.waiting ++ codes " AVG " ++ average_so_far here.storage.contents.time_sum f ++ codes "\n"

-- the queue of a number and a name: what is inside, and its average content
abbrev pub queue_line : Figures → ℕ → List ℕ → List ℕ
queue_line f e name =
    let queue = (entity_at e f).queue in
    codes "QUEUE " ++ name ++ contents_text queue ++ codes " AVG " ++ average_so_far queue.time_sum f ++ codes "\n"

-- the logic switch of a number and a name: 1 where it is set, 0 where it is reset
abbrev pub switch_line : Figures → ℕ → List ℕ → List ℕ
switch_line f e name = codes "SWITCH " ++ name ++ codes " " ++ decimal (from_bool (entity_at e f).switch) ++ codes "\n"

-- the savevalue of a number and a name: its value
abbrev pub savevalue_line : Figures → ℕ → List ℕ → List ℕ
savevalue_line f e name = codes "SAVEVALUE " ++ name ++ codes " " ++ signed_decimal (entity_at e f).savevalue ++ codes "\n"

-- a class of a table: its number, and how many values it has
abbrev pub class_line : ℕ → ℕ → List ℕ
class_line i values = codes "CLASS " ++ decimal i ++ codes " " ++ decimal values ++ codes "\n"

-- the lines of these classes, the first of which has this number
unfoldable pub class_lines : ℕ → List ℕ → List ℕ
class_lines i [] = []
class_lines i (values ∷ rest) = class_line i values ++ class_lines (i + 1) rest

-- the table of a number and a name: how many values were entered, their sum, and its classes
abbrev pub table_lines : Figures → ℕ → List ℕ → List ℕ
table_lines f e name =
    let table = (entity_at e f).table in
    codes "TABLE " ++ name ++ codes " COUNT " ++ decimal table.count ++ codes " SUM " ++ signed_decimal table.sum ++ codes "\n"
    ++ class_lines 0 (classes_at e f)

-- the user chain of a number and a name: how many members it has
abbrev pub chain_line : Figures → ℕ → List ℕ → List ℕ
chain_line f e name = codes "CHAIN " ++ name ++ codes " CONTENT " ++ decimal (entity_at e f).members ++ codes "\n"

-- a variable or a function has no line
abbrev pub no_line : Figures → ℕ → List ℕ → List ℕ
no_line f e name = []

-- the lines of an entity of this kind, by its number and its name
abbrev pub lines_of_kind : Kind → Figures → ℕ → List ℕ → List ℕ
lines_of_kind kinds.Facility = facility_line
lines_of_kind (kinds.Storage capacity) = storage_line
lines_of_kind kinds.Queue = queue_line
lines_of_kind (kinds.Switch set) = switch_line
lines_of_kind (kinds.Savevalue value) = savevalue_line
lines_of_kind (kinds.Table operands) = table_lines
lines_of_kind kinds.Chain = chain_line
lines_of_kind (kinds.Variable procedure) = no_line
lines_of_kind (kinds.BooleanVariable procedure) = no_line
lines_of_kind (kinds.Function operands) = no_line

-- the lines of an entity, by its number
abbrev pub lines_of : Figures → ℕ → Entity → List ℕ
lines_of f e entity = lines_of_kind entity.kind f e entity.name

-- the lines of these entities, the first of which has this number
unfoldable pub entity_lines : Figures → ℕ → List Entity → List ℕ
entity_lines f e [] = []
entity_lines f e (entity ∷ rest) = lines_of f e entity ++ entity_lines f (e + 1) rest

-- the report text of figures of a job of these parts
abbrev pub report_text : Parts → Figures → List ℕ
report_text parts f = end_line f ++ block_lines f 0 parts.blocks ++ entity_lines f 0 parts.entities

-- the report text of a job and its state
abbrev pub report_of : Progress → List ℕ
report_of p = report_text p.job.parts (figures_of p)

-- the report of the final state that the lone run reaches
pub record Ends (j : Job) (text : List ℕ) : Type 0 where
  pub steps : ℕ
  pub state : State
  pub alone : Alone j steps state
  pub final : IsFinal state
  pub report : text ≡ report_of (record { job = j; state = state })
