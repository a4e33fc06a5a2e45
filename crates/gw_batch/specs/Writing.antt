-- What is written of a batch, part by part.
use Rattle.std.specs.Prelude.{◌≡◌, ℕ, List, ◌++◌, Option, Bool, true, ◌||◌, Result, Ok, Err}
use Rattle.std.specs.Io.KnownBytes.{Appends, Keeps}
use Rattle.gw_console.specs.declared.fault.ProgramFault.{ProgramFault}
use Rattle.gw_console.specs.declared.fault.ProgramFault.TheVariants.{Read, Write, Memory}
use Rattle.gw_console.specs.Output.{AppendsFront}
use Rattle.gw_batch.specs.Batch.{Entry}
use Rattle.gw_batch.specs.Parts.{AreParts, IsBatchTold}

-- THE WHOLE

-- known bytes grow by all that is told of a batch
abbrev pub WritesBatch : List Entry → ℕ → Option (List ℕ) → Option (List ℕ) → Type 0
WritesBatch es status old new = (text : List ℕ) × IsBatchTold es text status × Appends old new text

-- known bytes grow by a front of what is told of a batch
abbrev pub WritesFront : List Entry → Option (List ℕ) → Option (List ℕ) → Type 0
WritesFront es old new = (text : List ℕ) × (status : ℕ) × IsBatchTold es text status × AppendsFront old new text

-- why not all is written: since a write failed, behind a front; or since memory ran out, before anything was written
abbrev pub IsLeft : List Entry → Option (List ℕ) → Option (List ℕ) → ProgramFault → Type 0
IsLeft es old new Write = WritesFront es old new
IsLeft es old new Memory = Keeps old new
IsLeft es old new Read = ⊥

-- a write is said to have failed where one did, and memory to have run out where none did
abbrev pub TellsWrites : {X : Type 0} → Result X ProgramFault → Bool → Bool → Type 0
TellsWrites (Ok x) before after = after ≡ before
TellsWrites (Err Write) before after = after ≡ true
TellsWrites (Err Memory) before after = after ≡ before
TellsWrites (Err Read) before after = ⊥

-- STAGES

-- how far a batch is told: the number of the next entry, and whether one before it was refused
pub record Telling : Type 0 where
  pub number : ℕ
  pub refused : Bool

abbrev pub telling_of : ℕ → Bool → Telling
telling_of n r = record { number = n; refused = r }

-- a stage of a batch: how far it is told, the entries that wait, and the bytes that the writer holds
pub record Stage : Type 0 where
  pub telling : Telling
  pub waiting : List Entry
  pub held : Option (List ℕ)

abbrev pub stage : Telling → List Entry → Option (List ℕ) → Stage
stage t es held = record { telling = t; waiting = es; held = held }

-- from one stage to another parts are written, behind which stand those of the entries that wait still
pub record Advances (a b : Stage) : Type 0 where
  pub text : List ℕ
  pub other : Bool
  pub written : Appends a.held b.held text
  pub refused : b.telling.refused ≡ a.telling.refused || other
  pub behind : (later : List ℕ) (others : Bool) → AreParts b.telling.number b.waiting later others
      → AreParts a.telling.number a.waiting (text ++ later) (other || others)

-- from a stage on a front of parts is written
abbrev pub Halts : Stage → Option (List ℕ) → Type 0
Halts a new = (text : List ℕ) × (other : Bool) × AreParts a.telling.number a.waiting text other × AppendsFront a.held new text

-- why no other stage is reached: since a write failed; or since memory ran out, at the first entry
abbrev pub Stops : Stage → Option (List ℕ) → ProgramFault → Type 0
Stops a new Write = Halts a new
Stops a new Memory = (a.telling.number ≡ 0) × Keeps a.held new
Stops a new Read = ⊥
