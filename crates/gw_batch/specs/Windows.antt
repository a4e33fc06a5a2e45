-- What is written of a batch, window by window.
use Rattle.std.specs.Prelude.{◌≡◌, ℕ, ◌+◌, List, [], length, map, Result, OnOk, IfErr}
use Rattle.gw_streams.specs.Streams.{Sink}
use Rattle.gw_console.specs.declared.fault.ProgramFault.{ProgramFault}
use Rattle.gw_batch.specs.declared.entry.Entry.{Entry as StoredEntry}
use Rattle.gw_batch.specs.declared.ticket.Ticket.{Ticket}
use Rattle.gw_batch.specs.declared.waiting.Waiting.{Waiting}
use Rattle.gw_batch.specs.Batch.{Entry, entry_of}
use Rattle.gw_batch.specs.Tickets.{StartWith}
use Rattle.gw_batch.specs.Waiting.{waiting_entry}
use Rattle.gw_batch.specs.Writing.{Telling, Stage, stage, Advances, Halts, Stops, WritesBatch}

-- the writer has all that is told of a batch of these entries
abbrev pub WritesEntries : List StoredEntry → Sink → Sink → ℕ → Type 0
WritesEntries es old new status = WritesBatch (map entry_of es) status old.held new.held

-- the stage at which these entries wait
abbrev pub stage_of : Telling → List Waiting → Sink → Stage
stage_of telling waiting writer = stage telling (map waiting_entry waiting) writer.held

-- the entries that wait, of which the first has this number, begin with those of these tickets, and the others wait still
abbrev pub Submits : ℕ → List Waiting → List Waiting → List Ticket → Type 0
Submits first old new tickets = StartWith first (map waiting_entry old) tickets (map waiting_entry new)

module _ {A : Type 0} (result : Result A ProgramFault) (old : Telling) where
  -- unless there is a fault, parts are written up to where others wait
  abbrev pub Tells : Telling → List Waiting → List Waiting → Sink → Sink → Type 0
  Tells new waiting others before after = OnOk result (Advances (stage_of old waiting before) (stage_of new others after))

  -- or up to the last
  abbrev pub TellsAll : Telling → List Waiting → Sink → Sink → Type 0
  TellsAll new waiting before after = OnOk result (Advances (stage_of old waiting before) (stage new [] after.held))

  -- and there are as many entries still: those that are told, and those that wait
  abbrev pub KeepsCount : Telling → List Waiting → List Waiting → Type 0
  KeepsCount new waiting others = OnOk result (new.number + length others ≡ old.number + length waiting)

  -- a fault is why no other stage is reached
  abbrev pub StopsAt : List Waiting → Sink → Sink → Type 0
  StopsAt waiting before after = IfErr result (Stops (stage_of old waiting before) after.held)

  -- of entries that begin with those of these tickets: unless there is a fault, the parts of those are written
  abbrev pub TellsTickets : Telling → List Ticket → Sink → Sink → Type 0
  TellsTickets new tickets before after =
      (es rest : List Entry) → StartWith old.number es tickets rest → OnOk result (Advances (stage old es before.held) (stage new rest after.held))

  -- at a fault a front of them is
  abbrev pub HaltsAtTickets : List Ticket → Sink → Sink → Type 0
  HaltsAtTickets tickets before after =
      (es rest : List Entry) → StartWith old.number es tickets rest → IfErr result (λ _. Halts (stage old es before.held) after.held)

  -- and a fault is why no more is
  abbrev pub StopsAtTickets : List Ticket → Sink → Sink → Type 0
  StopsAtTickets tickets before after =
      (es rest : List Entry) → StartWith old.number es tickets rest → IfErr result (Stops (stage old es before.held) after.held)
