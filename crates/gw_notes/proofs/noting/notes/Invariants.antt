-- Each note so far says what is so.
use Rattle.std.proofs.Common.{All}
use Rattle.gw_notes.specs.Notes.{Holds}
use Rattle.gw_notes.proofs.noting.notes.Given as goal

abbrev pub invariant-loop-number : goal.invariant-loop-number
invariant-loop-number l = All (Holds l.parts) l.notes.items

abbrev pub invariant-loop-number-2 : goal.invariant-loop-number-2
invariant-loop-number-2 l = All (Holds l.parts) l.notes.items

abbrev pub invariant-loop-place : goal.invariant-loop-place
invariant-loop-place l = All (Holds l.parts) l.notes.items
