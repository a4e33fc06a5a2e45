use Rattle.std.proofs.Common.{◌≡◌, ◌++◌, List, ℕ, drop, None}
use Rattle.gw_object.specs.declared.parts.Entity.{Entity}
use Rattle.gw_names.specs.Known.{found_in}
use Rattle.gw_names.specs.Places.{last_of}
use Rattle.gw_pieces.specs.Notes.{NotesMissing}
use Rattle.gw_pieces.specs.Reasons.{EntityMissing}
use Rattle.gw_names.specs.Numbers.{numbers_of}
use Rattle.gw_pieces.specs.Entities.{savevalues_in, switches_in, AreSightedAs}
use Rattle.gw_pieces.proofs.entities.entities_of.Given as goal

-- where nothing is noted, the entities so far are those sighted so far
abbrev pub invariant-loop-number : goal.invariant-loop-number
invariant-loop-number l = record {
  savevalues : (x : List ℕ) → found_in l.initials.savevalues x ≡ last_of (savevalues_in l.plan.text.now.statements.items) x;
  switches : (x : List ℕ) → found_in l.initials.switches x ≡ last_of (switches_in l.plan.text.now.statements.items) x;
  clear : l.ledger.least ≡ None → l.fn.ledger.least ≡ None;
  entities : l.ledger.least ≡ None → (rest : List Entity)
      → AreSightedAs (numbers_of l.plan.names) l.plan.order.items l.plan.text.now.statements.items (drop l.number l.plan.sighted.items)
      rest → AreSightedAs (numbers_of l.plan.names) l.plan.order.items l.plan.text.now.statements.items l.plan.sighted.items (l.entities.items ++ rest);
  notes : NotesMissing (EntityMissing (numbers_of l.plan.names) l.plan.order.items l.plan.text.now.statements.items l.plan.sighted.items)
      l.fn.ledger.least l.ledger.least;
}
