-- A GENERATE that owes an arrival: what it comes to by the moment that was drawn for that.
use Rattle.std.proofs.Common.{◌≡◌, ℕ, ◌+◌, ℤ, List, true, refl}
use Rattle.gw_object.specs.declared.blocks.Generate.{Generate}
use Rattle.gw_object.specs.declared.blocks.Block.TheVariants as blocks
use Rattle.gw_num.specs.Table.{at}
use Rattle.gw_object.specs.declared.parts.Parts.{Parts}
use Rattle.gw_transactions.specs.declared.Transaction.{Transaction}
use Rattle.gw_step.specs.Blocks.{leads, is_owed, within_live_limit, stays, then_placed, act, effect}
use Rattle.gw_step.specs.Changes.{arrives, enters_and_falls}
use Rattle.gw_step.specs.Outcome.{Outcome, Gives, ◌>>=◌}
use Rattle.gw_step.specs.State.{State, with_streams}
use Rattle.gw_step.specs.Times.{environment_of_next, drawn_moment}

module _ (p : Parts) (n : ℕ) (t : Transaction) (g : Generate) (s : State) where
  -- the arrival is scheduled for the moment, if so many more may live, and the transaction enters
  abbrev pub arriving : Outcome (ℤ × List ℕ) → Outcome State
  arriving o =
      then_placed n
      (o >>= (λ d. within_live_limit 1 s (Gives (arrives t.next g.priority d.0 (with_streams d.1 s)))) >>= λ after.
      leads p.blocks (t.next + 1) (stays (enters_and_falls n (record t { mark = s.clock }) after)))

  pub act-generate : (o : Outcome (ℤ × List ℕ)) → is_owed g.limit (at 0 s.scheduled t.next) ≡ true
      → drawn_moment p (environment_of_next g.priority s) g.interval s.clock s.streams ≡ o → act p n t (blocks.Generate g) s ≡ arriving o
  unfolding act effect
  act-generate o owed is = rw (owed, is) refl
