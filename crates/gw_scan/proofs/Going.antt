-- How a transaction with two next blocks goes on, and what that takes to undo.
use Rattle.std.proofs.Common.{◌≡◌, ℕ, List, Some, None, Bool, true, false, if◌then◌else◌, ◌==◌, refl, ap, ◌∙◌}
use Rattle.std.specs.Option.{option_map_or}
use Rattle.std.proofs.lemmas.Bool.{eqb-true}
use Rattle.gw_object.specs.declared.parts.Parts.{Parts}
use Rattle.gw_rules.specs.Kinds.{block_at}
use Rattle.gw_transactions.specs.declared.Transaction.{Transaction}
use Rattle.gw_transactions.specs.Transactions.{attributes_at}
use Rattle.gw_machine.specs.Configuration.{Configuration}
use Rattle.gw_machine.specs.View.{state_of}
use Rattle.gw_machine.proofs.Turning.{turned-found, turned-back}
use Rattle.gw_step.specs.State.{State, with_streams}
use Rattle.gw_step.specs.Turning.{choice_of, towards, turn_to, two_next}
use Rattle.gw_scan.proofs.Visits.{active_in}
use Rattle.gw_scan.specs.Trying.{HasTurned, active_back, turned_back, undo_from}
use Rattle.gw_scan.specs.Visiting.{IsVisit}
use Rattle.gw_scan.specs.declared.both.Before.{Before}
use Rattle.gw_scan.specs.declared.visit.Visit.{Visit}

-- who has two next blocks is in the block that is its next one
pub stays_at : (p : Parts) (t : Transaction) (pair : ℕ × ℕ) → two_next p t ≡ Some pair → t.current ≡ t.next
stays_at p t pair is = by (t.current == t.next) refl is
  where
    by : (same : Bool) → (t.current == t.next) ≡ same → (if same then choice_of t.next (block_at p.blocks t.next) else None) ≡ Some pair → t.current ≡ t.next
    by true same is = eqb-true t.current t.next same
    by false same is = absurd cc

module _ (n : ℕ) (t : Transaction) (to : ℕ) (s : State) (active : s.lists.active ≡ Some n)
    (found : attributes_at n s.transactions ≡ Some t) (stays : t.current ≡ t.next) where
  -- who has turned has both its next blocks again
  back : active_back (turn_to n t to s) ≡ s
  back =
      ap (λ o. option_map_or (λ m. turned_back m (turn_to n t to s)) o (turn_to n t to s)) active
      ∙ ap (λ o. option_map_or (λ u. turn_to n u u.current (turn_to n t to s)) o (turn_to n t to s)) (turned-found n t to s found)
      ∙ ap (λ b. turn_to n (towards to t) b (turn_to n t to s)) stays
      ∙ turned-back n t to s found

-- what a turn did is undone
pub turn-undone : (v : Visit) (pair : ℕ × ℕ) (to : ℕ) (before : Before) (m new : Configuration) → IsVisit v m
    → two_next v.verified.now v.transaction ≡ Some pair → before.turned ≡ true → before.streams ≡ m.streams → HasTurned v to m new
    → undo_from before (state_of new) ≡ state_of m
turn-undone v pair to before m new is two turned_is streams h =
    ap (λ b. if b then with_streams before.streams (active_back (state_of new)) else state_of new) turned_is
    ∙ ap (λ (s : State). with_streams before.streams (active_back s)) (h.0).0
    ∙ ap (with_streams before.streams)
    (back v.tx.number v.transaction to (with_streams new.streams (state_of m)) (active_in v m is) is.found (stays_at v.verified.now v.transaction pair two))
    ∙ ap (λ (k : List ℕ). with_streams k (state_of m)) streams
