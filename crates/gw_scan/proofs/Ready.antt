-- What is known of a machine that is ready for a step.
use Rattle.std.proofs.Common.{◌≡◌, ◌≢◌, ℕ, Some, None, option_map, Bool, false, if◌then◌else◌, refl, ap}
use Rattle.std.proofs.lemmas.Bool.{ne_eqb}
use Rattle.gw_rules.specs.Kinds.{block_at}
use Rattle.gw_object.specs.declared.parts.Parts.{Parts}
use Rattle.gw_members.specs.declared.tx.Tx.{Tx}
use Rattle.gw_transactions.specs.Transactions.{Holds, attributes_at}
use Rattle.gw_transactions.specs.declared.Transaction.{Transaction}
use Rattle.gw_machine.specs.Configuration.{Configuration}
use Rattle.gw_machine.specs.View.{state_of}
use Rattle.gw_step.specs.State.{with_streams}
use Rattle.gw_step.specs.Step.{goes_on}
use Rattle.gw_step.specs.Turning.{choice_of, two_next}
use Rattle.gw_scan.proofs.Turned.{next-within}
use Rattle.gw_scan.proofs.Visits.{active_in}
use Rattle.gw_scan.specs.Trying.{HasOneNext, active_back, goes_from}
use Rattle.gw_scan.specs.Visiting.{IsReady, IsVisit, MayMake, MayTry}
use Rattle.gw_scan.specs.declared.both.Before.{Before}
use Rattle.gw_scan.specs.declared.visit.Visit.{Visit}

-- who isn't in the block that is its next one has one next block
pub one_apart : (p : Parts) (t : Transaction) → t.current ≢ t.next → two_next p t ≡ None
one_apart p t apart = ap (λ (same : Bool). if same then choice_of t.next (block_at p.blocks t.next) else None) (ne_eqb t.current t.next apart)

module _ (v : Visit) (m : Configuration) (ready : IsReady v.verified.now m) where
  -- its active transaction makes a visit
  pub is_visit : m.active ≡ Some v.tx → Holds m.transactions v.tx → attributes_at v.tx.number m.transactions.txs ≡ Some v.transaction → IsVisit v m
  is_visit active held found = record {
    steady = ready.running.steady;
    few = ready.running.few;
    runs = ready.running.runs;
    active = active;
    held = held;
    found = found;
    next = next-within v.verified.now.blocks v.transaction.next _
        (ready.served v.tx.number v.transaction (ap (option_map (λ (tx : Tx). tx.number)) active) found);
  }

  module _ (is : IsVisit v m) where
    pub may_make : MayMake v m
    may_make = record { visit = is; own = ready.own; slots = ready.slots; values = ready.values; served = ready.served }

    -- or tries one of two
    pub may_try_first : (pair : ℕ × ℕ) → two_next v.verified.now v.transaction ≡ Some pair → MayTry v pair.0 m
    may_try_first pair two =
        record { visit = is; own = ready.own; slots = ready.slots; turns = (ready.turns v.tx.number v.transaction pair (active_in v m is) is.found two).0 }

    pub may_try_second : (pair : ℕ × ℕ) → two_next v.verified.now v.transaction ≡ Some pair → MayTry v pair.1 m
    may_try_second pair two =
        record { visit = is; own = ready.own; slots = ready.slots; turns = (ready.turns v.tx.number v.transaction pair (active_in v m is) is.found two).1 }

    -- with one next block nothing is to be done for it, and nothing to undo
    pub one_next : (before : Before) → two_next v.verified.now v.transaction ≡ None → before.turned ≡ false
        → HasOneNext v (goes_from v (state_of m)) before m m v.transaction.next
    one_next before none off = record {
      meets = ap (λ o. goes_on v.verified.now v.tx.number v.transaction o (state_of m)) none;
      undo = ap (λ (turned : Bool). if turned then with_streams before.streams (active_back (state_of m)) else state_of m) off;
      last = refl;
      may = may_make;
    }
