-- A machine in which nothing is scheduled.
use Rattle.std.proofs.Common.{◌≡◌, ℕ, zero, suc, ◌+◌, ◌^◌, ◌<◌, pos, List, [], ◌∷◌, map, length, replicate, Option, None, refl, sym, ap, ◌∙◌, subst}
use Rattle.std.proofs.Common.{false, arith}
use Rattle.std.specs.Prelude.{sum}
use Rattle.std.proofs.lemmas.Int.{ints}
use Rattle.std.proofs.lemmas.List.{length-map, length-replicate}
use Rattle.gw_members.specs.declared.tx.Tx.{Tx}
use Rattle.gw_members.specs.declared.tx.Member.{Member}
use Rattle.gw_object.specs.declared.parts.Parts.{Parts}
use Rattle.gw_num.proofs.Tables.{at-replicate, sum_by-replicate}
use Rattle.gw_transactions.specs.Transactions.{IsSound}
use Rattle.gw_entities.specs.Facility.{idle}
use Rattle.gw_step.proofs.Nothing.{no_transaction, resides-nothing}
use Rattle.gw_machine.specs.Configuration.{Configuration}
use Rattle.gw_step.specs.Start.{no_counts, nothing}
use Rattle.gw_step.specs.State.{EntityStates, State}
use Rattle.gw_step.specs.Numbers.{AreWhole}
use Rattle.gw_step.specs.declared.ends.End.{End}
use Rattle.gw_step.specs.Residence.{ResidesOnce}
use Rattle.gw_machine.specs.View.{state_of, handle_number, member_number}
use Rattle.gw_machine.specs.Coherence.{AreInBlocks, Linked, IsOf}
use Rattle.gw_machine.specs.Evaluating.{IsReadable}
use Rattle.gw_machine.proofs.Tables.{states-at_start, whole-at_start, timed-at_start}
use Rattle.gw_machine.specs.EntityTables.{AreAtStart, states_of}

-- what the parts of such a machine are, in which this end stands, if it is one
pub record Begins (p : Parts) (n : ℕ) (ss : List ℕ) (e : Option End) (m : Configuration) : Type 0 where
  pub clock : m.clock ≡ pos 0
  pub count : m.count ≡ pos n
  pub steps : m.steps ≡ 0
  pub streams : m.streams ≡ ss
  pub scheduled : m.scheduled ≡ no_counts p
  pub transactions : m.transactions.txs ≡ None ∷ []
  pub sound : IsSound m.transactions
  pub active : m.active ≡ None
  pub current_events : m.current_events.items ≡ []
  pub future_events : m.future_events.items ≡ []
  pub lists : m.waits.lists ≡ replicate (length p.entities) []
  pub retry : m.waits.retry ≡ []
  pub assemblies : m.assemblies.items ≡ []
  pub chains : m.chains.lists ≡ replicate (length p.entities) []
  pub stir : m.stir ≡ false
  pub entities : AreAtStart p.entities m.entities
  pub entries : m.entries ≡ no_counts p
  pub ended : m.ended ≡ e

-- lists with no member
empties : {T : Type 0} (number : T → ℕ) (n : ℕ) → map (map number) (replicate n []) ≡ replicate n []
empties number zero = refl
empties number (suc n) = ap (λ xs. [] ∷ xs) (empties number n)

-- nobody is anywhere
nobody_in : AreInBlocks (None ∷ [])
nobody_in n = rw (no_transaction n) tt

module _ (p : Parts) (count : ℕ) (streams : List ℕ) (e : Option End) (m : Configuration) (b : Begins p count streams e m) where
  whole : AreWhole (length p.entities) (states_of m.entities)
  whole = whole-at_start p.entities m.entities b.entities

  delay_lists : (state_of m).lists.delay_lists ≡ replicate (length p.entities) []
  delay_lists = rw b.lists (empties member_number (length p.entities))

  user_chains : (state_of m).lists.user_chains ≡ replicate (length p.entities) []
  user_chains = rw b.chains (empties handle_number (length p.entities))

  pub state-nothing : state_of m ≡ record (nothing p count streams) { ended = e }
  state-nothing =
      rw (
        delay_lists,
        user_chains,
        b.clock,
        b.count,
        b.steps,
        b.streams,
        b.scheduled,
        b.transactions,
        b.active,
        b.current_events,
        b.future_events,
        b.retry,
        b.assemblies,
        b.stir,
        b.entries,
        b.ended,
      )
      (ap (λ (g : EntityStates). record (nothing p count streams) { entities = g; ended = e }) (states-at_start p count streams m.entities b.entities))

  pub linked-nothing : Linked m
  linked-nothing = record {
    active = rw b.active tt;
    current_events = rw b.current_events tt;
    future_events = rw b.future_events tt;
    delay_lists = λ e below. rw (b.lists, at-replicate {X = List Member} [] (length p.entities) e) tt;
    listed = rw b.lists (length-replicate (length p.entities) [] ∙ sym whole.facilities);
    retry = rw b.retry tt;
    assemblies = rw b.assemblies tt;
    user_chains = λ c below. rw (b.chains, at-replicate {X = List Tx} [] (length p.entities) c) tt;
    chained = rw b.chains (length-replicate (length p.entities) [] ∙ sym whole.facilities);
    sound = b.sound;
    blocks = rw b.transactions nobody_in;
    resides = subst ResidesOnce (sym state-nothing) (resides-nothing p count streams);
    timed = rw b.clock (timed-at_start p.entities m.entities b.entities);
  }

  pub readable-nothing : IsReadable m
  readable-nothing = record {
    entities = rw whole.facilities whole;
    entries = omega (arith, ap sum b.entries, sum_by-replicate 0 (λ (x : ℕ). x) (length p.blocks + 1) refl);
    clock = rw b.clock (grind (arith, ints));
  }

-- a machine in that state has what the first arrivals ask for, of the blocks of its object
module _ (p : Parts) (count : ℕ) (streams : List ℕ) (m : Configuration) (is : state_of m ≡ nothing p count streams) where
  pub nothing-few : (length m.transactions.txs < 2 ^ 50) × (sum m.scheduled < 2 ^ 50)
  nothing-few =
      let none = ap (λ (s : State). length s.transactions) is in
      let scheduled = ap (λ (s : State). sum s.scheduled) is ∙ sum_by-replicate 0 (λ (x : ℕ). x) (length p.blocks + 1) refl in
      (omega (arith, none), omega (arith, scheduled))

  pub nothing-own : IsOf p m
  nothing-own = ap (λ (s : State). length s.entities.facilities) is ∙ length-map p.entities (λ _. idle)

  pub nothing-blocks : length m.scheduled ≡ length p.blocks + 1
  nothing-blocks = ap (λ (s : State). length s.scheduled) is ∙ length-replicate (length p.blocks + 1) 0
