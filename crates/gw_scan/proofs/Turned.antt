-- A machine whose active transaction has turned to one of two next blocks, and back.
use Rattle.std.proofs.Common.{◌≡◌, ℕ, ◌≤◌, List, length, Option, Some, None, Bool, true, false, if◌then◌else◌, refl, sym, ap, ◌∙◌, subst, arith}
use Rattle.std.specs.Prelude.{pos, ◌<ℤ◌, IsSomeAnd, Result, Ok, Err}
use Rattle.gw_object.specs.declared.blocks.Block.{Block}
use Rattle.gw_rules.specs.declared.ends.PlusEnd.{PlusEnd}
use Rattle.gw_rules.specs.Kinds.{block_at}
use Rattle.gw_transactions.specs.Transactions.{Holds, attributes_at}
use Rattle.gw_machine.specs.Coherence.{IsSteady}
use Rattle.gw_machine.specs.Configuration.{Configuration}
use Rattle.gw_machine.specs.View.{state_of}
use Rattle.gw_machine.proofs.Steady.{steady-now}
use Rattle.gw_machine.proofs.Turning.{turned-found, turned-back}
use Rattle.gw_step.specs.Asks.{IsServed}
use Rattle.gw_step.specs.Numbers.{IsWithin, made_in}
use Rattle.gw_step.specs.Operands.{MayStep}
use Rattle.gw_step.specs.Outcome.{Outcome, Gives, ◌>>=◌}
use Rattle.gw_step.specs.Placing.{place_by}
use Rattle.gw_step.specs.declared.placement.Placement.TheVariants.{JoinsRetryList}
use Rattle.gw_step.specs.State.{State, with_streams}
use Rattle.gw_step.specs.Turning.{towards, turn_to}
use Rattle.gw_step.proofs.Attributes.{number_below}
use Rattle.gw_step.proofs.Follows.{block_below}
use Rattle.gw_step.proofs.Within.{within-turned, within-streams, mark_from}
use Rattle.gw_scan.proofs.Visits.{active_in}
use Rattle.gw_scan.specs.Trying.{KeepsButStreams, TellsOfNext, TurnsTo, TurnsToOne, meets_at, meets_or, tries_at, visit_towards}
use Rattle.gw_scan.specs.Visiting.{IsVisit, MayMake, MayTry, MayTurn}
use Rattle.gw_scan.specs.declared.visit.Visit.{Visit}

-- a steady machine whose state is this one, which is within the same bounds
steady-by : (v : Visit) (m new : Configuration) (s : State) → IsVisit v m → state_of new ≡ s → s.steps ≡ m.steps
    → length s.entities.facilities ≡ length m.entities.facilities.values
    → IsWithin (length v.verified.now.blocks) (length m.entities.facilities.values) m.steps (made_in m.steps) s → IsSteady v.verified.now.blocks new.steps new
steady-by v m new s is same steps count within =
    let steps_now : new.steps ≡ m.steps = ap (λ (x : State). x.steps) same ∙ steps in
    subst (λ k. IsSteady v.verified.now.blocks k new) (sym steps_now)
    (steady-now v.verified.now.blocks m.steps m.steps m new is.steady (omega arith) (ap (λ (x : State). length x.entities.facilities) same ∙ count)
    (subst (λ (x : State). IsWithin (length v.verified.now.blocks) (length m.entities.facilities.values) m.steps (made_in m.steps) x)
    (sym same) within) is.steady.few)

-- the block to which a visit leads is one of the object's
pub next-within : (bs : List Block) (b : ℕ) (P : Block → Type 0) → IsSomeAnd (block_at bs b) P → b ≤ length bs
next-within bs b P some = by (block_at bs b) refl some
  where
    by : (o : Option Block) → block_at bs b ≡ o → IsSomeAnd o P → b ≤ length bs
    by None is h = absurd h
    by (Some block) is h = block_below bs b block is

module _ (v : Visit) (to : ℕ) (m : Configuration) (may : MayTry v to m) where
  -- who has turned to a block may meet it
  pub made-at : (new : Configuration) → state_of new ≡ turn_to v.tx.number v.transaction to (state_of m) → new.active ≡ m.active → new.last
      ≡ m.last → Holds new.transactions v.tx → MayMake (visit_towards to v) new
  made-at new same active last held =
      let n = v.tx.number in
      let t = v.transaction in
      let p = v.verified.now in
      let now : State = turn_to n t to (state_of m) in
      let found : attributes_at n now.transactions ≡ Some (towards to t) = turned-found n t to (state_of m) may.visit.found in
      record {
        visit = record {
          steady = steady-by v m new now may.visit same refl refl
              (within-turned (length p.blocks) (length m.entities.facilities.values) m.steps (made_in m.steps) (state_of m)
              may.visit.steady.within n to t (number_below m.transactions.txs n t may.visit.found)
              (mark_from m.transactions.txs n t may.visit.steady.within.marked may.visit.found));
          few = omega (arith, may.visit.few, ap (λ (s : State). s.steps) same);
          runs = subst (λ (s : State). pos 0 <ℤ s.count) (sym same) may.visit.runs;
          active = active ∙ may.visit.active;
          held = held;
          found = ap (λ (s : State). attributes_at n s.transactions) same ∙ found;
          next = next-within p.blocks to _ (may.turns.served m.streams n (towards to t) (active_in v m may.visit) found);
        };
        own = ap (λ (s : State). length s.entities.facilities) same ∙ may.own;
        slots = last ∙ may.slots;
        values = subst (MayStep p) (sym same) (may.turns.values m.streams);
        served = subst (IsServed p) (sym same) (may.turns.served m.streams);
      }

-- a visit after other draws
pub visit-drawn : (v : Visit) (m new : Configuration) → IsVisit v m → state_of new ≡ with_streams new.streams (state_of m) → new.active
    ≡ m.active → Holds new.transactions v.tx → length new.streams ≡ 16 → IsVisit v new
visit-drawn v m new is same active held whole = record {
  steady = steady-by v m new (with_streams new.streams (state_of m)) is same refl refl
      (within-streams (length v.verified.now.blocks) (length m.entities.facilities.values) m.steps (made_in m.steps) (state_of m)
      is.steady.within new.streams whole);
  few = omega (arith, is.few, ap (λ (s : State). s.steps) same);
  runs = subst (λ (s : State). pos 0 <ℤ s.count) (sym same) is.runs;
  active = active ∙ is.active;
  held = held;
  found = ap (λ (s : State). attributes_at v.tx.number s.transactions) same ∙ is.found;
  next = is.next;
}

-- TRYING A BLOCK

-- the transaction turns from m on, and in m1 it is tried whether its next block refuses it
module _ (v : Visit) (to : ℕ) (m m1 m2 : Configuration) (may : MayTry v to m)
    (turn : state_of m1 ≡ turn_to v.tx.number v.transaction to (state_of m)) (held : Holds m1.transactions v.tx)
    (frame : m1 ≡ record m { transactions = m1.transactions })
    (drawn : m2 ≡ record m1 { streams = m2.streams }) where
  pub made : MayMake (visit_towards to v) m1
  made = made-at v to m may m1 turn (ap (λ (c : Configuration). c.active) frame) (ap (λ (c : Configuration). c.last) frame) held

  state_then : state_of m2 ≡ with_streams m2.streams (turn_to v.tx.number v.transaction to (state_of m))
  state_then = ap state_of drawn ∙ ap (with_streams m2.streams) turn

  -- it is found with that one next block
  pub found_then : attributes_at v.tx.number m2.transactions.txs ≡ Some (towards to v.transaction)
  found_then = ap (λ (s : State). attributes_at v.tx.number s.transactions) state_then ∙ turned-found v.tx.number v.transaction to (state_of m) may.visit.found

  last_then : m2.last ≡ m.last
  last_then = ap (λ (c : Configuration). c.last) drawn ∙ ap (λ (c : Configuration). c.last) frame

  -- what a try comes to, by what is known where it has turned
  tried : (otherwise : State → Outcome State) → tries_at v to otherwise (state_of m)
      ≡ meets_or (λ streams. otherwise (with_streams streams (state_of m))) (visit_towards to v) (state_of m1)
  tried otherwise = ap (meets_or (λ streams. otherwise (with_streams streams (state_of m))) (visit_towards to v)) (sym turn)

  pub turns : TellsOfNext (Ok false) (visit_towards to v) m1 m2 → TurnsTo (Ok true) v to m m2
  turns h =
      let same : m2 ≡ m1 = drawn ∙ ap (λ (streams : List ℕ). record m1 { streams = streams }) h.1 in (
        (λ otherwise. tried otherwise ∙ h.0 (λ streams. otherwise (with_streams streams (state_of m)))
            ∙ ap (λ (c : Configuration). meets_at v to (state_of c)) (sym same)),
        ((state_then, last_then), subst (MayMake (visit_towards to v)) (sym same) made),
      )

  -- it turns back
  module _ (m3 : Configuration) (back : state_of m3 ≡ turn_to v.tx.number (towards to v.transaction) v.transaction.next (state_of m2))
      (kept : m3 ≡ record m2 { transactions = m3.transactions }) where
    streams_same : m3.streams ≡ m2.streams
    streams_same = ap (λ (c : Configuration). c.streams) kept

    state_back : state_of m3 ≡ with_streams m2.streams (state_of m)
    state_back =
        back ∙ ap (turn_to v.tx.number (towards to v.transaction) v.transaction.next) state_then
        ∙ ap (with_streams m2.streams) (turned-back v.tx.number v.transaction to (state_of m) may.visit.found)

    keeps : KeepsButStreams m m3
    keeps = (state_back ∙ ap (λ (streams : List ℕ). with_streams streams (state_of m)) (sym streams_same), ap (λ (c : Configuration). c.last) kept ∙ last_then)

    pub is_refused : length m2.streams ≡ 16 → Holds m3.transactions v.tx → TellsOfNext (Ok true) (visit_towards to v) m1 m2 → TurnsTo (Ok false) v to m m3
    is_refused whole held_then h = (
      (λ otherwise.
          tried otherwise
          ∙ ap (λ (o : Outcome (Bool × List ℕ)). o
          >>= (λ answer. if answer.0 then otherwise (with_streams answer.1 (state_of m)) else meets_at v to (state_of m1))) h
          ∙ ap otherwise (sym state_back)),
      keeps,
      visit-drawn v m m3 may.visit keeps.0
          (ap (λ (c : Configuration). c.active) kept ∙ ap (λ (c : Configuration). c.active) drawn ∙ ap (λ (c : Configuration). c.active) frame)
          held_then (ap length streams_same ∙ whole),
    )

    pub ends : (end : PlusEnd) → TellsOfNext (Err end) (visit_towards to v) m1 m2 → TurnsTo (Err end) v to m m3
    ends end h = (
      (λ otherwise.
          tried otherwise
          ∙ ap (λ (o : Outcome (Bool × List ℕ)). o
          >>= (λ answer. if answer.0 then otherwise (with_streams answer.1 (state_of m)) else meets_at v to (state_of m1))) h.0),
      keeps,
    )

-- TRYING TWO

-- after other draws the transaction may try a block as before
pub try-drawn : (v : Visit) (to : ℕ) (m new : Configuration) → MayTry v to m → KeepsButStreams m new → IsVisit v new → MayTry v to new
try-drawn v to m new may kept is = record {
  visit = is;
  own = ap (λ (s : State). length s.entities.facilities) kept.0 ∙ may.own;
  slots = kept.1 ∙ may.slots;
  turns = subst (MayTurn v.verified.now v.tx.number v.transaction to) (sym kept.0) (record { values = may.turns.values; served = may.turns.served });
}

-- two draws, one after the other
pub draws_twice : (m1 m2 m3 : Configuration) → KeepsButStreams m1 m2 → KeepsButStreams m2 m3 → KeepsButStreams m1 m3
draws_twice m1 m2 m3 h k = (k.0 ∙ ap (with_streams m3.streams) h.0, k.1 ∙ h.1)

module _ (v : Visit) (pair : ℕ × ℕ) (m : Configuration) where
  -- what is done where both refuse
  abbrev waits : State → Outcome State
  waits u = Gives (place_by v.tx.number JoinsRetryList u)

  pub first_turns : (new : Configuration) → TurnsTo (Ok true) v pair.0 m new → TurnsToOne (Ok true) v pair m new
  first_turns new h = (pair.0, h.0 (λ u. tries_at v pair.1 waits u), h.1)

  pub first_ends : (new : Configuration) (end : PlusEnd) → TurnsTo (Err end) v pair.0 m new → TurnsToOne (Err end) v pair m new
  first_ends new end h = (h.0 (λ u. tries_at v pair.1 waits u), h.1)

  -- refused by the first it comes to the second
  module _ (m1 : Configuration) (refused : TurnsTo (Ok false) v pair.0 m m1) where
    pub second_tried : (result : Result Bool PlusEnd) (new : Configuration) → TurnsTo result v pair.1 m1 new → TurnsToOne result v pair m new
    second_tried (Ok true) new h = (
      pair.1,
      refused.0 (λ u. tries_at v pair.1 waits u) ∙ h.0 waits,
      (
        (((h.1).0).0 ∙ ap (λ (s : State). turn_to v.tx.number v.transaction pair.1 (with_streams new.streams s)) (refused.1).0, ((h.1).0).1 ∙ (refused.1).1),
        (h.1).1,
      ),
    )
    second_tried (Ok false) new h = (
      refused.0 (λ u. tries_at v pair.1 waits u) ∙ h.0 waits,
      draws_twice m m1 new refused.1 h.1,
      h.2,
    )
    second_tried (Err end) new h = (refused.0 (λ u. tries_at v pair.1 waits u) ∙ h.0 waits, draws_twice m m1 new refused.1 h.1)
