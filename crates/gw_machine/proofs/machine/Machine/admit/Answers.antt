use Rattle.std.proofs.Common.{◌+◌, ◌∙◌, sym, ap, subst, List, [], length, true, false, arith, refl}
use Rattle.gw_machine.proofs.Lessening.{vain-rest}
use Rattle.gw_machine.specs.View.{state_of}
use Rattle.gw_num.specs.Table.{at}
use Rattle.gw_members.specs.declared.tx.Member.{Member}
use Rattle.gw_step.specs.State.{delay_list}
use Rattle.gw_step.specs.Blocks.{admission}
use Rattle.gw_machine.specs.Coherence.{IsSteady}
use Rattle.gw_machine.proofs.Walks.{rest_of_walk, walk-first, walk-ends, walk-same, walk-on, left-moved, left-place}
use Rattle.gw_machine.proofs.Steady.{steady-same}
use Rattle.gw_machine.specs.Configuration.{Configuration}
use Rattle.gw_machine.proofs.machine.Machine.admit.Goals as goal

pub loop-tx-init : goal.loop-tx-init
loop-tx-init c =
    let begun = c.start_walk.new.self in
    let starts = c.start_walk.ensures in
    let bs = c.args.blocks.now in
    let asked = c.may_admit.ensures.frame in
    let state = starts.state ∙ ap state_of asked in
    let facilities = ap (λ (x : Configuration). x.entities.facilities) starts.frame ∙ ap (λ (x : Configuration). x.entities.facilities) asked in
    let same = ap (λ (xs : List (List Member)). length (at [] xs c.args.e)) starts.lists
    ∙ ap (λ (x : Configuration). length (at [] x.waits.lists c.args.e)) asked in
    let room = ap (λ (x : Configuration). x.current_events.room) starts.frame ∙ ap (λ (x : Configuration). x.current_events.room) asked in
    record {
      walk = ap (λ i. rest_of_walk bs c.args.e i begun) starts.place ∙ walk-first bs c.args.e begun
          ∙ ap (λ s. admission bs c.args.e (delay_list c.args.e s) s) state;
      steady = steady-same bs (c.args.self.now.steps + 1) c.args.self.now begun c.requires.steady state facilities;
      steps = ap (λ (x : Configuration). x.steps) starts.frame ∙ ap (λ (x : Configuration). x.steps) asked;
      slots = ap (λ (x : Configuration). x.last) starts.frame ∙ ap (λ (x : Configuration). x.last) asked;
      there = rw facilities c.requires.there;
      place = omega (arith, starts.place);
      room = omega (arith, same, starts.place, room, c.requires.room);
    }

pub admit_one-requires-clause-room : goal.admit_one-requires-clause-room
admit_one-requires-clause-room c =
    omega (arith, left-place c.args.e (at 0 c.loop-tx.self.waits.places c.args.e) c.loop-tx.self c.in-Some.tx (c.in-Some.ensures), c.loop-tx.invariant.room)

pub pass_waiter-requires-clause-there : goal.pass_waiter-requires-clause-there
pass_waiter-requires-clause-there c =
    let moves = c.if-not-admit_one.ensures.moves in
    let list = ap (λ w. length (at [] w.lists c.args.e)) moves.0 in
    let place = ap (λ w. at 0 w.places c.args.e) moves.0 in
    omega (arith, list, place, left-place c.args.e (at 0 c.loop-tx.self.waits.places c.args.e) c.loop-tx.self c.in-Some.tx (c.in-Some.ensures))

pub loop-tx-smaller-then-not-admit_one : goal.loop-tx-smaller-then-not-admit_one
loop-tx-smaller-then-not-admit_one c =
    let moves = c.if-not-admit_one.ensures.moves in
    let list = ap (λ w. length (at [] w.lists c.args.e)) moves.0 in
    let place = ap (λ w. at 0 w.places c.args.e) moves.0 in
    let kept = ap (λ (xs : List (List Member)). length (at [] xs c.args.e)) c.pass_waiter.ensures.lists in
    omega (
      arith,
      list,
      place,
      kept,
      c.pass_waiter.ensures.place,
      left-place c.args.e (at 0 c.loop-tx.self.waits.places c.args.e) c.loop-tx.self c.in-Some.tx (c.in-Some.ensures),
    )

pub loop-tx-preserved-then-not-admit_one : goal.loop-tx-preserved-then-not-admit_one
loop-tx-preserved-then-not-admit_one c =
    let e = c.if-not-admit_one.ensures in
    let there = c.in-Some.ensures in
    let old = c.loop-tx.invariant in
    let bs = c.args.blocks.now in
    let was = at 0 c.loop-tx.self.waits.places c.args.e in
    let list = ap (λ w. length (at [] w.lists c.args.e)) e.moves.0 in
    let place = ap (λ w. at 0 w.places c.args.e) e.moves.0 in
    let room = ap (λ r. r.room) e.moves.1 in
    let passes = c.pass_waiter.ensures in
    let kept = ap (λ (xs : List (List Member)). length (at [] xs c.args.e)) passes.lists in
    let steady = subst (λ k. IsSteady bs (k + 1) c.admit_one.new.self) old.steps e.steady in
    record {
      walk = ap (λ i. rest_of_walk bs c.args.e i c.pass_waiter.new.self) (passes.place ∙ ap (λ i. i + 1) place)
          ∙ walk-same bs c.args.e (was + 1) c.admit_one.new.self c.pass_waiter.new.self passes.lists passes.state
          ∙ walk-on bs c.args.e was c.loop-tx.self c.admit_one.new.self c.in-Some.tx false there e.state e.moves ∙ old.walk;
      steady = steady-same bs (c.args.self.now.steps + 1) c.admit_one.new.self c.pass_waiter.new.self steady passes.state
          (ap (λ (x : Configuration). x.entities.facilities) passes.frame);
      steps = ap (λ (x : Configuration). x.steps) passes.frame ∙ e.frame.0 ∙ old.steps;
      slots = ap (λ (x : Configuration). x.last) passes.frame ∙ e.frame.2 ∙ old.slots;
      there = rw (ap (λ (x : Configuration). x.entities.facilities) passes.frame) (rw e.frame.1 old.there);
      place = omega (arith, list, place, kept, passes.place, left-place c.args.e was c.loop-tx.self c.in-Some.tx there);
      room = omega (arith, list, place, kept, passes.place, ap (λ (x : Configuration). x.current_events.room) passes.frame, room, old.room);
    }

pub loop-tx-smaller : goal.loop-tx-smaller
loop-tx-smaller c =
    let there = c.in-Some.ensures in
    let was = at 0 c.loop-tx.self.waits.places c.args.e in
    let moves = c.if-not-admit_one.ensures.moves in
    omega (
      arith,
      moves.2,
      left-moved c.args.e was c.loop-tx.self c.admit_one.new.self c.in-Some.tx there moves,
      left-place c.args.e was c.loop-tx.self c.in-Some.tx there,
    )

pub loop-tx-preserved : goal.loop-tx-preserved
loop-tx-preserved c =
    let e = c.if-not-admit_one.ensures in
    let there = c.in-Some.ensures in
    let old = c.loop-tx.invariant in
    let bs = c.args.blocks.now in
    let was = at 0 c.loop-tx.self.waits.places c.args.e in
    let fewer = left-moved c.args.e was c.loop-tx.self c.admit_one.new.self c.in-Some.tx there e.moves in
    record {
      walk = ap (λ i. rest_of_walk bs c.args.e i c.admit_one.new.self) e.moves.2
          ∙ walk-on bs c.args.e was c.loop-tx.self c.admit_one.new.self c.in-Some.tx true there e.state e.moves ∙ old.walk;
      steady = subst (λ k. IsSteady bs (k + 1) c.admit_one.new.self) old.steps e.steady;
      steps = e.frame.0 ∙ old.steps;
      slots = e.frame.2 ∙ old.slots;
      there = rw e.frame.1 old.there;
      place = omega (arith, fewer, e.moves.2, left-place c.args.e was c.loop-tx.self c.in-Some.tx there);
      room = omega (arith, fewer, e.moves.1, e.moves.2, old.room);
    }

pub returns : goal.returns
returns c =
    let steady = c.loop-tx.invariant.steady in (
      sym (walk-ends c.args.blocks.now (length c.loop-tx.self.entities.facilities.values) c.args.e
          (at 0 c.loop-tx.self.waits.places c.args.e) c.loop-tx.self steady.fit c.in_default.ensures) ∙ c.loop-tx.invariant.walk,
      c.loop-tx.invariant.slots,
    )

pub returns-then-not-may_admit_more : goal.returns-then-not-may_admit_more
returns-then-not-may_admit_more c =
    let e = c.if-not-admit_one.ensures in
    let there = c.in-Some.ensures in
    let bs = c.args.blocks.now in
    let new = c.admit_one.new.self in
    let was = at 0 c.loop-tx.self.waits.places c.args.e in (
      sym (vain-rest bs c.args.e (at 0 new.waits.places c.args.e) new (c.if-not-may_admit_more.ensures refl))
          ∙ ap (λ i. rest_of_walk bs c.args.e i new) e.moves.2
          ∙ walk-on bs c.args.e was c.loop-tx.self new c.in-Some.tx true there e.state e.moves ∙ c.loop-tx.invariant.walk,
      e.frame.2 ∙ c.loop-tx.invariant.slots,
    )
