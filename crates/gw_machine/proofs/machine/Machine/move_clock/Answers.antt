use Rattle.std.proofs.Common.{◌≡◌, ◌-ℤ◌, pos, refl, ap, ◌∙◌, arith, rules}
use Rattle.gw_machine.proofs.Knowing.{known-by}
use Rattle.std.specs.Prelude.{unsigned_abs}
use Rattle.std.proofs.lemmas.Int.{to_z-of_z, ints}
use Rattle.gw_members.specs.Chain.{all_behind, due, later}
use Rattle.gw_members.specs.declared.tx.Member.{Member}
use Rattle.gw_members.specs.declared.tx.Event.{Event}
use Rattle.gw_step.specs.Changes.{time_passes}
use Rattle.gw_machine.specs.EntityTables.{states_of}
use Rattle.gw_machine.specs.View.{state_of}
use Rattle.gw_machine.specs.Coherence.{as_members}
use Rattle.gw_machine.proofs.Due.{state-moved, linked-moved}
use Rattle.gw_machine.proofs.Tables.{count-passed, timed-passed}
use Rattle.gw_machine.specs.Shown.{configuration_of}
use Rattle.gw_machine.proofs.machine.Machine.move_clock.Goals as goal

joined : (c : goal.After-self-1) → c.move_due.new.current_events.items
    ≡ all_behind (λ (m : Member). m.priority)
    (as_members (configuration_of c.self.inside).transactions
    (due (λ (e : Event). e.time) c.args.time (configuration_of c.self.inside).future_events.items)) (configuration_of c.self.inside).current_events.items
joined c =
    let fits = c.ranges.time in
    simp to_z-of_z at c.move_due.ensures.current

left : (c : goal.After-self-1) → c.move_due.new.future_events.items
    ≡ later (λ (e : Event). e.time) c.args.time (configuration_of c.self.inside).future_events.items
left c = let fits = c.ranges.time in simp to_z-of_z at c.move_due.ensures.future

time_is : (c : goal.After-self-1) → c.abs_diff-passed.result ≡ unsigned_abs (c.args.time -ℤ (configuration_of c.self.inside).clock)
time_is c = search rules

entities : (c : goal.After-self-1) → states_of c.pass_time.new.self
    ≡ time_passes (unsigned_abs (c.args.time -ℤ (configuration_of c.self.inside).clock)) (states_of (configuration_of c.self.inside).entities)
entities c = ap states_of c.pass_time.ensures ∙ ap (λ dt. time_passes dt (states_of (configuration_of c.self.inside).entities)) (time_is c)

pub returns-clause-state : goal.returns-clause-state
returns-clause-state c =
    rw (← c.self.view_is) (
    let fits = c.ranges.time in
    simp to_z-of_z (
      state-moved (configuration_of c.self.inside) c.args.time c.move_due.new.current_events.items
          c.move_due.new.future_events.items _ c.self.invariant.0 (joined c) (left c) (entities c),
      refl,
    ))

pub invariant_of-self : goal.invariant_of-self
invariant_of-self c =
    let fits = c.ranges.time in
    let m = configuration_of c.self.inside in
    let l = c.self.invariant.0 in
    let cs = c.move_due.new.current_events.items in
    let fs = c.move_due.new.future_events.items in
    let passed = c.abs_diff-passed.result in
    let dt : pos passed ≡ c.args.time -ℤ m.clock = omega (arith, ints, time_is c, (rw (← c.self.view_is) at c.requires.later.1)) in (
      linked-moved m c.args.time cs fs _ l (joined c) (left c) (entities c) _ refl refl refl refl refl refl refl
          (count-passed m.entities _ passed c.pass_time.ensures)
          (simp to_z-of_z (timed-passed m.entities _ passed c.pass_time.ensures m.clock c.args.time dt l.timed))
          ((rw (← c.self.view_is) at (returns-clause-state c)).0),
      known-by c.self.inside.wants (state_of m) _ refl refl refl c.self.invariant.1,
    )
