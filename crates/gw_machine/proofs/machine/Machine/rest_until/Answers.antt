use Rattle.std.proofs.Common.{refl, ap, ◌∙◌, ◌≡◌, List, None, map}
use Rattle.gw_machine.proofs.Knowing.{known-by}
use Rattle.std.proofs.lemmas.Int.{to_z-of_z}
use Rattle.gw_members.specs.Chain.{in_time}
use Rattle.gw_members.specs.declared.tx.Event.{Event}
use Rattle.gw_step.specs.State.{FutureEvent}
use Rattle.gw_machine.specs.View.{state_of, lists_of, event_of}
use Rattle.gw_machine.proofs.Changes.{events-in_time, linked-rested}
use Rattle.gw_machine.specs.Shown.{configuration_of}
use Rattle.gw_machine.proofs.machine.Machine.rest_until.Goals as goal

scheduled : (c : goal.After-schedule) → c.schedule.new.self.items
    ≡ in_time (λ (e : Event). e.time) (record { tx = c.args.tx; time = c.args.time }) (configuration_of c.self.inside).future_events.items
scheduled c = let fits = c.ranges.time in simp to_z-of_z at c.schedule.ensures.items

pub returns : goal.returns
returns c =
    rw (← c.self.view_is) (
      ap (λ (es : List FutureEvent). record (state_of (configuration_of c.self.inside))
          { lists = record (lists_of (configuration_of c.self.inside)) { active = None; future_events = es } })
          (ap (map event_of) (scheduled c) ∙ events-in_time c.args.tx c.args.time (configuration_of c.self.inside).future_events.items),
      refl,
    )

pub invariant_of-self : goal.invariant_of-self
invariant_of-self c = (
  linked-rested (configuration_of c.self.inside) _ c.args.tx c.args.time refl c.self.invariant.0
      (rw (← c.self.view_is) at c.requires.rests) refl refl (scheduled c)
      (record { waits = refl; assemblies = refl; chains = refl; entities = refl; clock = refl }) ((rw (← c.self.view_is) at (returns c)).0),
  known-by c.self.inside.wants (state_of (configuration_of c.self.inside)) _ refl refl refl c.self.invariant.1,
)
