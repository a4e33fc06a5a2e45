use Rattle.std.proofs.Common.{◌≡◌, [], ◌∷◌, ◌++◌, refl, map, ap}
use Rattle.std.proofs.lemmas.Int.{to_z-of_z}
use Rattle.gw_machine.proofs.Retrying.{state-retries, linked-retries}
use Rattle.gw_machine.specs.Shown.{configuration_of}
use Rattle.gw_machine.proofs.Knowing.{known-by}
use Rattle.gw_machine.specs.View.{state_of, member_number}
use Rattle.gw_machine.proofs.machine.Machine.join_retry_list.Goals as goal

joined : (c : goal.After-push_retry) → c.push_retry.new.self.retry ≡ (configuration_of c.self.inside).waits.retry
    ++ record { tx = c.args.tx; priority = c.args.priority } ∷ []
joined c = let fits = c.ranges.priority in simp to_z-of_z at c.push_retry.ensures.retry

pub returns : goal.returns
returns c = rw (← c.self.view_is)
    (state-retries (configuration_of c.self.inside) c.args.tx c.args.priority c.push_retry.new.self (joined c) c.push_retry.ensures.lists, refl)

pub invariant_of-self : goal.invariant_of-self
invariant_of-self c = (
  linked-retries (configuration_of c.self.inside) c.args.tx c.args.priority c.self.invariant.0 (rw (← c.self.view_is) at c.requires.rests)
      (rw (← c.self.view_is) at c.requires.rank) c.push_retry.new.self (joined c) c.push_retry.ensures.lists
      _ refl refl refl refl refl refl refl refl refl ((rw (← c.self.view_is) at (returns c)).0),
  known-by c.self.inside.wants (state_of (configuration_of c.self.inside)) _ refl (ap (map (map member_number)) c.push_retry.ensures.lists)
      refl c.self.invariant.1,
)
