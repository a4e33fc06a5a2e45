use Rattle.gw_members.specs.declared.tx.Event.{Event}
use Rattle.gw_plain_chains.proofs.Merging.{rest_in_order}
use Rattle.gw_plain_chains.proofs.runs.pop_first.Goals as goal

pub returns-then-begins_recent-clause-ordered : goal.returns-then-begins_recent-clause-ordered
returns-then-begins_recent-clause-ordered c = rw c.pop_front.ensures.rest (rest_in_order (λ (e : Event). e.time) c.args.recent.now.items c.requires)
