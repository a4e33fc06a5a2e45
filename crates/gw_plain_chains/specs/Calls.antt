-- Lists of calls on a future events chain: what they leave of it, and what they answer.
use Rattle.std.specs.Prelude.{ℤ, Option, None, is_some, if◌then◌else◌}
use Rattle.gw_plain_chains.specs.Calling.{BodyState}
use Rattle.gw_members.specs.Chain.{in_time, rest}
use Rattle.gw_members.specs.Members.{first_due}
use Rattle.gw_members.specs.declared.tx.Event.{Event}
use Rattle.gw_members.specs.declared.tx.Tx.{Tx}
use Rattle.gw_plain_chains.specs.declared.event_chain.EventCall.{EventCall}
use Rattle.gw_plain_chains.specs.declared.event_chain.EventCall.TheVariants.{Schedule, PopDue}

-- a chain with one more event, and one that its first due leaves, if one is due
abbrev pub with_event : Event → BodyState Event → BodyState Event
with_event event s = record s { members = in_time (λ (e : Event). e.time) event s.members }

abbrev pub without_due : ℤ → BodyState Event → BodyState Event
without_due time s = if is_some (first_due time s.members) then record s { members = rest s.members } else s

-- a chain after a call
abbrev pub after_call : EventCall → BodyState Event → BodyState Event
after_call (Schedule event) s = with_event event s
after_call (PopDue time) s = without_due time s

-- what a call answers: who left, if anybody did
abbrev pub answer_of : EventCall → BodyState Event → Option Tx
answer_of (Schedule event) s = None
answer_of (PopDue time) s = first_due time s.members
