-- Lists of calls on a delay list with a walk over it: what they leave of it, and what they answer.
use Rattle.std.specs.Prelude.{ℕ, ◌+◌, Option, None, is_some, if◌then◌else◌, remove}
use Rattle.gw_plain_chains.specs.Calling.{BodyState}
use Rattle.gw_members.specs.Chain.{behind}
use Rattle.gw_members.specs.Members.{tx_at}
use Rattle.gw_members.specs.declared.tx.Member.{Member}
use Rattle.gw_members.specs.declared.tx.Tx.{Tx}
use Rattle.gw_plain_chains.specs.declared.delay_chain.DelayCall.{DelayCall}
use Rattle.gw_plain_chains.specs.declared.delay_chain.DelayCall.TheVariants.{Join, Remove, StartWalk, Pass, Take}

-- what a call answers: who was removed, passed or taken, if anybody was
abbrev pub answer_of : DelayCall → BodyState Member → Option Tx
answer_of (Join member) l = None
answer_of (Remove place) l = tx_at place l.members
answer_of StartWalk l = None
answer_of Pass l = tx_at l.place l.members
answer_of Take l = tx_at l.place l.members

-- a list that a member joins, and one that loses the member at a place: a walk is then at the first again
abbrev pub with_member : Member → BodyState Member → BodyState Member
with_member member l = record { members = behind (λ (m : Member). m.priority) member l.members; place = 0 }

abbrev pub without_member : ℕ → BodyState Member → BodyState Member
without_member place l = record { members = remove l.members place; place = 0 }

-- a list whose walk goes on past the member to which it has come, and one whose walk takes that member out
abbrev pub past_member : BodyState Member → BodyState Member
past_member l = record l { place = l.place + 1 }

abbrev pub without_current : BodyState Member → BodyState Member
without_current l = record l { members = remove l.members l.place }

-- a list of which the member at a place is removed, which a walk passes, and of which it takes one out, if one is there
abbrev pub after_remove : ℕ → BodyState Member → BodyState Member
after_remove place l = if is_some (tx_at place l.members) then without_member place l else l

abbrev pub after_pass : BodyState Member → BodyState Member
after_pass l = if is_some (tx_at l.place l.members) then past_member l else l

abbrev pub after_take : BodyState Member → BodyState Member
after_take l = if is_some (tx_at l.place l.members) then without_current l else l

-- a list after a call
abbrev pub after_call : DelayCall → BodyState Member → BodyState Member
after_call (Join member) l = with_member member l
after_call (Remove place) l = after_remove place l
after_call StartWalk l = record l { place = 0 }
after_call Pass l = after_pass l
after_call Take l = after_take l
