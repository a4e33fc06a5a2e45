-- Lists of calls on a current events chain: what they leave of it, and what they answer.
use Rattle.std.specs.Prelude.{List, Option, None, option_map}
use Rattle.gw_plain_chains.specs.Calling.{BodyState}
use Rattle.gw_members.specs.Chain.{behind, ahead, first, rest}
use Rattle.gw_members.specs.Members.{first_tx}
use Rattle.gw_members.specs.declared.tx.Member.{Member}
use Rattle.gw_members.specs.declared.tx.Tx.{Tx}
use Rattle.gw_plain_chains.specs.declared.priority_chain.PriorityCall.{PriorityCall}
use Rattle.gw_plain_chains.specs.declared.priority_chain.PriorityCall.TheVariants.{InsertBehind, InsertAhead, PopFirst}

-- a chain with one more member, behind its peers and ahead of them, and one without its first
abbrev pub with_behind : Member → BodyState Member → BodyState Member
with_behind member s = record s { members = behind (λ (m : Member). m.priority) member s.members }

abbrev pub with_ahead : Member → BodyState Member → BodyState Member
with_ahead member s = record s { members = ahead (λ (m : Member). m.priority) member s.members }

abbrev pub without_first : BodyState Member → BodyState Member
without_first s = record s { members = rest s.members }

-- a chain after a call
abbrev pub after_call : PriorityCall → BodyState Member → BodyState Member
after_call (InsertBehind member) s = with_behind member s
after_call (InsertAhead member) s = with_ahead member s
after_call PopFirst s = without_first s

-- what a call answers: who left, if anybody did
abbrev pub answer_of : PriorityCall → BodyState Member → Option Tx
answer_of (InsertBehind member) s = None
answer_of (InsertAhead member) s = None
answer_of PopFirst s = first_tx s.members
