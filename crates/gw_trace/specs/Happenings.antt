-- What a step did: by what was seen of the state before it, and the state after it.
use Rattle.std.specs.Prelude.{ℕ, ◌-◌, length, Option, Some, None, is_some, Bool, true, false, not, nat_lt, ◌==◌, ◌&&◌, if◌then◌else◌}
use Rattle.std.specs.Int.{from_bool}
use Rattle.gw_num.specs.Table.{at}
use Rattle.gw_step.specs.State.{State}
use Rattle.gw_transactions.specs.declared.Transaction.{Transaction}
use Rattle.gw_scan.specs.Views.{active_attributes, delayed_in}
use Rattle.gw_trace.specs.declared.sight.Candidate.{Candidate}
use Rattle.gw_trace.specs.declared.sight.Choice.{Choice}
use Rattle.gw_trace.specs.declared.sight.Sight.{Sight}
use Rattle.gw_trace.specs.declared.happening.Happening.{Happening}
use Rattle.gw_trace.specs.declared.happening.Happening.TheVariants.{Activation, ClockMove, Entry, Refusal, Stop}

-- nobody was active: somebody is so now; or the future events chain is shorter; or neither
abbrev pub without_active : Sight → State → Happening
without_active before after =
    if is_some after.lists.active then Activation
    else if nat_lt (length after.lists.future_events) before.future_events then ClockMove
    else Stop

-- a block, if it has more entries
abbrev pub entered_since : Candidate → State → Option ℕ
entered_since before after = if nat_lt before.entries (at 0 after.entries before.block) then Some before.block else None

-- the first of two that has more entries, if one has
abbrev pub or_second : Option ℕ → Option ℕ → Option ℕ
or_second None second = second
or_second (Some b) second = Some b

abbrev pub either_entered : Choice → State → Option ℕ
either_entered before after = or_second (entered_since before.first after) (entered_since before.second after)

-- the block that was entered by who had entered this TRANSFER BOTH, if it entered one: the one where it is, if it is
-- still active; else the one that has more entries
abbrev pub entered_by : ℕ → Choice → State → Option Transaction → Option ℕ
entered_by both before after None = either_entered before after
entered_by both before after (Some t) = if t.current == both then None else Some t.current

abbrev pub entered_from : ℕ → Choice → State → Option ℕ
entered_from both before after = entered_by both before after (active_attributes after)

-- the block that was entered by who was active, if it entered one, by whether it tried two
abbrev pub entered_of : Option Choice → Candidate → State → Option ℕ
entered_of None next after = entered_since next after
entered_of (Some choice) next after = entered_from next.block choice after

abbrev pub entered_block : Sight → State → Option ℕ
entered_block before after = entered_of before.choice before.next after

-- somebody was active: it entered a block; or it is still active; or it rests
abbrev pub with_entry : Option ℕ → State → Happening
with_entry (Some b) after = Entry b
with_entry None after = if is_some after.lists.active then Stop else Refusal

abbrev pub with_active : Sight → State → Happening
with_active before after = with_entry (entered_block before after) after

-- the same, by who was active
abbrev pub happening_by : Option ℕ → Sight → State → Happening
happening_by None before after = without_active before after
happening_by (Some n) before after = with_active before after

-- what the step did that led to a state
abbrev pub what_happened : Sight → State → Happening
what_happened before after = happening_by before.active before after

abbrev pub is_refusal : Happening → Bool
is_refusal Refusal = true
is_refusal other = false

-- the delay lists have more members
abbrev pub is_delayed : Sight → State → Bool
is_delayed before after = nat_lt before.delayed (delayed_in after)

-- by how many members the delay lists are shorter
abbrev pub let_in : Sight → State → ℕ
let_in before after = before.delayed - delayed_in after

-- by how many members the retry list is shorter, who was refused just now left out
abbrev pub woken_members : Sight → State → Happening → ℕ
woken_members before after what =
    before.retrying - (length after.lists.retry - from_bool (is_refusal what && not (is_delayed before after)))
