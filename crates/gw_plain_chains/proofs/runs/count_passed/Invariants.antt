use Rattle.std.proofs.Common.{◌≤ℤ◌, take}
use Rattle.std.specs.Prelude.{All}
use Rattle.gw_members.specs.declared.tx.Event.{Event as DeclaredEvent}
use Rattle.gw_plain_chains.proofs.runs.count_passed.Given as goal

-- so far all are scheduled for the time or earlier
abbrev pub invariant-loop-i : goal.invariant-loop-i
invariant-loop-i l = All (λ (e : DeclaredEvent). e.time ≤ℤ l.event.time) (take l.i l.settled.items)
