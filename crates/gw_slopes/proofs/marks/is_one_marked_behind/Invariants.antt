use Rattle.std.proofs.Common.{◌≡◌, false, drop, get_or}
use Rattle.std.specs.List.{list_any}
use Rattle.gw_slopes.proofs.marks.is_one_marked_behind.Given as goal

-- of the blocks that are left one is where one of all is
abbrev pub invariant-loop-caller : goal.invariant-loop-caller
invariant-loop-caller l = list_any (λ caller. get_or l.marks caller false) l.callers
    ≡ list_any (λ caller. get_or l.marks caller false) (drop l.caller-index l.callers)
