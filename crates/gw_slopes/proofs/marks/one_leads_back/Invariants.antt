use Rattle.std.proofs.Common.{◌≡◌, drop}
use Rattle.std.specs.List.{list_any}
use Rattle.gw_slopes.specs.Sloped.{leads_back}
use Rattle.gw_slopes.proofs.marks.one_leads_back.Given as goal

-- of the exits that are left one does where one of all does
abbrev pub invariant-loop-exit : goal.invariant-loop-exit
invariant-loop-exit l = list_any (leads_back l.marks l.number l.block l.parameter) l.exits
    ≡ list_any (leads_back l.marks l.number l.block l.parameter) (drop l.exit-index l.exits)
