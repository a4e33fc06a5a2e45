use Rattle.std.proofs.Common.{◌≡◌, ◌≤◌, ◌+◌, ◌-◌, ◌^◌, min, drop}
use Rattle.gw_study.specs.Streams.{drawn_from}
use Rattle.gw_study.proofs.streams.drawn_from.Given as goal

-- what was drawn at the blocks so far, and at those that are left, is all, or both are too many
abbrev pub invariant-loop-i : goal.invariant-loop-i
invariant-loop-i l =
    (l.drawn ≤ 2 ^ 127 - 1)
    × (min (2 ^ 127 - 1) (l.drawn + drawn_from l.entities l.stream l.steps l.values l.i (drop l.i l.blocks))
    ≡ min (2 ^ 127 - 1) (drawn_from l.entities l.stream l.steps l.values 0 l.blocks))
