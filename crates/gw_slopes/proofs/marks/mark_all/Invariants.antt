use Rattle.std.proofs.Common.{◌≡◌, ◌+◌, ◌≤◌, length}
use Rattle.gw_slopes.specs.Marking.{AreSound, missing_marks}
use Rattle.gw_slopes.proofs.marks.mark_all.Given as goal

-- marks are sound, and each round has put one
abbrev pub invariant-loop : goal.invariant-loop
invariant-loop l = (length l.marks ≡ length l.parts.blocks) × AreSound l.parts l.parameter l.marks × (missing_marks l.marks + l.counter ≤ length l.parts.blocks)
