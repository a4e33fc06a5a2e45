-- the points so far have their shares
use Rattle.std.proofs.Common.{take, true}
use Rattle.std.specs.List.{All}
use Rattle.gw_page.specs.Limits.{IsShare}
use Rattle.gw_page.proofs.limits.are_shares.Given as goal

abbrev pub invariant-loop-i : goal.invariant-loop-i
invariant-loop-i l = All (λ a. IsShare l.number l.steps l.numbers a.spec true) (take l.i l.points)
