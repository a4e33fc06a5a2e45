use Rattle.std.proofs.Common.{◌≡◌, ◌++◌, take}
use Rattle.gw_explain.specs.Rounds.{enumeration}
use Rattle.gw_explain.proofs.rounds.put_enumeration.Given as goal

-- the blocks so far are there
abbrev pub invariant-loop-number : goal.invariant-loop-number
invariant-loop-number l = l.out.items ≡ l.fn.out.items ++ enumeration (take l.number-index l.numbers)
