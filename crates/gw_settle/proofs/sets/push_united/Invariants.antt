use Rattle.std.proofs.Common.{drop}
use Rattle.gw_settle.proofs.Uniting.{United}
use Rattle.gw_settle.proofs.sets.push_united.Given as goal

abbrev pub invariant-loop-number : goal.invariant-loop-number
invariant-loop-number l =
    United l.fn.all.items l.numbers l.others l.all.items l.rest (drop l.number-index l.others)
