use Rattle.std.proofs.Common.{arith}
use Rattle.gw_chains.proofs.Spotting.{place_turn, settled_where}
use Rattle.gw_chains.proofs.spot.settle.Goals.{else-spot-len-via-then-spot-len+else-spot-index, else-spot-len-via-else-spot-len}
use Rattle.gw_chains.proofs.spot.settle.Goals as goal

pub returns-then-spot-index-clause-place : goal.returns-then-spot-index-clause-place
returns-then-spot-index-clause-place c =
    place_turn c.args.row.now.items c.args.spot c.start_of.result c.index.result.now
    (omega (arith, c.args.row.now.ok.0, c.len.ensures, c.if-spot-len.true)) c.index.ensures c.if-spot-index.true
    c.start_of.ensures.bucket c.start_of.ensures.passed

pub returns-else-spot-len-clause-settled : goal.returns-else-spot-len-clause-settled
returns-else-spot-len-clause-settled c within = elim c.else-spot-len.branch [
  | else-spot-len-via-then-spot-len+else-spot-index w ↦
      settled_where c.args.row.now.items c.args.spot w.index.result.now within w.index.ensures w.if-spot-index.false c.requires.within
  | else-spot-len-via-else-spot-len w ↦ absurd (omega (arith, c.args.row.now.ok.0, c.len.ensures, w.if-spot-len.false, within))
]
