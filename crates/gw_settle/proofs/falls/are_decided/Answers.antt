use Rattle.std.proofs.Common.{rules, ◌≡◌, ◌<◌, length, true}
use Rattle.gw_settle.proofs.Placing.{decided_more, decided_all}
use Rattle.gw_settle.proofs.falls.are_decided.Goals as goal

pub loop-i-preserved : goal.loop-i-preserved
loop-i-preserved c =
    let yes : c.block_is_decided.result ≡ true = search rules in
    let near : c.loop-i.i < length c.args.near.now.blocks.items = search rules in
    let last : c.loop-i.i < length c.args.last.now.blocks.items = search rules in
    decided_more c.args.parts.now.blocks c.args.near.now.blocks.items c.args.last.now.blocks.items c.loop-i.i _ _ _ near last
    (search rules) (search rules) (search rules) (c.block_is_decided.ensures yes) c.loop-i.invariant

pub returns : goal.returns
returns c = λ yes. decided_all c.args.parts.now c.args.near.now.blocks.items c.args.last.now.blocks.items c.loop-i.i (search rules) c.loop-i.invariant
