use Rattle.std.proofs.Common.{rules}
use Rattle.gw_settle.proofs.Keeping.{params_more}
use Rattle.gw_settle.proofs.known.params_joined.Goals as goal

pub loop-param-preserved : goal.loop-param-preserved
loop-param-preserved c =
    params_more c.args.params.now c.args.state.now c.loop-param.all.items c.push_joined.new.all.items c.loop-param.param-index
    c.param-item.result c.requires.params c.loop-param-test.true (search rules) c.loop-param.invariant
