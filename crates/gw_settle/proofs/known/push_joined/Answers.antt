use Rattle.gw_flow.specs.Viewed.{kind_viewed}
use Rattle.std.specs.Prelude.{option_map}
use Rattle.gw_settle.proofs.Keeping.{found_ascends}
use Rattle.gw_settle.proofs.known.push_joined.Goals as goal

pub kind_joined-requires-clause-other : goal.kind_joined-requires-clause-other
kind_joined-requires-clause-other c =
    found_ascends (option_map kind_viewed c.kind_of.result) c.args.state.now.params c.args.param.now.number c.kind_of.ensures c.requires.state.returns
