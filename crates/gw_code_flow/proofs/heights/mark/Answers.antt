use Rattle.std.proofs.Common.{None, Some, arith}
use Rattle.gw_num.proofs.Tables.{set-put}
use Rattle.gw_code_flow.proofs.heights.mark.Goals as goal

pub returns : goal.returns
returns c = set-put None c.args.heights.now c.args.target (Some c.args.height) (omega (arith, c.told-heights))
