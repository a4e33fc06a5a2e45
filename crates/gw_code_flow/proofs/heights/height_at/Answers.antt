use Rattle.std.proofs.Common.{◌∙◌, sym, None}
use Rattle.gw_num.proofs.Tables.{at-get_or, at_past}
use Rattle.gw_code_flow.proofs.heights.height_at.Goals as goal

pub returns-in-Some : goal.returns-in-Some
returns-in-Some c = c.in-Some.ensures.lookup.3.1 None ∙ sym (at-get_or None c.args.heights.now c.args.position)

pub returns-in-None : goal.returns-in-None
returns-in-None c = sym (at_past None c.args.heights.now c.args.position c.in-None.ensures.lookup.3)
