use Rattle.std.proofs.Common.{◌∙◌, sym}
use Rattle.gw_num.proofs.Tables.{at-get_or, at_past}
use Rattle.gw_code_flow.proofs.costs.cost_at.Goals as goal

pub returns-in-Some : goal.returns-in-Some
returns-in-Some c = c.in-Some.ensures.lookup.3.1 0 ∙ sym (at-get_or 0 c.args.costs.now c.args.procedure)

pub returns-in-None : goal.returns-in-None
returns-in-None c = sym (at_past 0 c.args.costs.now c.args.procedure c.in-None.ensures.lookup.3)
