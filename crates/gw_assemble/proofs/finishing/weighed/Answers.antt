use Rattle.std.proofs.Common.{rules}
use Rattle.gw_object.specs.Grammar.{HasSpelling}
use Rattle.gw_assemble.proofs.Failing.{fails, unweighed}
use Rattle.gw_assemble.proofs.finishing.weighed.Goals as goal

pub returns-in-Err-verify-clause-refused : goal.returns-in-Err-verify-clause-refused
returns-in-Err-verify-clause-refused c =
    let spelled : HasSpelling c.in-Ok.object = search rules in
    fails c.args.settled c.requires.kinds c.requires.code c.requires.flow c.in-Ok.object c.in-Ok.ensures.weighed spelled
    c.in-Err-verify.fault c.in-Err-verify.ensures.refused.1

pub returns-in-Err-clause-refused : goal.returns-in-Err-clause-refused
returns-in-Err-clause-refused c = unweighed c.args.settled c.in-Err.refusal _ c.fault_without_weights.ensures c.in-Err.ensures.refused
