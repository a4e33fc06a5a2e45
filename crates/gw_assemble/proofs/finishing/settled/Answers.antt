use Rattle.std.proofs.Common.{rules, inl, inr}
use Rattle.gw_object.specs.Grammar.{HasSpelling}
use Rattle.gw_assemble.specs.Completion.{IsSettlement}
use Rattle.gw_assemble.proofs.Failing.{no_completion}
use Rattle.gw_assemble.proofs.Completed.{on_ok}
use Rattle.gw_assemble.proofs.finishing.settled.Goals as goal

pub returns-in-Ok-clause-accepted : goal.returns-in-Ok-clause-accepted
returns-in-Ok-clause-accepted c =
    let done = c.in-Ok.ensures in
    let spelled : HasSpelling c.in-Ok.object = search rules in
    let settlement : IsSettlement c.args.object c.in-Ok.object =
    record { spelled = spelled; passes = done.accepted; code = done.code; table = done.table; greatest = done.greatest } in
    on_ok c.weighed.result (λ v w. record { settled = c.in-Ok.object; settlement = settlement; weights = w }) c.weighed.ensures.accepted

pub returns-in-Ok-clause-refused : goal.returns-in-Ok-clause-refused
returns-in-Ok-clause-refused c =
    let done = c.in-Ok.ensures in
    let spelled : HasSpelling c.in-Ok.object = search rules in
    let settlement : IsSettlement c.args.object c.in-Ok.object =
    record { spelled = spelled; passes = done.accepted; code = done.code; table = done.table; greatest = done.greatest } in
    no_completion c.weighed.result c.args.object c.in-Ok.object settlement c.weighed.ensures.refused

pub returns-in-Err-clause-refused : goal.returns-in-Err-clause-refused
returns-in-Err-clause-refused c =
    let spelled : HasSpelling c.args.object = search rules in
    inr (inr (inl (record {
      spelled = spelled;
      kinds = c.requires.kinds;
      code = c.requires.code;
      settling = c.in-Err.ensures.refused;
      complete = c.in-Err.ensures.complete;
    })))
