use Rattle.std.proofs.Common.{◌∙◌, ap, subst}
use Rattle.gw_rules.specs.KindsLaws.{OperandHolds}
use Rattle.gw_rules.specs.Code.{asked_by_source}
use Rattle.gw_rules.specs.PlusLaws.{HasSet}
use Rattle.gw_rules.specs.Values.{source_value}
use Rattle.gw_plus.specs.Reading as lent
use Rattle.gw_machine.specs.View.{state_of}
use Rattle.gw_machine.specs.Evaluating.{environment_for}
use Rattle.gw_machine.proofs.Evaluating.{can_evaluate, may_read_kept, procedure-value}
use Rattle.gw_machine.proofs.machine.Machine.source_value.Goals as goal
use Rattle.gw_machine.proofs.machine.Machine.source_value.Goals.{After-env}

can : (c : After-env) → lent.CanEvaluate c.args.verified.now (lent.environment_of c.env.result) c.in-Procedure.procedure
can c =
    let p = c.args.verified.now in
    let env = environment_for c.args.subject (state_of c.args.self.now) in
    can_evaluate p c.env.result env c.env.ensures.same c.in-Procedure.procedure (subst (OperandHolds p) c.in-Procedure.is c.requires.holds)
    (subst (λ o. HasSet env (asked_by_source p o)) c.in-Procedure.is c.requires.set)

pub eval-requires-clause-can : goal.eval-requires-clause-can
eval-requires-clause-can c = can (goal.at.eval-requires-clause-can c).After-env

pub kept_value-requires : goal.kept_value-requires
kept_value-requires c =
    let p = c.args.verified.now in
    may_read_kept p c.env-in_default.result (environment_for c.args.subject (state_of c.args.self.now)) c.env-in_default.ensures.same
    (c.env-in_default.ensures.own p c.requires.own) c.args.source c.requires.holds c.requires.set c.in_default.not-Random c.in_default.not-Procedure

pub returns-in-Procedure : goal.returns-in-Procedure
returns-in-Procedure c =
    let p = c.args.verified.now in
    let env = environment_for c.args.subject (state_of c.args.self.now) in
    ap (λ o. source_value p env c.args.bound o c.args.streams.now) c.in-Procedure.is
    ∙ procedure-value p c.env.result env c.env.ensures.same c.requires.spelled c.requires.checked c.args.bound c.in-Procedure.procedure
    c.args.streams.now c.eval.result (can (goal.at.returns-in-Procedure c).After-env) c.eval.ensures
