use Rattle.std.proofs.Common.{subst}
use Rattle.gw_pieces.specs.Plans.{names_planned}
use Rattle.gw_pieces.specs.Reasons.{Exceeds, LacksCode}
use Rattle.gw_pieces.specs.Sources.{IsProcedureOf}
use Rattle.gw_pieces.proofs.Compiled.{keeps_limits}
use Rattle.gw_pieces.proofs.Noting.{explained, nothing_more}
use Rattle.gw_pieces.proofs.Succeeding.{on_ok, always}
use Rattle.gw_pieces.proofs.compiling.put_procedure.Goals as goal

pub returns-in-Ok-clause-grown : goal.returns-in-Ok-clause-grown
returns-in-Ok-clause-grown c =
    let n = names_planned c.args.plan.now in
    let compiled = subst (λ before. IsProcedureOf n before c.args.statement.now c.args.operand c.in-Ok.procedure) c.deref.ensures.value
    c.in-Ok.ensures.compiled in
    on_ok c.put_code.result (λ is none. (none, (c.in-Ok.procedure, compiled, is))) c.put_code.ensures

pub returns-in-Ok-clause-notes : goal.returns-in-Ok-clause-notes
returns-in-Ok-clause-notes c =
    let n = names_planned c.args.plan.now in
    let s = c.args.statement.now in
    let keeps = keeps_limits n _ s c.args.operand c.in-Ok.procedure c.in-Ok.ensures.compiled in
    always _ (nothing_more c.args.ledger.now.least (λ note d. keeps d.0.0))

pub returns-in-Err-clause-notes : goal.returns-in-Err-clause-notes
returns-in-Err-clause-notes c =
    let n = names_planned c.args.plan.now in
    let s = c.args.statement.now in
    let k = c.args.operand in
    on_ok c.note_blamed.result (λ is. explained c.in-Err.blamed (Exceeds n s k) (LacksCode n s k) _ _ s.line is c.in-Err.ensures.blamed)
    c.note_blamed.ensures.notes
