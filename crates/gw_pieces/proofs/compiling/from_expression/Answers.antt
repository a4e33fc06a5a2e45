use Rattle.std.proofs.Common.{◌<◌, ◌⊎◌, [], length, inr, sym, subst}
use Rattle.gw_object.specs.declared.code.Procedure.{Procedure}
use Rattle.gw_object.specs.Limits.{most_instructions}
use Rattle.gw_compile.specs.Code.{procedure_code}
use Rattle.gw_compile.specs.Unknown.{first_blame}
use Rattle.gw_names.specs.Numbers.{numbers_of}
use Rattle.gw_pieces.specs.Reasons.{Explains, IsTooLong, LacksExpression, NamesUnknown, blamed_by}
use Rattle.gw_pieces.proofs.Noting.{told, explains_by}
use Rattle.gw_pieces.proofs.compiling.from_expression.Goals as goal

pub returns-in-Err-clause-blamed : goal.returns-in-Err-clause-blamed
returns-in-Err-clause-blamed c =
    let n = numbers_of c.args.names.now in
    let s = c.args.statement.now in
    let k = c.args.operand in
    let e = c.in-Some.expression.now in
    let at = sym c.in-Some.ensures in
    let says = told Procedure (first_blame n [] e) (most_instructions < length (procedure_code n e)) c.in-Err.fault c.in-Err.ensures.fault in
    subst (λ b. Explains b (IsTooLong n s k) (LacksExpression s k ⊎ NamesUnknown n s k)) (sym c.blamed_of.ensures)
    (explains_by (blamed_by c.in-Err.fault) (λ over. (e, at, over)) (λ blame. inr (e, at, blame)) says)
