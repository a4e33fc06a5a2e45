use Rattle.std.proofs.Common.{rules, ◌<◌, Bool, Err, None, length, arith, map}
use Rattle.std.specs.Prelude.{string_bytes}
use Rattle.gw_object.specs.Limits.{most_locals}
use Rattle.gw_compile.specs.Statements.{body_of}
use Rattle.gw_compile.specs.Unknown.{Judges}
use Rattle.gw_compile.proofs.Writing.{grows, limit_alone}
use Rattle.gw_compile.proofs.procedures.body_of.Goals as goal

pub returns-in_err-declare_all-clause-fault : goal.returns-in_err-declare_all-clause-fault
returns-in_err-declare_all-clause-fault g c =
    let n = g.N.Numbering.numbers c.args.names.now in
    let procedure = c.args.procedure.now in
    let body = body_of n procedure in
    let fault = c.in_err-declare_all.field-0.0 in
    let names = map string_bytes procedure.arguments.items in
    let grown = grows n names 0 procedure.statement in
    let judged : Judges {A = Unit {0}} None (most_locals < length names) (Err fault) = search rules in
    let own : Judges {A = Bool} body.blame (most_locals < length body.scope) (Err fault) =
    limit_alone (Unit {0}) Bool body.blame (most_locals < length names) (most_locals < length body.scope) fault (λ over. omega (arith, over, grown)) judged in
    search rules
