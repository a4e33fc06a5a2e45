use Rattle.std.proofs.Common.{rules, ◌≡◌, ◌≤◌, None, length}
use Rattle.gw_object.specs.Limits.{most_instructions, most_backs, most_locals}
use Rattle.gw_object.specs.CodeGrammar.{backs}
use Rattle.gw_compile.specs.Statements.{body_of, body_code}
use Rattle.gw_compile.proofs.Reached.{values_kept}
use Rattle.gw_compile.proofs.procedures.compile_procedure.Goals as goal

pub returns-in-Ok-clause-compiled : goal.returns-in-Ok-clause-compiled
returns-in-Ok-clause-compiled g c =
    let n = g.N.Numbering.numbers c.args.names.now in
    let procedure = c.args.procedure.now in
    let body = body_of n procedure in
    let pr = c.in-Ok.procedure in
    let code : pr.code ≡ body_code body = search rules in
    let none : body.blame ≡ None = search rules in
    let few : length pr.code ≤ most_instructions = search rules in
    let turns : backs pr.code ≤ most_backs = search rules in
    let room : pr.locals ≤ most_locals = search rules in
    record {
      arguments = search rules;
      locals = search rules;
      code = code;
      limits = record { instructions = few; backs = turns; locals = room };
      needs = c.in-Ok.ensures.needs;
      values = values_kept n procedure pr code none;
    }
