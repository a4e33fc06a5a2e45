use Rattle.std.proofs.Common.{rules, ◌≡◌, [], None, length, ◌≤◌, ap, ◌∙◌, arith}
use Rattle.gw_object.specs.Limits.{most_instructions, most_backs, most_locals}
use Rattle.gw_object.specs.CodeGrammar.{backs}
use Rattle.gw_compile.specs.Code.{procedure_code}
use Rattle.gw_compile.specs.Unknown.{first_blame}
use Rattle.gw_compile.proofs.Backs.{none_in_procedure}
use Rattle.gw_compile.proofs.Follows.{keeps_value}
use Rattle.gw_compile.proofs.procedures.compile.Goals as goal

pub returns-in-Ok-clause-compiled : goal.returns-in-Ok-clause-compiled
returns-in-Ok-clause-compiled g c =
    let n = g.N.Numbering.numbers c.args.names.now in
    let e = c.args.expression.now in
    let pr = c.in-Ok.procedure in
    let code : pr.code ≡ procedure_code n e = search rules in
    let none : first_blame n [] e ≡ None = c.in_ok-code.ensures.fault in
    let few : length pr.code ≤ most_instructions = search rules in
    let turns : backs pr.code ≤ most_backs = let none_back = ap backs code ∙ none_in_procedure n e in omega arith in
    let none_kept : pr.locals ≤ most_locals = let zero_locals = c.in-Ok.ensures.counts.1 in omega arith in
    record {
      arguments = c.in-Ok.ensures.counts.0;
      locals = c.in-Ok.ensures.counts.1;
      code = code;
      limits = record { instructions = few; backs = turns; locals = none_kept };
      needs = c.in-Ok.ensures.needs;
      value = keeps_value n e pr c.in-Ok.ensures.counts.0 c.in-Ok.ensures.counts.1 code none;
    }
