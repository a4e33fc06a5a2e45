use Rattle.gw_source_lines.specs.Sites.{sites_told}
use Rattle.gw_answers.specs.Refusal.{refusal_line}
use Rattle.std.specs.Str.Lines.{lines as lines_of_text}
use Rattle.gw_explain.proofs.Beginning.{told_with}
use Rattle.gw_explain.proofs.explaining.refusal_of.Goals as goal

pub returns-clause-text : goal.returns-clause-text
returns-clause-text c =
    told_with (lines_of_text c.args.text.now) (sites_told c.args.sources.now) c.args.fault (refusal_line c.args.fault)
    c.in_ok-answer.answer.text.items c.put_told.new.out.items c.in_ok-answer.ensures.0
    (rw (c.deref.ensures.value, c.in_ok-lines.ensures) at c.in_ok-put_told.ensures)
