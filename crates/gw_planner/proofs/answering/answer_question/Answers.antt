-- A question for a conversion is answered by one.
use Rattle.std.proofs.Common.{IfOk, subst, sym}
use Rattle.gw_command_line.specs.declared.words.Question.{Question}
use Rattle.gw_planner.specs.Answers.{question_answering}
use Rattle.gw_planner.proofs.answering.answer_question.Goals as goal

pub returns-in-Convert : goal.returns-in-Convert
returns-in-Convert c =
    subst (λ (q : Question). IfOk c.conversion.result (λ a. question_answering q c.args.input.now a.text.items a.status))
    (sym c.in-Convert.is) c.conversion.ensures
