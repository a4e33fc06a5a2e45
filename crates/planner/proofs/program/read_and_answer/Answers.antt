use Rattle.gw_command_line.specs.Words.{act_of}
use Rattle.planner.proofs.Fronts.{front_answered}
use Rattle.gw_planner.specs.Answers.{act_answering}
use Rattle.planner.proofs.program.read_and_answer.Goals as goal

pub returns-clause-answer : goal.returns-clause-answer
returns-clause-answer g c =
    front_answered (act_answering (act_of c.args.command.now)) _ c.in_ok-input.input.items
    c.in_ok-input.ensures.front c.in_ok-input.ensures.within
    c.answer_command.result c.or_no_memory.result (rw c.deref.ensures.value at c.answer_command.ensures) c.or_no_memory.ensures
