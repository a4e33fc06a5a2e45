use Rattle.gw_command_line.specs.Words.{act_of}
use Rattle.gw_console.proofs.Outputs.{delivers, answer_statuses}
use Rattle.gw_console.proofs.Calls.{of_reading}
use Rattle.planner.proofs.Endings.{act_ends}
use Rattle.planner.proofs.program.ask.Goals as goal

pub returns-clause-written : goal.returns-clause-written
returns-clause-written g c =
    delivers _ (act_ends (act_of c.args.command.now)) _ _ _ _ c.read_and_answer.result c.read_and_answer.ensures.answer c.deliver.ensures.bytes

pub returns-clause-calls : goal.returns-clause-calls
returns-clause-calls g c =
    let reading = c.read_and_answer.ensures in
    of_reading _ _ _ _ _ c.requires.reader c.read_and_answer.result
    (answer_statuses _ (act_ends (act_of c.args.command.now)) _ c.read_and_answer.result reading.answer)
    reading.told reading.whole reading.limited c.deliver.ensures.bytes c.deliver.ensures.told c.deliver.ensures.flushed
