use Rattle.std.proofs.Common.{◌^◌}
use Rattle.gw_experiment.proofs.Digits.{no_number}
use Rattle.gw_experiment.proofs.words.number_of.Goals as goal

pub returns-in-Err : goal.returns-in-Err
returns-in-Err c = no_number (2 ^ 64) c.args.word.now c.in-Err.ensures.cases.0
