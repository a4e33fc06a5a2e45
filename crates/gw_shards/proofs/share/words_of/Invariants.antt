-- the words so far, and those that are left, are all
use Rattle.std.proofs.Common.{◌≡◌, ◌++◌, drop}
use Rattle.gw_experiment.specs.Answers.{lent_texts, texts}
use Rattle.gw_shards.proofs.share.words_of.Given as goal

abbrev pub invariant-loop-i : goal.invariant-loop-i
invariant-loop-i l =
    lent_texts l.words.items ++ texts (drop l.i l.experiment.parameters.items) ≡ texts l.experiment.parameters.items
