-- what is asked for so far, and the lines that are left, ask for what all lines ask for
use Rattle.std.proofs.Common.{◌≡◌, ◌+◌, drop}
use Rattle.gw_experiment.specs.Answers.{lent_texts, view_of_draft}
use Rattle.gw_experiment.specs.Experiments.{experiment_from, experiment_of_lines}
use Rattle.gw_experiment.proofs.experiment.draft_of.Given as goal

abbrev pub invariant-loop-i : goal.invariant-loop-i
invariant-loop-i l =
    experiment_from (l.i + 1) (view_of_draft l.draft) (lent_texts (drop l.i l.lines)) ≡ experiment_of_lines (lent_texts l.lines)
