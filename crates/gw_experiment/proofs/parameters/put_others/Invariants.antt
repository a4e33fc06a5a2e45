-- what is written, and the numbers that are left, are what was there and all numbers
use Rattle.std.proofs.Common.{◌≡◌, ◌++◌, codes, drop}
use Rattle.std.specs.List.{flat_map}
use Rattle.gw_experiment.specs.Answers.{lent_texts}
use Rattle.gw_experiment.proofs.parameters.put_others.Given as goal

abbrev pub invariant-loop-i : goal.invariant-loop-i
invariant-loop-i l =
    l.word.items ++ flat_map (λ n. codes "," ++ n) (lent_texts (drop l.i l.numbers))
    ≡ l.initial.word.items ++ flat_map (λ n. codes "," ++ n) (lent_texts l.numbers)
