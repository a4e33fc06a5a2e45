-- What is answered of an experiment is answered of a text that asks for it.
use Rattle.std.proofs.Common.{◌≡◌, ℕ, List, Result, Ok, Err, IfOk, inl}
use Rattle.gw_answers.specs.declared.answer.Answer.{Answer}
use Rattle.gw_experiment.specs.Experiments.{Experiment, experiment_in}
use Rattle.gw_shards.specs.Shares.{IsShareOr, IsShareAnswer}

pub of_experiment : {E : Type 0} (text : List ℕ) (experiment : Experiment) (number shares : ℕ) (r : Result Answer E)
    → experiment_in text ≡ Ok experiment → IfOk r (λ a. IsShareOr text experiment number shares a.text.items a.status)
    → IfOk r (λ a. IsShareAnswer text number shares a.text.items a.status)
of_experiment text experiment number shares (Ok a) asked h = inl (experiment, asked, h)
of_experiment text experiment number shares (Err e) asked h = tt
