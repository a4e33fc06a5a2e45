-- The refusal of what a command is asked for, with its reason.
use Rattle.std.specs.Prelude.{ℕ, List, ◌++◌, codes}
use Rattle.gw_answers.specs.Refusal.{refusal_text}
use Rattle.gw_answers.specs.Service.{nowhere}

-- its code and name, what is refused, and why, on a line of its own
unfoldable pub refusal_with_reason : ℕ → List ℕ → List ℕ → List ℕ
refusal_with_reason code subject reason = refusal_text (nowhere code) ++ codes " at " ++ subject ++ codes "\nwrong: " ++ reason ++ codes "\n"
