-- What may be asked of one input, and what answers it.
use Rattle.std.specs.Prelude.{ℕ, List, Result, IfOk}
use Rattle.gw_answers.specs.declared.answer.Answer.{Answer}
use Rattle.gw_answers.specs.declared.request.Request.{Request}
use Rattle.gw_answers.specs.declared.request.Request.TheVariants.{Run, Check, Asm}
use Rattle.gw_answers.specs.Answer.{IsAnswer, IsCheck}
use Rattle.gw_answers.specs.Assembly.{IsAssembly}

-- what answers bytes: a text and a status
abbrev pub Answering : Type 1
Answering = List ℕ → List ℕ → ℕ → Type 0

-- where an answer comes, this holds of its text and its status
abbrev pub AnswersAs : {E : Type 0} → Result Answer E → (List ℕ → ℕ → Type 0) → Type 0
AnswersAs result Says = IfOk result (λ a. Says a.text.items a.status)

-- what answers a request
abbrev pub answers_to : Request → Answering
answers_to (Run seed count) = IsAnswer seed count
answers_to Check = IsCheck
answers_to Asm = IsAssembly
