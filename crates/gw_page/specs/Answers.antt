-- What an inquiry about a text is answered.
use Rattle.std.specs.Prelude.{◌≡◌, ◌≢◌, ◌⊎◌, ℕ, List, is_some, true, false, if◌then◌else◌}
use Rattle.gw_answers.specs.Status.{end_status}
use Rattle.gw_explain.specs.Explanation.{IsExplained}
use Rattle.gw_command_line.specs.Options.{Choices}
use Rattle.gw_command_line.specs.Words.{Act, Ask, Charts, Code, Help, Version, Studies, Compares, Rows, Sums, Object, Shares}
use Rattle.gw_command_line.specs.declared.words.Question.{Question}
use Rattle.gw_command_line.specs.declared.words.Question.TheVariants.{Points, Trace}
use Rattle.gw_planner.specs.Answers.{act_answering}
use Rattle.gw_page.specs.Limits.{Costs}
use Rattle.gw_page.specs.declared.reply.Kind.{Kind}
use Rattle.gw_page.specs.declared.reply.Kind.TheVariants.{Plain, Csv, Svg}
use Rattle.gw_page.specs.declared.reply.Outcome.{Outcome}
use Rattle.gw_page.specs.declared.reply.Outcome.TheVariants.{Answered, Refused, Unavailable}
use Rattle.gw_page.specs.declared.reply.Reply.{Reply}
use Rattle.gw_page.specs.declared.texts.TheConstants.{NO_MEMORY, TOO_FAR, TOO_LONG, TOO_MANY, UNCOUNTED}

-- what kind of text a study is
abbrev pub kind_of_study : Choices → Kind
kind_of_study o = if is_some o.figure then Svg else if o.csv then Csv else Plain

abbrev pub kind_of_question : Question → Kind
kind_of_question (Points span) = Csv
kind_of_question _ = Plain

-- what kind of text answers a command
abbrev pub kind_of : Act → Kind
kind_of (Ask question) = kind_of_question question
kind_of (Charts span name) = Svg
kind_of (Studies d) = kind_of_study d.options
kind_of (Rows d) = Csv
kind_of _ = Plain

abbrev pub excess_of_question : Question → List ℕ
excess_of_question (Trace from to) = TOO_FAR.now
excess_of_question _ = TOO_LONG.now

-- what is said where a command costs more than it may
abbrev pub excess_of : Act → List ℕ
excess_of (Ask question) = excess_of_question question
excess_of (Studies d) = TOO_MANY.now
excess_of (Rows d) = TOO_MANY.now
excess_of _ = TOO_LONG.now

-- a reply is this
pub record IsSaid (outcome : Outcome) (kind : Kind) (text : List ℕ) (reply : Reply) : Type 0 where
  pub became : reply.outcome ≡ outcome
  pub is : reply.kind ≡ kind
  pub says : reply.text.items ≡ text

-- the explanation of a text that is refused; of one that isn't, the refusal of what is asked
abbrev pub TellsRefusal : List ℕ → List ℕ → List ℕ → Type 0
TellsRefusal text own told =
    ((status : ℕ) × (status ≢ end_status) × IsExplained text told status)
    ⊎ ((told ≡ own) × ((other : List ℕ) × IsExplained text other end_status))

-- 200: what was counted beforehand, and found within the limits, has the answer
pub record IsAnswered (act : Act) (text : List ℕ) (reply : Reply) : Type 0 where
  pub outcome : reply.outcome ≡ Answered
  pub kind : reply.kind ≡ kind_of act
  pub answer : act_answering act text reply.text.items end_status
  pub within : Costs act text true

-- 422: what is asked is refused
pub record IsRefused (act : Act) (text : List ℕ) (reply : Reply) : Type 0 where
  pub outcome : reply.outcome ≡ Refused
  pub kind : reply.kind ≡ Plain
  pub own : List ℕ
  pub status : ℕ
  pub refused : status ≢ end_status
  pub answer : act_answering act text own status
  pub told : TellsRefusal text own reply.text.items

-- 503: it costs more than it may, or its cost couldn't be counted
abbrev pub IsTooDear : Act → List ℕ → Reply → Type 0
IsTooDear act text reply =
    (IsSaid Unavailable Plain (excess_of act) reply × Costs act text false) ⊎ IsSaid Unavailable Plain UNCOUNTED.now reply

-- the reply to a command about a text
abbrev pub IsReplyTo : Act → List ℕ → Reply → Type 0
IsReplyTo act text reply = IsAnswered act text reply ⊎ IsRefused act text reply ⊎ IsTooDear act text reply
