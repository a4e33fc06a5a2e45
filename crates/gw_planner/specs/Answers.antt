-- What is asked of a model text or an object held in memory, and what answers it: a text and a status.
use Rattle.std.specs.Prelude.{◌≡◌, ◌≢◌, ◌⊎◌, ℕ, List, ◌++◌, map, Vec, Option, None, Some, option_to_list, is_none, Bool, true, false, not, ◌&&◌, MatchBool}
use Rattle.std.specs.Borrow.{Bor}
use Rattle.std.specs.Global.{Global}
use Rattle.std.specs.Option.{unwrap_or}
use Rattle.gw_answers.specs.Status.{end_status, refusal_status}
use Rattle.gw_report.specs.Report.{Ends}
use Rattle.gw_answers.specs.Requests.{Answering}
use Rattle.gw_explain.specs.Explanation.{IsExplained}
use Rattle.gw_explain.specs.Meaning.{meaning}
use Rattle.gw_listing.specs.Listing.{IsListed}
use Rattle.gw_answers.specs.ModelJobs.{AnswersModel, AnswersWith}
use Rattle.gw_trace.specs.Trace.{IsTrace}
use Rattle.gw_chart.specs.Charts.{IsChart, IsSheet}
use Rattle.gw_chart.specs.declared.window.Window.{Window}
use Rattle.gw_convert.specs.Pieces.{IsConverted}
use Rattle.gw_study.specs.Study.{IsStudy}
use Rattle.gw_study.specs.declared.request.StudyRequest.{StudyRequest}
use Rattle.gw_alternatives.specs.Told.{IsStudyOfPoints, IsComparison}
use Rattle.gw_alternatives.specs.declared.form.Form.{Form}
use Rattle.gw_alternatives.specs.declared.form.Form.TheVariants.{Table, Csv, Picture}
use Rattle.gw_command_line.specs.Options.{Choices}
use Rattle.gw_command_line.specs.Words.{Act, Ask, Charts, Code, Help, Version, Studies, Compares, Rows, Sums, Object, Shares, Demand, RunsDemand, LoneDemand}
use Rattle.gw_command_line.specs.declared.rows.Shard.{Shard}
use Rattle.gw_shards.specs.Objects.{IsObjectAnswer}
use Rattle.gw_shards.specs.Rows.{AreRows}
use Rattle.gw_shards.specs.Shares.{IsShareAnswer}
use Rattle.gw_shards.specs.declared.request.RowsRequest.{RowsRequest}
use Rattle.gw_command_line.specs.declared.words.Question.{Question}
use Rattle.gw_command_line.specs.declared.words.Question.TheVariants.{Explain, List as Lists, Points, Convert, Trace, Report}
use Rattle.gw_command_line.specs.declared.words.Span.{Span}

-- a text of GPSS World in this language, and what of it is still refused behind that
pub record IsConversion (bytes text : List ℕ) (status : ℕ) : Type 0 where
  pub ends : status ≡ end_status
  pub new : List ℕ
  pub converted : IsConverted bytes new
  pub told : List ℕ
  pub whole : text ≡ new ++ told

-- the window of a run that is shown
abbrev pub window_of : Span → Window
window_of span = record { from = span.from; to = span.to }

-- what answers a question about an input
abbrev pub question_answering : Question → Answering
question_answering Explain = IsExplained
question_answering Lists = IsListed
question_answering (Points span) = AnswersModel (IsSheet (window_of span))
question_answering Convert = IsConversion
question_answering (Trace from to) = AnswersModel (IsTrace from to)
question_answering (Report seed count) = AnswersWith seed count Ends

-- two models in one input: behind its front, which says how long the first is, the first and then the second
abbrev pub IsPair : List ℕ → List ℕ → List ℕ → Type 0
IsPair bytes first second = (front : List ℕ) × (bytes ≡ front ++ first ++ second)

-- what answers a question for a picture under a name
abbrev pub chart_answering : Span → List ℕ → Answering
chart_answering span name = AnswersModel (IsChart (window_of span) name)

-- a request for runs, by what the command line asks for
abbrev pub request_of : Demand → StudyRequest
request_of d = record {
  runs = d.runs;
  count = d.count;
  from = unwrap_or d.options.from 0;
  seeds = unwrap_or d.options.seeds 1;
  workers = unwrap_or d.options.workers 0;
  all = d.options.all;
}

-- a study of the model as it is, as a table
abbrev pub is_plain : Choices → Bool
is_plain o = is_none o.first && is_none o.second && is_none o.third && is_none o.figure && not o.csv

-- the words as `NURSES=2,3`
abbrev pub words_of : Choices → List (List ℕ)
words_of o = option_to_list o.first ++ option_to_list o.second ++ option_to_list o.third

-- a word is added, if there is one
abbrev pub AddsWord : Vec (Bor (List ℕ)) Global → Vec (Bor (List ℕ)) Global → Option (List ℕ) → Type 0
AddsWord old new word = map (λ w. w.now) new.items ≡ map (λ w. w.now) old.items ++ option_to_list word

-- the form that is asked for
abbrev pub IsFormOf : Choices → Form → Type 0
IsFormOf o Table = (o.figure ≡ None) × (o.csv ≡ false)
IsFormOf o Csv = (o.figure ≡ None) × (o.csv ≡ true)
IsFormOf o (Picture figure) = o.figure ≡ Some figure.now

-- what many runs of a model say with other numbers, or in another form; or something is refused
abbrev pub studied_with : Demand → Answering
studied_with d bytes text status =
    ((form : Form) × IsFormOf d.options form × IsStudyOfPoints bytes (words_of d.options) form (request_of d) text status)
    ⊎ (status ≡ refusal_status)

-- what many runs of a model say: of the model as it is a study's table
abbrev pub studied_alone : Demand → Answering
studied_alone d bytes text status =
    MatchBool (is_plain d.options) (IsStudy bytes (request_of d) text status) (studied_with d bytes text status)

-- what many runs of two models say, in the form that is asked for
abbrev pub AreCompared : Demand → List ℕ → List ℕ → List ℕ → ℕ → Type 0
AreCompared d first second text status = (form : Form) × IsFormOf d.options form × IsComparison first second form (request_of d) text status

-- the same of an input: the first of them stands behind its length, and the second behind that; or something is refused
abbrev pub comparison_answering : Demand → Answering
comparison_answering d bytes text status =
    ((first : List ℕ) × (second : List ℕ) × IsPair bytes first second × AreCompared d first second text status)
    ⊎ (status ≡ refusal_status)

-- what many runs say, of one model or of two
abbrev pub study_answering : Bool → Demand → Answering
study_answering true d bytes text status = comparison_answering d bytes text status
study_answering false d bytes text status = studied_alone d bytes text status

-- a request for rows, by what the command line asks for
abbrev pub rows_request_of : RunsDemand → RowsRequest
rows_request_of d = record {
  first = d.first;
  end = d.end;
  count = d.count;
  from = unwrap_or d.options.from 0;
  workers = unwrap_or d.options.workers 0;
}

-- the rows of runs of a model, of a share of its experiment, and the object of a run
abbrev pub rows_asked : RunsDemand → Answering
rows_asked d bytes text status = AreRows bytes (words_of d.options) (rows_request_of d) text status

abbrev pub share_asked : Shard → Answering
share_asked shard bytes text status = IsShareAnswer bytes shard.number shard.shares text status

abbrev pub object_asked : LoneDemand → Answering
object_asked d bytes text status = IsObjectAnswer bytes (words_of d.options) d.run d.count text status

-- whether a command is about an input in memory: a summary reads its rows piece by piece, and what the program says of itself
-- needs no input
abbrev pub is_of_input : Act → Bool
is_of_input (Sums summing) = false
is_of_input Help = false
is_of_input Version = false
is_of_input _ = true

-- what answers such a command about its input
abbrev pub act_answering : Act → Answering
act_answering (Ask question) bytes text status = question_answering question bytes text status
act_answering (Charts span name) bytes text status = chart_answering span name bytes text status
act_answering (Code code) bytes text status = (text ≡ meaning code) × (status ≡ end_status)
act_answering (Studies d) bytes text status = study_answering false d bytes text status
act_answering (Compares d) bytes text status = study_answering true d bytes text status
act_answering (Rows d) bytes text status = rows_asked d bytes text status
act_answering (Object d) bytes text status = object_asked d bytes text status
act_answering (Shares shard) bytes text status = share_asked shard bytes text status
act_answering _ bytes text status = ⊥
