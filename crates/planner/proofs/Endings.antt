-- With which statuses answers end.
use Rattle.std.proofs.Common.{◌≡◌, ℕ, List, [], ◌∷◌, Bool, true, false, Result, Ok, Err, MatchResult, inl, inr}
use Rattle.std.proofs.Common.{◌+◌, take}
use Rattle.std.specs.Prelude.{MatchBool}
use Rattle.gw_object.specs.declared.limits.TheConstants.{MOST_BYTES}
use Rattle.gw_object.specs.declared.fault.Fault.{Fault}
use Rattle.gw_object.specs.declared.parts.Parts.{Parts}
use Rattle.gw_step.specs.Job.{Job}
use Rattle.gw_answers.specs.Refusal.{refusal_line}
use Rattle.gw_answers.specs.Status.{end_status, refusal_status}
use Rattle.gw_answers.specs.Answer.{object_of, accepted_line}
use Rattle.gw_console.proofs.Outputs.{IsEnd, Ends}
use Rattle.gw_answers.specs.Inputs.{is_object}
use Rattle.gw_source_lines.specs.Sites.{no_sites}
use Rattle.gw_explain.specs.Explanation.{Begins, IsAdvised, IsExplainedModel, IsExplainedText}
use Rattle.gw_listing.specs.Listing.{IsListingOf, TellsRefusal, IsListedModel, IsListedText}
use Rattle.gw_answers.specs.ModelJobs.{AnswersModel}
use Rattle.gw_trace.specs.Trace.{IsTrace}
use Rattle.gw_chart.specs.Charts.{IsChart, IsSheet}
use Rattle.gw_study.specs.Study.{IsStudy}
use Rattle.gw_study.specs.declared.request.StudyRequest.{StudyRequest}
use Rattle.gw_alternatives.specs.declared.form.Form.{Form}
use Rattle.gw_alternatives.specs.Alternatives.{ArePoints, AreModels}
use Rattle.gw_alternatives.specs.Told.{IsAnswerAbout, IsToldOr}
use Rattle.gw_alternatives.specs.declared.study_point.StudyPoint.{StudyPoint}
use Rattle.gw_shards.specs.Objects.{IsSpelled, IsFirstObject}
use Rattle.gw_shards.specs.Shares.{IsShareOr}
use Rattle.gw_command_line.specs.Words.{Act, Ask, Charts, Code, Help, Version, Studies, Compares, Rows, Sums, Object as ObjectOf, Shares, Demand, RunsDemand, LoneDemand}
use Rattle.gw_command_line.specs.declared.rows.Shard.{Shard}
use Rattle.gw_command_line.specs.declared.rows.Summing.{Summing}
use Rattle.gw_summary.specs.Telling.{IsSummary, IsSummaryOf}
use Rattle.gw_summary.specs.declared.rows.Rows.{Rows as RowsOfStudy}
use Rattle.gw_summary.specs.declared.telling.SummaryRequest.{SummaryRequest}
use Rattle.gw_planner.specs.Answers.{act_answering, question_answering, window_of, is_plain, request_of, words_of, studied_with, study_answering}
use Rattle.gw_planner.specs.Answers.{comparison_answering, rows_asked, share_asked, object_asked}
use Rattle.planner.specs.Answers.{of_front, summary_answering, summary_of}
use Rattle.gw_command_line.specs.declared.words.Question.{Question}
use Rattle.gw_command_line.specs.declared.words.Question.TheVariants.{Explain, List as Lists, Points, Convert, Trace, Report}
use Rattle.gw_command_line.specs.declared.words.Span.{Span}

explained_model : (bytes : List ℕ) (ss : _) (text : List ℕ) (status : ℕ) → IsExplainedModel bytes ss text status → IsEnd status
explained_model bytes ss text status (inl h) = inl h.0
explained_model bytes ss text status (inr h) = inr h.0

explained_text : (bytes text : List ℕ) (status : ℕ) → IsExplainedText bytes text status → IsEnd status
explained_text bytes text status (inl h) = explained_model bytes h.0 text status h.2
explained_text bytes text status (inr h) = inr h.0

explained_object : (r : Result Parts Fault) (text : List ℕ) (status : ℕ)
    → MatchResult r (λ object. (status ≡ end_status) × Begins (accepted_line object) text)
    (λ fault. (status ≡ refusal_status) × IsAdvised (refusal_line fault) fault.code text)
    → IsEnd status
explained_object (Ok object) text status h = inl h.0
explained_object (Err fault) text status h = inr h.0

listed_model : (ss : _) (text : List ℕ) (status : ℕ) → IsListedModel ss text status → IsEnd status
listed_model ss text status (inl h) = inl h.0
listed_model ss text status (inr h) = inr h.2.0

listed_text : (bytes text : List ℕ) (status : ℕ) → IsListedText bytes text status → IsEnd status
listed_text bytes text status (inl h) = listed_model h.0 text status h.2
listed_text bytes text status (inr h) = inr h.2.0

listed_object : (r : Result Parts Fault) (text : List ℕ) (status : ℕ)
    → MatchResult r (λ parts. (status ≡ end_status) × IsListingOf parts no_sites text) (λ fault. TellsRefusal fault text status) → IsEnd status
listed_object (Ok parts) text status h = inl h.0
listed_object (Err fault) text status h = inr h.0

-- of an object, or of a text
of_either : (is_object : Bool) (Object Text : Type 0) (status : ℕ) → (Object → IsEnd status) → (Text → IsEnd status)
    → MatchBool is_object Object Text → IsEnd status
of_either true Object Text status object text h = object h
of_either false Object Text status object text h = text h

shown : (Shows : Job → List ℕ → Type 0) (bytes text : List ℕ) (status : ℕ) → AnswersModel Shows bytes text status → IsEnd status
shown Shows bytes text status (inl h) = inl h.0
shown Shows bytes text status (inr h) = inr h.0

-- those of a study
study : (bytes : List ℕ) (request : StudyRequest) (text : List ℕ) (status : ℕ) → IsStudy bytes request text status → IsEnd status
study bytes request text status (inl h) = inl h.0
study bytes request text status (inr h) = inr h.0

-- those of alternatives
about : (form : Form) (request : StudyRequest) (alternatives : _) (text : List ℕ) (status : ℕ)
    → IsAnswerAbout form request alternatives text status → IsEnd status
about form request alternatives text status (inl h) = inl h.0
about form request alternatives text status (inr h) = inr h

told : (Are : _) (form : Form) (request : StudyRequest) (text : List ℕ) (status : ℕ) → IsToldOr Are form request text status → IsEnd status
told Are form request text status (inl h) = about form request h.0 text status h.2
told Are form request text status (inr h) = inr h

alone : (plain : Bool) (d : Demand) (bytes text : List ℕ) (status : ℕ)
    → MatchBool plain (IsStudy bytes (request_of d) text status) (studied_with d bytes text status) → IsEnd status
alone true d bytes text status h = study bytes (request_of d) text status h
alone false d bytes text status (inl h) = told (ArePoints bytes (words_of d.options) (request_of d).count) h.0 (request_of d) text status h.2
alone false d bytes text status (inr h) = inr h

pair : (d : Demand) (bytes text : List ℕ) (status : ℕ) → comparison_answering d bytes text status → IsEnd status
pair d bytes text status (inl h) = told (AreModels h.0 h.1 (request_of d).count) h.3.0 (request_of d) text status h.3.2
pair d bytes text status (inr h) = inr h

ends : (question : Question) (bytes text : List ℕ) (status : ℕ) → question_answering question bytes text status → IsEnd status
ends Explain bytes text status h =
    of_either (is_object bytes) _ _ status (explained_object (object_of bytes) text status) (explained_text bytes text status) h
ends Lists bytes text status h =
    of_either (is_object bytes) _ _ status (listed_object (object_of bytes) text status) (listed_text bytes text status) h
ends (Points span) bytes text status h = shown (IsSheet (window_of span)) bytes text status h
ends Convert bytes text status h = inl h.ends
ends (Trace from to) bytes text status h = shown (IsTrace from to) bytes text status h
ends (Report seed count) bytes text status (inl h) = inl h.0
ends (Report seed count) bytes text status (inr h) = inr h.0

-- those of a study, or of a comparison
studying : (is_pair : Bool) (d : Demand) (bytes text : List ℕ) (status : ℕ) → study_answering is_pair d bytes text status → IsEnd status
studying true d bytes text status h = pair d bytes text status h
studying false d bytes text status h = alone (is_plain d.options) d bytes text status h

-- those of rows, shares, objects and summaries
object_end : (parts : Parts) (out : List ℕ) (status : ℕ) → IsSpelled parts out status → IsEnd status
object_end parts out status (inl h) = inl h.0
object_end parts out status (inr h) = inr h

first_object : (points : List StudyPoint) (run : ℕ) (out : List ℕ) (status : ℕ) → IsFirstObject points run out status → IsEnd status
first_object [] run out status h = absurd h
first_object (point ∷ points) run out status h = object_end _ out status h

of_share : (text : List ℕ) (experiment : _) (number shares : ℕ) (out : List ℕ) (status : ℕ) → IsShareOr text experiment number shares out status → IsEnd status
of_share text experiment number shares out status (inl h) = inl h.0
of_share text experiment number shares out status (inr h) = inr h.0

rows : (d : RunsDemand) (bytes text : List ℕ) (status : ℕ) → rows_asked d bytes text status → IsEnd status
rows d bytes text status (inl h) = inl h.0
rows d bytes text status (inr h) = inr h.0

share : (shard : Shard) (bytes text : List ℕ) (status : ℕ) → share_asked shard bytes text status → IsEnd status
share shard bytes text status (inl h) = of_share _ h.0 shard.number shard.shares text status h.2
share shard bytes text status (inr h) = inr h.2

object : (d : LoneDemand) (bytes text : List ℕ) (status : ℕ) → object_asked d bytes text status → IsEnd status
object d bytes text status (inl h) = first_object h.0 d.run text status h.2
object d bytes text status (inr h) = inr h

act : (a : Act) (bytes text : List ℕ) (status : ℕ) → act_answering a bytes text status → IsEnd status
act (Ask question) bytes text status h = ends question bytes text status h
act (Charts span name) bytes text status h = shown (IsChart (window_of span) name) bytes text status h
act (Code code) bytes text status h = inl h.1
act (Studies d) bytes text status h = studying false d bytes text status h
act (Compares d) bytes text status h = studying true d bytes text status h
act (Rows d) bytes text status h = rows d bytes text status h
act (ObjectOf d) bytes text status h = object d bytes text status h
act (Shares shard) bytes text status h = share shard bytes text status h
act (Sums summing) bytes text status h = absurd h
act Help bytes text status h = absurd h
act Version bytes text status h = absurd h

-- those of a command about an input
pub act_ends : (a : Act) → Ends (of_front (act_answering a))
act_ends a bytes text status h = act a (take (MOST_BYTES + 1) bytes) text status h

summary_end : (rows : RowsOfStudy) (request : SummaryRequest) (text : List ℕ) (status : ℕ) → IsSummary rows request text status → IsEnd status
summary_end rows request text status (inl h) = inl h.0
summary_end rows request text status (inr h) = inr h

pub summed_ends : (summing : Summing) → Ends (summary_answering summing)
summed_ends summing bytes text status h = by_answer h.0
  where
    by_answer : IsSummaryOf bytes (summary_of summing) text status → IsEnd status
    by_answer (inl h) = summary_end h.0 _ text status h.2
    by_answer (inr h) = inr h
