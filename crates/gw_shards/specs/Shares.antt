-- The rows of a share of a model's experiment.
use Rattle.std.specs.Prelude.{◌≡◌, ◌⊎◌, ℕ, ◌+◌, ◌*◌, ◌==◌, nat_lt, List, [], ◌∷◌, length, MatchBool, Result, Ok, Err, OnOk, Vec}
use Rattle.std.specs.Prelude.{if◌then◌else◌}
use Rattle.std.specs.Global.{Global}
use Rattle.gw_answers.specs.Status.{end_status, refusal_status}
use Rattle.gw_experiment.specs.Experiments.{Experiment, experiment_in}
use Rattle.gw_experiment.specs.Shares.{share_of, run_at}
use Rattle.gw_experiment.specs.declared.shares.Share.{Share}
use Rattle.gw_alternatives.specs.Alternatives.{ArePoints}
use Rattle.gw_alternatives.specs.declared.study_point.StudyPoint.{StudyPoint}
use Rattle.gw_rows.specs.Refusals.{refusal_rows}
use Rattle.gw_shards.specs.Rows.{Common, digest, header_of, view, AddsRowsOf}
use Rattle.gw_shards.specs.declared.rows.Common as declared_rows
use Rattle.gw_shards.specs.declared.share.Part.{Part}

-- how many jobs there are: a run of a point each
abbrev pub jobs_of : List StudyPoint → Experiment → ℕ
jobs_of points experiment = length points * experiment.runs

-- what rows of an experiment have in common, by the digest of its model
abbrev pub common_by : List ℕ → List StudyPoint → Experiment → Common
common_by model points experiment = record { model = model; rows = jobs_of points experiment; from = experiment.from }

-- the rows of a point's runs from one number to another, but not that one, are added, with the line before them where it isn't the
-- last such line; nothing where there are no runs
abbrev pub AddsPart : Common → ℕ → ℕ → List ℕ → StudyPoint → List ℕ → List ℕ → Type 0
AddsPart common first end last point old new =
    MatchBool (nat_lt first end) (AddsRowsOf common first end last point old new) (new ≡ old)

-- the last line before rows behind these
abbrev pub last_header : ℕ → ℕ → List ℕ → StudyPoint → List ℕ
last_header first end last point = if nat_lt first end then header_of point else last

-- the rows of the jobs that a share has of points that follow one another, from one on, are added
unfoldable pub AddsParts : Common → Share → ℕ → ℕ → List ℕ → List StudyPoint → List ℕ → List ℕ → Type 0
AddsParts common share runs number last [] old new = new ≡ old
AddsParts common share runs number last (point ∷ points) old new =
    (middle : List ℕ)
    × AddsPart common (run_at share.first number runs) (run_at share.end number runs) last point old middle
    × AddsParts common share runs (number + 1)
    (last_header (run_at share.first number runs) (run_at share.end number runs) last point) points middle new

-- where all went well, the rows of a part are added, or those of a share; the first text is the line before the last rows
abbrev pub PutsPart : {E : Type 0} → Result (Unit {0}) E → declared_rows.Common → ℕ → ℕ → Vec ℕ Global → StudyPoint → Vec ℕ Global → Vec ℕ Global → Type 0
PutsPart result common first end last point old new =
    OnOk result (AddsPart (view common) first end last.items point old.items new.items)

abbrev pub PutsParts : {E : Type 0} → Result (Unit {0}) E → declared_rows.Common → Share → ℕ → Vec ℕ Global → List StudyPoint
    → Vec ℕ Global → Vec ℕ Global → Type 0
PutsParts result common share runs last points old new =
    OnOk result (AddsParts (view common) share runs 0 last.items points old.items new.items)

-- where a share has no job, the line before rows of the first point comes alone
abbrev pub lone_header : Share → List StudyPoint → List ℕ
lone_header share [] = []
lone_header share (point ∷ points) = if share.first == share.end then header_of point else []

-- the rows of a share of these points
abbrev pub AreShareRows : Common → Share → ℕ → List StudyPoint → List ℕ → Type 0
AreShareRows common share runs points text =
    AddsParts common share runs 0 (lone_header share points) points (lone_header share points) text

-- the rows of a share of an experiment with these points, by the digest of its model, and the share's number, of so many
abbrev pub AreExperimentRows : List ℕ → Experiment → ℕ → ℕ → List StudyPoint → List ℕ → Type 0
AreExperimentRows model experiment number shares points text =
    AreShareRows (common_by model points experiment) (share_of (jobs_of points experiment) number shares)
    experiment.runs points text

-- the same by what the code has of a share
abbrev pub ArePartRows : List ℕ → Experiment → Part → List StudyPoint → List ℕ → Type 0
ArePartRows model experiment part points text = AreExperimentRows model experiment part.number part.shares points text

-- the rows of a share of an experiment, by its number, of so many
pub record IsShareOf (text : List ℕ) (experiment : Experiment) (number shares : ℕ) (out : List ℕ) : Type 0 where
  pub points : List StudyPoint
  pub asked : ArePoints text experiment.parameters experiment.count points
  pub rows : AreExperimentRows (digest text) experiment number shares points out

-- a refusal as a row
abbrev pub IsRefusedRow : List ℕ → List ℕ → ℕ → Type 0
IsRefusedRow text out status = (status ≡ refusal_status) × ((why : List ℕ) × (out ≡ refusal_rows (digest text) why))

-- the rows of a share of an experiment, or a refusal
abbrev pub IsShareOr : List ℕ → Experiment → ℕ → ℕ → List ℕ → ℕ → Type 0
IsShareOr text experiment number shares out status =
    ((status ≡ end_status) × IsShareOf text experiment number shares out) ⊎ IsRefusedRow text out status

-- the refusal of what a text's lines ask for, as a row
abbrev pub IsRefusedExperiment : List ℕ → List ℕ → ℕ → Type 0
IsRefusedExperiment text out status =
    (why : List ℕ) × (experiment_in text ≡ Err why) × (status ≡ refusal_status)
    × (out ≡ refusal_rows (digest text) why)

-- what is answered: those of the experiment that a text's lines ask for, or its refusal
abbrev pub IsShareAnswer : List ℕ → ℕ → ℕ → List ℕ → ℕ → Type 0
IsShareAnswer text number shares out status =
    ((experiment : Experiment) × (experiment_in text ≡ Ok experiment)
    × IsShareOr text experiment number shares out status)
    ⊎ IsRefusedExperiment text out status
