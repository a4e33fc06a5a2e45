-- The law of studies on many machines.
use Rattle.std.specs.Prelude.{◌≡◌, ◌≤◌, ◌<◌, ℕ, List, [], length}
use Rattle.std.specs.List.{Contains}
use Rattle.gw_answers.specs.Status.{end_status}
use Rattle.gw_study.specs.Study.{IsStudy}
use Rattle.gw_study.specs.declared.request.StudyRequest.{StudyRequest}
use Rattle.gw_shards.specs.Rows.{AreRows}
use Rattle.gw_shards.specs.declared.request.RowsRequest.{RowsRequest}
use Rattle.gw_summary.specs.Keeping.{AreLines}
use Rattle.gw_summary.specs.StudyTold.{TellsStudies}
use Rattle.gw_summary.specs.declared.telling.SummaryRequest.{SummaryRequest}

-- bytes have the lines of rows, in any order and each as often as may be
pub record HaveLinesOf (rows bytes : List ℕ) : Type 0 where
  pub lines : List (List ℕ)
  pub split : AreLines rows lines []
  pub others : List (List ℕ)
  pub others_split : AreLines bytes others []
  pub from : (line : List ℕ) → Contains others line → Contains lines line
  pub all : (line : List ℕ) → Contains lines line → Contains others line

-- no line of bytes is above 2^24 bytes
abbrev pub HaveShortLines : List ℕ → Type 0
HaveShortLines bytes =
    (lines : List (List ℕ)) → AreLines bytes lines [] → (line : List ℕ) → Contains lines line → length line ≤ 16777216

-- what a study of as many runs as rows is asked for
abbrev pub study_of : RowsRequest → SummaryRequest → StudyRequest
study_of request sum = record {
  runs = request.end;
  count = request.count;
  from = request.from;
  seeds = 1;
  workers = 0;
  all = sum.all;
}

-- rows are those of runs from 0 on, at least one and at most 512, and a summary asks for the first study of as many
pub record AreOfFirstStudy (request : RowsRequest) (sum : SummaryRequest) : Type 0 where
  pub first : request.first ≡ 0
  pub some : 0 < request.end
  pub few : request.end ≤ 512
  pub seeds : sum.seeds ≡ 1

-- what is told of all rows of a model's runs, in any order, is the study of as many runs
abbrev pub SummariesAreStudies : Type 0
SummariesAreStudies =
    (text : List ℕ) (request : RowsRequest) (sum : SummaryRequest) (rows bytes told : List ℕ) (status : ℕ)
    → AreOfFirstStudy request sum → AreRows text [] request rows end_status → HaveShortLines rows → HaveLinesOf rows bytes
    → TellsStudies bytes sum told status → (status ≡ end_status) × IsStudy text (study_of request sum) told status
