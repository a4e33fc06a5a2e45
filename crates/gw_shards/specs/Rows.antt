-- Rows of runs of a model's points.
use Rattle.std.specs.Prelude.{◌≡◌, ◌⊎◌, ◌<◌, ◌≤◌, ℕ, ◌+◌, ◌^◌, List, [], ◌∷◌, ◌++◌, length, Result, OnOk, Vec, if◌then◌else◌}
use Rattle.std.specs.Global.{Global}
use Rattle.std.specs.List.{All}
use Rattle.std.specs.Str.{bytes_eq}
use Rattle.hex.specs.Hex.{encode_lower}
use Rattle.sha2.specs.Sha256.{sha256}
use Rattle.gw_object.specs.Grammar.{HasSpelling}
use Rattle.gw_answers.specs.Status.{end_status, refusal_status}
use Rattle.gw_figures.specs.Labels.{labels_of}
use Rattle.gw_figures.specs.declared.run.Run.{Run}
use Rattle.gw_study.specs.Runs.{AreRunsFrom}
use Rattle.gw_study.specs.Table.{Adds}
use Rattle.gw_alternatives.specs.Alternatives.{ArePoints}
use Rattle.gw_alternatives.specs.declared.study_point.StudyPoint.{StudyPoint}
use Rattle.gw_rows.specs.Names.{header}
use Rattle.gw_rows.specs.Reading.{MayBeInRange}
use Rattle.gw_rows.specs.Refusals.{refusal_rows}
use Rattle.gw_rows.specs.Rows.{Source, rows_from}
use Rattle.gw_shards.specs.declared.request.RowsRequest.{RowsRequest}
use Rattle.gw_shards.specs.declared.rows.Common as declared_rows

-- the digest of a model text: its SHA-256 in hexadecimal digits
abbrev pub digest : List ℕ → List ℕ
digest text = encode_lower (sha256 text)

-- what rows have in common: the digest of the model, how many there are in all or 0, and where their window begins
pub record Common : Type 0 where
  pub model : List ℕ
  pub rows : ℕ
  pub from : ℕ

-- of what the runs of a point are some
abbrev pub source : Common → StudyPoint → Source
source common point =
    record { model = common.model; rows = common.rows; point = point.name.items; count = point.spec.count; from = common.from }

-- what the code has of it
abbrev pub view : declared_rows.Common → Common
view common = record { model = common.model.now; rows = common.rows; from = common.from }

-- what can be read is said of a point's runs: their count and where their window begins are in range, and the object has a spelling
pub record MayBeRead (common : Common) (point : StudyPoint) : Type 0 where
  pub least : 1 ≤ point.spec.count
  pub most : point.spec.count ≤ 2 ^ 40
  pub from : common.from < 2 ^ 64
  pub spelled : HasSpelling point.spec.parts

-- the rows of the lone runs of a point from one number to another, but not that one, in order
pub record AreRowsOf (common : Common) (point : StudyPoint) (first end : ℕ) (text : List ℕ) : Type 0 where
  pub runs : List Run
  pub number : first + length runs ≡ end
  pub lone : AreRunsFrom point.spec common.from first runs
  pub range : All (MayBeInRange (labels_of point.spec.parts)) runs
  pub may : MayBeRead common point
  pub text_is : text ≡ rows_from (labels_of point.spec.parts) (source common point) first runs

-- such rows are added
abbrev pub AddsLoneRows : declared_rows.Common → StudyPoint → ℕ → ℕ → List ℕ → List ℕ → Type 0
AddsLoneRows common point first end old new = Adds (AreRowsOf (view common) point first end) old new

-- the line before rows of a point
abbrev pub header_of : StudyPoint → List ℕ
header_of point = header (labels_of point.spec.parts)

-- the same where it isn't the line before the last rows
abbrev pub header_unless : List ℕ → StudyPoint → List ℕ
header_unless last point = if bytes_eq (header_of point) last then [] else header_of point

-- the rows of these runs of a point are added, with the line before them where it isn't the last such line
abbrev pub AddsRowsOf : Common → ℕ → ℕ → List ℕ → StudyPoint → List ℕ → List ℕ → Type 0
AddsRowsOf common first end last point old new =
    (rows : List ℕ) × AreRowsOf common point first end rows × (new ≡ (old ++ header_unless last point) ++ rows)

-- the same of each point, one behind the other
unfoldable pub AddsRowsOfPoints : Common → ℕ → ℕ → List ℕ → List StudyPoint → List ℕ → List ℕ → Type 0
AddsRowsOfPoints common first end last [] old new = new ≡ old
AddsRowsOfPoints common first end last (point ∷ points) old new =
    (middle : List ℕ) × AddsRowsOf common first end last point old middle
    × AddsRowsOfPoints common first end (header_of point) points middle new

-- where all went well, rows of a point are added, or those of points; the first text is the line before the last rows
abbrev pub PutsRowsOf : {E : Type 0} → Result (Unit {0}) E → declared_rows.Common → ℕ → ℕ → Vec ℕ Global → StudyPoint → Vec ℕ Global → Vec ℕ Global → Type 0
PutsRowsOf result common first end last point old new =
    OnOk result (AddsRowsOf (view common) first end last.items point old.items new.items)

abbrev pub PutsRowsOfPoints : {E : Type 0} → Result (Unit {0}) E → declared_rows.Common → ℕ → ℕ → Vec ℕ Global → List StudyPoint
    → Vec ℕ Global → Vec ℕ Global → Type 0
PutsRowsOfPoints result common first end last points old new =
    OnOk result (AddsRowsOfPoints (view common) first end last.items points old.items new.items)

-- the rows of all these points that a request asks for
abbrev pub AreRequestRows : Common → RowsRequest → List StudyPoint → List ℕ → Type 0
AreRequestRows common request points out = AddsRowsOfPoints common request.first request.end [] points [] out

-- what rows of a request have in common
abbrev pub common_of : List ℕ → RowsRequest → Common
common_of text request = record { model = digest text; rows = 0; from = request.from }

-- what is answered: the rows of all points that words ask for, or a refusal as a row
abbrev pub AreRows : List ℕ → List (List ℕ) → RowsRequest → List ℕ → ℕ → Type 0
AreRows text words request out status =
    ((status ≡ end_status) × ((points : List StudyPoint) × ArePoints text words request.count points
    × AreRequestRows (common_of text request) request points out))
    ⊎ ((status ≡ refusal_status) × ((why : List ℕ) × (out ≡ refusal_rows (digest text) why)))
