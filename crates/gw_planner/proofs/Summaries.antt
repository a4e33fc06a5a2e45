-- What is told of all rows of a model's runs is the study of as many runs.
use Rattle.std.proofs.Common.{◌≡◌, ◌∙◌, ◌⊎◌, ◌<◌, ◌+◌, ◌++◌, ℕ, zero, suc, List, [], ◌∷◌, length, map, get_or, Some, Ok, true, false, Bool, cond}
use Rattle.std.proofs.Common.{Result, refl, arith, sym, ap, subst, inl, inr}
use Rattle.std.specs.Prelude.{slice_get}
use Rattle.std.specs.List.{All, AllZip, Contains, flat_map}
use Rattle.std.specs.Str.{bytes_eq}
use Rattle.std.proofs.lemmas.List.{append-nil, append_assoc, length-map, length_push, same_from_push}
use Rattle.std.proofs.lemmas.List.Elements.{All-cons, All-contains_itself, Contains-append_cases, Contains-append_right}
use Rattle.std.proofs.lemmas.Slice.Eq.{bytes_eq-Decides}
use Rattle.gw_answers.specs.Status.{end_status}
use Rattle.gw_step.specs.Job.{Job}
use Rattle.gw_figures.specs.Labels.{Label, labels_of}
use Rattle.gw_figures.specs.declared.run.Run.{Run}
use Rattle.gw_figures.proofs.OfLabels.{values_are_of_labels}
use Rattle.gw_parameters.specs.Points.{count_of}
use Rattle.gw_parameters.specs.declared.fault.NoAnswer.{NoAnswer}
use Rattle.gw_parameters.specs.declared.points.Points.{Points}
use Rattle.gw_parameters.specs.declared.points.Points.TheVariants.{One}
use Rattle.gw_rows.specs.Reading.{HasFigures, IsLine, IsPlain, IsWithoutFeed, MayBeInRange, MayChange, Outcome, outcome_of}
use Rattle.gw_rows.specs.Rows.{rows_from}
use Rattle.gw_rows.proofs.Changing.{changes_are_told}
use Rattle.gw_rows.proofs.ModelFigures.{models_are_readable}
use Rattle.gw_rows.proofs.Digits.{digests_are_plain}
use Rattle.gw_rows.proofs.RowLines.{LineOf, line_of_header}
use Rattle.gw_study.specs.Requests.{first_run}
use Rattle.gw_study.specs.Runs.{AreRunsFrom, IsRunOf, run_job, window}
use Rattle.gw_study.specs.Streams.{overdraws_of}
use Rattle.gw_study.specs.Study.{IsCountedJob, IsStudy}
use Rattle.gw_alternatives.specs.Alternatives.{ArePointsFrom}
use Rattle.gw_alternatives.specs.declared.study_point.StudyPoint.{StudyPoint}
use Rattle.gw_shards.specs.Rows.{AddsRowsOfPoints, AreRequestRows, AreRows, AreRowsOf, Common, common_of, header_of, header_unless, source}
use Rattle.gw_shards.specs.declared.request.RowsRequest.{RowsRequest}
use Rattle.gw_summary.specs.Keeping.{AreLines}
use Rattle.gw_summary.specs.StudyRows.{AreAllRows, IsLineIn, IsReadableStudy, StudyRuns}
use Rattle.gw_summary.specs.StudyTold.{IsAsked, IsStudyText}
use Rattle.gw_summary.specs.Complete.{IsFirstOf}
use Rattle.gw_summary.specs.declared.telling.SummaryRequest.{SummaryRequest}
use Rattle.gw_summary.proofs.Splitting.{all_lines}
use Rattle.gw_summary.proofs.Taking.{itself, only}
use Rattle.gw_planner.specs.Laws.{AreOfFirstStudy, HaveLinesOf, HaveShortLines, SummariesAreStudies, study_of}
use Rattle.gw_planner.proofs.RowLines.{AreReadable, RowLines, row_lines}

-- RUNS OF WHICH THE SAME IS KEPT

same_run : (j : Job) (from : ℕ) (run it : Run) → outcome_of it ≡ outcome_of run → IsRunOf j from run → IsRunOf j from it
same_run j from run it same h = record {
  start = h.start;
  middle = h.middle;
  last = h.last;
  starts = h.starts;
  halfway = h.halfway;
  ends = h.ends;
  end = h.end ∙ ap (λ (o : Outcome). Some o.end) (sym same);
  steps = ap (λ (o : Outcome). o.steps) same ∙ h.steps;
  values = ap (λ (o : Outcome). o.values) same ∙ h.values;
  trend = ap (λ (o : Outcome). o.trend) same ∙ h.trend;
  overdraws = ap (λ (o : Outcome). o.overdraws) same ∙ h.overdraws
      ∙ ap (λ (o : Outcome). overdraws_of j.parts o.steps o.values) (sym same);
}

first_same : (o p : Outcome) (os ps : List Outcome) → o ∷ os ≡ p ∷ ps → (o ≡ p) × (os ≡ ps)
first_same o p os ps is = (cc, cc)

-- runs of which the same is kept are the same runs
same_runs : (j : Job) (from k : ℕ) (runs its : List Run) → map outcome_of its ≡ map outcome_of runs → AreRunsFrom j from k runs → AreRunsFrom j from k its
same_runs j from k [] [] same h = tt
same_runs j from k [] (it ∷ its) same h = absurd cc
same_runs j from k (run ∷ runs) [] same h = absurd cc
same_runs j from k (run ∷ runs) (it ∷ its) same h =
    let both = first_same (outcome_of it) (outcome_of run) (map outcome_of its) (map outcome_of runs) same in
    (same_run (run_job j k) from run it both.0 h.0, same_runs j from (k + 1) runs its both.1 h.1)

-- the run at a place
run_at : (j : Job) (from k : ℕ) (runs : List Run) (place : ℕ) (run : Run) → AreRunsFrom j from k runs → slice_get runs place ≡ Some run
    → (n : ℕ) × IsRunOf (run_job j n) from run
run_at j from k [] zero run h at = absurd cc
run_at j from k [] (suc place) run h at = absurd cc
run_at j from k (it ∷ runs) zero run h at = (k, by_same at)
  where
    by_same : Some it ≡ Some run → IsRunOf (run_job j k) from run
    by_same same =
        let is : it ≡ run = cc in
        subst (λ r. IsRunOf (run_job j k) from r) is h.0
run_at j from k (it ∷ runs) (suc place) run h at = run_at j from (k + 1) runs place run h.1 at

in_range_at : (labels : List Label) (runs : List Run) (place : ℕ) (run : Run) → All (MayBeInRange labels) runs → slice_get runs place ≡ Some run
    → MayBeInRange labels run
in_range_at labels [] zero run h at = absurd cc
in_range_at labels [] (suc place) run h at = absurd cc
in_range_at labels (it ∷ runs) zero run h at = by_same at
  where
    by_same : Some it ≡ Some run → MayBeInRange labels run
    by_same same =
        let is : it ≡ run = cc in
        subst (MayBeInRange labels) is (h 0 it (omega arith))
in_range_at labels (it ∷ runs) (suc place) run h at =
    in_range_at labels runs place run (λ k d below. h (suc k) d (omega (arith, below))) at

below_length : (runs : List Run) (place : ℕ) (run : Run) → slice_get runs place ≡ Some run → place < length runs
below_length [] zero run at = absurd cc
below_length [] (suc place) run at = absurd cc
below_length (it ∷ runs) zero run at = omega arith
below_length (it ∷ runs) (suc place) run at = omega (arith, below_length runs place run at)

-- a run of a job has the figures of its model
has_figures : (j : Job) (from : ℕ) (run : Run) → IsRunOf j from run → HasFigures (labels_of j.parts) run
has_figures j from run h = record {
  values = ap length h.values ∙ values_are_of_labels j.parts (window j from h.start h.last);
  trend = subst (AllZip MayChange (labels_of j.parts)) (sym h.trend) (changes_are_told (labels_of j.parts) _ _);
}

-- THE STUDY

-- the runs of a point's rows
abbrev study_runs : Common → StudyPoint → List Run → StudyRuns
study_runs common point runs = record { labels = labels_of point.spec.parts; source = source common point; first = 0; runs = runs }

-- rows of the model as it is: the line before them, and the rows of its runs
record IsAlone (text : List ℕ) (request : RowsRequest) (rows : List ℕ) : Type 0 where
  point : StudyPoint
  called : point.name.items ≡ []
  job : IsCountedJob text request.count point.spec
  behind : List ℕ
  made : AreRowsOf (common_of text request) point request.first request.end behind
  whole : rows ≡ header_of point ++ behind

abbrev as_asked : Points → Result Points NoAnswer
as_asked points = Ok points

one_is : (points : Points) → as_asked points ≡ as_asked One → points ≡ One
one_is points is = cc

-- the line before rows isn't empty
unless_none : (point : StudyPoint) → LineOf (header_of point) → header_unless [] point ≡ header_of point
unless_none point line = by_test (bytes_eq (header_of point) []) refl
  where
    by_test : (b : Bool) → bytes_eq (header_of point) [] ≡ b → cond b [] (header_of point) ≡ header_of point
    by_test true same =
        let none : header_of point ≡ [] = (bytes_eq-Decides (header_of point) []).0 same in
        absurd (omega (arith, ap length none, ap length line.is, length_push line.line 10))
    by_test false same = refl

only_one : (text : List ℕ) (request : RowsRequest) (rows : List ℕ) (points : List StudyPoint)
    → ArePointsFrom text One request.count 0 points → length points ≡ 1 → AreRequestRows (common_of text request) request points rows
    → IsAlone text request rows
unfolding ArePointsFrom AddsRowsOfPoints
only_one text request rows [] are one told = absurd (omega (arith, one))
only_one text request rows (p ∷ q ∷ points) are one told = absurd (omega (arith, one))
only_one text request rows (point ∷ []) ((made, is_text, alternative), none) one (middle, (behind, made_rows, is), whole) =
    let common = common_of text request in
    let line = line_of_header (labels_of point.spec.parts) (models_are_readable point.spec.parts made_rows.may.spelled).1 in
    record {
      point = point;
      called = alternative.called;
      job = subst (λ t. IsCountedJob t request.count point.spec) is_text alternative.job;
      behind = behind;
      made = made_rows;
      whole = whole ∙ is ∙ ap (λ h. h ++ behind) (unless_none point line);
    }

alone : (text : List ℕ) (request : RowsRequest) (rows : List ℕ) → AreRows text [] request rows end_status → IsAlone text request rows
alone text request rows (inl (ended, (points, (asked, is_one, (are, many)), told))) =
    let one = one_is asked is_one in
    only_one text request rows points (subst (λ (a : Points). ArePointsFrom text a request.count 0 points) one are)
    (subst (λ (a : Points). length points ≡ count_of a) one many) told
alone text request rows (inr (refused, why)) = absurd cc

-- each of its runs can be read
readable_runs : (text : List ℕ) (request : RowsRequest) (sum : SummaryRequest) (rows : List ℕ) → AreOfFirstStudy request sum → (a : IsAlone text request rows)
    → AreReadable (labels_of a.point.spec.parts) (source (common_of text request) a.point) 0 a.made.runs
readable_runs text request sum rows first a place run at =
    let j = a.point.spec in
    let there = run_at j request.from request.first a.made.runs place run a.made.lone at in
    let below = below_length a.made.runs place run at in
    let figures = has_figures (run_job j there.0) request.from run there.1 in
    record {
      model = digests_are_plain text;
      point = subst IsPlain (sym a.called) refl;
      source = record {
        rows = omega arith;
        least = a.made.may.least;
        most = a.made.may.most;
        from = a.made.may.from;
        number = omega (arith, below, a.made.number, first.first, first.few);
      };
      figures = figures;
      range = in_range_at (labels_of j.parts) a.made.runs place run a.made.range at figures;
    }

-- the lines of its rows
record HasLines (text : List ℕ) (request : RowsRequest) (rows : List ℕ) (a : IsAlone text request rows) : Type 0 where
  header : LineOf (header_of a.point)
  others : RowLines (labels_of a.point.spec.parts) (source (common_of text request) a.point) 0 a.made.runs
  split : AreLines rows (header.line ∷ others.lines) []

lines_of : (text : List ℕ) (request : RowsRequest) (sum : SummaryRequest) (rows : List ℕ) → AreOfFirstStudy request sum → (a : IsAlone text request rows)
    → HasLines text request rows a
lines_of text request sum rows first a =
    let labels = labels_of a.point.spec.parts in
    let common = source (common_of text request) a.point in
    let header = line_of_header labels (models_are_readable a.point.spec.parts a.made.may.spelled).1 in
    let others = row_lines labels common 0 a.made.runs (readable_runs text request sum rows first a) in
    record {
      header = header;
      others = others;
      split = record {
        whole = a.whole ∙ ap (λ h. h ++ a.behind) header.is
            ∙ ap (λ t. (header.line ++ 10 ∷ []) ++ t)
            (a.made.text_is ∙ ap (λ n. rows_from labels common n a.made.runs) first.first ∙ others.whole ∙ sym (append-nil _))
            ∙ sym (append_assoc (header.line ++ 10 ∷ []) (flat_map (λ l. l ++ 10 ∷ []) others.lines) []);
        each = All-cons IsWithoutFeed header.line others.lines header.one others.each;
        last = λ k d h. absurd (omega (arith, h));
      };
    }

-- a line of theirs is one of a study's
line_in : (text : List ℕ) (request : RowsRequest) (rows : List ℕ) (a : IsAlone text request rows) (h : HasLines text request rows a) (line : List ℕ)
    → Contains (h.header.line ∷ h.others.lines) line → IsLineIn (study_runs (common_of text request) a.point a.made.runs) line
line_in text request rows a h line there = by_place (Contains-append_cases (h.header.line ∷ []) h.others.lines line there)
  where
    by_place : Contains (h.header.line ∷ []) line ⊎ Contains h.others.lines line
        → IsLineIn (study_runs (common_of text request) a.point a.made.runs) line
    by_place (inl one) = inl (subst (λ l. IsLine l (header_of a.point)) (only h.header.line line one) h.header.is)
    by_place (inr behind) =
        let found = h.others.from line behind in
        inr (0 + found.0, record { place = found.0; run = found.1; at = found.2; number_is = refl; row_is = found.3 })

-- a line of a study's is among them
in_line : (text : List ℕ) (request : RowsRequest) (rows : List ℕ) (a : IsAlone text request rows) (h : HasLines text request rows a) (line : List ℕ)
    → IsLineIn (study_runs (common_of text request) a.point a.made.runs) line → Contains (h.header.line ∷ h.others.lines) line
in_line text request rows a h line (inl before) =
    let same = same_from_push h.header.line line 10 10 (sym h.header.is ∙ before) in
    subst (Contains (h.header.line ∷ h.others.lines)) same.0 (itself h.header.line h.others.lines)
in_line text request rows a h line (inr (number, one)) =
    let found = h.others.rows one.place one.run one.at in
    let same = same_from_push found.0 line 10 10 (sym found.1 ∙ one.row_is) in
    Contains-append_right (h.header.line ∷ []) h.others.lines line (subst (Contains h.others.lines) same.0 found.2)

readable_study : (text : List ℕ) (request : RowsRequest) (sum : SummaryRequest) (rows : List ℕ) → AreOfFirstStudy request sum → (a : IsAlone text request rows)
    → HasLines text request rows a → HaveShortLines rows → IsReadableStudy (study_runs (common_of text request) a.point a.made.runs)
readable_study text request sum rows first a h short =
    let told = models_are_readable a.point.spec.parts a.made.may.spelled in
    record {
      by_name = told.0;
      plain = told.1;
      point = a.called;
      rows = refl;
      some = omega (arith, a.made.number, first.first, first.some);
      each = readable_runs text request sum rows first a;
      short = λ line is. short (h.header.line ∷ h.others.lines) h.split line (in_line text request rows a h line is);
    }

all_of : (lines : List (List ℕ)) (Is : List ℕ → Type 0) → ((line : List ℕ) → Contains lines line → Is line) → All Is lines
all_of lines Is each = λ k d below. each (get_or lines k d) (All-contains_itself lines k d below)

-- bytes with the same lines are all rows of it
all_rows : (text : List ℕ) (request : RowsRequest) (rows bytes : List ℕ) (a : IsAlone text request rows) (h : HasLines text request rows a)
    → HaveLinesOf rows bytes → AreAllRows (study_runs (common_of text request) a.point a.made.runs) bytes
all_rows text request rows bytes a h same =
    let those = h.header.line ∷ h.others.lines in
    let is : same.lines ≡ those = (all_lines rows [] those same.lines h.split same.split).0 in
    let among : (line : List ℕ) → Contains those line → Contains same.others line =
    λ line there. same.all line (subst (λ ls. Contains ls line) (sym is) there) in
    record {
      those = record {
        lines = same.others;
        split = same.others_split;
        each = all_of same.others (IsLineIn (study_runs (common_of text request) a.point a.made.runs))
            (λ line there. line_in text request rows a h line (subst (λ ls. Contains ls line) is (same.from line there)));
      };
      header = (h.header.line, h.header.is, among h.header.line (itself h.header.line h.others.lines));
      runs = λ place run at.
          let found = h.others.rows place run at in
          (found.0, found.1, among found.0 (Contains-append_right (h.header.line ∷ []) h.others.lines found.0 found.2));
    }

asked_is : (n : ℕ) → IsFirstOf n 1 0
asked_is n = (omega arith, omega arith, omega arith)

-- THE LAW

study_is : (text : List ℕ) (request : RowsRequest) (sum : SummaryRequest) (rows told : List ℕ) → AreOfFirstStudy request sum → (a : IsAlone text request rows)
    → IsStudyText (study_runs (common_of text request) a.point a.made.runs) sum told → IsStudy text (study_of request sum) told end_status
study_is text request sum rows told first a t =
    let runs = a.made.runs in
    let many : length t.runs ≡ length runs = sym (length-map t.runs outcome_of) ∙ ap length t.same ∙ length-map runs outcome_of in
    let lone = subst (λ n. AreRunsFrom a.point.spec request.from n runs) first.first a.made.lone in
    let none : 0 ≡ first_run (study_of request sum) = omega arith in
    inl (
      refl,
      (
        a.point.spec,
        a.job,
        (
          t.runs,
          omega (arith, many, a.made.number, first.first),
          subst (λ n. AreRunsFrom a.point.spec request.from n t.runs) none
              (same_runs a.point.spec request.from 0 runs t.runs t.same lone),
          record { table = t.told.table; told = t.told.told; whole = t.told.whole },
        ),
      ),
    )

pub summaries_are_studies : SummariesAreStudies
summaries_are_studies text request sum rows bytes told status first are short same tells =
    let a = alone text request rows are in
    let h = lines_of text request sum rows first a in
    let s = study_runs (common_of text request) a.point a.made.runs in
    let asked : IsAsked s sum = subst (λ n. IsFirstOf (0 + length a.made.runs) n 0) (sym first.seeds) (asked_is (0 + length a.made.runs)) in
    let answer = tells s (readable_study text request sum rows first a h short) asked (all_rows text request rows bytes a h same) in
    (answer.0, subst (IsStudy text (study_of request sum) told) (sym answer.0) (study_is text request sum rows told first a answer.1))
