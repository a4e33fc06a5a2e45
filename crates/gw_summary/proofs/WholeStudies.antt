-- What is told of all rows of a study.
use Rattle.std.proofs.Common.{◌≡◌, ◌∙◌, ◌<◌, ◌≤◌, ◌+◌, ◌-◌, ℕ, zero, suc, List, [], ◌∷◌, length, map, drop, Option, Some, None, refl}
use Rattle.std.proofs.Common.{arith, sym, ap, subst, Vec, max, min}
use Rattle.std.specs.Global.{Global}
use Rattle.std.specs.List.{All}
use Rattle.std.specs.Prelude.{◌≢◌, IfOk, Result, Ok, Err, nat_le, slice_get, vec_len}
use Rattle.std.proofs.lemmas.Bool.{leb-false}
use Rattle.std.proofs.lemmas.List.{drop_all, length-map}
use Rattle.std.proofs.lemmas.List.Elements.{All-cons}
use Rattle.gw_figures.specs.Labels.{Label, labels}
use Rattle.gw_figures.specs.declared.figure.Figure.{Figure}
use Rattle.gw_figures.specs.declared.run.Run.{Run}
use Rattle.gw_rows.specs.Reading.{NamesFigures, outcome_of}
use Rattle.gw_rows.specs.Rows.{Source}
use Rattle.gw_rows.proofs.Telling.{headers_tell_their_figures, rows_tell_their_runs}
use Rattle.gw_answers.specs.Status.{end_status}
use Rattle.gw_answers.specs.declared.answer.Answer.{Answer}
use Rattle.gw_study.specs.Study.{IsResultsText}
use Rattle.gw_study.specs.declared.request.StudyRequest.{StudyRequest}
use Rattle.gw_study.specs.declared.telling.Results.{Results}
use Rattle.gw_summary.specs.Adding.{IsWhole, Line, has}
use Rattle.gw_summary.specs.StudyRows.{StudyRuns, IsReadableStudy, HasHeaderOf, HoldsRows, IsOfStudy, IsRowOfRun}
use Rattle.gw_summary.specs.Complete.{HasAllRuns, IsFirstOf, end_of_points}
use Rattle.gw_summary.specs.StudyTold.{AreAllHeld, IsAsked, IsStudyText, TellsHeld, TellsLonePoint, TellsStudiesRead, end_of_runs, study_asked}
use Rattle.gw_summary.specs.Telling.{IsModelTold, IsRunOfRow, LinesTell, asked_of, source, with_run}
use Rattle.gw_summary.specs.declared.pieces.Pieces.{Pieces}
use Rattle.gw_summary.specs.declared.point.PointRows.{PointRows}
use Rattle.gw_summary.specs.declared.rows.Rows.{Rows}
use Rattle.gw_summary.specs.declared.study.Study.{Study}
use Rattle.gw_summary.specs.declared.telling.SummaryRequest.{SummaryRequest}
use Rattle.gw_summary.proofs.Complete.{IsComplete, all_kept}

-- OF WHAT THEY ARE

-- the figures that the header names are the study's
figures_are : (s : StudyRuns) (rows : Rows) (figures : List Figure) → IsReadableStudy s → HasHeaderOf s rows → NamesFigures rows.header.items figures
    → labels figures ≡ s.labels
figures_are s rows figures readable header names =
    headers_tell_their_figures (labels figures) s.labels names.by_name readable.by_name (names.text ∙ sym header.text)

-- so is of what they are some
source_is : (s : StudyRuns) (study : Study) (name : List ℕ) → IsReadableStudy s → IsOfStudy s study → name ≡ [] → source study name ≡ s.source
source_is s study name readable common none =
    ap (source study) none ∙ ap (λ (t : Source). record t { point = [] }) common.source
    ∙ ap (λ (p : List ℕ). record s.source { point = p }) (sym readable.point)

-- THE RUNS

-- what is at a place is the first of what is left there
drop_found : (xs : List Run) (n : ℕ) (x : Run) → slice_get xs n ≡ Some x → drop n xs ≡ x ∷ drop (suc n) xs
drop_found [] zero x is = absurd cc
drop_found [] (suc n) x is = absurd cc
drop_found (y ∷ xs) zero x is = by_some is
  where
    by_some : Some y ≡ Some x → y ∷ xs ≡ x ∷ xs
    by_some is = cc
drop_found (y ∷ xs) (suc n) x is = drop_found xs n x is

-- the row of a run tells the run of its line
same_outcome : (s : StudyRuns) (i : ℕ) (line : List ℕ) (told : Run) → IsReadableStudy s → (r : IsRowOfRun s i line) → IsRunOfRow s.labels s.source i line told
    → outcome_of told ≡ outcome_of r.run
same_outcome s i line told readable r h =
    let can = readable.each r.place r.run r.at in
    rows_tell_their_runs s.labels s.source s.source i (s.first + r.place) told r.run h.figures can.figures h.range can.range (h.line_is ∙ sym r.row_is)

-- a line is at its number, or there is none
abbrev IsLineAt : StudyRuns → ℕ → Line → Type 0
IsLineAt s number line = ((text : Vec ℕ Global) → line ≡ Some text → IsRowOfRun s number text.items) × (has (Some line) ≡ nat_le s.first number)

-- so are those from a number on
AreLinesFrom : StudyRuns → ℕ → List Line → Type 0
AreLinesFrom s number [] = number ≡ end_of_runs s
AreLinesFrom s number (line ∷ lines) = IsLineAt s number line × AreLinesFrom s (suc number) lines

lines_from : (s : StudyRuns) (number : ℕ) (lines : List Line)
    → ((k : ℕ) (text : Vec ℕ Global) → slice_get lines k ≡ Some (Some text) → IsRowOfRun s (number + k) text.items)
    → ((k : ℕ) → k < length lines → has (slice_get lines k) ≡ nat_le s.first (number + k))
    → number + length lines ≡ end_of_runs s → AreLinesFrom s number lines
unfolding AreLinesFrom
lines_from s number [] rows there end = omega (arith, end)
lines_from s number (line ∷ lines) rows there end =
    let here : number + 0 ≡ number = omega arith in
    let behind : (k : ℕ) → number + suc k ≡ suc number + k = λ k. omega arith in (
      (
        λ text is. subst (λ n. IsRowOfRun s n text.items) here (rows 0 text (ap Some is)),
        there 0 (omega arith) ∙ ap (nat_le s.first) here,
      ),
      lines_from s (suc number) lines
          (λ k text is. subst (λ n. IsRowOfRun s n text.items) (behind k) (rows (suc k) text is))
          (λ k below. there (suc k) (omega (arith, below)) ∙ ap (nat_le s.first) (behind k))
          (omega (arith, end)),
    )

one_on : (s : StudyRuns) (number : ℕ) (lines : List Line) (runs : List Run) → LinesTell s.labels s.source (number + 1) lines runs
    → LinesTell s.labels s.source (suc number) lines runs
one_on s number lines runs h =
    let same : number + 1 ≡ suc number = omega arith in
    subst (λ n. LinesTell s.labels s.source n lines runs) same h

-- the runs that they tell came to the same as those of the study from there on
tells : (s : StudyRuns) (number : ℕ) (lines : List Line) (runs : List Run) → IsReadableStudy s → AreLinesFrom s number lines
    → LinesTell s.labels s.source number lines runs → map outcome_of runs ≡ map outcome_of (drop (number - s.first) s.runs)
unfolding AreLinesFrom LinesTell
tells s number [] runs readable are told =
    ap (map outcome_of) (told ∙ sym (drop_all (number - s.first) s.runs (omega (arith, are))))
tells s number (None ∷ lines) runs readable are (run, rest, here, more, whole) =
    let before : number < s.first = leb-false s.first number (sym are.0.1) in
    let same : suc number - s.first ≡ number - s.first = omega (arith, before) in
    ap (map outcome_of) (whole ∙ ap (λ r. with_run r rest) here)
    ∙ tells s (suc number) lines rest readable are.1 (one_on s number lines rest more) ∙ ap (λ k. map outcome_of (drop k s.runs)) same
tells s number (Some line ∷ lines) runs readable are (run, rest, here, more, whole) =
    let r = are.0.0 line refl in
    let one = same_outcome s number line.items here.0 readable r here.1 in
    let there : number - s.first ≡ r.place = omega (arith, r.number_is) in
    let next : suc number - s.first ≡ suc r.place = omega (arith, r.number_is) in
    let others = tells s (suc number) lines rest readable are.1 (one_on s number lines rest more) in
    ap (map outcome_of) (whole ∙ ap (λ r. with_run r rest) here.2)
    ∙ ap (λ o. o ∷ map outcome_of rest) one ∙ ap (λ os. outcome_of r.run ∷ os) (others ∙ ap (λ k. map outcome_of (drop k s.runs)) next)
    ∙ sym (ap (map outcome_of) (drop_found s.runs r.place r.run r.at)) ∙ sym (ap (λ k. map outcome_of (drop k s.runs)) there)

-- THE TABLE

same_asked : (s : StudyRuns) (study : Study) (request : SummaryRequest) (results : Results) → IsOfStudy s study
    → vec_len results.runs ≡ length s.runs → asked_of study request results ≡ study_asked s request
same_asked s study request results common many =
    let asked = λ (runs count from : ℕ). record (asked_of study request results) { runs = runs; count = count; from = from } in
    ap (λ n. asked n study.origin.count study.origin.from) many
    ∙ ap (λ (t : Source). asked (length s.runs) t.count t.from) common.source

-- what is told of the model as it is, of the rows of a study, is the table of its runs
pub study_told : (s : StudyRuns) (rows : Rows) (study : Study) (request : SummaryRequest) (point : PointRows) (text : List ℕ) → IsReadableStudy s
    → HasHeaderOf s rows → IsOfStudy s study → HoldsRows s point → length point.lines.items ≡ end_of_runs s
    → IsWhole point.lines.items s.first (end_of_runs s) → IsModelTold rows study request point text → IsStudyText s request text
study_told s rows study request point text readable header common holds last whole (results, are, table) =
    let figures = figures_are s rows results.figures.items readable header are.figures in
    let of = source_is s study point.name.items readable common holds.name in
    let told = subst (λ (ls : List Label). LinesTell ls s.source 0 point.lines.items results.runs.items) figures
    (subst (λ (t : Source). LinesTell (labels results.figures.items) t 0 point.lines.items results.runs.items) of are.runs) in
    let same_number : (k : ℕ) → k ≡ 0 + k = λ k. omega arith in
    let lines = lines_from s 0 point.lines.items
    (λ k line is. subst (λ n. IsRowOfRun s n line.items) (same_number k) (holds.lines k line is))
    (λ k below. whole.each k (omega (arith, last, below)) ∙ ap (nat_le s.first) (same_number k)) (omega (arith, last)) in
    let none : 0 - s.first ≡ 0 = omega arith in
    let same = tells s 0 point.lines.items results.runs.items readable lines told ∙ ap (λ k. map outcome_of (drop k s.runs)) none in
    let many : length results.runs.items ≡ length s.runs =
    sym (length-map results.runs.items outcome_of) ∙ ap length same ∙ length-map s.runs outcome_of in
    let asked = same_asked s study request results common (omega (arith, many, results.runs.ok.0)) in
    let by_figures = subst (λ (ls : List Label). IsResultsText ls results.runs.items (asked_of study request results) study.origin.count text) figures table in
    let by_asked = subst (λ (q : StudyRequest). IsResultsText s.labels results.runs.items q study.origin.count text) asked by_figures in
    record {
      runs = results.runs.items;
      same = same;
      told = subst (λ (t : Source). IsResultsText s.labels results.runs.items (study_asked s request) t.count text) common.source by_asked;
    }

-- NOTHING MISSES

one_end : (n : ℕ) → n ≤ 512 → max (min n 512) 0 ≡ n
one_end n few = omega (arith, few)

-- rows that are all those of a study have all runs
pub all_runs : (s : StudyRuns) (rows : Rows) (study : Study) (request : SummaryRequest) → IsReadableStudy s → IsAsked s request → (held : AreAllHeld s rows)
    → IsOfStudy s study → HasAllRuns rows study request.seeds
unfolding end_of_points
all_runs s rows study request readable asked held common =
    let few : length held.point.lines.items ≤ 512 = omega (arith, held.last, held.few) in
    let end : end_of_points rows.points.items ≡ end_of_runs s =
    ap end_of_points held.alone ∙ one_end (length held.point.lines.items) few ∙ held.last in
    record {
      first = s.first;
      study_is = subst (λ n. IsFirstOf n request.seeds s.first) (sym end) asked;
      whole = subst (λ (ps : List PointRows). All (λ p. IsWhole p.lines.items s.first (end_of_points rows.points.items)) ps) (sym held.alone)
          (subst (λ n. All (λ p. IsWhole p.lines.items s.first n) (held.point ∷ [])) (sym end)
          (All-cons (λ (p : PointRows). IsWhole p.lines.items s.first (end_of_runs s)) held.point [] held.whole (λ k d h. absurd (omega (arith, h)))));
      no_number = ap (λ (t : Source). t.rows) common.source ∙ readable.rows;
    }

-- WHAT IS ANSWERED

one_point : (x y : PointRows) → x ∷ [] ≡ y ∷ [] → x ≡ y
one_point x y is = cc

-- the one point that is told is the one without a name
pub lone_told : {E : Type 0} (rows : Rows) (study : Study) (request : SummaryRequest) (point : PointRows) (r : Result (Vec ℕ Global) E)
    → rows.points.items ≡ point ∷ [] → IfOk r (λ text. IsModelTold rows study request point text.items) → TellsLonePoint r rows study request
lone_told rows study request point r is told = λ other are none.
    subst (λ (p : PointRows). IfOk r (λ text. IsModelTold rows study request p text.items)) (one_point point other (sym is ∙ are)) told

one_study : (x y : Study) → Some x ≡ Some y → x ≡ y
one_study x y is = cc

of_the_study : (s : StudyRuns) (rows : Rows) (study : Study) → (held : AreAllHeld s rows) → rows.study ≡ Some study → IsOfStudy s study
of_the_study s rows study held is = subst (IsOfStudy s) (one_study held.study study (sym held.study_is ∙ is)) held.common

-- where rows aren't all those of any study, any answer will do
none_held : {E : Type 0} (r : Result Answer E) (rows : Rows) (request : SummaryRequest)
    → ((s : StudyRuns) → IsReadableStudy s → IsAsked s request → AreAllHeld s rows → ⊥)
    → IfOk r (λ a. TellsHeld rows request a.text.items a.status)
none_held (Ok a) rows request never = λ s readable asked held. absurd (never s readable asked held)
none_held (Err e) rows request never = tt

some_is : {A : Type 0} (found : Option A) (x : A) → found ≡ Some x → found ≡ None → ⊥
some_is found x is none = clash (sym is ∙ none)
  where
    clash : Some x ≡ None → ⊥
    clash h = absurd cc

-- where a gap was found, they aren't
pub gap_told : {E A : Type 0} (r : Result Answer E) (found : Option A) (gap : A) (rows : Rows) (study : Study) (request : SummaryRequest)
    → found ≡ Some gap → rows.study ≡ Some study → (HasAllRuns rows study request.seeds → found ≡ None)
    → IfOk r (λ a. TellsHeld rows request a.text.items a.status)
gap_told r found gap rows study request is study_is whole =
    none_held r rows request (λ s readable asked held.
    some_is found gap is (whole (all_runs s rows study request readable asked held (of_the_study s rows study held study_is))))

-- where none was, their table is told
pub study_answered : (rows : Rows) (study : Study) (request : SummaryRequest) (text : List ℕ) → rows.study ≡ Some study
    → ((point : PointRows) → rows.points.items ≡ point ∷ [] → point.name.items ≡ [] → IsModelTold rows study request point text)
    → TellsHeld rows request text end_status
study_answered rows study request text study_is told = λ s readable asked held.
    let point = held.point in
    let model = told point held.alone held.holds.name in (
      refl,
      study_told s rows study request point text readable held.header (of_the_study s rows study held study_is) held.holds held.last held.whole model,
    )

-- rows that pieces hold are all of a study
held_by : (s : StudyRuns) (pieces : Pieces) → IsComplete s pieces → AreAllHeld s pieces.rows
held_by s pieces all = record {
  waiting = all.waiting;
  refused = all.refused;
  header = all.header;
  study = all.study;
  study_is = all.study_is;
  common = all.of_study;
  point = all.point;
  alone = all.points_are;
  holds = all.holds;
  last = all.many;
  whole = all.whole;
  few = all.few;
}

-- a line that is cut off is none of a study's
pub cut_told : {E : Type 0} (r : Result Answer E) (pieces : Pieces) (request : SummaryRequest) → pieces.rest.items ≢ []
    → IfOk r (λ a. TellsStudiesRead pieces request a.text.items a.status)
cut_told (Ok a) pieces request cut = λ s bytes readable asked all read. absurd (cut (all_kept s bytes pieces readable all read).rest)
cut_told (Err e) pieces request cut = tt

pub studies_told : {E : Type 0} (r : Result Answer E) (pieces : Pieces) (request : SummaryRequest)
    → IfOk r (λ a. TellsHeld pieces.rows request a.text.items a.status) → IfOk r (λ a. TellsStudiesRead pieces request a.text.items a.status)
studies_told (Ok a) pieces request told = λ s bytes readable asked all read.
    told s readable asked (held_by s pieces (all_kept s bytes pieces readable all read))
studies_told (Err e) pieces request told = tt
