-- What is told of rows.
use Rattle.std.proofs.Common.{◌≡◌, ◌∙◌, ◌++◌, ℕ, List, [], ◌∷◌, Option, Some, None, IfSome, IfOk, Result, Ok, Err, MatchResult, inr, refl, ap, sym, subst, arith}
use Rattle.std.specs.List.{Contains, flat_map}
use Rattle.std.specs.Io.KnownBytes.{Consumes, IsAtEnd}
use Rattle.std.proofs.lemmas.List.{append_assoc, append-nil}
use Rattle.gw_answers.specs.declared.answer.Answer.{Answer}
use Rattle.gw_answers.specs.Status.{refusal_status}
use Rattle.gw_command_line.specs.declared.rows.Summing.{Summing}
use Rattle.gw_console.specs.declared.fault.ProgramFault.{ProgramFault}
use Rattle.gw_console.specs.declared.fault.ProgramFault.TheVariants as faults
use Rattle.gw_console.specs.Output.{AnswersReader}
use Rattle.gw_summary.specs.Keeping.{IsRead}
use Rattle.gw_summary.specs.StudyRows.{StudyRuns, AreLinesIn, IsFrontIn, IsReadableStudy, IsWant}
use Rattle.gw_summary.specs.StudyTold.{TellsStudies, TellsStudiesRead}
use Rattle.gw_summary.specs.Telling.{IsSummaryOf}
use Rattle.gw_summary.specs.declared.fault.NoRow.{NoRow}
use Rattle.gw_summary.specs.declared.fault.NoRow.TheVariants.{Fault}
use Rattle.gw_summary.specs.declared.fault.RowFault.{RowFault}
use Rattle.gw_summary.specs.declared.pieces.Pieces.{Pieces}
use Rattle.gw_summary.proofs.StudyReading.{front_of_front}
use Rattle.planner.specs.Answers.{summary_of, summary_answering}
use Rattle.planner.specs.Reading.{AreReadAsStudies, GoesOn, ReadsAll, ReadsStudies, RefusesNoLine, RefusesNoRows, RefusesNoStudy}
use Rattle.planner.specs.declared.rows.NoRows.{NoRows}
use Rattle.planner.specs.declared.rows.NoRows.TheVariants.{Row}

-- bytes that are lines of a study have nothing behind them
whole_front : (s : StudyRuns) (bytes : List ℕ) → AreLinesIn s bytes → IsFrontIn s bytes
whole_front s bytes those = ([], subst (AreLinesIn s) (sym (append-nil bytes)) those)

-- no line is in no bytes
no_lines : (lines : List (List ℕ)) (line : List ℕ) → [] ≡ flat_map (λ l. l ++ 10 ∷ []) lines ++ [] → Contains lines line → ⊥
no_lines [] line none h = omega (arith, h.1)
no_lines ([] ∷ lines) line none h = absurd cc
no_lines ((b ∷ rest) ∷ lines) line none h = absurd cc

-- no bytes are no study's
nothing_told : (summing : Summing) (text : List ℕ) (status : ℕ) → TellsStudies [] (summary_of summing) text status
nothing_told summing text status s readable asked all =
    absurd (no_lines all.those.lines all.header.0 all.those.split.whole all.header.2)

-- a reader of which lines are refused isn't one of all rows of a study
abbrev IsNoStudy : Option (List ℕ) → Type 0
IsNoStudy known = (s : StudyRuns) → IsReadableStudy s → ¬ GoesOn s [] known

of_some : (summing : Summing) (known : Option (List ℕ)) (text : List ℕ) (status : ℕ) → status ≡ refusal_status → IsNoStudy known
    → AnswersReader (summary_answering summing) known text status
of_some summing None text status h none = ([], tt, (inr h, nothing_told summing text status))
of_some summing (Some bytes) text status h none =
    (bytes, refl, (inr h, λ s readable asked all. absurd (none s readable (whole_front s bytes all.those))))

pub summed_up : {E : Type 0} (summing : Summing) (pieces : Pieces) (known : Option (List ℕ)) (r : Result Answer E) (told : Result Answer ProgramFault)
    → ReadsAll known pieces
    → IfOk r (λ a. (bytes : List ℕ) → IsRead bytes pieces → IsSummaryOf bytes (summary_of summing) a.text.items a.status)
    → IfOk r (λ a. TellsStudiesRead pieces (summary_of summing) a.text.items a.status)
    → MatchResult r (λ a. told ≡ Ok a) (λ _. told ≡ Err faults.Memory) → IfOk told (λ a. AnswersReader (summary_answering summing) known a.text.items a.status)
summed_up summing pieces known (Ok a) told (bytes, known_are, read, studies) h k same =
    rw same (
      bytes,
      known_are,
      (
        h bytes read,
        λ s readable asked all. k s bytes readable asked all (studies s readable (whole_front s bytes all.those)),
      ),
    )
summed_up summing pieces known (Err e) told all h k same = rw same tt

pub refused_up : {E : Type 0} (summing : Summing) (known : Option (List ℕ)) (r : Result Answer E) (told : Result Answer ProgramFault)
    → IfOk r (λ a. a.status ≡ refusal_status) → IsNoStudy known → MatchResult r (λ a. told ≡ Ok a) (λ _. told ≡ Err faults.Memory)
    → IfOk told (λ a. AnswersReader (summary_answering summing) known a.text.items a.status)
refused_up summing known (Ok a) told h none same = rw same (of_some summing known a.text.items a.status h none)
refused_up summing known (Err e) told h none same = rw same tt

-- where a line is refused, the bytes of the reader are no study's lines
pub no_study : (known : Option (List ℕ)) (none : NoRows) (row : NoRow) (number : ℕ) (why : RowFault) → none ≡ Row row → row ≡ Fault number why
    → RefusesNoRows {X = Unit {0}} (Err none) known → IsNoStudy known
no_study known none row number why is_row is_fault refuses = λ s readable on.
    subst IsWant is_fault (subst (λ (n : NoRows). RefusesNoLine {X = Unit {0}} (Err n)) is_row (refuses s readable on))

-- ONE PIECE

-- what goes on behind bytes goes on behind more of them
pub on_behind : (s : StudyRuns) (known left : Option (List ℕ)) (before bytes : List ℕ) → Consumes known left bytes → GoesOn s before known
    → GoesOn s (before ++ bytes) left
on_behind s None left before bytes consumes on = absurd on
on_behind s (Some xs) None before bytes consumes on = absurd consumes
on_behind s (Some xs) (Some ys) before bytes consumes on =
    subst (IsFrontIn s) (ap (λ bs. before ++ bs) consumes ∙ sym (append_assoc before bytes ys)) on

-- and the bytes that came are a front of its lines
pub front_of : (s : StudyRuns) (known left : Option (List ℕ)) (before bytes : List ℕ) → Consumes known left bytes → GoesOn s before known
    → IsFrontIn s (before ++ bytes)
front_of s None left before bytes consumes on = absurd on
front_of s (Some xs) None before bytes consumes on = absurd consumes
front_of s (Some xs) (Some ys) before bytes consumes on =
    front_of_front s (before ++ bytes) ys (on_behind s (Some xs) (Some ys) before bytes consumes on)

-- where the bytes before were read, one more piece isn't refused
pub none_refused : {X : Type 0} (r : Result X NoRows) (known left : Option (List ℕ)) (before : List ℕ) (pieces : Pieces)
    → Consumes known left before → AreReadAsStudies before pieces → RefusesNoStudy r left pieces → RefusesNoRows r known
none_refused r known left before pieces consumes so_far none = λ s readable on.
    none s before readable (on_behind s known left [] before consumes on)
    (so_far s readable (front_of s known left [] before consumes on))

-- bytes are read behind others that were
pub studies_on : (before bytes : List ℕ) (old new : Pieces) → AreReadAsStudies before old → ReadsStudies bytes old new
    → AreReadAsStudies (before ++ bytes) new
studies_on before bytes old new so_far on = λ s readable front.
    on s before readable front (so_far s readable (front_of_front s before bytes front))

-- no bytes
pub nothing_consumed : (known : Option (List ℕ)) → Consumes known known []
nothing_consumed None = tt
nothing_consumed (Some xs) = refl

-- bytes, and then more
pub consumed_on : (known left now : Option (List ℕ)) (before bytes : List ℕ) → Consumes known left before → Consumes left now bytes
    → Consumes known now (before ++ bytes)
consumed_on None left now before bytes first next = tt
consumed_on (Some xs) None now before bytes first next = absurd first
consumed_on (Some xs) (Some ys) None before bytes first next = absurd next
consumed_on (Some xs) (Some ys) (Some zs) before bytes first next =
    first ∙ ap (λ bs. before ++ bs) next ∙ sym (append_assoc before bytes zs)

-- all bytes, where none is left
pub all_consumed : (known left : Option (List ℕ)) (before : List ℕ) → Consumes known left before → IsAtEnd left → IfSome known (λ xs. xs ≡ before)
all_consumed None left before h end = tt
all_consumed (Some xs) None before h end = absurd h
all_consumed (Some xs) (Some ys) before h end = h ∙ ap (λ bs. before ++ bs) end ∙ append-nil before
