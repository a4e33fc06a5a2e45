-- The table of a study.
use Rattle.std.specs.Prelude.{◌≡◌, ◌⊎◌, ℕ, ◌+◌, ◌-◌, ◌*◌, ◌/◌, ◌%◌, min, ◌==◌, nat_lt, nat_le, int_lt, pos, List, [], ◌∷◌, ◌++◌, length, map, codes}
use Rattle.std.specs.Prelude.{Bool, false, ◌||◌, ◌&&◌, ℤ, unsigned_abs, Option, None, Some, Contains, MatchBool, MatchOption, Vec, if◌then◌else◌}
use Rattle.std.specs.Borrow.{Bor}
use Rattle.std.specs.Fmt.{decimal}
use Rattle.std.specs.Global.{Global}
use Rattle.std.specs.List.{count_by}
use Rattle.gw_step.specs.declared.ends.End.{End}
use Rattle.gw_step.specs.declared.ends.End.TheVariants.{Done, Number, ZeroDivisor, NegativeTime, LoopLimit, NoMoreEvents, Budget, Live}
use Rattle.gw_scan.specs.declared.sim.Status.TheVariants.{Ended}
use Rattle.gw_report.specs.Report.{status_word}
use Rattle.gw_statistics.specs.Quantiles.{first_enough}
use Rattle.gw_statistics.specs.Summaries.{IsSummary}
use Rattle.gw_statistics.specs.Telling.{told}
use Rattle.gw_statistics.specs.declared.summary.Summary.{Summary}
use Rattle.gw_figures.specs.Labels.{Label, label_of, labels}
use Rattle.gw_figures.specs.declared.figure.Figure.{Figure}
use Rattle.gw_figures.specs.declared.run.Run.{Run}
use Rattle.gw_study.specs.declared.request.StudyRequest.{StudyRequest}
use Rattle.gw_study.specs.declared.telling.Results.{Results}
use Rattle.gw_study.specs.Text.{row_line, head_line}
pub use Rattle.gw_figures.specs.Trends.{value_at_place, value_at}

-- ENDS

-- the place of an end among all
abbrev pub end_number : End → ℕ
end_number Done = 0
end_number Number = 1
end_number ZeroDivisor = 2
end_number NegativeTime = 3
end_number LoopLimit = 4
end_number NoMoreEvents = 5
end_number Budget = 6
end_number Live = 7

-- a run ended so
abbrev pub is_ended_so : End → Run → Bool
is_ended_so end run = end_number run.end == end_number end

-- how many ended so
abbrev pub ended_so : List Run → End → ℕ
ended_so runs end = count_by (is_ended_so end) runs

-- the first line: how many runs there are and how many came to their count, and whether all of a run is
-- told, with its empty start, or a window
abbrev pub start_text : ℕ → List ℕ
start_text from =
    if from == 0 then codes " begin empty: averages hold the empty start\n"
    else codes " from " ++ decimal from ++ codes "\n"

abbrev pub first_line : List Run → ℕ → List ℕ
first_line runs from =
    codes "RUNS " ++ decimal (length runs) ++ codes " DONE " ++ decimal (ended_so runs Done)
    ++ start_text from

-- how many ended so, where any did
abbrev pub other_text : List Run → End → List ℕ
other_text runs end =
    if ended_so runs end == 0 then []
    else codes ", " ++ status_word (Ended end) ++ codes " " ++ decimal (ended_so runs end)

-- how many met an end that a value brought, and how many could or might not go on
abbrev pub faults_text : List Run → List ℕ
faults_text runs =
    other_text runs Number ++ other_text runs ZeroDivisor ++ other_text runs NegativeTime
    ++ other_text runs LoopLimit

abbrev pub stops_text : List Run → List ℕ
stops_text runs =
    other_text runs NoMoreEvents ++ other_text runs Budget ++ other_text runs Live

-- the line of how many ended how, where not all came to their count
abbrev pub ends_line : List Run → List ℕ
ends_line runs =
    if ended_so runs Done == length runs then []
    else
    codes "ENDS Done " ++ decimal (ended_so runs Done) ++ faults_text runs ++ stops_text runs
    ++ codes "\n"

-- VALUES

-- those of the runs that came to their count
unfoldable pub values_of_done : List Run → List (List (Option ℤ))
values_of_done [] = []
values_of_done (run ∷ rest) =
    if is_ended_so Done run then run.values.items ∷ values_of_done rest else values_of_done rest

-- by how much their averages change
unfoldable pub trends_of_done : List Run → List (List (Option ℤ))
trends_of_done [] = []
trends_of_done (run ∷ rest) =
    if is_ended_so Done run then run.trend.items ∷ trends_of_done rest else trends_of_done rest

-- the rows behind references
abbrev pub rows : List (Bor (List (Option ℤ))) → List (List (Option ℤ))
rows references = map (λ row. row.now) references

-- the values at a place of several rows
abbrev pub column : ℕ → List (List (Option ℤ)) → List (Option ℤ)
column place rows = map (value_at place) rows

-- those of the rows behind references
abbrev pub column_behind : ℕ → List (Bor (List (Option ℤ))) → List (Option ℤ)
column_behind place references = map (λ row. value_at place row.now) references

-- the numbers of a column, where none of its values is missing
abbrev pub AreNumbersOf : List (Option ℤ) → Option (Vec ℤ Global) → Type 0
AreNumbersOf values numbers = MatchOption numbers (Contains values None) (λ xs. values ≡ map Some xs.items)

-- what is said of a column: the summary of its numbers, or nothing where one is none
abbrev pub IsSaidOf : List (Option ℤ) → Option Summary → Type 0
IsSaidOf column said =
    ((xs : List ℤ) × (column ≡ map Some xs) × IsSummary xs said)
    ⊎ (Contains column None × (said ≡ None))

-- ROWS

-- the row of a figure at a place, where it is told
abbrev pub IsRowOf : List (List (Option ℤ)) → Bool → ℕ → Label → List ℕ → Type 0
IsRowOf rows all place figure text =
    MatchBool (figure.main || all)
    ((said : Option Summary) × IsSaidOf (column place rows) said × (text ≡ row_line figure.name said))
    (text ≡ [])

-- a mean lies further from 0 than twice its half-width: half of it, rounded up, is more than that
abbrev pub exceeds : ℤ → Option ℕ → Bool
exceeds mean None = false
exceeds mean (Some h) = nat_lt h (unsigned_abs mean / 2 + min 1 (unsigned_abs mean % 2))

-- by how much an average changes, behind a blank
unfoldable pub amount : ℤ → List ℕ
amount mean = codes " " ++ told mean

-- the same, and what is suggested
unfoldable pub advice : ℕ → ℤ → List ℕ
advice suggested mean = amount mean ++ codes ": try --from " ++ decimal suggested ++ codes "\n"

-- how many are there at the end of a line that grows, and what that means
unfoldable pub growth_text : List ℕ → ℤ → List ℕ
growth_text name mean =
    codes "GROWS " ++ name ++ codes " to" ++ amount mean
    ++ codes ": more come than can be served, so averages grow with the length of the run\n"

-- what is told of a change
abbrev pub trend_line : List ℕ → ℕ → Option Summary → List ℕ
trend_line name suggested None = []
trend_line name suggested (Some s) =
    if exceeds s.mean s.half_width then
    codes "TREND " ++ name ++ advice suggested s.mean
    else []

-- the line of an average's change, where it is great
abbrev pub IsTrendOf : List (List (Option ℤ)) → ℕ → ℕ → Label → List ℕ → Type 0
IsTrendOf rows suggested place figure text =
    MatchBool figure.average
    ((said : Option Summary) × IsSaidOf (column place rows) said
    × (text ≡ trend_line figure.name suggested said))
    (text ≡ [])

-- a change is one upwards, and further from 0 than twice its half-width
abbrev pub rises : Summary → Bool
rises change = exceeds change.mean change.half_width && int_lt (pos 0) change.mean

-- at least 10 are there at the end, and a third of them or more came in the second half: of what grows evenly
-- one half does, and of what grows with the root of the time 29 of a hundred
abbrev pub grows : Summary → Summary → Bool
grows last change =
    rises change && nat_le 10000000 (unsigned_abs last.mean)
    && nat_le (unsigned_abs last.mean / 3) (unsigned_abs change.mean)

-- the line of what is there at the end, where it grows
abbrev pub growth_of : List ℕ → Summary → Summary → List ℕ
growth_of name last change = if grows last change then growth_text name last.mean else []

-- what is told of what is there at the end, and of its change since halfway
abbrev pub growth_line : List ℕ → Option Summary → Option Summary → List ℕ
growth_line name None change = []
growth_line name (Some last) None = []
growth_line name (Some last) (Some change) = growth_of name last change

-- the line of a content that grows to the end of the run
abbrev pub IsGrowthOf : List (List (Option ℤ)) → List (List (Option ℤ)) → ℕ → Label → List ℕ → Type 0
IsGrowthOf rows trends place figure text =
    MatchBool figure.content
    ((last : Option Summary) × (change : Option Summary) × IsSaidOf (column place rows) last
    × IsSaidOf (column place trends) change × (text ≡ growth_line figure.name last change))
    (text ≡ [])

-- a text is a piece for each figure, of which the first is at this place, one behind the other
abbrev pub ArePieces : (ℕ → Label → List ℕ → Type 0) → ℕ → List Label → List ℕ → Type 0
ArePieces P place [] text = text ≡ []
ArePieces P place (figure ∷ rest) text =
    (piece : List ℕ) × (more : List ℕ) × P place figure piece × ArePieces P (place + 1) rest more
    × (text ≡ piece ++ more)

-- such a text is added
abbrev pub Adds : (List ℕ → Type 0) → List ℕ → List ℕ → Type 0
Adds P old new = (text : List ℕ) × P text × (new ≡ old ++ text)

-- LINES OF FIGURES

-- the row of a figure
abbrev pub AddsFigureRow : List (Bor (List (Option ℤ))) → Bool → ℕ → Figure → List ℕ → List ℕ → Type 0
AddsFigureRow values all place figure old new = Adds (IsRowOf (rows values) all place (label_of figure)) old new

-- the rows of figures
abbrev pub AddsFigureRows : List (Bor (List (Option ℤ))) → Bool → List Figure → List ℕ → List ℕ → Type 0
AddsFigureRows values all figures old new = Adds (ArePieces (IsRowOf (rows values) all) 0 (labels figures)) old new

-- the line of the change of an average
abbrev pub AddsTrend : List (Bor (List (Option ℤ))) → ℕ → ℕ → Figure → List ℕ → List ℕ → Type 0
AddsTrend trends suggested place figure old new =
    Adds (IsTrendOf (rows trends) suggested place (label_of figure)) old new

-- those of figures
abbrev pub AddsTrends : List (Bor (List (Option ℤ))) → ℕ → List Figure → List ℕ → List ℕ → Type 0
AddsTrends trends suggested figures old new =
    Adds (ArePieces (IsTrendOf (rows trends) suggested) 0 (labels figures)) old new

-- the line of a content that grows
abbrev pub AddsGrowth : List (Bor (List (Option ℤ))) → List (Bor (List (Option ℤ))) → ℕ → Figure → List ℕ → List ℕ → Type 0
AddsGrowth values trends place figure old new =
    Adds (IsGrowthOf (rows values) (rows trends) place (label_of figure)) old new

-- those of figures
abbrev pub AddsGrowths : List (Bor (List (Option ℤ))) → List (Bor (List (Option ℤ))) → List Figure → List ℕ → List ℕ → Type 0
AddsGrowths values trends figures old new =
    Adds (ArePieces (IsGrowthOf (rows values) (rows trends)) 0 (labels figures)) old new

-- THE TABLE

-- how many more runs would halve the half-widths, where there are any
abbrev pub more_line : ℕ → List ℕ
more_line done =
    if nat_lt done 2 then []
    else codes "HALVE " ++ decimal (first_enough done done (3 * done) - done) ++ codes "\n"

-- where half of what a window counts is counted
abbrev pub suggestion : ℕ → ℕ → ℕ
suggestion count from = from + (count - from) / 2

-- what a study tells of figures and runs, where this is the count
abbrev pub IsTable : List Label → List Run → StudyRequest → ℕ → List ℕ → Type 0
IsTable figures runs request count text =
    (rows : List ℕ) × (trends : List ℕ) × (growths : List ℕ)
    × ArePieces (IsRowOf (values_of_done runs) request.all) 0 figures rows
    × ArePieces (IsTrendOf (trends_of_done runs) (suggestion count request.from)) 0 figures trends
    × ArePieces (IsGrowthOf (values_of_done runs) (trends_of_done runs)) 0 figures growths
    × (text ≡ first_line runs request.from ++ ends_line runs ++ head_line ++ rows
    ++ more_line (length (values_of_done runs)) ++ trends ++ growths)

-- the same of the figures and runs of results
abbrev pub IsTableOfResults : Results → StudyRequest → ℕ → List ℕ → Type 0
IsTableOfResults results request count text =
    IsTable (labels results.figures.items) results.runs.items request count text
