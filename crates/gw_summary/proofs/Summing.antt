-- What is told of bytes that were read.
use Rattle.std.proofs.Common.{◌≡◌, ◌⊎◌, ℕ, List, [], Option, None, Some, Result, Ok, Err, IfOk, true, subst, inl, inr}
use Rattle.std.specs.Prelude.{is_some}
use Rattle.std.specs.List.{Contains}
use Rattle.std.proofs.lemmas.List.Elements.{Contains-append_left, Contains-append_cases}
use Rattle.gw_answers.specs.declared.answer.Answer.{Answer}
use Rattle.gw_rows.specs.declared.refusal.Refused.{Refused}
use Rattle.gw_summary.specs.Keeping.{AreLines, AreRowsOf, IsHeader, IsRead, IsTaken, lines_of, waiting_lines}
use Rattle.gw_summary.specs.Telling.{HasOnlyRows, IsSummary, IsSummaryOf}
use Rattle.gw_summary.specs.declared.pieces.Pieces.{Pieces}
use Rattle.gw_summary.specs.declared.rows.Waiting.{Waiting}
use Rattle.gw_summary.specs.declared.telling.SummaryRequest.{SummaryRequest}
use Rattle.gw_summary.proofs.Taking.{none_there}

-- no refusal is told where there is none
none_told : {A : Type 0} (refused : Option Refused) → refused ≡ None → is_some refused ≡ true → A
none_told None is some = absurd cc
none_told (Some r) is some = absurd cc

-- where no line waits and none told a refusal, each line is a header or that of a run
pub all_rows : (bytes : List ℕ) (pieces : Pieces) → IsRead bytes pieces → pieces.rest.items ≡ [] → HasOnlyRows pieces.rows
    → AreRowsOf bytes pieces.rows.points.items
all_rows bytes pieces read whole only = record {
  lines = read.lines;
  split = subst (λ rest. AreLines bytes read.lines rest) whole read.split;
  from = λ t h. read.from t (Contains-append_left points waiting t h);
  each = λ t h. by_kind t (read.each t h);
}
  where
    points : List (List ℕ)
    points = lines_of pieces.rows.points.items

    waiting : List (List ℕ)
    waiting = waiting_lines pieces.rows.waiting.items

    by_place : (t : List ℕ) → Contains points t ⊎ Contains waiting t → IsHeader t ⊎ Contains points t
    by_place t (inl there) = inr there
    by_place t (inr one) = none_there t (subst (λ (ws : List Waiting). Contains (waiting_lines ws) t) only.0 one)

    by_kind : (t : List ℕ) → IsTaken pieces.rows t → IsHeader t ⊎ Contains points t
    by_kind t (inl header) = inl header
    by_kind t (inr (inl kept)) = by_place t (Contains-append_cases points waiting t kept)
    by_kind t (inr (inr refusal)) = none_told pieces.rows.refused only.1 refusal.1

summed : (bytes : List ℕ) (pieces : Pieces) (request : SummaryRequest) (text : List ℕ) (status : ℕ) → IsRead bytes pieces → pieces.rest.items ≡ []
    → IsSummary pieces.rows request text status → IsSummaryOf bytes request text status
summed bytes pieces request text status read whole (inl told) = inl (pieces.rows, all_rows bytes pieces read whole told.1, inl told)
summed bytes pieces request text status read whole (inr refused) = inr refused

pub answered : {E : Type 0} (pieces : Pieces) (request : SummaryRequest) (r : Result Answer E) → pieces.rest.items ≡ []
    → IfOk r (λ a. IsSummary pieces.rows request a.text.items a.status)
    → IfOk r (λ a. (bytes : List ℕ) → IsRead bytes pieces → IsSummaryOf bytes request a.text.items a.status)
answered pieces request (Ok a) whole told = λ bytes read. summed bytes pieces request a.text.items a.status read whole told
answered pieces request (Err e) whole told = tt
