-- One more point.
use Rattle.std.proofs.Common.{◌≡◌, ◌∙◌, ℕ, List, [], ◌∷◌, ◌++◌, Bool, Option, refl, ap, subst, sym}
use Rattle.gw_comparison.specs.Sheets.{AddsEach}
use Rattle.gw_comparison.specs.declared.point.Point.{Point}
use Rattle.gw_comparison.proofs.Each.{none, one_more}
use Rattle.gw_alternatives.specs.Told.{AddsBlock, AddsAllDifferences}
use Rattle.gw_summary.specs.Telling.{TellsPoint, TellsPoints, first_of, AddsNext}
use Rattle.gw_summary.specs.declared.point.PointRows.{PointRows}
use Rattle.gw_summary.specs.declared.rows.Rows.{Rows}
use Rattle.gw_summary.specs.declared.study.Study.{Study}
use Rattle.gw_summary.specs.declared.telling.SummaryRequest.{SummaryRequest}

-- nothing is told of no point
pub none_told : (rows : Rows) (study : Study) (request : SummaryRequest) (old : List ℕ) → TellsPoints rows study request [] [] old old
unfolding TellsPoints
none_told rows study request old = (refl, refl)

-- one point more is told
pub told_more : (rows : Rows) (study : Study) (request : SummaryRequest) (xs : List PointRows) (x : PointRows) (told : List Point) (point :
    Point) (old middle new : List ℕ)
    → TellsPoints rows study request xs told old middle → TellsPoint rows study request x point middle new
    → TellsPoints rows study request (xs ++ x ∷ []) (told ++ point ∷ []) old new
unfolding TellsPoints
told_more rows study request [] x told point old middle new (none, same) h =
    (point, [], new, ap (λ ps. ps ++ point ∷ []) none, subst (λ from. TellsPoint rows study request x point from new) same h, (refl, refl))
told_more rows study request (y ∷ xs) x told point old middle new (first, others, next, are, here, rest) h =
    (first, others ++ point ∷ [], next, ap (λ ps. ps ++ point ∷ []) are, here, told_more rows study request xs x others point next middle new rest h)

-- its differences to the first are added, or it is the first
pub next_added : (all : Bool) (told : List Point) (point : Point) (first now : Option Point) (start old new : List ℕ) → first ≡ first_of told
    → AddsAllDifferences all told start old → AddsNext all first point now old new
    → (now ≡ first_of (told ++ point ∷ [])) × AddsAllDifferences all (told ++ point ∷ []) start new
next_added all [] point first now start old new is so_far next =
    let h = subst (λ f. AddsNext all f point now old new) is next in
    let same : start ≡ new = sym (h.1 ∙ so_far) in
    (h.0, subst (λ text. AddsEach (AddsBlock all point) [] start text) same (none (AddsBlock all point) start))
next_added all (p ∷ ps) point first now start old new is so_far next =
    let h = subst (λ f. AddsNext all f point now old new) is next in
    (h.0, one_more (AddsBlock all p) ps point start old new so_far h.1)
