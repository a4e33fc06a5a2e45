-- The rows of one more point.
use Rattle.std.proofs.Common.{◌≡◌, ◌<◌, ◌+◌, ℕ, List, ◌∷◌, length, drop, get_or, drop-cons, suc, arith, sym, ap, subst, ◌∙◌}
use Rattle.gw_experiment.specs.Shares.{run_at}
use Rattle.gw_experiment.specs.declared.shares.Share.{Share}
use Rattle.gw_alternatives.specs.declared.study_point.StudyPoint.{StudyPoint}
use Rattle.gw_shards.specs.Rows.{Common, header_of, AddsRowsOf, AddsRowsOfPoints}
use Rattle.gw_shards.specs.Shares.{AddsPart, AddsParts, last_header}

-- what stands from a place on begins with what stands there
from_place : (points : List StudyPoint) (i : ℕ) (x : StudyPoint) → i < length points → x ≡ get_or points i x → drop i points ≡ x ∷ drop (suc i) points
from_place points i x h is = drop-cons points i x h ∙ ap (λ y. y ∷ drop (suc i) points) (sym is)

cons : (common : Common) (first end : ℕ) (last : List ℕ) (point : StudyPoint) (points : List StudyPoint) (old middle new : List ℕ)
    → AddsRowsOf common first end last point old middle → AddsRowsOfPoints common first end (header_of point) points middle new
    → AddsRowsOfPoints common first end last (point ∷ points) old new
unfolding AddsRowsOfPoints
cons common first end last point points old middle new row rows = (middle, row, rows)

pub one_more : (common : Common) (first end : ℕ) (points : List StudyPoint) (i : ℕ) (x : StudyPoint) (none last header start old middle : List ℕ)
    → i < length points → x ≡ get_or points i x → header ≡ header_of x → AddsRowsOf common first end last x old middle
    → ((new : List ℕ) → AddsRowsOfPoints common first end last (drop i points) old new → AddsRowsOfPoints common first end none points start new)
    → (new : List ℕ) → AddsRowsOfPoints common first end header (drop (i + 1) points) middle new → AddsRowsOfPoints common first end none points start new
one_more common first end points i x none last header start old middle h is named row before new rows =
    let next : i + 1 ≡ suc i = omega arith in
    let here : AddsRowsOfPoints common first end header (drop (suc i) points) middle new =
    subst (λ k. AddsRowsOfPoints common first end header (drop k points) middle new) next rows in
    let there : AddsRowsOfPoints common first end (header_of x) (drop (suc i) points) middle new =
    subst (λ k. AddsRowsOfPoints common first end k (drop (suc i) points) middle new) named here in
    before new (subst (λ xs. AddsRowsOfPoints common first end last xs old new) (sym (from_place points i x h is))
    (cons common first end last x (drop (suc i) points) old middle new row there))

part_cons : (common : Common) (share : Share) (runs number : ℕ) (last : List ℕ) (point : StudyPoint) (points : List StudyPoint) (old middle new : List ℕ)
    → AddsPart common (run_at share.first number runs) (run_at share.end number runs) last point old middle
    → AddsParts common share runs (number + 1) (last_header (run_at share.first number runs) (run_at share.end number runs) last point) points middle new
    → AddsParts common share runs number last (point ∷ points) old new
unfolding AddsParts
part_cons common share runs number last point points old middle new row rows = (middle, row, rows)

pub part_more : (common : Common) (share : Share) (runs : ℕ) (points : List StudyPoint) (i : ℕ) (x : StudyPoint) (none last header start old middle : List ℕ)
    → i < length points → x ≡ get_or points i x → header ≡ last_header (run_at share.first i runs) (run_at share.end i runs) last x
    → AddsPart common (run_at share.first i runs) (run_at share.end i runs) last x old middle
    → ((new : List ℕ) → AddsParts common share runs i last (drop i points) old new → AddsParts common share runs 0 none points start new)
    → (new : List ℕ) → AddsParts common share runs (i + 1) header (drop (i + 1) points) middle new → AddsParts common share runs 0 none points start new
part_more common share runs points i x none last header start old middle h is named row before new rows =
    let next : i + 1 ≡ suc i = omega arith in
    let here : AddsParts common share runs (i + 1) header (drop (suc i) points) middle new =
    subst (λ k. AddsParts common share runs (i + 1) header (drop k points) middle new) next rows in
    let there = subst (λ k. AddsParts common share runs (i + 1) k (drop (suc i) points) middle new) named here in
    before new (subst (λ xs. AddsParts common share runs i last xs old new) (sym (from_place points i x h is))
    (part_cons common share runs i last x (drop (suc i) points) old middle new row there))
