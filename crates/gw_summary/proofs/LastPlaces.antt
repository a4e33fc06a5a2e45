-- Gaps among runs.
use Rattle.std.proofs.Common.{◌≡◌, ◌∙◌, ◌<◌, ◌≤◌, ◌+◌, ℕ, suc, List, [], ◌∷◌, length, drop, get_or, drop-cons, max, min, arith, sym, ap}
use Rattle.std.proofs.Math.ListN.{drop_of_length-le}
use Rattle.gw_summary.specs.Complete.{IsFirstOf, end_of_points}
use Rattle.gw_summary.specs.declared.point.PointRows.{PointRows}

same_max : (end n rest : ℕ) → max (max end n) rest ≡ max end (max n rest)
same_max end n rest = omega arith

-- one point more
pub end_more : (points : List PointRows) (i : ℕ) (x : PointRows) (end now : ℕ) → i < length points → x ≡ get_or points i x
    → now ≡ max end (min (length x.lines.items) 512) → max end (end_of_points (drop i points)) ≡ end_of_points points
    → max now (end_of_points (drop (i + 1) points)) ≡ end_of_points points
unfolding end_of_points
end_more points i x end now below is added so_far =
    let next : i + 1 ≡ suc i = omega arith in
    let rest = drop (suc i) points in
    let left : drop i points ≡ x ∷ rest = drop-cons points i x below ∙ ap (λ y. y ∷ rest) (sym is) in
    ap (λ n. max now (end_of_points (drop n points))) next ∙ ap (λ n. max n (end_of_points rest)) added
    ∙ same_max end (min (length x.lines.items) 512) (end_of_points rest) ∙ ap (λ ps. max end (end_of_points ps)) (sym left) ∙ so_far

-- no point is left
pub end_last : (points : List PointRows) (i end : ℕ) → length points ≤ i → max end (end_of_points (drop i points)) ≡ end_of_points points
    → end ≡ end_of_points points
unfolding end_of_points
end_last points i end over so_far =
    let none : drop i points ≡ [] = drop_of_length-le points over in
    let same : max end 0 ≡ end = omega arith in
    sym same ∙ sym (ap (λ ps. max end (end_of_points ps)) none) ∙ so_far

-- two first runs of one study are one
pub one_first : (end seeds first other : ℕ) → IsFirstOf end seeds first → IsFirstOf end seeds other → first ≡ other
one_first end seeds first other h k = h.2 ∙ sym k.2
