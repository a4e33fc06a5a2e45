-- What values say: their mean, the least and the greatest, and how far the mean may lie from the true
-- one. All in the unit of the values.
use Rattle.std.specs.Prelude.{◌≡◌, ◌≤◌, ◌<◌, ℕ, ◌-◌, ◌*◌, ◌^◌, nat_le, nat_lt, List, [], ◌∷◌, length, fold, ℤ, pos, ◌+ℤ◌, ◌-ℤ◌, unsigned_abs, Option}
use Rattle.std.specs.Prelude.{None, IsSomeAnd, Bool, ◌&&◌, MatchBool}
use Rattle.std.specs.Int.{int_min, int_max}
use Rattle.std.specs.List.{list_all, sum_by}
use Rattle.gw_statistics.specs.Quantiles.{quantile}
use Rattle.gw_statistics.specs.Rounding.{nearest_of}
use Rattle.gw_statistics.specs.declared.summary.Summary.{Summary}

-- their sum
abbrev pub total : List ℤ → ℤ
total xs = fold ◌+ℤ◌ (pos 0) xs

-- their mean, rounded to the nearest
abbrev pub mean_of : List ℤ → ℤ
mean_of xs = nearest_of (total xs) (length xs)

-- the least of a value and others
abbrev pub least_from : ℤ → List ℤ → ℤ
least_from x xs = fold int_min x xs

-- the greatest of a value and others
abbrev pub greatest_from : ℤ → List ℤ → ℤ
greatest_from x xs = fold int_max x xs

-- the least of them
abbrev pub least_of : List ℤ → ℤ
least_of [] = pos 0
least_of (x ∷ xs) = least_from x xs

-- the greatest of them
abbrev pub greatest_of : List ℤ → ℤ
greatest_of [] = pos 0
greatest_of (x ∷ xs) = greatest_from x xs

-- how far a value lies from another
abbrev pub distance : ℤ → ℤ → ℕ
distance c x = unsigned_abs (c -ℤ x)

-- the square of that
abbrev pub square : ℤ → ℤ → ℕ
square c x = distance c x * distance c x

-- the greatest distance that is squared and summed
abbrev pub most_distance : ℕ
most_distance = 2 ^ 50

-- n(n - 1) times the variance, where all values lie on one side of c: n times the sum of squares less
-- the square of the sum, which doesn't change where all values change by the same
abbrev pub dispersion : ℤ → List ℤ → ℕ
dispersion c xs =
    length xs * sum_by (square c) xs - sum_by (distance c) xs * sum_by (distance c) xs

-- the least number whose square is at least this
pub record IsRoot (square_of root : ℕ) : Type 0 where
  pub covers : square_of ≤ root * root
  pub least : (k : ℕ) → k < root → k * k < square_of

-- the quantile, in thousandths, times the standard error of the mean of n values is h, where
-- h² n² (n - 1) is as much as the dispersion times the square of the quantile
abbrev pub scale : ℕ → ℕ
scale n = 1000000 * (n * n * (n - 1))

-- the half-width of the 95 % confidence interval of the mean of n values: the least number that
-- covers it
pub record IsHalfWidth (t n dispersion h : ℕ) : Type 0 where
  pub covers : t * t * dispersion ≤ h * h * scale n
  pub least : (k : ℕ) → k < h → k * k * scale n < t * t * dispersion

-- the same of these values, which lie on one side of c
abbrev pub IsHalfWidthOf : ℤ → List ℤ → ℕ → Type 0
IsHalfWidthOf c xs h = IsHalfWidth (quantile (length xs - 1)) (length xs) (dispersion c xs) h

-- no value lies too far from c
abbrev pub are_near : ℤ → List ℤ → Bool
are_near c xs = list_all (λ x. nat_le (distance c x) most_distance) xs

-- the half-width of values that lie on one side of c, where there are two or more and none lies too
-- far
abbrev pub ConfidesIn : ℤ → List ℤ → Option ℕ → Type 0
ConfidesIn c xs answer =
    MatchBool (nat_lt 1 (length xs) && are_near c xs)
    (IsSomeAnd answer (IsHalfWidthOf c xs))
    (answer ≡ None)

-- a summary says this of values
pub record Tells (xs : List ℤ) (s : Summary) : Type 0 where
  pub mean : s.mean ≡ mean_of xs
  pub least : s.least ≡ least_of xs
  pub greatest : s.greatest ≡ greatest_of xs
  pub half_width : ConfidesIn (least_of xs) xs s.half_width

-- no value is too great to be summed
abbrev pub are_small : List ℤ → Bool
are_small xs = list_all (λ x. nat_le (unsigned_abs x) (2 ^ 100)) xs

-- what is summed up: some values, none too great
abbrev pub are_summed : List ℤ → Bool
are_summed xs = nat_lt 0 (length xs) && are_small xs

-- the summary of values, where they are summed up
abbrev pub IsSummary : List ℤ → Option Summary → Type 0
IsSummary xs answer = MatchBool (are_summed xs) (IsSomeAnd answer (Tells xs)) (answer ≡ None)
