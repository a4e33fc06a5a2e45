-- Quantiles of Student's distribution, between whose negative and itself 95 % of it lies: in
-- thousandths, rounded up.
use Rattle.std.specs.Prelude.{ℕ, zero, suc, ◌+◌, ◌-◌, ◌*◌, List, [], ◌∷◌, nat_le, nat_lt, slice_index_or, Bool, if◌then◌else◌}

-- those with 1, 2, .. 30 degrees of freedom
abbrev pub to_30_degrees : List ℕ
to_30_degrees =
    12707 ∷ 4303 ∷ 3183 ∷ 2777 ∷ 2571 ∷ 2447 ∷ 2365 ∷ 2307 ∷ 2263 ∷ 2229
    ∷ 2201 ∷ 2179 ∷ 2161 ∷ 2145 ∷ 2132 ∷ 2120 ∷ 2110 ∷ 2101 ∷ 2094 ∷ 2086
    ∷ 2080 ∷ 2074 ∷ 2069 ∷ 2064 ∷ 2060 ∷ 2056 ∷ 2052 ∷ 2049 ∷ 2046 ∷ 2043 ∷ []

-- the quantile with so many degrees; above 30 that of the next fewer of 30, 40, 60 and 120
abbrev pub quantile : ℕ → ℕ
quantile degrees =
    if nat_le degrees 30 then slice_index_or to_30_degrees (degrees - 1) 0
    else if nat_lt degrees 40 then 2043
    else if nat_lt degrees 60 then 2022
    else if nat_lt degrees 120 then 2001
    else 1980

-- so many runs in all have at most half the half-widths of n: t / √all ≤ (1/2) t' / √n
abbrev pub is_enough : ℕ → ℕ → Bool
is_enough n all = nat_le (4 * n * (quantile (all - 1) * quantile (all - 1))) (all * (quantile (n - 1) * quantile (n - 1)))

-- the first number from this one on that is enough, or the one behind so many that aren't
unfoldable pub first_enough : ℕ → ℕ → ℕ → ℕ
first_enough n all zero = all
first_enough n all (suc left) = if is_enough n all then all else first_enough n (all + 1) left
