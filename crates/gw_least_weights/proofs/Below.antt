-- How many of the first weights are below others, and those others lowered where weights are below them.
use Rattle.std.proofs.Common.{◌≡◌, ℕ, zero, suc, ◌+◌, ◌-◌, ◌≤◌, ◌<◌, List, [], ◌∷◌, length, refl, arith, cond, nat_lt}
use Rattle.std.proofs.lemmas.Bool.Decides.{nat_tests}
use Rattle.gw_least_weights.specs.Rules.{weight_at}

-- how many of so many weights, from the first one on, are below others
abbrev pub below : ℕ → List ℕ → List ℕ → ℕ
below zero ws us = 0
below (suc n) [] us = 0
below (suc n) (w ∷ ws) [] = 0
below (suc n) (w ∷ ws) (u ∷ us) = cond (nat_lt w u) 1 0 + below n ws us

-- others, each one less where these weights are below them
abbrev pub lowered : List ℕ → List ℕ → List ℕ
lowered [] us = []
lowered (w ∷ ws) [] = []
lowered (w ∷ ws) (u ∷ us) = cond (nat_lt w u) (u - 1) u ∷ lowered ws us

-- all together
abbrev pub total : List ℕ → ℕ
total [] = 0
total (u ∷ us) = u + total us

-- ONE WEIGHT

lowers : (w u : ℕ) → cond (nat_lt w u) (u - 1) u + cond (nat_lt w u) 1 0 ≡ u
lowers w u = grind (arith, nat_tests)

counts : (w u : ℕ) → cond (nat_lt w u) 1 0 ≤ 1
counts w u = grind (arith, nat_tests)

grows : (w v u : ℕ) → w ≤ v → cond (nat_lt v u) 1 0 ≤ cond (nat_lt w u) 1 0
grows w v u h = grind (arith, nat_tests)

falls : (w t u : ℕ) → t ≤ u → cond (nat_lt w t) 1 0 ≤ cond (nat_lt w u) 1 0
falls w t u h = grind (arith, nat_tests)

stays_below : (w v u : ℕ) → cond (nat_lt w u) 1 0 ≤ cond (nat_lt v u) 1 0 → w < u → v < u
stays_below w v u h lt = grind (arith, nat_tests)

reaches : (w u : ℕ) → w ≤ u → cond (nat_lt w u) 1 zero ≡ zero → w ≡ u
reaches w u h none = grind (arith, nat_tests)

-- LISTS

pub lowered_length : (ws us : List ℕ) → length ws ≡ length us → length (lowered ws us) ≡ length us
lowered_length [] [] same = refl
lowered_length [] (u ∷ us) same = absurd (omega (arith, same))
lowered_length (w ∷ ws) [] same = absurd (omega (arith, same))
lowered_length (w ∷ ws) (u ∷ us) same = omega (arith, lowered_length ws us (omega (arith, same)))

pub lowered_at : (ws us : List ℕ) (i : ℕ) → length ws ≡ length us → weight_at (lowered ws us) i
    ≡ cond (nat_lt (weight_at ws i) (weight_at us i)) (weight_at us i - 1) (weight_at us i)
lowered_at [] [] i same = refl
lowered_at [] (u ∷ us) i same = absurd (omega (arith, same))
lowered_at (w ∷ ws) [] i same = absurd (omega (arith, same))
lowered_at (w ∷ ws) (u ∷ us) zero same = refl
lowered_at (w ∷ ws) (u ∷ us) (suc i) same = lowered_at ws us i (omega (arith, same))

pub lowered_total : (n : ℕ) (ws us : List ℕ) → length ws ≡ length us → total (lowered ws us) + below n ws us ≤ total us
lowered_total zero [] [] same = omega arith
lowered_total zero [] (u ∷ us) same = absurd (omega (arith, same))
lowered_total zero (w ∷ ws) [] same = absurd (omega (arith, same))
lowered_total zero (w ∷ ws) (u ∷ us) same = omega (arith, lowers w u, lowered_total zero ws us (omega (arith, same)))
lowered_total (suc n) [] [] same = omega arith
lowered_total (suc n) [] (u ∷ us) same = absurd (omega (arith, same))
lowered_total (suc n) (w ∷ ws) [] same = absurd (omega (arith, same))
lowered_total (suc n) (w ∷ ws) (u ∷ us) same = omega (arith, lowers w u, lowered_total n ws us (omega (arith, same)))

pub below_most : (n : ℕ) (ws us : List ℕ) → below n ws us ≤ n
below_most zero ws us = omega arith
below_most (suc n) [] us = omega arith
below_most (suc n) (w ∷ ws) [] = omega arith
below_most (suc n) (w ∷ ws) (u ∷ us) = omega (arith, counts w u, below_most n ws us)

-- those that grow are below no more
pub below_less : (n : ℕ) (ws vs us : List ℕ) → length ws ≡ length vs → ((i : ℕ) → weight_at ws i ≤ weight_at vs i) → below n vs us ≤ below n ws us
below_less zero ws vs us same each = omega arith
below_less (suc n) [] [] us same each = omega arith
below_less (suc n) [] (v ∷ vs) us same each = absurd (omega (arith, same))
below_less (suc n) (w ∷ ws) [] us same each = absurd (omega (arith, same))
below_less (suc n) (w ∷ ws) (v ∷ vs) [] same each = omega arith
below_less (suc n) (w ∷ ws) (v ∷ vs) (u ∷ us) same each =
    omega (arith, grows w v u (each zero), below_less n ws vs us (omega (arith, same)) (λ i. each (suc i)))

-- nor are they where the others are less
pub below_fewer : (n : ℕ) (ws ts us : List ℕ) → length ts ≡ length us → ((i : ℕ) → weight_at ts i ≤ weight_at us i) → below n ws ts ≤ below n ws us
below_fewer zero ws ts us same each = omega arith
below_fewer (suc n) [] ts us same each = omega arith
below_fewer (suc n) (w ∷ ws) [] [] same each = omega arith
below_fewer (suc n) (w ∷ ws) [] (u ∷ us) same each = absurd (omega (arith, same))
below_fewer (suc n) (w ∷ ws) (t ∷ ts) [] same each = absurd (omega (arith, same))
below_fewer (suc n) (w ∷ ws) (t ∷ ts) (u ∷ us) same each =
    omega (arith, falls w t u (each zero), below_fewer n ws ts us (omega (arith, same)) (λ i. each (suc i)))

-- where none of those that grow comes to the other, each that was below is still
pub same_below : (n : ℕ) (ws vs us : List ℕ) → length ws ≡ length vs → ((i : ℕ) → weight_at ws i ≤ weight_at vs i) → below n ws us
    ≤ below n vs us → (i : ℕ) → i < n → weight_at ws i < weight_at us i → weight_at vs i < weight_at us i
same_below zero ws vs us same each many i within lt = absurd (omega (arith, within))
same_below (suc n) [] [] us same each many i within lt = lt
same_below (suc n) [] (v ∷ vs) us same each many i within lt = absurd (omega (arith, same))
same_below (suc n) (w ∷ ws) [] us same each many i within lt = absurd (omega (arith, same))
same_below (suc n) (w ∷ ws) (v ∷ vs) [] same each many i within lt = absurd (omega (arith, lt))
same_below (suc n) (w ∷ ws) (v ∷ vs) (u ∷ us) same each many zero within lt =
    let rest = below_less n ws vs us (omega (arith, same)) (λ i. each (suc i)) in
    let head : cond (nat_lt w u) 1 0 ≤ cond (nat_lt v u) 1 0 = omega (arith, many, rest) in
    stays_below w v u head lt
same_below (suc n) (w ∷ ws) (v ∷ vs) (u ∷ us) same each many (suc i) within lt =
    let fewer : below n ws us ≤ below n vs us = omega (arith, many, grows w v u (each zero)) in
    same_below n ws vs us (omega (arith, same)) (λ i. each (suc i)) fewer i (omega (arith, within)) lt

-- where none is below the other they are the same
pub none_below : (n : ℕ) (ws us : List ℕ) → length ws ≡ length us → ((i : ℕ) → weight_at ws i ≤ weight_at us i) → below n ws us ≡ zero
    → (i : ℕ) → i < n → weight_at ws i ≡ weight_at us i
none_below zero ws us same each none i within = absurd (omega (arith, within))
none_below (suc n) [] [] same each none i within = refl
none_below (suc n) [] (u ∷ us) same each none i within = absurd (omega (arith, same))
none_below (suc n) (w ∷ ws) [] same each none i within = absurd (omega (arith, same))
none_below (suc n) (w ∷ ws) (u ∷ us) same each none zero within = reaches w u (each zero) (omega (arith, none))
none_below (suc n) (w ∷ ws) (u ∷ us) same each none (suc i) within =
    none_below n ws us (omega (arith, same)) (λ i. each (suc i)) (omega (arith, none)) i (omega (arith, within))
