-- What becomes of a list of rows when one of them changes or is added.
use Rattle.std.proofs.Common.{◌≡◌, ℕ, zero, suc, ◌+◌, List, [], ◌∷◌, ◌++◌, length, Option, Some, None, Bool, true, false, refl, ap, subst, arith}
use Rattle.std.specs.Prelude.{◌==◌, sum_by, if◌then◌else◌}
use Rattle.std.specs.List.{slice_get}
use Rattle.std.proofs.lemmas.Bool.Decides.{nat_tests}
use Rattle.std.proofs.lemmas.List.Sums.{sum_by-cons}
use Rattle.gw_service.specs.Rows.{Row, change_row}

pub suc_equal : (m n : ℕ) → (suc m == suc n) ≡ (m == n)
suc_equal m n = grind (arith, nat_tests)

pub zero_suc : (n : ℕ) → (zero == suc n) ≡ false
zero_suc n = grind (arith, nat_tests)

pub suc_zero : (n : ℕ) → (suc n == zero) ≡ false
suc_zero n = grind (arith, nat_tests)

pub same_choice : {A : Type 0} (b : Bool) (x : A) → x ≡ (if b then x else x)
same_choice true x = refl
same_choice false x = refl

-- 1 for true
abbrev pub one_if : Bool → ℕ
one_if b = if b then 1 else 0

-- what a function makes of a row, if there is one
unfoldable pub map_row : (Row → Row) → Option Row → Option Row
map_row f None = None
map_row f (Some r) = Some (f r)

pub get-changed : (k m : ℕ) (f : Row → Row) (rows : List Row) → slice_get (change_row m f rows) k
    ≡ (if m == k then map_row f (slice_get rows k) else slice_get rows k)
unfolding map_row
get-changed k m f [] = same_choice (m == k) None
get-changed zero zero f (r ∷ rs) = refl
get-changed (suc k) zero f (r ∷ rs) = rw (zero_suc k) refl
get-changed zero (suc m) f (r ∷ rs) = rw (suc_zero m) refl
get-changed (suc k) (suc m) f (r ∷ rs) = rw (suc_equal m k) (get-changed k m f rs)

pub get-added : (k : ℕ) (rows : List Row) (r : Row) → slice_get (rows ++ r ∷ []) k ≡ (if length rows == k then Some r else slice_get rows k)
get-added zero [] r = refl
get-added (suc k) [] r = rw (zero_suc k) refl
get-added zero (x ∷ xs) r = rw (suc_zero (length xs)) refl
get-added (suc k) (x ∷ xs) r = rw (suc_equal (length xs) k) (get-added k xs r)

pub get-past : (rows : List Row) → slice_get rows (length rows) ≡ None
get-past [] = refl
get-past (r ∷ rs) = get-past rs

pub length-changed : (k : ℕ) (f : Row → Row) (rows : List Row) → length (change_row k f rows) ≡ length rows
length-changed k f [] = refl
length-changed zero f (q ∷ rows) = refl
length-changed (suc k) f (q ∷ rows) = ap suc (length-changed k f rows)

-- SUMS

pub sum-changed : (g : Row → ℕ) (k : ℕ) (f : Row → Row) (rows : List Row) (r : Row) → slice_get rows k ≡ Some r
    → sum_by g (change_row k f rows) + g r ≡ sum_by g rows + g (f r)
sum-changed g k f [] r h = absurd cc
sum-changed g zero f (q ∷ rows) r h =
    let same : q ≡ r = cc in
    subst (λ (x : Row). sum_by g (f q ∷ rows) + g x ≡ sum_by g (q ∷ rows) + g (f x)) same (omega (arith, sum_by-cons g (f q) rows, sum_by-cons g q rows))
sum-changed g (suc k) f (q ∷ rows) r h = omega (arith, sum-changed g k f rows r h, sum_by-cons g q (change_row k f rows), sum_by-cons g q rows)

-- a change that leaves what is summed leaves the sum
pub sum-kept : (g : Row → ℕ) (k : ℕ) (f : Row → Row) (rows : List Row) → ((r : Row) → g (f r) ≡ g r) → sum_by g (change_row k f rows) ≡ sum_by g rows
sum-kept g k f [] h = refl
sum-kept g zero f (q ∷ rows) h = omega (arith, h q, sum_by-cons g (f q) rows, sum_by-cons g q rows)
sum-kept g (suc k) f (q ∷ rows) h = omega (arith, sum-kept g k f rows h, sum_by-cons g q (change_row k f rows), sum_by-cons g q rows)

pub sum-added : (g : Row → ℕ) (rows : List Row) (r : Row) → sum_by g (rows ++ r ∷ []) ≡ sum_by g rows + g r
sum-added g [] r = omega (arith, sum_by-cons g r [])
sum-added g (q ∷ rows) r = omega (arith, sum-added g rows r, sum_by-cons g q (rows ++ r ∷ []), sum_by-cons g q rows)
