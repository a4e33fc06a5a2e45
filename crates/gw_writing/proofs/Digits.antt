-- The last digits of a number.
use Rattle.std.proofs.Common.{◌≡◌, ◌∙◌, ◌<◌, ◌≤◌, ◌+◌, ◌*◌, ◌/◌, ◌%◌, ◌^◌, ℕ, zero, suc, [], ◌∷◌, ◌++◌, length, drop, refl, ap, arith, lit<}
use Rattle.std.proofs.Math.Arith.{mod-mul}
use Rattle.std.proofs.Math.Nat.{pow-suc, pow-le-pow_right, one-le-pow, mod-one}
use Rattle.std.proofs.lemmas.List.{length_push}
use Rattle.std.proofs.lemmas.Nat.{mod_below}
use Rattle.std.specs.Fmt.{decimal}
use Rattle.std.proofs.lemmas.Fmt.{decimal_digit, decimal_step_wide}
use Rattle.gw_writing.specs.Decimals.{last_digits}

-- they are so many
pub length_last : (k n : ℕ) → length (last_digits k n) ≡ k
unfolding last_digits
length_last zero n = refl
length_last (suc k) n = omega (arith, length_push (last_digits k (n / 10)) (48 + n % 10), length_last k (n / 10))

-- those of a number below the one and zeros behind which they are written
parts : (k n : ℕ) → 10 ^ suc k + n % 10 ^ suc k ≡ (10 ^ k + n / 10 % 10 ^ k) * 10 + n % 10
parts k n =
    let one : 10 ^ suc k ≡ 10 ^ k * 10 = pow-suc 10 k in
    let rest : n % (10 ^ k * 10) ≡ n / 10 % 10 ^ k * 10 + n % 10 = mod-mul n {m = 10 ^ k} {c = 10} (one-le-pow k 10 (lit< tt)) (lit< tt) in
    rw one (omega (arith, rest))

wide : (k n : ℕ) → k ≤ 38 → 10 ^ k + n % 10 ^ k < 10 ^ 64
wide k n few =
    let most : 10 ^ k ≤ 10 ^ 38 = pow-le-pow_right {n = 10} (lit< tt) few in
    omega (arith, most, mod_below n (10 ^ k) (one-le-pow k 10 (lit< tt)))

-- the digits of a number behind a one are its last digits
pub digits_behind_one : (k n : ℕ) → k ≤ 38 → decimal (10 ^ k + n % 10 ^ k) ≡ 49 ∷ last_digits k n
unfolding last_digits
digits_behind_one zero n few =
    let none : 10 ^ 0 + n % 10 ^ 0 ≡ 1 = ap (λ m. 1 + m) (mod-one n) in ap decimal none ∙ decimal_digit 1 (lit< tt)
digits_behind_one (suc k) n few =
    let both = parts k n in
    let front : (10 ^ suc k + n % 10 ^ suc k) / 10 ≡ 10 ^ k + n / 10 % 10 ^ k = omega (arith, both) in
    let last : (10 ^ suc k + n % 10 ^ suc k) % 10 ≡ n % 10 = omega (arith, both) in
    decimal_step_wide (10 ^ suc k + n % 10 ^ suc k) (omega (arith, both, one-le-pow k 10 (lit< tt))) (wide (suc k) n few)
    ∙ ap (λ m. decimal m ++ (48 + (10 ^ suc k + n % 10 ^ suc k) % 10) ∷ []) front
    ∙ ap (λ d. decimal (10 ^ k + n / 10 % 10 ^ k) ++ (48 + d) ∷ []) last
    ∙ ap (λ ds. ds ++ (48 + n % 10) ∷ []) (digits_behind_one k (n / 10) (omega (arith, few)))

-- so these are all but the first
pub behind_one : (k n : ℕ) → k ≤ 38 → drop 1 (decimal (10 ^ k + n % 10 ^ k)) ≡ last_digits k n
behind_one k n few = ap (drop 1) (digits_behind_one k n few)

-- and there is room for them
pub one_fits : (k : ℕ) → k ≤ 38 → (10 ^ k ≤ 10 ^ 38) × (0 < 10 ^ k)
one_fits k few = (pow-le-pow_right {n = 10} (lit< tt) few, one-le-pow k 10 (lit< tt))
