-- Powers with an exponent above 64: for the bases -1, 0 and 1 its parity decides, and those of any other base leave i64.
use Rattle.std.proofs.Common.{◌≡◌, refl, ap, ◌∙◌, sym, ℕ, zero, suc, ◌+◌, ◌*◌, ◌%◌, ◌^◌, ◌<◌, ◌≤◌, ◌==◌, Bool, true, false, cond, not, ℤ, pos, negsuc}
use Rattle.std.proofs.Common.{neg_ℤ, ◌*ℤ◌, zero-mul, add-one, le_trans, arith, lit<, le-ltb, Err}
use Rattle.std.proofs.Math.Nat.{pow-suc, pow-zero, pow-le-pow_left, pow-le-pow_right}
use Rattle.std.proofs.lemmas.Bool.{cond-false}
use Rattle.std.specs.Int.{int_pow}
use Rattle.gw_num.specs.Arithmetic.{fits_i64, within_i64, PowerLaw}
use Rattle.gw_num.specs.declared.arithmetic.NumFault.TheVariants.{Number}

pow_of_zero : (e : ℕ) → 0 < e → 0 ^ e ≡ 0
pow_of_zero zero h = absurd (omega arith)
pow_of_zero (suc e) h = rw pow-suc (omega arith)

pow_of_one : (e : ℕ) → 1 ^ e ≡ 1
pow_of_one zero = pow-zero 1
pow_of_one (suc e) = rw (pow-suc, pow_of_one e) refl

two_up : (m e : ℕ) → 2 ≤ m → 64 ≤ e → 2 ^ 64 ≤ m ^ e
two_up m e h k = le_trans (pow-le-pow_right (lit< tt) k) (pow-le-pow_left h e)

-- a number so large fits with neither sign
too_large : (m : ℕ) → 2 ^ 64 ≤ m → within_i64 (pos m) ≡ Err Number
too_large m h = cond-false (fits_i64 (pos m)) _ _ (le-ltb m (2 ^ 63) (omega arith))

too_small : (m : ℕ) → 2 ^ 64 ≤ m → within_i64 (neg_ℤ (pos m)) ≡ Err Number
too_small zero h = absurd (omega arith)
too_small (suc m) h = cond-false (fits_i64 (negsuc m)) _ _ (le-ltb m (2 ^ 63) (omega arith))

of_parity : (even : Bool) (m : ℕ) → 2 ^ 64 ≤ m → within_i64 (cond even (pos m) (neg_ℤ (pos m))) ≡ Err Number
of_parity true m h = too_large m h
of_parity false m h = too_small m h

-- above 64 an exponent gives the same power, or none that fits, as 64 or 65 with its parity
pub far_power : (a : ℤ) (n : ℕ) → 64 < n → within_i64 (int_pow a (64 + n % 2)) ≡ within_i64 (int_pow a n)
far_power (pos zero) n h = ap (λ m. within_i64 (pos m)) (pow_of_zero (64 + n % 2) (omega arith) ∙ sym (pow_of_zero n (omega arith)))
far_power (pos (suc zero)) n h = ap (λ m. within_i64 (pos m)) (pow_of_one (64 + n % 2) ∙ sym (pow_of_one n))
far_power (pos (suc (suc a))) n h =
    too_large _ (two_up (suc (suc a)) (64 + n % 2) (omega arith) (omega arith))
    ∙ sym (too_large _ (two_up (suc (suc a)) n (omega arith) (omega arith)))
far_power (negsuc zero) n h =
    let same : (64 + n % 2) % 2 ≡ n % 2 = omega arith in
    rw (same, pow_of_one (64 + n % 2), pow_of_one n) refl
far_power (negsuc (suc a)) n h =
    of_parity _ _ (two_up (suc (suc a)) (64 + n % 2) (omega arith) (omega arith))
    ∙ sym (of_parity _ _ (two_up (suc (suc a)) n (omega arith) (omega arith)))

-- one factor more
one_more : (even : Bool) (m a : ℕ) → cond (not even) (pos (m * suc a)) (neg_ℤ (pos (m * suc a))) ≡ cond even (pos m) (neg_ℤ (pos m)) *ℤ negsuc a
one_more true m a = refl
one_more false zero a = rw (zero-mul (suc a)) refl
one_more false (suc m) a = refl

pub power_law : PowerLaw
power_law a = (first a, next a) where
  first : (a : ℤ) → int_pow a 0 ≡ pos 1
  first (pos a) = ap pos (pow-zero a)
  first (negsuc a) = ap pos (pow-zero (suc a))

  next : (a : ℤ) (n : ℕ) → int_pow a (n + 1) ≡ int_pow a n *ℤ a
  next (pos a) n = rw (add-one, pow-suc) refl
  next (negsuc a) n =
      let turned : ((n + 1) % 2 == 0) ≡ not (n % 2 == 0) = grind arith in
      rw (turned, add-one, pow-suc) (one_more (n % 2 == 0) (suc a ^ n) a)
