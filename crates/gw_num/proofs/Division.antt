-- Quotients and remainders.
use Rattle.std.proofs.Common.{◌≡◌, ◌≢◌, refl, sym, ℕ, zero, suc, ◌/◌, ◌<◌, ℤ, pos, negsuc, neg_ℤ, zero-lt-suc}
use Rattle.std.proofs.Math.Nat.{div-mul-le_self}
use Rattle.std.proofs.lemmas.Int.{quot-rem, rem_below, unsigned_abs-mul}
use Rattle.std.specs.Prelude.{unsigned_abs, int_div}
use Rattle.gw_num.specs.Arithmetic.{DivisionLaw}

abs_negated : (n : ℕ) → unsigned_abs (neg_ℤ (pos n)) ≡ n
abs_negated zero = refl
abs_negated (suc n) = refl

abs_quotient : (a b : ℤ) → unsigned_abs (int_div a b) ≡ unsigned_abs a / unsigned_abs b
abs_quotient (pos a) (pos b) = refl
abs_quotient (pos a) (negsuc b) = abs_negated (a / suc b)
abs_quotient (negsuc a) (pos b) = abs_negated (suc a / b)
abs_quotient (negsuc a) (negsuc b) = refl

nonzero : (b : ℤ) → b ≢ pos 0 → 0 < unsigned_abs b
nonzero (pos zero) h = absurd (h refl)
nonzero (pos (suc b)) h = zero-lt-suc b
nonzero (negsuc b) h = zero-lt-suc b

pub division_law : DivisionLaw
division_law a b h = record {
  whole = sym (quot-rem a b);
  smaller = rem_below a b (nonzero b h);
  toward_zero = rw (unsigned_abs-mul (int_div a b) b, abs_quotient a b) (div-mul-le_self (unsigned_abs a) (unsigned_abs b));
}
