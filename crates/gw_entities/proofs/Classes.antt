-- Classes of values, each one width wide.
use Rattle.std.proofs.Common.{◌≡◌, ℕ, zero, suc, ◌+◌, ◌-◌, ◌*◌, ◌/◌, ◌%◌, ◌<◌, ◌≤◌, min, ℤ, pos, ◌+ℤ◌, ◌-ℤ◌, ◌≤ℤ◌, ◌<ℤ◌, int_le, unsigned_abs, length}
use Rattle.std.proofs.Common.{Bool, true, false, refl, ap, ◌∙◌, arith}
use Rattle.std.proofs.lemmas.Int.{ints}
use Rattle.std.proofs.lemmas.Nat.{div-mul-add, mod_below, mul-le}
use Rattle.gw_entities.specs.Tabulation.{Tabulation, class_of, BelongsTo, ValuesBelongToTheirClass}

-- HOW MANY WIDTHS

-- a quotient, rounded up, by the remainder
by_rest : (w q r : ℕ) → r < w → q + min 1 r ≡ (q * w + r + w - 1) / w
by_rest w q zero below =
    let is : q * w + 0 + w - 1 ≡ q * w + (w - 1) = omega arith in
    let same : (q * w + 0 + w - 1) / w ≡ q = ap (λ n. n / w) is ∙ div-mul-add q w (w - 1) (omega arith) in
    omega (arith, same)
by_rest w q (suc r) below =
    let is : q * w + suc r + w - 1 ≡ (q + 1) * w + r = omega arith in
    let same : (q * w + suc r + w - 1) / w ≡ q + 1 = ap (λ n. n / w) is ∙ div-mul-add (q + 1) w r (omega arith) in
    omega (arith, same)

-- so many widths are at least so much
pub rounded_up : (m w : ℕ) → 0 < w → m / w + min 1 (m % w) ≡ (m + w - 1) / w
rounded_up m w wide =
    let is : m / w * w + m % w ≡ m = omega arith in
    by_rest w (m / w) (m % w) (mod_below m w wide) ∙ ap (λ n. (n + w - 1) / w) is

-- THE CLASS OF A VALUE

module _ (t : Tabulation) (v : ℤ) (wide : 0 < t.width) (there : 0 < length t.classes) where
  -- a value that isn't above the limit belongs to the first class
  in_first : v ≤ℤ t.limit → BelongsTo t v (min 0 (length t.classes - 1))
  in_first low =
      let first : min 0 (length t.classes - 1) ≡ 0 = omega arith in
      rw first record {
        there = there;
        above = λ j below. absurd (omega arith);
        within = λ next. omega (arith, ints);
      }

  -- one above it belongs to the class as many widths above, or to the last
  in_later : t.limit <ℤ v → BelongsTo t v (min ((unsigned_abs (v -ℤ t.limit) + t.width - 1) / t.width) (length t.classes - 1))
  in_later high =
      let m = unsigned_abs (v -ℤ t.limit) in
      let w = t.width in
      let k = (m + w - 1) / w in
      let is : v ≡ t.limit +ℤ pos m = omega (arith, ints) in
      let parts : k * w + (m + w - 1) % w ≡ m + w - 1 = omega arith in
      let rest : (m + w - 1) % w < w = mod_below (m + w - 1) w wide in
      record {
        there = omega arith;
        above = λ j below.
            let widths : (j + 1) * w ≤ k * w = mul-le (j + 1) w k w (omega arith) (omega arith) in
            omega (arith, ints);
        within = λ next.
            let same : min k (length t.classes - 1) ≡ k = omega arith in
            rw same (omega (arith, ints));
      }

pub values_belong_to_their_class : ValuesBelongToTheirClass
values_belong_to_their_class t v wide there = by_limit (int_le v t.limit) refl
  where
    by_limit : (low : Bool) → int_le v t.limit ≡ low → BelongsTo t v (class_of t v)
    by_limit true is = rw is (in_first t v wide there (omega (arith, ints)))
    by_limit false is = rw is (in_later t v wide there (omega (arith, ints)))
