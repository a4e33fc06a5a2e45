-- Averages by quotient and remainder.
use Rattle.std.proofs.Common.{◌≡◌, ◌≢◌, ne_eqb, ap, ◌∙◌, ℕ, ◌+◌, ◌*◌, ◌/◌, ◌%◌, ◌<◌, ◌≤◌, arith}
use Rattle.std.proofs.lemmas.Nat.{div-mul-add, mod-mul-add, div_below, mod_below}
use Rattle.gw_entities.specs.Average.{average}
use Rattle.gw_entities.specs.Laws.{AveragesAreCut}

module _ (sum clock : ℕ) (later : 0 < clock) where
  -- a thousand times the sum, over the clock: the whole part divided off first
  parts : sum * 1000 / clock ≡ sum / clock * 1000 + sum % clock * 1000 / clock
  parts =
      let q = sum / clock in
      let r = sum % clock in
      let whole : clock * q + r ≡ sum = omega arith in
      let rest : clock * (r * 1000 / clock) + r * 1000 % clock ≡ r * 1000 = omega arith in
      let split : sum * 1000 ≡ (q * 1000 + r * 1000 / clock) * clock + r * 1000 % clock = omega arith in
      ap (λ n. n / clock) split ∙ div-mul-add (q * 1000 + r * 1000 / clock) clock (r * 1000 % clock) (mod_below (r * 1000) clock later)

  -- what is left beside the whole part are fewer than a thousand thousandths
  few : sum % clock * 1000 / clock < 1000
  few = let below : sum % clock < clock = mod_below sum clock later in div_below (sum % clock * 1000) clock 1000 later (omega arith)

  pub whole_part : sum * 1000 / clock / 1000 ≡ sum / clock
  whole_part = ap (λ n. n / 1000) parts ∙ div-mul-add (sum / clock) 1000 (sum % clock * 1000 / clock) few

  pub rest_part : sum * 1000 / clock % 1000 ≡ sum % clock * 1000 / clock
  rest_part = ap (λ n. n % 1000) parts ∙ mod-mul-add (sum / clock) 1000 (sum % clock * 1000 / clock) few

-- the average, by quotient and remainder
pub divided : (sum clock : ℕ) → clock ≢ 0 → record { whole = sum / clock; thousandths = sum % clock * 1000 / clock } ≡ average sum clock
divided sum clock later =
    let past : 0 < clock = omega arith in
    rw (ne_eqb clock 0 later, whole_part sum clock past, rest_part sum clock past)

-- what never was above a number is so on average
pub at_most : (most sum clock : ℕ) → clock ≢ 0 → sum ≤ most * clock → sum / clock ≤ most
at_most most sum clock later bound =
    let past : 0 < clock = omega arith in
    let below : sum / clock < most + 1 = div_below sum clock (most + 1) past (omega arith) in
    omega arith

pub averages_are_cut : AveragesAreCut
averages_are_cut sum clock later =
    let t = sum * 1000 / clock in
    let below : sum * 1000 % clock < clock = mod_below (sum * 1000) clock later in
    let is : clock * t + sum * 1000 % clock ≡ sum * 1000 = omega arith in
    let parts : t / 1000 * 1000 + t % 1000 ≡ t = omega arith in
    rw (ne_eqb clock 0 (λ none. absurd (omega arith))) record {
      not_above = rw parts (omega arith);
      next_above = rw parts (omega arith);
      thousandths = omega arith;
    }
