-- A certificate that is lowered where weights are below it.
use Rattle.std.proofs.Common.{◌≡◌, ℕ, zero, suc, ◌+◌, ◌-◌, ◌*◌, ◌≤◌, ◌<◌, ◌⊎◌, inl, inr, ap, arith, cond, nat_lt, mul-le-mul_left, min}
use Rattle.std.proofs.Math.Nat.{min-eq_left}
use Rattle.std.proofs.lemmas.Bool.{cases_lt}
use Rattle.std.proofs.lemmas.Bool.Decides.{nat_tests}
use Rattle.gw_object.specs.Limits.{greatest_weight}

-- one less, so many times, is less
smaller : (m d c : ℕ) → d < c → suc (suc m * d) ≤ suc m * c
smaller m d c lt = omega (arith, mul-le-mul_left (suc m) lt)

lowered_to : (b c d : ℕ) → d ≡ cond (nat_lt b c) (c - 1) c → b < c → suc d ≡ c
lowered_to b c d is lt = grind (arith, nat_tests)

kept_at : (b c d : ℕ) → d ≡ cond (nat_lt b c) (c - 1) c → c ≤ b → d ≡ c
kept_at b c d is le = grind (arith, nat_tests)

pub no_more : (b c d : ℕ) → d ≡ cond (nat_lt b c) (c - 1) c → d ≤ c
no_more b c d is = grind (arith, nat_tests)

pub no_less : (b c d : ℕ) → d ≡ cond (nat_lt b c) (c - 1) c → b ≤ c → b ≤ d
no_less b c d is le = grind (arith, nat_tests)

-- a term, so many times a weight, which was a and is b and c in a certificate, d once that is lowered: it gets less, or it was the certificate's before
pub term_lowers : (k a b c d : ℕ) → d ≡ cond (nat_lt b c) (c - 1) c → a ≤ c → b ≤ c → (a < c → b < c) → (suc (k * d) ≤ k * c) ⊎ (k * a ≡ k * c)
term_lowers zero a b c d is first second stays = inr (omega arith)
term_lowers (suc m) a b c d is first second stays =
    elim (cases_lt b c) [
      | inl lt ↦ inl (smaller m d c (omega (arith, lowered_to b c d is lt)))
      | inr le ↦
          let same : a ≡ c = elim (cases_lt a c) [ inl lt ↦ absurd (omega (arith, stays lt, le)) | inr ge ↦ omega (arith, first, ge) ] in
          inr (ap (λ n. suc m * n) same)
    ]

module _ (gain p1 p2 q1 q2 s1 s2 off v u l : ℕ) (is : l ≡ cond (nat_lt v u) (u - 1) u) (keeps : gain + q1 + q2 - off ≤ u) (less : p1 ≤ q1)
    (fewer : p2 ≤ q2) where
  -- a rule is kept where its weight stays
  pub kept_beside : u ≤ v → gain + p1 + p2 - off ≤ l
  kept_beside le = omega (arith, kept_at v u l is le, keeps, less, fewer)

  -- and where it is lowered: a term gets less too, or the weight has come to what the rule asks in the certificate, and isn't below it
  pub kept_lower : v < u → (suc p1 ≤ q1) ⊎ (s1 ≡ q1) → (suc p2 ≤ q2) ⊎ (s2 ≡ q2) → min (gain + s1 + s2 - off) greatest_weight ≤ v → u
      ≤ greatest_weight → gain + p1 + p2 - off ≤ l
  kept_lower lt first second asked most =
      let down : suc l ≡ u = lowered_to v u l is lt in
      elim first [
        | inl h ↦ omega (arith, down, keeps, less, fewer, h)
        | inr e ↦ elim second [
          | inl h ↦ omega (arith, down, keeps, less, fewer, h)
          | inr f ↦
              let within : gain + s1 + s2 - off ≤ greatest_weight = omega (arith, keeps, most, e, f) in
              let asks : gain + s1 + s2 - off ≤ v = rw min-eq_left at asked in
              omega (arith, down, asks, e, f, less, fewer, lt)
        ]
      ]
