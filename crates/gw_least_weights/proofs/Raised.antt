-- What is raised, rule by rule.
use Rattle.std.proofs.Common.{◌≡◌, ℕ, ◌+◌, ◌≤◌, ◌<◌, List, length, min, refl, subst, ap, sym, ◌∙◌, arith, inl, inr, get_or, le_trans, mul-le-mul_left}
use Rattle.std.proofs.Math.Nat.{min-le_left, min-le_right, le-min}
use Rattle.std.proofs.lemmas.Bool.{cases_lt}
use Rattle.std.proofs.lemmas.List.{get_or_past}
use Rattle.std.proofs.Common.{eq-or-lt_of_le}
use Rattle.gw_object.specs.Limits.{greatest_weight}
use Rattle.gw_least_weights.specs.declared.rules.Term.{Term}
use Rattle.gw_least_weights.specs.declared.rules.Sum.{Sum}
use Rattle.gw_least_weights.specs.declared.rules.Rule.{Rule}
use Rattle.gw_least_weights.specs.Rules.{weight_at, of_term, of_sum, Keeps}
use Rattle.gw_least_weights.specs.Least.{EachAtMost, InRange}
use Rattle.gw_least_weights.specs.Rounds.{IsRaisedFor, IsRaised}

-- AT MOST

pub at_most_self : (w : List ℕ) → EachAtMost w w
at_most_self w = record { many = refl; each = λ i. omega arith }

pub at_most_both : (w v u : List ℕ) → EachAtMost w v → EachAtMost v u → EachAtMost w u
at_most_both w v u first second = record { many = first.many ∙ second.many; each = λ i. le_trans (first.each i) (second.each i) }

-- what a rule asks for grows with the weights
pub of_term_grows : (w u : List ℕ) (t : Term) → EachAtMost w u → of_term w t ≤ of_term u t
of_term_grows w u t h = mul-le-mul_left t.times (h.each t.place)

pub of_sum_grows : (w u : List ℕ) (s : Sum) → EachAtMost w u → of_sum w s ≤ of_sum u s
of_sum_grows w u s h = omega (arith, of_term_grows w u s.first h, of_term_grows w u s.second h)

pub at_most_min : (m n : ℕ) → m ≤ n → min m greatest_weight ≤ min n greatest_weight
at_most_min m n h = le-min (le_trans (min-le_left m greatest_weight) h) (min-le_right m greatest_weight)

-- RULES IN AN ORDER

pub raised_none : (rules : List Rule) (w : List ℕ) → IsRaised rules w w
raised_none rules w = record { grown = at_most_self w; below = λ u keeps h. h; range = λ h. h }

pub raised_both : (rules : List Rule) (w v x : List ℕ) → IsRaised rules w v → IsRaised rules v x → IsRaised rules w x
raised_both rules w v x first second = record {
  grown = at_most_both w v x first.grown second.grown;
  below = λ u keeps h. second.below u keeps (first.below u keeps h);
  range = λ h. second.range (first.range h);
}

pub raised_once : (rules : List Rule) (w x : List ℕ) (n : ℕ) (r : Rule) → n < length rules → ((d : Rule) → get_or rules n d ≡ r)
    → IsRaisedFor r w x → IsRaised rules w x
raised_once rules w x n r within is one = record {
  grown = one.grown;
  below = λ u keeps h. one.below u (subst (Keeps u) (is r) (keeps n r within)) h;
  range = one.range;
}

-- so many rules of a round are dealt with, which began with the weights w: what a sum of them asked at first
abbrev pub Asked : (Rule → Sum) → List Rule → List ℕ → List ℕ → ℕ → Type 0
Asked part rules w v n = (k : ℕ) (d : Rule) → k < n → min (of_sum w (part (get_or rules k d))) greatest_weight ≤ weight_at v (get_or rules k d).at

pub none_asked : (part : Rule → Sum) (rules : List Rule) (w : List ℕ) → Asked part rules w w 0
none_asked part rules w k d h = absurd (omega (arith, h))

pub asked_more : (part : Rule → Sum) (rules : List Rule) (w v x : List ℕ) (n : ℕ) (r : Rule) → Asked part rules w v n → EachAtMost w v
    → EachAtMost v x → ((d : Rule) → get_or rules n d ≡ r) → min (of_sum v (part r)) greatest_weight ≤ weight_at x r.at → Asked part rules w x (n + 1)
asked_more part rules w v x n r asked before grown is more k d h =
    elim (eq-or-lt_of_le {n = k} {m = n} (omega (arith, h))) [
      | inl e ↦ subst (λ (s : Rule). min (of_sum w (part s)) greatest_weight ≤ weight_at x s.at)
          (sym (ap (λ i. get_or rules i d) e ∙ is d)) (le_trans (at_most_min (of_sum w (part r)) (of_sum v (part r)) (of_sum_grows w v (part r) before)) more)
      | inr lt ↦ le_trans (asked k d lt) (grown.each _)
    ]

-- no weight is more than the greatest
pub at_most_greatest : (w : List ℕ) → InRange w → (i : ℕ) → weight_at w i ≤ greatest_weight
at_most_greatest w range i =
    elim (cases_lt i (length w)) [
      | inl lt ↦ (range i lt).1
      | inr le ↦ omega (arith, get_or_past w i 0 le)
    ]
