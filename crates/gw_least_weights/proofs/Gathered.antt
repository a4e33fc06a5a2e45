-- What gathered weights keep in a round.
use Rattle.std.proofs.Common.{◌≡◌, ◌⊎◌, ℕ, ◌+◌, ◌≤◌, ◌<◌, List, length, Bool, false, ◌||◌, refl, subst, ap, sym, ◌∙◌, arith, inl, inr, get_or}
use Rattle.std.proofs.Math.Nat.{min-eq_left, max-eq_left}
use Rattle.std.proofs.lemmas.Bool.{or_parts}
use Rattle.std.proofs.Common.{eq-or-lt_of_le}
use Rattle.gw_object.specs.Limits.{greatest_weight}
use Rattle.gw_least_weights.specs.declared.rules.Rule.{Rule}
use Rattle.gw_least_weights.specs.Rules.{weight_at, of_sum, need_of, Keeps, once, nothing}
use Rattle.gw_least_weights.specs.Least.{InRange, Gathers}
use Rattle.gw_least_weights.specs.Rounds.{IsRaisedFor, IsRaised, IsGathered, AreGathered, IsRound, AreInOrder}
use Rattle.gw_least_weights.proofs.Raised.{at_most_greatest, raised_none, raised_both, raised_once, Asked, none_asked, asked_more}

-- the place that a rule gathers
abbrev pub gathered_place : Rule → ℕ
gathered_place r = r.first.first.place

pub once_is : (w : List ℕ) (place : ℕ) → of_sum w (once place) ≡ weight_at w place
once_is w place = omega arith

pub nothing_is : (w : List ℕ) → of_sum w nothing ≡ 0
nothing_is w = omega arith

module _ (counted : ℕ) (r : Rule) (g : Gathers counted r) where
  pub gathers_first : (w : List ℕ) → of_sum w r.first ≡ weight_at w (gathered_place r)
  gathers_first w = ap (of_sum w) g.first ∙ once_is w (gathered_place r)

  pub gathers_second : (w : List ℕ) → of_sum w r.second ≡ 0
  gathers_second w = ap (of_sum w) g.second ∙ nothing_is w

  -- a gathered weight at least that of its place keeps the rule
  pub keeps_gathered : (w : List ℕ) → weight_at w (gathered_place r) ≤ weight_at w r.at → Keeps w r
  keeps_gathered w h = (omega (arith, gathers_first w, h), omega (arith, gathers_second w))

  pub is_kept : (w : List ℕ) → Keeps w r → weight_at w (gathered_place r) ≤ weight_at w r.at
  is_kept w h = omega (arith, gathers_first w, h.0)

  -- it asks for what it gathers
  pub needed_gathered : (w : List ℕ) → need_of w r ≡ weight_at w (gathered_place r)
  needed_gathered w =
      let second : of_sum w r.second ≤ of_sum w r.first = omega (arith, gathers_second w) in
      max-eq_left second ∙ gathers_first w

module _ (rules : List Rule) (counted : ℕ) where
  -- the first rules of a round that gather are kept
  abbrev pub Kept : List ℕ → ℕ → Type 0
  Kept v n = (k : ℕ) (d : Rule) → k < n → k < length rules → counted ≤ (get_or rules k d).at → Keeps v (get_or rules k d)

  -- so many rules of a round are dealt with, which began with the weights w
  pub record IsOn (w v : List ℕ) (raised : Bool) (n : ℕ) : Type 0 where
    pub done : IsRaised rules w v
    pub first : Asked (λ r. r.first) rules w v n
    pub second : Asked (λ r. r.second) rules w v n
    pub kept : InRange w → Kept v n
    pub gathered : AreGathered rules counted w → AreGathered rules counted v
    pub still : raised ≡ false → v ≡ w

module _ (rules : List Rule) (counted count : ℕ) (order : AreInOrder rules counted count) where
  gathers_at : (k : ℕ) (d : Rule) → k < length rules → counted ≤ (get_or rules k d).at → Gathers counted (get_or rules k d)
  gathers_at k d within h = order.gathers k d within h

  module _ (v x : List ℕ) (n : ℕ) (r : Rule) (within : n < length rules) (is : (d : Rule) → get_or rules n d ≡ r) (one : IsRaisedFor r v x) where
    place_is : (d : Rule) → (get_or rules n d).at ≡ r.at
    place_is d = ap (λ (s : Rule). s.at) (is d)

    -- an earlier rule that gathers is kept still: its place has had its turn
    still_kept : (k : ℕ) (d : Rule) → k < n → k < length rules → counted ≤ (get_or rules k d).at → Keeps v (get_or rules k d) → Keeps x (get_or rules k d)
    still_kept k d lt inside far kept =
        let g = gathers_at k d inside far in
        let before = is_kept counted (get_or rules k d) g v kept in
        let same : weight_at x (gathered_place (get_or rules k d)) ≡ weight_at v (gathered_place (get_or rules k d)) =
        elim (one.moved (gathered_place (get_or rules k d))) [
          | inl h ↦ h
          | inr h ↦ absurd (omega (arith, lt, order.behind n k d within inside far (place_is d ∙ sym h.0)))
        ] in
        keeps_gathered counted (get_or rules k d) g x (omega (arith, before, same, one.grown.each (get_or rules k d).at))

    -- and this one is kept, if it gathers
    now_kept : InRange v → (g : Gathers counted r) → Keeps x r
    now_kept range g =
        let most : of_sum v r.first ≤ greatest_weight = omega (arith, gathers_first counted r g v, at_most_greatest v range (gathered_place r)) in
        let first = one.first in
        let asked : of_sum v r.first ≤ weight_at x r.at = rw min-eq_left at first in
        let same : weight_at x (gathered_place r) ≤ weight_at x r.at =
        elim (one.moved (gathered_place r)) [
          | inl h ↦ omega (arith, h, asked, gathers_first counted r g v)
          | inr h ↦ omega (arith, ap (weight_at x) h.0)
        ] in
        keeps_gathered counted r g x same

    kept_more : InRange v → Kept rules counted v n → Kept rules counted x (n + 1)
    kept_more range kept k d lt inside far =
        elim (eq-or-lt_of_le {n = k} {m = n} (omega (arith, lt))) [
          | inl e ↦
              let same : get_or rules k d ≡ r = ap (λ i. get_or rules i d) e ∙ is d in
              subst (Keeps x) (sym same) (now_kept range (subst (Gathers counted) same (gathers_at k d inside far)))
          | inr less ↦ still_kept k d less inside far (kept k d less inside far)
        ]

    -- a gathered weight is still no more than one that it gathers
    gathered_still : (place : ℕ) → weight_at x place ≡ weight_at v place → (weight_at v place ≤ 1) ⊎ IsGathered rules v place
        → (weight_at x place ≤ 1) ⊎ IsGathered rules x place
    gathered_still place same h = elim h [
      | inl few ↦ inl (omega (arith, same, few))
      | inr g ↦ inr (record { rule = g.rule; there = g.there; at = g.at; most = omega (arith, same, g.most, one.grown.each g.rule.first.first.place) })
    ]

    -- and one that this rule raises is no more than what it gathers
    gathered_now : (place : ℕ) → place ≡ r.at → weight_at x place ≤ need_of v r → counted ≤ place → IsGathered rules x place
    gathered_now place here most far =
        let g : Gathers counted r = subst (Gathers counted) (is r) (order.gathers n r within (subst (λ i. counted ≤ i) (here ∙ sym (place_is r)) far)) in
        let asks : need_of v r ≡ weight_at v (gathered_place r) = needed_gathered counted r g v in
        record {
          rule = r;
          there = (n, within, is r);
          at = sym here;
          most = omega (arith, most, asks, one.grown.each (gathered_place r));
        }

    gathered_more : AreGathered rules counted v → AreGathered rules counted x
    gathered_more gathered place far =
        elim (one.moved place) [
          | inl same ↦ gathered_still place same (gathered place far)
          | inr h ↦ inr (gathered_now place h.0 h.1 far)
        ]

  pub begins : (w : List ℕ) → IsOn rules counted w w false 0
  begins w = record {
    done = raised_none rules w;
    first = none_asked (λ r. r.first) rules w;
    second = none_asked (λ r. r.second) rules w;
    kept = λ range k d h. absurd (omega (arith, h));
    gathered = λ h. h;
    still = λ h. refl;
  }

  pub goes_on : (w v x : List ℕ) (before raised : Bool) (n : ℕ) (r : Rule) → IsOn rules counted w v before n → n < length rules
      → ((d : Rule) → get_or rules n d ≡ r) → IsRaisedFor r v x → (raised ≡ false → x ≡ v) → IsOn rules counted w x (before || raised) (n + 1)
  goes_on w v x before raised n r on within is one still = record {
    done = raised_both rules w v x on.done (raised_once rules v x n r within is one);
    first = asked_more (λ r. r.first) rules w v x n r on.first on.done.grown one.grown is one.first;
    second = asked_more (λ r. r.second) rules w v x n r on.second on.done.grown one.grown is one.second;
    kept = λ range. kept_more v x n r within is one (on.done.range range) (on.kept range);
    gathered = λ h. gathered_more v x n r within is one (on.gathered h);
    still = λ h. let two = or_parts before raised h in still two.1 ∙ on.still two.0;
  }

  pub round_made : (w v : List ℕ) (raised : Bool) (n : ℕ) → IsOn rules counted w v raised n → length rules ≤ n → IsRound rules counted w v
  round_made w v raised n on all = record {
    raised = on.done;
    first = λ k d h. on.first k d (omega (arith, h, all));
    second = λ k d h. on.second k d (omega (arith, h, all));
    kept = λ range k d h. on.kept range k d (omega (arith, h, all)) h;
    gathered = on.gathered;
  }
