-- Parts that are the same but for weights and slopes: what is tried in one of them is tried in the other.
use Rattle.std.proofs.Common.{◌≡◌, ℕ, ◌+◌, List, [], Option, Bool, true, false, refl, sym, ap, ◌∙◌, subst, arith, inl, inr}
use Rattle.std.proofs.lemmas.Bool.{false≢true}
use Rattle.std.proofs.Common.{eq-or-lt_of_le}
use Rattle.gw_object.specs.declared.parts.Parts.{Parts}
use Rattle.gw_rules.specs.Pass.{kinds_checks, KindsPass}
use Rattle.gw_weighing.specs.Certificates.{IsCounted, with_weights}
use Rattle.gw_slopes.specs.Aside.{without_slopes, own_of, with_own}
use Rattle.gw_slopes.specs.Sloped.{AreMarks, AreSlopes}
use Rattle.gw_slopes.specs.Found.{AreAlike, DifferInSlopes, HelpsNone, HelpNoneBefore, HasSlopes, IsTrial, is_tried}

module _ (p : Parts) (version : ℕ) (weights : List ℕ) (slopes : List (Option (ℕ × ℕ))) (chains : List ℕ) where
  -- with others
  abbrev other : Parts
  other = record p { version = version; weights = weights; slopes = slopes; chain_weights = chains }

  marks_for : (q : ℕ) (marks : List Bool) → AreMarks other q marks → AreMarks p q marks
  marks_for q marks m = record { many = m.many; sound = m.sound; whole = m.whole }

  slopes_for : (q : ℕ) (xs : List (Option (ℕ × ℕ))) → AreSlopes other q xs → AreSlopes p q xs
  slopes_for q xs s = record { marks = s.marks; are = marks_for q s.marks s.are; is = s.is }

  helps_none : (q : ℕ) → HelpsNone other q → HelpsNone p q
  helps_none q h = record {
    slopes = h.slopes;
    are = slopes_for q h.slopes h.are;
    none = λ us cs fits c. h.none us cs fits (record { blocks = c.blocks; chains = c.chains; range = c.range; chain_range = c.chain_range; passes = c.passes });
  }

  trial : (x : Parts) (q : ℕ) (pass : Bool) → IsTrial other x q pass → IsTrial p x q pass
  trial x q pass t = record {
    rest = t.rest;
    slopes = slopes_for q x.slopes t.slopes;
    least = t.least;
    passes = t.passes;
    none = λ h. helps_none q (t.none h);
  }

  counted : IsCounted p → IsCounted other
  counted c = record { blocks = c.blocks; entities = c.entities; returns = c.returns; chain_states = c.chain_states }

module _ (p o : Parts) (alike : AreAlike p o) where
  pub same_trial : (x : Parts) (q : ℕ) (pass : Bool) → IsTrial o x q pass → IsTrial p x q pass
  same_trial x q pass t = trial p o.version o.weights o.slopes o.chain_weights x q pass (subst (λ (y : Parts). IsTrial y x q pass) (sym alike) t)

  pub same_helps : (q : ℕ) → HelpsNone o q → HelpsNone p q
  same_helps q h = helps_none p o.version o.weights o.slopes o.chain_weights q (subst (λ (y : Parts). HelpsNone y q) (sym alike) h)

  pub same_tried : (q : ℕ) → is_tried p q ≡ is_tried o q
  same_tried q = ap (λ (y : Parts). is_tried y q) alike

  pub same_counted : IsCounted p → IsCounted o
  same_counted c = subst IsCounted alike (counted p o.version o.weights o.slopes o.chain_weights c)

  pub same_returns : p.returns ≡ o.returns
  same_returns = ap (λ (y : Parts). y.returns) alike

-- parts that differ in slopes from others are alike
pub differ_alike : (p q : Parts) → DifferInSlopes p q → AreAlike p q
differ_alike p q h = subst (λ (y : Parts). AreAlike p y) h refl

-- what is alike twice
pub alike_both : (p o x : Parts) → AreAlike p o → AreAlike o x → AreAlike p x
alike_both p o x first second =
    subst (λ (y : Parts). AreAlike p y) second
    (subst (λ (y : Parts). AreAlike p (record y { version = x.version; weights = x.weights; slopes = x.slopes; chain_weights = x.chain_weights })) first refl)

-- one parameter more
pub none_more : (p : Parts) (q : ℕ) → HelpNoneBefore p q → (is_tried p q ≡ true → HelpsNone p q) → HelpNoneBefore p (q + 1)
none_more p q before here r some lt tried =
    elim (eq-or-lt_of_le {n = r} {m = q} (omega (arith, lt))) [
      | inl e ↦ subst (HelpsNone p) (sym e) (here (subst (λ k. is_tried p k ≡ true) e tried))
      | inr less ↦ before r some less tried
    ]

pub untried : (p : Parts) (q : ℕ) → is_tried p q ≡ false → is_tried p q ≡ true → HelpsNone p q
untried p q none tried = absurd (false≢true (sym none ∙ tried))

-- kinds stay with other weights
module _ (p : Parts) (weights chains : List ℕ) where
  pub kinds_same : KindsPass p → KindsPass (with_weights p weights chains)
  unfolding kinds_checks
  kinds_same h = h

-- PARTS WITHOUT WEIGHTS AND SLOPES

module _ (p : Parts) where
  pub none_of_emptied : (n : ℕ) → HelpNoneBefore (without_slopes p) n → HelpNoneBefore p n
  none_of_emptied n h r some lt tried = helps_none p p.version [] [] [] r (h r some lt tried)

  -- what is found from them on
  pub has_of_emptied : (x : Parts) → HasSlopes (without_slopes p) x → HasSlopes p x
  has_of_emptied x h = record {
    parameter = h.parameter;
    tried = h.tried;
    before = none_of_emptied h.parameter h.before;
    rest = h.rest;
    slopes = slopes_for p p.version [] [] [] h.parameter x.slopes h.slopes;
    passes = h.passes;
    least = h.least;
  }

  pub counted_emptied : IsCounted p → IsCounted (without_slopes p)
  counted_emptied c = record { blocks = c.blocks; entities = c.entities; returns = c.returns; chain_states = c.chain_states }

  -- once what they had is put back
  pub back : (x : Parts) → AreAlike (without_slopes p) x → with_own x (own_of p) ≡ p
  back x alike = subst (λ (y : Parts). with_own y (own_of p) ≡ p) alike refl
