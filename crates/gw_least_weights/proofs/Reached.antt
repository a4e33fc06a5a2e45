-- How near rounds have come to a certificate.
use Rattle.std.proofs.Common.{◌≡◌, ℕ, zero, suc, ◌+◌, ◌-◌, ◌≤◌, ◌<◌, ◌⊎◌, List, length, min, ap, subst, sym, ◌∙◌, arith, cond, nat_lt, inl, inr}
use Rattle.std.proofs.Common.{get_or, le_trans, replicate}
use Rattle.std.proofs.lemmas.List.{get_or_past, get_or-replicate}
use Rattle.std.proofs.Math.Nat.{min-eq_left}
use Rattle.std.proofs.lemmas.Bool.{cases_lt}
use Rattle.gw_object.specs.Limits.{greatest_weight}
use Rattle.gw_least_weights.specs.declared.rules.Term.{Term}
use Rattle.gw_least_weights.specs.declared.rules.Sum.{Sum}
use Rattle.gw_least_weights.specs.declared.rules.Rule.{Rule}
use Rattle.gw_least_weights.specs.Rules.{weight_at, of_term, of_sum, Keeps}
use Rattle.gw_least_weights.specs.Least.{EachAtMost, InRange, IsCertificate, IsLeast, Gathers}
use Rattle.gw_least_weights.specs.Circles.{KeepNone}
use Rattle.gw_least_weights.specs.Rounds.{IsRaised, IsRound, IsGathered, AreGathered, KeepsGathering, AreInOrder, AreUnder}
use Rattle.gw_least_weights.proofs.Below.{below, lowered, total, lowered_length, lowered_at, lowered_total, below_most, below_fewer, same_below, none_below}
use Rattle.gw_least_weights.proofs.Raised.{at_most_self, at_most_both, of_term_grows, of_sum_grows, at_most_greatest}
use Rattle.gw_least_weights.proofs.Gathered.{gathered_place, is_kept, keeps_gathered}
use Rattle.gw_least_weights.proofs.Lowered.{no_more, no_less, term_lowers, kept_beside, kept_lower}

module _ (rules : List Rule) (counted count : ℕ) where
  -- there is a certificate, at most another one, that all but so many of the counted weights have come to
  pub record Reached (n : ℕ) (w u : List ℕ) : Type 0 where
    pub near : List ℕ
    pub certificate : IsCertificate rules count near
    pub above : EachAtMost w near
    pub most : EachAtMost near u
    pub left : below counted w near ≤ n

  -- the state before each round: so many are left
  pub record IsNear (n : ℕ) (w : List ℕ) : Type 0 where
    pub many : length w ≡ count
    pub range : InRange w
    pub kept : KeepsGathering rules counted w
    pub gathered : AreGathered rules counted w
    pub reached : (u : List ℕ) → IsCertificate rules count u → Reached n w u

  -- at first
  pub rounds_begin : (w : List ℕ) → length w ≡ count → w ≡ replicate count 1 → (order : AreInOrder rules counted count) → IsNear counted w
  rounds_begin w many ones order =
      let one : (i : ℕ) → i < count → weight_at w i ≡ 1 = λ i h. ap (λ (x : List ℕ). weight_at x i) ones ∙ get_or-replicate count i 1 0 h in
      let past : (i : ℕ) → count ≤ i → weight_at w i ≡ 0 = λ i h. get_or_past w i 0 (subst (λ n. n ≤ i) (sym many) h) in
      let most : (i : ℕ) → weight_at w i ≤ 1 = λ i. elim (cases_lt i count) [ inl lt ↦ omega (arith, one i lt) | inr le ↦ omega (arith, past i le) ] in
      record {
        many = many;
        range = λ i h. let is = one i (subst (λ n. i < n) many h) in (omega (arith, is), omega (arith, is));
        kept = λ k d h far.
            let r = get_or rules k d in
            keeps_gathered counted r (order.gathers k d h far) w (omega (arith, most (gathered_place r), one r.at (order.within k d h)));
        gathered = λ i far. inl (most i);
        reached = λ u c. record {
          near = u;
          certificate = c;
          above = record {
            many = many ∙ sym c.many;
            each = λ i. elim (cases_lt i count) [
              | inl lt ↦ omega (arith, one i lt, (c.range i (subst (λ n. i < n) (sym c.many) lt)).0)
              | inr le ↦ omega (arith, past i le)
            ];
          };
          most = at_most_self u;
          left = below_most counted w u;
        };
      }

  module _ (order : AreInOrder rules counted count) where
    -- ONE ROUND, from w to v

    module _ (w v : List ℕ) (round : IsRound rules counted w v) (start : InRange w) (range : InRange v)
        (kept : KeepsGathering rules counted w) (gathered : AreGathered rules counted v) where
      grown : EachAtMost w v
      grown = round.raised.grown

      module _ (u : List ℕ) (c : IsCertificate rules count u) (up : EachAtMost v u) (stay : below counted w u ≤ below counted v u) where
        abbrev less : List ℕ
        less = lowered v u

        less_at : (i : ℕ) → weight_at less i ≡ cond (nat_lt (weight_at v i) (weight_at u i)) (weight_at u i - 1) (weight_at u i)
        less_at i = lowered_at v u i up.many

        pub above_less : EachAtMost v less
        above_less = record {
          many = up.many ∙ sym (lowered_length v u up.many);
          each =
              λ i. no_less (weight_at v i) (weight_at u i) (weight_at less i) (less_at i) (up.each i);
        }

        pub less_most : EachAtMost less u
        less_most = record { many = lowered_length v u up.many; each = λ i. no_more (weight_at v i) (weight_at u i) (weight_at less i) (less_at i) }

        from_start : EachAtMost w u
        from_start = at_most_both w v u grown up

        -- no counted weight came to the certificate's
        counted_stays : (i : ℕ) → i < counted → weight_at w i < weight_at u i → weight_at v i < weight_at u i
        counted_stays = same_below counted w v u grown.many grown.each stay

        -- so no gathered one did: it would have come to that of a place that had come to it before
        came_before : (i : ℕ) → counted ≤ i → weight_at w i < weight_at u i → weight_at u i ≤ weight_at v i → IsGathered rules v i → ⊥
        came_before i far lt le g =
            let k = g.there.0 in
            let far_rule : counted ≤ g.rule.at = subst (λ n. counted ≤ n) (sym g.at) far in
            let here : get_or rules k g.rule ≡ g.rule = g.there.2 in
            let gathers : Gathers counted g.rule =
            subst (Gathers counted) here (order.gathers k g.rule g.there.1 (subst (λ (r : Rule). counted ≤ r.at) (sym here) far_rule)) in
            let kept_now : Keeps w g.rule = subst (Keeps w) here (kept k g.rule g.there.1 (subst (λ (r : Rule). counted ≤ r.at) (sym here) far_rule)) in
            let place = gathered_place g.rule in
            let before : weight_at w place ≤ weight_at w i = subst (λ n. weight_at w place ≤ weight_at w n) g.at (is_kept counted g.rule gathers w kept_now) in
            let above : weight_at u place ≤ weight_at u i =
            subst (λ n. weight_at u place ≤ weight_at u n) g.at (is_kept counted g.rule gathers u (subst (Keeps u) here (c.keeps k g.rule g.there.1))) in
            elim (cases_lt (weight_at w place) (weight_at u place)) [
              | inl risen ↦ omega (arith, counted_stays place gathers.inside risen, g.most, le, above)
              | inr there ↦ omega (arith, there, before, lt, up.each place, g.most, le)
            ]

        at_least_one : (i : ℕ) → weight_at w i < weight_at u i → 1 ≤ weight_at w i
        at_least_one i lt =
            elim (cases_lt i (length w)) [
              | inl within ↦ (start i within).0
              | inr past ↦ absurd (omega (arith, lt, get_or_past u i 0 (subst (λ n. n ≤ i) from_start.many past)))
            ]

        stays : (i : ℕ) → weight_at w i < weight_at u i → weight_at v i < weight_at u i
        stays i lt =
            elim (cases_lt i counted) [
              | inl near ↦ counted_stays i near lt
              | inr far ↦ elim (cases_lt (weight_at v i) (weight_at u i)) [
                | inl h ↦ h
                | inr le ↦ elim (gathered i far) [
                  | inl few ↦ absurd (omega (arith, few, le, lt, at_least_one i lt))
                  | inr g ↦ absurd (came_before i far lt le g)
                ]
              ]
            ]

        lowers : (t : Term) → (suc (of_term less t) ≤ of_term u t) ⊎ (of_term w t ≡ of_term u t)
        lowers t = term_lowers t.times (weight_at w t.place) (weight_at v t.place) (weight_at u t.place) (weight_at less t.place)
            (less_at t.place) (from_start.each t.place) (up.each t.place) (stays t.place)

        keeps_sum : (s : Sum) (at : ℕ) → of_sum u s ≤ weight_at u at → min (of_sum w s) greatest_weight ≤ weight_at v at → of_sum less s ≤ weight_at less at
        keeps_sum s at keeps asked =
            let first = of_term_grows less u s.first less_most in
            let second = of_term_grows less u s.second less_most in
            elim (cases_lt (weight_at v at) (weight_at u at)) [
              | inl lt ↦ kept_lower s.own (of_term less s.first) (of_term less s.second) (of_term u s.first) (of_term u s.second)
                  (of_term w s.first) (of_term w s.second) s.less (weight_at v at) (weight_at u at) (weight_at less at) (less_at at) keeps
                  first second lt (lowers s.first) (lowers s.second) asked (at_most_greatest u c.range at)
              | inr le ↦ kept_beside s.own (of_term less s.first) (of_term less s.second) (of_term u s.first) (of_term u s.second)
                  (of_term w s.first) (of_term w s.second) s.less (weight_at v at) (weight_at u at) (weight_at less at) (less_at at) keeps first second le
            ]

        pub lower_certificate : IsCertificate rules count less
        lower_certificate = record {
          many = lowered_length v u up.many ∙ c.many;
          range = λ i h. (
            le_trans (range i (subst (λ n. i < n) (sym above_less.many) h)).0 (above_less.each i),
            le_trans (less_most.each i) (c.range i (subst (λ n. i < n) less_most.many h)).1,
          );
          keeps = λ k d h.
              let r = get_or rules k d in
              let kept_by = c.keeps k d h in
              (keeps_sum r.first r.at kept_by.0 (round.first k d h), keeps_sum r.second r.at kept_by.1 (round.second k d h));
        }

      -- a round comes to the certificate, or to a lower one, at one more counted place at least
      pub nearer : (fuel : ℕ) (u : List ℕ) → total u < fuel → IsCertificate rules count u → EachAtMost v u → Reached (below counted w u - 1) v u
      nearer zero u few c up = absurd (omega (arith, few))
      nearer (suc fuel) u few c up =
          elim (cases_lt (below counted w u - 1) (below counted v u)) [
            | inr le ↦ record { near = u; certificate = c; above = up; most = at_most_self u; left = le }
            | inl lt ↦
                let stay : below counted w u ≤ below counted v u = omega (arith, lt) in
                let down : total (lowered v u) < fuel = omega (arith, lowered_total counted v u up.many, lt, few) in
                let most = less_most u c up stay in
                let r = nearer fuel (lowered v u) down (lower_certificate u c up stay) (above_less u c up stay) in
                let fewer = below_fewer counted w (lowered v u) u most.many most.each in
                record {
                  near = r.near;
                  certificate = r.certificate;
                  above = r.above;
                  most =
                      at_most_both r.near (lowered v u) u r.most most;
                  left = omega (arith, r.left, fewer);
                }
          ]

      pub comes_nearer : (n : ℕ) (u : List ℕ) → Reached (n + 1) w u → Reached n v u
      comes_nearer n u r =
          let s = nearer (suc (total r.near)) r.near (omega arith) r.certificate (round.raised.below r.near r.certificate.keeps r.above) in
          record {
            near = s.near;
            certificate = s.certificate;
            above = s.above;
            most = at_most_both s.near r.near u s.most r.most;
            left =
                omega (arith, s.left, r.left);
          }

    -- ROUNDS

    pub rounds_go_on : (n : ℕ) (w v : List ℕ) → IsNear (n + 1) w → IsRound rules counted w v → IsNear n v
    rounds_go_on n w v near round =
        let range = round.raised.range near.range in
        let gathered = round.gathered near.gathered in
        record {
          many = sym round.raised.grown.many ∙ near.many;
          range = range;
          kept = round.kept near.range;
          gathered = gathered;
          reached = λ u c. comes_nearer w v round near.range range near.kept gathered n u (near.reached u c);
        }

    -- none is left
    pub all_reached : (w : List ℕ) → IsNear 0 w → IsLeast rules count w
    all_reached w near u c =
        let r = near.reached u c in
        let same = none_below counted w r.near r.above.many r.above.each (omega (arith, r.left)) in
        let sum_kept : (s : Sum) (at : ℕ) → at < counted → of_sum r.near s ≤ weight_at r.near at → of_sum w s ≤ weight_at w at =
        λ s at lt keeps. omega (arith, of_sum_grows w r.near s r.above, keeps, same at lt) in (
          record {
            many = near.many;
            range = near.range;
            keeps = λ k d h.
                let rule = get_or rules k d in
                elim (cases_lt rule.at counted) [
                  | inl lt ↦ (sum_kept rule.first rule.at lt (r.certificate.keeps k d h).0, sum_kept rule.second rule.at lt (r.certificate.keeps k d h).1)
                  | inr le ↦ near.kept k d h le
                ];
          },
          at_most_both w r.near u r.above r.most,
        )

  -- WHERE NOTHING IS RAISED

  -- weights that are at most those of each certificate, and in which a round raises nothing
  pub still_least : (w v : List ℕ) → length w ≡ count → InRange w → ((u : List ℕ) → IsCertificate rules count u → EachAtMost w u)
      → IsRound rules counted w v → v ≡ w → IsLeast rules count v
  still_least w v many start under round still u c =
      let up = round.raised.below u c.keeps (under u c) in
      let same : w ≡ v = sym still in
      let kept : (s : Sum) (at : ℕ) → of_sum u s ≤ weight_at u at → min (of_sum w s) greatest_weight ≤ weight_at v at → of_sum v s
      ≤ weight_at v at = λ s at keeps asked.
      let within_greatest : of_sum v s ≤ greatest_weight = omega (arith, of_sum_grows v u s up, keeps, at_most_greatest u c.range at) in
      let asks : min (of_sum v s) greatest_weight ≤ weight_at v at = subst (λ (x : List ℕ). min (of_sum x s) greatest_weight ≤ weight_at v at) same asked in
      (rw min-eq_left at asks)
      in (
        record {
          many = sym round.raised.grown.many ∙ many;
          range = round.raised.range start;
          keeps = λ k d h.
              let r = get_or rules k d in
              (kept r.first r.at (c.keeps k d h).0 (round.first k d h), kept r.second r.at (c.keeps k d h).1 (round.second k d h));
        },
        up,
      )

  -- what rounds have come to is at most each certificate
  pub near_under : (n : ℕ) (w : List ℕ) → IsNear n w → (u : List ℕ) → IsCertificate rules count u → EachAtMost w u
  near_under n w near u c = let r = near.reached u c in at_most_both w r.near u r.above r.most

  -- the same number of rounds in other words
  pub near_is : (m n : ℕ) (w : List ℕ) → m ≤ n → IsNear m w → IsNear n w
  near_is m n w few near = record {
    many = near.many;
    range = near.range;
    kept = near.kept;
    gathered = near.gathered;
    reached = λ u c. let r = near.reached u c in
        record { near = r.near; certificate = r.certificate; above = r.above; most = r.most; left = omega (arith, r.left, few) };
  }

  -- WHERE WEIGHTS ARE RAISED IN ANY ORDER

  -- raised to no more than rules ask they stay under each certificate
  pub raised_under : (w v : List ℕ) → AreUnder rules count w → IsRaised rules w v → AreUnder rules count v
  raised_under w v under raised = record { range = raised.range under.range; below = λ u c. raised.below u c.keeps (under.below u c) }

  -- so they are at first
  pub ones_under : (w : List ℕ) → length w ≡ count → w ≡ replicate count 1 → AreInOrder rules counted count → AreUnder rules count w
  ones_under w many ones order = let near = rounds_begin w many ones order in record { range = near.range; below = near_under counted w near }

  -- where no weights keep the rules that are at least these, these are the least
  pub none_least : (w : List ℕ) → AreUnder rules count w → KeepNone rules w → IsLeast rules count w
  none_least w under none u c = absurd (none u (under.below u c) c.keeps)
