-- Rules in the order of their turns.
use Rattle.std.proofs.Common.{◌≡◌, ℕ, ◌≤◌, ◌<◌, List, arith, inl, inr, get_or}
use Rattle.std.specs.List.Sorted.{IsPermutation, IsNonDecreasingBy}
use Rattle.std.proofs.lemmas.Bool.{cases_lt}
use Rattle.std.proofs.lemmas.List.Sorted.{All-permutation, IsPermutation-sym}
use Rattle.gw_least_weights.specs.declared.rules.Rule.{Rule}
use Rattle.gw_least_weights.specs.Rules.{Keeps}
use Rattle.gw_least_weights.specs.Least.{IsCertificate, IsLeast, Gathers, ComesBehind, IsSystem}
use Rattle.gw_least_weights.specs.Rounds.{StandBehind, AreInOrder}

module _ (rules sorted : List Rule) (moved : IsPermutation rules sorted) where
  module _ (counted count : ℕ) (system : IsSystem rules counted count) (up : IsNonDecreasingBy (λ (r : Rule). r.turn) sorted) where
    stand_behind : StandBehind sorted counted
    stand_behind i j d first second far is =
        let gathering = get_or sorted j d in
        let behind : ComesBehind rules gathering =
        All-permutation (λ (r : Rule). counted ≤ r.at → ComesBehind rules r) rules sorted moved system.behind j d second far in
        let less = All-permutation (λ (r : Rule). r.at ≡ gathering.first.first.place → r.turn < gathering.turn) rules sorted moved behind i d first is in
        elim (cases_lt i j) [
          | inl lt ↦ lt
          | inr le ↦ absurd (omega (arith, less, up j i d le first))
        ]

    pub in_order : AreInOrder sorted counted count
    in_order = record {
      within = All-permutation (λ (r : Rule). r.at < count) rules sorted moved system.within;
      gathers = All-permutation (λ (r : Rule). counted ≤ r.at → Gathers counted r) rules sorted moved system.gathers;
      behind = stand_behind;
    }

  pub still_least : (count : ℕ) (w : List ℕ) → IsLeast sorted count w → IsLeast rules count w
  still_least count w least u c =
      let there : IsCertificate sorted count u = record { many = c.many; range = c.range; keeps = All-permutation (Keeps u) rules sorted moved c.keeps } in
      let both = least u there in (
        record {
          many = both.0.many;
          range = both.0.range;
          keeps =
              All-permutation (Keeps w) sorted rules (IsPermutation-sym rules sorted moved) both.0.keeps;
        },
        both.1,
      )
