-- No state in which few are live weighs more than this.
use Rattle.std.proofs.Common.{◌≡◌, ℕ, zero, suc, ◌+◌, ◌-◌, ◌*◌, ◌^◌, ◌<◌, ◌≤◌, ℤ, List, [], ◌∷◌, length, Option, Some, None, IfSome, Bool, true}
use Rattle.std.proofs.Common.{false, if◌then◌else◌, cond, is_some, refl, ap, add-one, arith, inl, inr}
use Rattle.std.specs.Prelude.{All, sum, sum_by, slice_index_or}
use Rattle.std.specs.Option.{option_map_or}
use Rattle.std.proofs.lemmas.Bool.{cases_lt}
use Rattle.std.proofs.lemmas.List.{get_or_past}
use Rattle.std.proofs.lemmas.List.Sums.{sum_by-cons}
use Rattle.std.proofs.lemmas.Nat.{mul-le}
use Rattle.gw_object.specs.declared.blocks.Block.{Block}
use Rattle.gw_object.specs.declared.blocks.Block.TheVariants as blocks
use Rattle.gw_object.specs.declared.parts.Parts.{Parts}
use Rattle.gw_object.specs.Limits.{greatest_weight}
use Rattle.gw_object.specs.Grammar.{SlopeFits, HasSpelling}
use Rattle.gw_rules.specs.Exits.{takes_time}
use Rattle.gw_rules.specs.Kinds.{block_at, chain_place}
use Rattle.gw_rules.specs.Weights.{weight_at, slope_at}
use Rattle.gw_num.specs.Table.{at, tabulate}
use Rattle.gw_transactions.specs.Transactions.{LiveTransaction, live_count}
use Rattle.gw_step.specs.State.{State}
use Rattle.gw_step.specs.Turning.{two_next}
use Rattle.gw_step.specs.Numbers.{AreFewLive}
use Rattle.gw_step.specs.Moments.{AreNoHigher, StatesWeighLittle}
use Rattle.gw_step.specs.Weight.{height, slope_addition, weight_by, weight_in, weighs, owed_by, owes, weight, most_weight}
use Rattle.gw_step.proofs.Sums.{sum-le, sum-le_all, sum-tabulate_at}
use Rattle.gw_step.proofs.Operands.{block_spelled}
use Rattle.gw_step.proofs.Weighing.{weighs_at_most}

-- a weight of a certificate, or none
listed_weighs : (weights : List ℕ) (i : ℕ) → All (λ weight. (1 ≤ weight) × (weight ≤ greatest_weight)) weights → slice_index_or weights i 0 ≤ greatest_weight
listed_weighs weights i each = elim (cases_lt i (length weights)) [
  | inl within ↦ (each i 0 within).1
  | inr beyond ↦ omega (arith, get_or_past weights i 0 beyond)
]

module _ (p : Parts) (spelled : HasSpelling p) where
  block_weighs : (b : ℕ) → weight_at p.weights b ≤ greatest_weight
  block_weighs zero = omega arith
  block_weighs (suc i) = listed_weighs p.weights i spelled.limits.each_weight

  -- no parameter is above this
  abbrev AreBelow : ℕ → List (Option ℤ) → Type 0
  AreBelow highest parameters = (q : ℕ) → height q parameters ≤ highest

  slope_below : (slopes : List (Option (ℕ × ℕ))) (i : ℕ) → All (λ slope. IfSome slope SlopeFits) slopes
      → (highest : ℕ) (parameters : List (Option ℤ)) → AreBelow highest parameters
      → slope_addition (slice_index_or slopes i None) parameters ≤ greatest_weight * highest
  slope_below slopes i each highest parameters below = elim (cases_lt i (length slopes)) [
    | inl within ↦ by_slope (slice_index_or slopes i None) (each i None within)
    | inr beyond ↦ omega (arith, ap (λ s. slope_addition s parameters) (get_or_past slopes i None beyond))
  ]
    where
      by_slope : (s : Option (ℕ × ℕ)) → IfSome s SlopeFits → slope_addition s parameters ≤ greatest_weight * highest
      by_slope None h = omega arith
      by_slope (Some slope) h = mul-le slope.1 (height slope.0 parameters) greatest_weight highest h.most (below slope.0)

  slope_weighs : (b : ℕ) (highest : ℕ) (parameters : List (Option ℤ)) → AreBelow highest parameters
      → slope_addition (slope_at p.slopes b) parameters ≤ greatest_weight * highest
  slope_weighs zero highest parameters below = omega arith
  slope_weighs (suc i) highest parameters below = slope_below p.slopes i spelled.limits.each_slope highest parameters below

  place_weighs : (chain : Option ℕ) (next : ℕ) (two : Option (ℕ × ℕ)) (highest : ℕ) (parameters : List (Option ℤ))
      → AreBelow highest parameters → weight_by p chain next two parameters ≤ greatest_weight + greatest_weight * highest
  place_weighs (Some c) next two highest parameters below =
      omega (arith, listed_weighs p.chain_weights (chain_place p.entities c) spelled.limits.each_chain_weight)
  place_weighs None next None highest parameters below = omega (arith, block_weighs next, slope_weighs next highest parameters below)
  place_weighs None next (Some pair) highest parameters below =
      omega (arith, block_weighs pair.0, block_weighs pair.1, slope_weighs pair.0 highest parameters below, slope_weighs pair.1 highest parameters below)

  -- all that are live together
  live_weigh : (ts : List (Option LiveTransaction)) (highest : ℕ) → AreNoHigher highest ts → sum_by (weight_in p) ts ≤ live_count ts
      * (greatest_weight + greatest_weight * highest)
  live_weigh [] highest below = omega arith
  live_weigh (t ∷ ts) highest below =
      omega (
        arith,
        live_weigh ts highest (λ n. below (suc n)),
        sum_by-cons (weight_in p) t ts,
        ap (λ k. k * (greatest_weight + greatest_weight * highest))
            (sum_by-cons (λ (t : Option LiveTransaction). cond (is_some t) 1 0) t ts),
        one_weighs t (below 0),
      )
    where
      one_weighs : (t : Option LiveTransaction) → IfSome t (λ t. AreBelow highest t.parameters) → weight_in p t ≤ cond (is_some t) 1 0
          * (greatest_weight + greatest_weight * highest)
      one_weighs None h = omega arith
      one_weighs (Some t) h = omega (arith, place_weighs t.chain t.attributes.next (two_next p t.attributes) highest t.parameters h)

  -- fewer arrivals are owed than a limit may be
  owed_few : (b n : ℕ) → owed_by (block_at p.blocks b) n ≤ 2 ^ 32
  owed_few b n = by_block (block_at p.blocks b) refl
    where
      by_limit : (time : Bool) (limit : Option ℕ) → IfSome limit (λ most. most < 2 ^ 32)
          → (if time then 0 else option_map_or (λ most. most - n) limit 0) ≤ 2 ^ 32
      by_limit true limit h = omega arith
      by_limit false None h = omega arith
      by_limit false (Some most) h = omega (arith, h)

      by_block : (o : Option Block) → block_at p.blocks b ≡ o → owed_by o n ≤ 2 ^ 32
      by_block (Some (blocks.Generate g)) is =
          by_limit (takes_time g.interval.mean g.interval.half) g.limit (block_spelled p.blocks b (blocks.Generate g) is spelled.limits.each_block).limit
      by_block o is = omega arith

  -- what is owed together: there is no block 0
  owed_weigh : (s : State) → sum (tabulate (owes p s) (suc (length p.blocks))) ≤ length p.blocks * (2 ^ 32 * greatest_weight)
  owed_weigh s =
      let each : (i : ℕ) → owes p s (suc i) ≤ 2 ^ 32 * greatest_weight =
      λ i. mul-le (owed_by (block_at p.blocks (suc i)) (at 0 s.scheduled (suc i))) (weight_at p.weights (suc i)) (2 ^ 32)
      greatest_weight (owed_few (suc i) (at 0 s.scheduled (suc i))) (block_weighs (suc i)) in
      omega (
        arith,
        sum-le_all (λ i. owes p s (suc i)) (2 ^ 32 * greatest_weight) (length p.blocks) each,
        sum_by-cons (λ (x : ℕ). x) 0 (tabulate (λ i. owes p s (suc i)) (length p.blocks)),
      )

  pub weight_below : (s : State) (highest : ℕ) → AreFewLive s.transactions → AreNoHigher highest s.transactions → weight p s ≤ most_weight highest
  unfolding weight
  weight_below s highest few below =
      omega (
        arith,
        sum-le (weighs p s) (λ n. weight_in p (at None s.transactions n)) (length s.transactions) (weighs_at_most p s),
        sum-tabulate_at (weight_in p) s.transactions,
        live_weigh s.transactions highest below,
        mul-le (live_count s.transactions) (greatest_weight + greatest_weight * highest) 65536
            (greatest_weight + greatest_weight * highest) few.live (omega arith),
        ap (λ n. sum (tabulate (owes p s) n)) (add-one (length p.blocks)),
        owed_weigh s,
        spelled.limits.blocks,
      )

pub states_weigh_little : StatesWeighLittle
states_weigh_little p s highest spelled few below = weight_below p spelled s highest few below
