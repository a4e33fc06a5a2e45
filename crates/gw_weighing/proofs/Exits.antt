-- What a block asks for its exits, as sums.
use Rattle.std.proofs.Common.{◌≡◌, ℕ, ◌+◌, ◌*◌, ◌≤◌, List, [], ◌∷◌, length, min, Option, Some, None, Bool, true, false, IsTrue, All, refl, ap, arith}
use Rattle.std.proofs.Common.{inl, inr, if◌then◌else◌}
use Rattle.std.specs.Prelude.{slice_get}
use Rattle.std.proofs.Math.Nat.{min-eq_left, min-eq_right, min-le_left}
use Rattle.std.proofs.lemmas.Bool.{cases_lt}
use Rattle.std.proofs.lemmas.List.Elements.{All-nil, All-cons, All-head, All-tail}
use Rattle.gw_object.specs.declared.blocks.Block.{Block}
use Rattle.gw_object.specs.declared.blocks.Block.TheVariants as blocks
use Rattle.gw_object.specs.Limits.{greatest_weight}
use Rattle.gw_object.specs.declared.parts.Parts.{Parts}
use Rattle.gw_rules.specs.Exits.{exits, falls_or_goes, leads_to}
use Rattle.gw_rules.specs.Weights.{weight_at as weight_of_block, above, goes_at_once, slope_at, treats}
use Rattle.gw_rules.specs.WeightsLaws.{PaysSlope, PaysTo, PaysWay, PaysExit}
use Rattle.gw_rules.specs.declared.slopes.Treatment.{Treatment}
use Rattle.gw_rules.specs.declared.slopes.Treatment.TheVariants.{Keeps, SetsTo, Lowers, RunsOut, Changes}
use Rattle.gw_rules.specs.declared.ways.Exit.{Exit}
use Rattle.gw_rules.specs.declared.ways.Way.{Way}
use Rattle.gw_rules.specs.declared.ways.Who.{Who}
use Rattle.gw_rules.specs.declared.ways.Who.TheVariants.{Itself, Copies}
use Rattle.gw_least_weights.specs.Rules.{weight_at, of_sum, nothing}
use Rattle.gw_weighing.specs.Layout.{layout_of, of_block}
use Rattle.gw_weighing.specs.Sums.{with_entry, with_slope, for_next, for_who, for_exit, for_exit_there}
use Rattle.gw_weighing.specs.Certificates.{with_weights}
use Rattle.gw_weighing.proofs.Reading.{Reads}

-- no block has more than two exits
few_falls : (target : Option ℕ) → length (falls_or_goes target) ≤ 2
few_falls None = omega arith
few_falls (Some target) = omega arith

pub few_exits : (block : Block) → length (exits block) ≤ 2
few_exits (blocks.Test t) = few_falls t.otherwise
few_exits (blocks.Gate g) = few_falls g.otherwise
few_exits block = omega arith

pub with_entry_is : (weights : List ℕ) (place : ℕ) → of_sum weights (with_entry place) ≡ 1 + weight_at weights place
with_entry_is weights place = omega arith

pub nothing_is : (weights : List ℕ) → of_sum weights nothing ≡ 0
nothing_is weights = omega arith

-- what is asked of a weight for a surcharge up to the greatest weight is what is asked for all of it
all_paid : (there added weight : ℕ) → 1 + min added greatest_weight + there ≤ weight → weight ≤ greatest_weight → 1 + there + added ≤ weight
all_paid there added weight paid most =
    elim (cases_lt added greatest_weight) [
      | inl lt ↦ (let same : min added greatest_weight ≡ added = min-eq_left (omega (arith, lt)) in omega (arith, paid, same))
      | inr le ↦ (let same : min added greatest_weight ≡ greatest_weight = min-eq_right le in absurd (omega (arith, paid, same, most)))
    ]

module _ (p : Parts) (weights bs cs : List ℕ) (reads : Reads p weights bs cs) where
  abbrev q : Parts
  q = with_weights p bs cs

  -- WHAT PASSES PAYS FOR WHAT IS ASKED

  slope_asked : (b there place : ℕ) (slope : ℕ × ℕ) (treatment : Treatment) → weight_at weights place ≡ there
      → PaysSlope q b there slope treatment → of_sum weights (with_slope place slope treatment) ≤ weight_of_block bs b
  slope_asked b there place slope Keeps is h = omega (arith, is, h.0)
  slope_asked b there place slope (SetsTo value) is h = omega (arith, is, h, min-le_left (slope.1 * above value) greatest_weight)
  slope_asked b there place slope Lowers is h = omega (arith, is, h.0)
  slope_asked b there place slope RunsOut is h = omega (arith, is, h)
  slope_asked b there place slope Changes is h = absurd h

  next_asked : (b there place : ℕ) (block : Block) (way : Way) (slope : Option (ℕ × ℕ)) → weight_at weights place ≡ there
      → PaysTo q b block way there slope → of_sum weights (for_next place block way slope) ≤ weight_of_block bs b
  next_asked b there place block way None is h = omega (arith, is, h)
  next_asked b there place block way (Some slope) is h = slope_asked b there place slope (treats block way slope.0) is h

  who_asked : (b : ℕ) (block : Block) (way : Way) (who : Who) → PaysWay q b block way who
      → of_sum weights (for_who (layout_of p) p b block way who) ≤ weight_of_block bs b
  who_asked b block way Itself h =
      next_asked b (weight_of_block bs (leads_to b way)) (of_block (layout_of p) (leads_to b way)) block way
      (slope_at p.slopes (leads_to b way)) (reads.at_block (leads_to b way)) h
  who_asked b block way (Copies copies) h = omega (arith, reads.at_block (b + 1), ap (λ n. copies * n) (reads.at_block (leads_to b way)), h.base)

  asked_if : (at_once : Bool) (b : ℕ) (block : Block) (exit : Exit) → (IsTrue at_once → PaysWay q b block exit.way exit.who)
      → of_sum weights (if at_once then for_who (layout_of p) p b block exit.way exit.who else nothing) ≤ weight_of_block bs b
  asked_if true b block exit h = who_asked b block exit.way exit.who (h refl)
  asked_if false b block exit h = omega arith

  -- a block that pays for an exit weighs what is asked for it
  exit_asked : (b : ℕ) (block : Block) (exit : Exit) → PaysExit q b block exit → of_sum weights (for_exit (layout_of p) p b block exit) ≤ weight_of_block bs b
  exit_asked b block exit h = asked_if (goes_at_once exit) b block exit h

  pub first_asked : (b : ℕ) (block : Block) (es : List Exit) → All (PaysExit q b block) es
      → of_sum weights (for_exit_there (layout_of p) p b block (slice_get es 0)) ≤ weight_of_block bs b
  first_asked b block [] h = omega arith
  first_asked b block (x ∷ es) h = exit_asked b block x (All-head (PaysExit q b block) x es h)

  pub second_asked : (b : ℕ) (block : Block) (es : List Exit) → All (PaysExit q b block) es
      → of_sum weights (for_exit_there (layout_of p) p b block (slice_get es 1)) ≤ weight_of_block bs b
  second_asked b block [] h = omega arith
  second_asked b block (x ∷ []) h = omega arith
  second_asked b block (x ∷ y ∷ es) h = exit_asked b block y (All-head (PaysExit q b block) y es (All-tail (PaysExit q b block) x (y ∷ es) h))

  -- WHAT PAYS FOR WHAT IS ASKED PASSES, WHERE OTHER WEIGHTS DO: what the rules say of slopes alone holds by these

  module _ (us vs : List ℕ) where
    abbrev other : Parts
    other = with_weights p us vs

    slope_paid : (b there elsewhere place : ℕ) (slope : ℕ × ℕ) (treatment : Treatment) → weight_at weights place ≡ there
        → weight_of_block bs b ≤ greatest_weight → PaysSlope other b elsewhere slope treatment
        → of_sum weights (with_slope place slope treatment) ≤ weight_of_block bs b → PaysSlope q b there slope treatment
    slope_paid b there elsewhere place slope Keeps is most before asked = (omega (arith, is, asked), before.1)
    slope_paid b there elsewhere place slope (SetsTo value) is most before asked =
        all_paid there (slope.1 * above value) (weight_of_block bs b) (omega (arith, is, asked)) most
    slope_paid b there elsewhere place slope Lowers is most before asked = (omega (arith, is, asked), before.1)
    slope_paid b there elsewhere place slope RunsOut is most before asked = omega (arith, is, asked)
    slope_paid b there elsewhere place slope Changes is most before asked = absurd before

    next_paid : (b there elsewhere place : ℕ) (block : Block) (way : Way) (slope : Option (ℕ × ℕ)) → weight_at weights place ≡ there
        → weight_of_block bs b ≤ greatest_weight → PaysTo other b block way elsewhere slope
        → of_sum weights (for_next place block way slope) ≤ weight_of_block bs b → PaysTo q b block way there slope
    next_paid b there elsewhere place block way None is most before asked = omega (arith, is, asked)
    next_paid b there elsewhere place block way (Some slope) is most before asked =
        slope_paid b there elsewhere place slope (treats block way slope.0) is most before asked

    who_paid : (b : ℕ) (block : Block) (way : Way) (who : Who) → weight_of_block bs b ≤ greatest_weight → PaysWay other b block way who
        → of_sum weights (for_who (layout_of p) p b block way who) ≤ weight_of_block bs b → PaysWay q b block way who
    who_paid b block way Itself most before asked =
        let to = leads_to b way in
        next_paid b (weight_of_block bs to) (weight_of_block us to) (of_block (layout_of p) to) block way (slope_at p.slopes to)
        (reads.at_block to) most before asked
    who_paid b block way (Copies copies) most before asked = record {
      base = omega (arith, reads.at_block (b + 1), ap (λ n. copies * n) (reads.at_block (leads_to b way)), asked);
      fall_on = before.fall_on;
      target_on = before.target_on;
      steep = before.steep;
    }

    paid_if : (at_once : Bool) (b : ℕ) (block : Block) (exit : Exit) → weight_of_block bs b ≤ greatest_weight
        → (IsTrue at_once → PaysWay other b block exit.way exit.who)
        → of_sum weights (if at_once then for_who (layout_of p) p b block exit.way exit.who else nothing) ≤ weight_of_block bs b
        → IsTrue at_once → PaysWay q b block exit.way exit.who
    paid_if true b block exit most before asked made = who_paid b block exit.way exit.who most (before refl) asked
    paid_if false b block exit most before asked made = absurd (cc)

    -- a block that weighs what is asked for an exit pays for it
    exit_paid : (b : ℕ) (block : Block) (exit : Exit) → weight_of_block bs b ≤ greatest_weight → PaysExit other b block exit
        → of_sum weights (for_exit (layout_of p) p b block exit) ≤ weight_of_block bs b → PaysExit q b block exit
    exit_paid b block exit most before asked = paid_if (goes_at_once exit) b block exit most before asked

    -- both sums for exits, of which there are two at most
    pub both_paid : (b : ℕ) (block : Block) (es : List Exit) → length es ≤ 2 → weight_of_block bs b ≤ greatest_weight → All (PaysExit other b block) es
        → of_sum weights (for_exit_there (layout_of p) p b block (slice_get es 0)) ≤ weight_of_block bs b
        → of_sum weights (for_exit_there (layout_of p) p b block (slice_get es 1)) ≤ weight_of_block bs b → All (PaysExit q b block) es
    both_paid b block [] few most before first second = All-nil (PaysExit q b block)
    both_paid b block (x ∷ []) few most before first second =
        All-cons (PaysExit q b block) x [] (exit_paid b block x most (All-head (PaysExit other b block) x [] before) first) (All-nil (PaysExit q b block))
    both_paid b block (x ∷ y ∷ []) few most before first second =
        let behind = All-tail (PaysExit other b block) x (y ∷ []) before in
        All-cons (PaysExit q b block) x (y ∷ []) (exit_paid b block x most (All-head (PaysExit other b block) x (y ∷ []) before) first)
        (All-cons (PaysExit q b block) y [] (exit_paid b block y most (All-head (PaysExit other b block) y [] behind) second) (All-nil (PaysExit q b block)))
    both_paid b block (x ∷ y ∷ z ∷ es) few most before first second = absurd (omega (arith, few))
