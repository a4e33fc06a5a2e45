-- Weights pass exactly where an object is weighted.
use Rattle.std.proofs.Common.{◌≡◌, ◌↔◌, ℕ, zero, suc, ◌+◌, ◌≤◌, ◌<◌, List, [], ◌∷◌, Option, Some, None, Bool, true, false, if◌then◌else◌, refl, sym}
use Rattle.std.proofs.Common.{ap, subst, arith, cond, take, ◌∙◌}
use Rattle.std.specs.Prelude.{All, IsTrue, IfSome, nat_le, length, is_none, is_some, IsSome, ◌==◌, ◌&&◌, ◌*◌, ◌++◌}
use Rattle.std.specs.List.{flat_map}
use Rattle.std.specs.Option.{option_map_or}
use Rattle.std.proofs.lemmas.Bool.{leb-true, le-leb, eqb-true, eq-eqb, and_parts, false≢true}
use Rattle.std.proofs.lemmas.List.Elements.{All-nil, All-cons, All-head, All-tail}
use Rattle.std.proofs.lemmas.List.Sums.{sum_by-cons}
use Rattle.std.proofs.lemmas.Option.{slice_get_within}
use Rattle.gw_object.specs.declared.blocks.Generate.{Generate}
use Rattle.gw_object.specs.declared.blocks.Block.{Block}
use Rattle.gw_object.specs.declared.blocks.Block.TheVariants as blocks
use Rattle.gw_object.specs.declared.fault.Fault.{Fault}
use Rattle.gw_object.specs.declared.fault.Place.TheVariants as places
use Rattle.gw_object.specs.declared.parts.Entity.{Entity}
use Rattle.gw_object.specs.declared.parts.Kind.{Kind}
use Rattle.gw_object.specs.declared.parts.Kind.TheVariants.{Chain}
use Rattle.gw_object.specs.declared.parts.Parts.{Parts}
use Rattle.gw_object.specs.Entities.{is_chain, chains_in}
use Rattle.gw_object.specs.Grammar.{HasSpelling}
use Rattle.gw_rules.specs.declared.ways.Exit.{Exit}
use Rattle.gw_rules.specs.declared.ways.Way.{Way}
use Rattle.gw_rules.specs.declared.ways.Who.{Who}
use Rattle.gw_rules.specs.declared.ways.Who.TheVariants.{Itself, Copies}
use Rattle.gw_rules.specs.Checks.{Check, check}
use Rattle.gw_rules.specs.Exits.{leads_to, exits_with}
use Rattle.gw_rules.specs.Sources.{kind_at}
use Rattle.gw_rules.specs.Kinds.{block_at, chain_place}
use Rattle.gw_rules.proofs.Each.{Hold, first_and_others, first_with_others, parts_hold, hold_together}
use Rattle.gw_rules.specs.Rows.{ParamKind, Num, Ret, Row, kind_of}
use Rattle.gw_rules.specs.Blocks.{returns_read}
use Rattle.gw_rules.specs.declared.edges.Target.TheVariants as targets
use Rattle.gw_rules.specs.Flow.{own_table, own_row}
use Rattle.gw_rules.proofs.EachBlock.{numbered_holds, all_numbered_hold}
use Rattle.gw_rules.specs.WeightsCodes as codes
use Rattle.gw_rules.specs.declared.slopes.Treatment.{Treatment}
use Rattle.gw_rules.specs.declared.slopes.Treatment.TheVariants.{Keeps, SetsTo, Lowers, RunsOut, Changes}
use Rattle.gw_rules.specs.Weights.{weight_at, chain_weight, slope_at, per_of, treats, covers, pays_slope, pays_to, is_on, pays_copies, pays_way, is_number, slope_checks, goes_at_once, is_bounded, arrival_checks, chain_checks, exit_checks, row_checks, checks_at, weight_checks, WeightsPass}
use Rattle.gw_rules.specs.WeightsLaws.{Covers, PaysSlope, PaysTo, IsOn, PaysCopies, PaysWay, PaysExit, PaysChain, Pays, Weighted, WeightsPassWhereWeighted}

-- CHECKS

-- the checks of each element hold exactly where what they decide is true of each
pub each_of : {A : Type 0} (f : A → List Check) (P : A → Type 0) → ((x : A) → Hold (f x) ↔ P x) → (xs : List A) → Hold (flat_map f xs) ↔ All P xs
each_of f P decides [] = (λ h. All-nil P, λ h. refl)
each_of f P decides (x ∷ xs) = (
  λ h. let two = parts_hold (f x) (flat_map f xs) h in All-cons P x xs ((decides x).0 two.0) ((each_of f P decides xs).0 two.1),
  λ h. hold_together (f x) (flat_map f xs) ((decides x).1 (All-head P x xs h)) ((each_of f P decides xs).1 (All-tail P x xs h)),
)

-- a check that one number is at most another one
at_most : (m n : ℕ) (fault : Fault) → Hold (record { holds = nat_le m n; fault = fault } ∷ []) ↔ (m ≤ n)
at_most m n fault = (λ h. leb-true m n (first_and_others _ _ _ h).0, λ h. first_with_others _ _ _ (le-leb m n h) refl)

-- and one that is made in a case alone
at_most_if : (made : Bool) (m n : ℕ) (fault : Fault) → Hold (if made then record { holds = nat_le m n; fault = fault } ∷ [] else []) ↔ (IsTrue made → m ≤ n)
at_most_if true m n fault = (λ h _. (at_most m n fault).0 h, λ h. (at_most m n fault).1 (h refl))
at_most_if false m n fault = (λ h made. absurd (cc), λ h. refl)

-- DECISIONS

-- a test decides what it decides where both of its parts do
decide_both : (a b : Bool) (P Q : Type 0) → ((a ≡ true) ↔ P) → ((b ≡ true) ↔ Q) → ((a && b) ≡ true) ↔ (P × Q)
decide_both a b P Q one other = (λ h. let two = and_parts a b h in (one.0 two.0, other.0 two.1), λ h. both_true a b (one.1 h.0) (other.1 h.1))
  where
    both_true : (a b : Bool) → a ≡ true → b ≡ true → (a && b) ≡ true
    both_true true b is h = h
    both_true false b is h = is

decide_at_most : (m n : ℕ) → (nat_le m n ≡ true) ↔ (m ≤ n)
decide_at_most m n = (leb-true m n, le-leb m n)

decide_same : (m n : ℕ) → ((m == n) ≡ true) ↔ (m ≡ n)
decide_same m n = (eqb-true m n, eq-eqb m n)

decide_covers : (own : Option (ℕ × ℕ)) (slope : ℕ × ℕ) → (covers own slope ≡ true) ↔ Covers own slope
decide_covers None slope = (λ h. absurd (false≢true h), λ h. absurd h)
decide_covers (Some own) slope = decide_both _ _ _ _ (decide_same own.0 slope.0) (decide_at_most slope.1 own.1)

decide_on : (own other : Option (ℕ × ℕ)) → (is_on own other ≡ true) ↔ IsOn own other
decide_on own None = (λ h. tt, λ h. refl)
decide_on None (Some slope) = (λ h. absurd (false≢true h), λ h. absurd h)
decide_on (Some own) (Some slope) = decide_same own.0 slope.0

decide_none : (o : Option (ℕ × ℕ)) → (is_none o ≡ true) ↔ (o ≡ None)
decide_none None = (λ h. refl, λ h. refl)
decide_none (Some slope) = (λ h. absurd (false≢true h), λ h. absurd cc)

decide_number : (kind : Option ParamKind) → (is_number kind ≡ true) ↔ (kind ≡ Some Num)
decide_number None = (λ h. absurd (false≢true h), λ h. absurd cc)
decide_number (Some Num) = (λ h. refl, λ h. refl)
decide_number (Some (Ret bs)) = (λ h. absurd (false≢true h), λ h. absurd cc)

-- one check that is made in a case alone
decided_if : (made holds : Bool) (P : Type 0) (fault : Fault) → ((holds ≡ true) ↔ P)
    → Hold (if made then record { holds = holds; fault = fault } ∷ [] else []) ↔ (IsTrue made → P)
decided_if true holds P fault decides = (λ h _. decides.0 (first_and_others _ _ _ h).0, λ h. first_with_others _ _ _ (decides.1 (h refl)) refl)
decided_if false holds P fault decides = (λ h made. absurd (cc), λ h. refl)

-- one check, and others
decided_with : (holds : Bool) (P Q : Type 0) (fault : Fault) (others : List Check) → ((holds ≡ true) ↔ P) → (Hold others ↔ Q)
    → Hold (record { holds = holds; fault = fault } ∷ others) ↔ (P × Q)
decided_with holds P Q fault others decides rest =
    (λ h. let two = first_and_others _ _ _ h in (decides.0 two.0, rest.0 two.1), λ h. first_with_others _ _ _ (decides.1 h.0) (rest.1 h.1))

-- USER CHAINS

-- 1 for a user chain
abbrev chain_counts : Entity → ℕ
chain_counts e = cond (is_chain e.kind) 1 0

-- a user chain comes after fewer user chains than there are
place_is_there : (es : List Entity) (c : ℕ) → kind_at es c ≡ Some Chain → chain_place es c < chains_in es
place_is_there [] c is = absurd (cc)
place_is_there (e ∷ es) zero is =
    let chain : e.kind ≡ Chain = cc in
    let one : chain_counts e ≡ 1 = ap (λ (kind : Kind). cond (is_chain kind) 1 0) chain in
    omega (arith, one, sum_by-cons chain_counts e es)
place_is_there (e ∷ es) (suc c) is =
    omega (arith, place_is_there es c is, sum_by-cons chain_counts e es, sum_by-cons chain_counts e (take c es))

-- BLOCKS

module _ (p : Parts) where
  decide_slope : (b there : ℕ) (slope : ℕ × ℕ) (treatment : Treatment)
      → (pays_slope (weight_at p.weights b) (slope_at p.slopes b) there slope treatment ≡ true) ↔ PaysSlope p b there slope treatment
  decide_slope b there slope Keeps = decide_both _ _ _ _ (decide_at_most _ _) (decide_covers (slope_at p.slopes b) slope)
  decide_slope b there slope (SetsTo value) = decide_at_most _ _
  decide_slope b there slope Lowers = decide_both _ _ _ _ (decide_at_most _ _) (decide_covers (slope_at p.slopes b) slope)
  decide_slope b there slope RunsOut = decide_at_most _ _
  decide_slope b there slope Changes = (λ h. absurd (false≢true h), λ h. absurd h)

  decide_to : (b there : ℕ) (block : Block) (way : Way) (slope : Option (ℕ × ℕ))
      → (pays_to (weight_at p.weights b) (slope_at p.slopes b) there block way slope ≡ true) ↔ PaysTo p b block way there slope
  decide_to b there block way None = decide_at_most _ _
  decide_to b there block way (Some slope) = decide_slope b there slope (treats block way slope.0)

  decide_copies : (b copies target : ℕ) → (pays_copies p b copies target ≡ true) ↔ PaysCopies p b copies target
  decide_copies b copies target =
      let base = decide_at_most (1 + weight_at p.weights (b + 1) + copies * weight_at p.weights target) (weight_at p.weights b) in
      let steep = decide_at_most (per_of (slope_at p.slopes (b + 1)) + copies * per_of (slope_at p.slopes target)) (per_of (slope_at p.slopes b)) in
      let all = decide_both _ _ _ _ (decide_both _ _ _ _ base (decide_on (slope_at p.slopes b) (slope_at p.slopes (b + 1))))
      (decide_both _ _ _ _ (decide_on (slope_at p.slopes b) (slope_at p.slopes target)) steep) in (
        λ h. let four = all.0 h in record { base = four.0.0; fall_on = four.0.1; target_on = four.1.0; steep = four.1.1 },
        λ h. all.1 ((h.base, h.fall_on), (h.target_on, h.steep)),
      )

  decide_way : (b : ℕ) (block : Block) (way : Way) (who : Who) → (pays_way p b block way who ≡ true) ↔ PaysWay p b block way who
  decide_way b block way Itself = decide_to b (weight_at p.weights (leads_to b way)) block way (slope_at p.slopes (leads_to b way))
  decide_way b block way (Copies copies) = decide_copies b copies (leads_to b way)

  exit_paid : (b : ℕ) (block : Block) (exit : Exit) → Hold (exit_checks p b block exit) ↔ PaysExit p b block exit
  exit_paid b block exit = decided_if (goes_at_once exit) (pays_way p b block exit.way exit.who) _ _ (decide_way b block exit.way exit.who)

  slope_known : (b : ℕ) (row : Row) → Hold (slope_checks p b (Some row)) ↔ IfSome (slope_at p.slopes b) (λ slope. kind_of row slope.0 ≡ Some Num)
  slope_known b row = by_slope (slope_at p.slopes b)
    where
      by_slope : (o : Option (ℕ × ℕ))
          → Hold (option_map_or (λ (slope : ℕ × ℕ). check codes.slope_param (places.Block b) (is_number (kind_of row slope.0)) ∷ []) o [])
          ↔ IfSome o (λ slope. kind_of row slope.0 ≡ Some Num)
      by_slope None = (λ h. tt, λ h. refl)
      by_slope (Some slope) = (
        λ h. (decide_number (kind_of row slope.0)).0 (first_and_others _ _ _ h).0,
        λ h. first_with_others _ _ _ ((decide_number (kind_of row slope.0)).1 h) refl,
      )

  chain_paid : (b : ℕ) (block : Block) → Hold (chain_checks p b block) ↔ PaysChain p b block
  chain_paid b (blocks.Link l) = at_most _ _ _
  chain_paid b (blocks.Unlink u) =
      let others : List Check = if is_some (own_table p (targets.Chain u.chain)) then
      check codes.chain_weight (places.Block b) (nat_le (weight_at p.weights u.target) (chain_weight p u.chain)) ∷ [] else [] in
      let lets = at_most_if (is_some (own_table p (targets.Chain u.chain))) (weight_at p.weights u.target) (chain_weight p u.chain)
      (check codes.chain_weight (places.Block b) true).fault in
      decided_with (is_none (slope_at p.slopes u.target)) (slope_at p.slopes u.target ≡ None)
      (IsSome (own_table p (targets.Chain u.chain)) → weight_at p.weights u.target ≤ chain_weight p u.chain)
      (check codes.chain_weight (places.Block b) true).fault others (decide_none (slope_at p.slopes u.target)) lets
  chain_paid b block = (λ h. tt, λ h. refl)

  bounded : (b : ℕ) (g : Generate) → Hold (arrival_checks b (blocks.Generate g)) → IsTrue (is_bounded g)
  bounded b g h = (first_and_others _ _ _ h).0

  arrivals_hold : (b : ℕ) (block : Block) → ((g : Generate) → block ≡ blocks.Generate g → IsTrue (is_bounded g)) → Hold (arrival_checks b block)
  arrivals_hold b (blocks.Generate g) bounds = first_with_others _ _ _ (bounds g refl) refl
  arrivals_hold b block bounds = refl

  abbrev exits_checks : ℕ → Block → Row → List Check
  exits_checks b block row = flat_map (exit_checks p b block) (exits_with (returns_read block row) block)

  exits_paid : (b : ℕ) (block : Block) (row : Row) → Hold (exits_checks b block row) ↔ All (PaysExit p b block) (exits_with (returns_read block row) block)
  exits_paid b block row = each_of (exit_checks p b block) (PaysExit p b block) (exit_paid b block) (exits_with (returns_read block row) block)

  pays : (b : ℕ) (block : Block) (row : Row) → Hold (slope_checks p b (Some row)) → Hold (row_checks p b block (Some row)) → Pays p b block row
  pays b block row known h =
      let two = parts_hold (chain_checks p b block) (exits_checks b block row) h in
      record { slope = (slope_known b row).0 known; chain = (chain_paid b block).0 two.0; exits = (exits_paid b block row).0 two.1 }

  rows_hold : (b : ℕ) (block : Block) (row : Option Row) → ((r : Row) → row ≡ Some r → Pays p b block r) → Hold (row_checks p b block row)
  rows_hold b block None paid = refl
  rows_hold b block (Some row) paid =
      let pay = paid row refl in
      hold_together (chain_checks p b block) (exits_checks b block row) ((chain_paid b block).1 pay.chain) ((exits_paid b block row).1 pay.exits)

  slopes_hold : (b : ℕ) (block : Block) (row : Option Row) → ((r : Row) → row ≡ Some r → Pays p b block r) → Hold (slope_checks p b row)
  slopes_hold b block None paid = refl
  slopes_hold b block (Some row) paid = (slope_known b row).1 (paid row refl).slope

  -- what holds at a block: what its slope needs, what its arrivals need, and what it needs in its row
  at_block : WeightsPass p → (b : ℕ) (block : Block) → block_at p.blocks b ≡ Some block → Hold (slope_checks p b (own_row p b))
      × Hold (arrival_checks b block) × Hold (row_checks p b block (own_row p b))
  unfolding weight_checks
  at_block h b block is =
      let two = parts_hold (slope_checks p b (own_row p b)) (arrival_checks b block ++ row_checks p b block (own_row p b))
      (numbered_holds (checks_at p) p.blocks b block h is) in
      let rest = parts_hold (arrival_checks b block) (row_checks p b block (own_row p b)) two.1 in
      (two.0, rest.0, rest.1)

  -- each block that is there has a weight, which is 1 or more
  weighs : HasSpelling p → (b : ℕ) (block : Block) → block_at p.blocks b ≡ Some block → 1 ≤ weight_at p.weights b
  weighs fits zero block is = absurd (cc)
  weighs fits (suc i) block is =
      let within : i < length p.weights = subst (λ n. i < n) (sym fits.limits.weights) (slice_get_within p.blocks i block is) in
      (fits.limits.each_weight i 0 within).0

  -- so has each user chain
  chain_weighs : HasSpelling p → (c : ℕ) → kind_at p.entities c ≡ Some Chain → 1 ≤ chain_weight p c
  chain_weighs fits c is =
      let within : chain_place p.entities c < length p.chain_weights =
      subst (λ n. chain_place p.entities c < n) (sym fits.limits.chain_weights) (place_is_there p.entities c is) in
      (fits.limits.each_chain_weight (chain_place p.entities c) 0 within).0

  weighted : HasSpelling p → WeightsPass p → Weighted p
  weighted fits h = record {
    least = weighs fits;
    chains = chain_weighs fits;
    arrivals = λ b g is. bounded b g (at_block h b (blocks.Generate g) is).1;
    each_row = λ b block row is has. pays b block row (subst (λ r. Hold (slope_checks p b r)) has (at_block h b block is).0)
        (subst (λ r. Hold (row_checks p b block r)) has (at_block h b block is).2);
  }

  pass : Weighted p → WeightsPass p
  unfolding weight_checks
  pass h =
      all_numbered_hold (checks_at p) p.blocks (λ b block is.
      hold_together (slope_checks p b (own_row p b)) (arrival_checks b block ++ row_checks p b block (own_row p b))
      (slopes_hold b block (own_row p b) (λ row has. h.each_row b block row is has))
      (hold_together (arrival_checks b block) (row_checks p b block (own_row p b))
      (arrivals_hold b block (λ g generates. h.arrivals b g (is ∙ ap Some generates)))
      (rows_hold b block (own_row p b) (λ row has. h.each_row b block row is has))))

pub weights_pass_where_weighted : WeightsPassWhereWeighted
weights_pass_where_weighted p fits = (weighted p fits, pass p)
