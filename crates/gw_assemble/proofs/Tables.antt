-- Weights that pass with some state table pass with each whose rows fit its own.
use Rattle.std.proofs.Common.{◌≡◌, inl, inr, ℕ, List, [], ◌∷◌, length, map, Option, Some, None, true, IsTrue, IsSome, All, refl, sym, ap, subst, ◌∙◌}
use Rattle.std.proofs.Common.{is_some, ◌==◌}
use Rattle.std.specs.Prelude.{IsSomeAnd, IfSome}
use Rattle.std.specs.List.{list_all}
use Rattle.std.proofs.lemmas.Bool.{false≢true, and_parts, or_cases, eqb-true}
use Rattle.std.proofs.lemmas.List.Elements.{All-nil, All-cons, All-head, All-tail, All-weaker}
use Rattle.gw_object.specs.declared.blocks.Block.{Block}
use Rattle.gw_object.specs.declared.blocks.Block.TheVariants as blocks
use Rattle.gw_object.specs.Entities.{chains_in}
use Rattle.gw_object.specs.Grammar.{HasSpelling}
use Rattle.gw_object.specs.Returns.{lists}
use Rattle.gw_object.specs.declared.fault.Fault.{Fault}
use Rattle.gw_object.specs.declared.parts.TableState.{TableState}
use Rattle.gw_object.specs.declared.parts.ReturnRow.{ReturnRow}
use Rattle.gw_object.specs.declared.parts.Parts.{Parts}
use Rattle.gw_rules.specs.declared.edges.Target.TheVariants as targets
use Rattle.gw_rules.specs.declared.ways.Exit.{Exit}
use Rattle.gw_rules.specs.declared.ways.Way.{Way}
use Rattle.gw_rules.specs.declared.ways.Who.{Who}
use Rattle.gw_rules.specs.declared.ways.Who.TheVariants.{Itself, Copies}
use Rattle.gw_rules.specs.declared.slopes.Treatment.{Treatment}
use Rattle.gw_rules.specs.declared.slopes.Treatment.TheVariants.{Keeps, SetsTo, Lowers, RunsOut, Changes}
use Rattle.gw_rules.specs.Exits.{exits_with, returns_to, leads_to}
use Rattle.gw_rules.specs.Kinds.{block_at}
use Rattle.gw_rules.specs.Pass.{KindsPass}
use Rattle.gw_rules.specs.Rows.{Row, ParamKind, Num, Ret, kind_of, kind_fits, is_return, return_blocks, Fits}
use Rattle.gw_rules.specs.FlowCodes as codes
use Rattle.gw_rules.specs.Blocks.{Rule, rule, value_rules, return_rules, rules, returns_read}
use Rattle.gw_rules.specs.Flow.{own_table, own_row, FlowPasses}
use Rattle.gw_rules.specs.Weights.{weight_at, slope_at, treats}
use Rattle.gw_rules.specs.WeightsLaws.{PaysSlope, PaysTo, PaysWay, PaysExit, PaysChain, Pays, Weighted}
use Rattle.gw_rules.proofs.AllPass.{is_checked, kinds_pass, flow_passes, weights_pass}
use Rattle.gw_rules.proofs.EachBlock.{All-back}
use Rattle.gw_rules.proofs.Passing.{flow_passes_at_each_block}
use Rattle.gw_rules.proofs.WeightsPassing.{weights_pass_where_weighted}
use Rattle.gw_settle.specs.Keeps.{NoneChanged, IsBelow, IsTableBelow}
use Rattle.gw_settle.specs.Settles.{with_table, Passes}
use Rattle.gw_weighing.specs.Certificates.{with_weights, AreCertificate}
use Rattle.gw_weighing.proofs.Spelled.{still_spelled}
use Rattle.gw_assemble.specs.Completion.{IsAccepted, HasNoWeights}
use Rattle.gw_assemble.specs.Laws.{DiffersInTableAndWeights, NoTableAndWeightsPass}
use Rattle.gw_assemble.proofs.Reweighed.{kinds_same_from, flow_same_from}
use Rattle.gw_assemble.proofs.Failing.{still_weighed}

-- RETURNS

abbrev Holds : Rule → Type 0
Holds rule = rule.holds ≡ true

-- what fits a return is one, to no other blocks
return_fits : (kind said : Option ParamKind) → IsTrue (kind_fits kind said) → is_return said ≡ true
    → list_all (λ b. lists (return_blocks said) b) (return_blocks kind) ≡ true
return_fits (Some (Ret bs)) (Some (Ret cs)) h g = h
return_fits None (Some (Ret cs)) h g = absurd (false≢true h)
return_fits (Some Num) (Some (Ret cs)) h g = absurd (false≢true h)
return_fits kind (Some Num) h g = absurd (false≢true g)
return_fits kind None h g = absurd (false≢true g)

-- a TRANSFER in parameter mode that may pass reads a return
reads_return : (p : Parts) (q : ℕ) (row : Row) → All Holds (rules p (blocks.TransferByParameter q) row) → is_return (kind_of row q) ≡ true
reads_return p q row h =
    let own : All Holds (return_rules row q) = All-back Holds (value_rules p (blocks.TransferByParameter q) row) (return_rules row q) h in
    let set = rule codes.unset_param (is_some (kind_of row q)) in
    let returns = rule codes.param_kind (is_return (kind_of row q)) in
    All-head Holds returns [] (All-tail Holds set (returns ∷ []) own)

-- what is paid for exits to the blocks behind some is paid for those behind each of them
listed_paid : (P : Exit → Type 0) (bs : List ℕ) (b : ℕ) → lists bs b ≡ true → All P (map returns_to bs) → P (returns_to b)
listed_paid P [] b there h = absurd (false≢true there)
listed_paid P (x ∷ bs) b there h =
    elim (or_cases (x == b) (lists bs b) there) [
      | inl same ↦ subst (λ n. P (returns_to n)) (eqb-true x b same) (All-head P (returns_to x) (map returns_to bs) h)
      | inr more ↦ listed_paid P bs b more (All-tail P (returns_to x) (map returns_to bs) h)
    ]

fewer_paid : (P : Exit → Type 0) (bs cs : List ℕ) → list_all (λ b. lists cs b) bs ≡ true → All P (map returns_to cs) → All P (map returns_to bs)
fewer_paid P [] cs within h = All-nil P
fewer_paid P (b ∷ bs) cs within h =
    let two = and_parts (lists cs b) (list_all (λ b. lists cs b) bs) within in
    All-cons P (returns_to b) (map returns_to bs) (listed_paid P cs b two.0 h) (fewer_paid P bs cs two.1 h)

-- NUMBERS

-- what fits a number is one
number_fits : (kind said : Option ParamKind) → IsTrue (kind_fits kind said) → said ≡ Some Num → kind ≡ Some Num
number_fits (Some Num) (Some Num) h number = refl
number_fits None (Some Num) h number = absurd (false≢true h)
number_fits (Some (Ret bs)) (Some Num) h number = absurd (false≢true h)
number_fits kind (Some (Ret cs)) h number = absurd (cc)
number_fits kind None h number = absurd (cc)

-- a slope that is on a number in a row is on one in each that fits it
slope_fits : (slope : Option (ℕ × ℕ)) (row other : Row) → Fits row other → IfSome slope (λ s. kind_of other s.0 ≡ Some Num)
    → IfSome slope (λ s. kind_of row s.0 ≡ Some Num)
slope_fits None row other fits h = tt
slope_fits (Some slope) row other fits h = number_fits (kind_of row slope.0) (kind_of other slope.0) (fits.params slope.0) h

-- TABLES

-- a row that is there, below another one
below_there : (row : Row) (x y : Option Row) → x ≡ Some row → IsBelow x y → IsSomeAnd y (Fits row)
below_there row x y is h = subst (λ o. IsBelow o y) is h

some_and : (y : Option Row) (row : Row) → IsSomeAnd y (Fits row) → (other : Row) × (y ≡ Some other) × Fits row other
some_and None row h = absurd h
some_and (Some other) row h = (other, refl, h)

there_too : (x y : Option Row) → IsBelow x y → IsSome x → IsSome y
there_too None y h there = absurd (cc)
there_too (Some row) (Some other) h there = refl
there_too (Some row) None h there = absurd h

module _ (p : Parts) (returns others : List ReturnRow) (states chain_states other_states other_chain_states : List (Option TableState)) (ws cs : List ℕ) where
  -- an object with one table, and with another one, both with these weights
  abbrev s : Parts
  s = with_table p returns states chain_states

  abbrev t : Parts
  t = with_table p others other_states other_chain_states

  abbrev s' : Parts
  s' = with_weights s ws cs

  abbrev t' : Parts
  t' = with_weights t ws cs

  -- what is paid doesn't depend on the table
  slope_paid : (b there : ℕ) (slope : ℕ × ℕ) (treatment : Treatment) → PaysSlope t' b there slope treatment → PaysSlope s' b there slope treatment
  slope_paid b there slope Keeps h = h
  slope_paid b there slope (SetsTo value) h = h
  slope_paid b there slope Lowers h = h
  slope_paid b there slope RunsOut h = h
  slope_paid b there slope Changes h = h

  to_paid : (b : ℕ) (block : Block) (way : Way) (there : ℕ) (slope : Option (ℕ × ℕ)) → PaysTo t' b block way there slope → PaysTo s' b block way there slope
  to_paid b block way there None h = h
  to_paid b block way there (Some slope) h = slope_paid b there slope (treats block way slope.0) h

  way_paid : (b : ℕ) (block : Block) (way : Way) (who : Who) → PaysWay t' b block way who → PaysWay s' b block way who
  way_paid b block way Itself h = to_paid b block way (weight_at ws (leads_to b way)) (slope_at p.slopes (leads_to b way)) h
  way_paid b block way (Copies copies) h = record { base = h.base; fall_on = h.fall_on; target_on = h.target_on; steep = h.steep }

  exit_paid : (b : ℕ) (block : Block) (exit : Exit) → PaysExit t' b block exit → PaysExit s' b block exit
  exit_paid b block exit h at_once = way_paid b block exit.way exit.who (h at_once)

  same_paid : (b : ℕ) (block : Block) (exits : List Exit) → All (PaysExit t' b block) exits → All (PaysExit s' b block) exits
  same_paid b block exits h = All-weaker (PaysExit t' b block) (PaysExit s' b block) (exit_paid b block) exits h

  module _ (below : IsTableBelow (own_table s) (own_table t)) (flow : FlowPasses t (own_table t)) (w : Weighted t') where
    chain_paid : (b : ℕ) (block : Block) → PaysChain t' b block → PaysChain s' b block
    chain_paid b (blocks.Link l) h = h
    chain_paid b (blocks.Unlink u) h =
        (h.0, λ there. h.1 (there_too (own_table s (targets.Chain u.chain)) (own_table t (targets.Chain u.chain)) (below (targets.Chain u.chain)) there))
    chain_paid b block h = tt

    exits_paid : (b : ℕ) (block : Block) (row other : Row) → Fits row other → All Holds (rules t block other)
        → All (PaysExit t' b block) (exits_with (returns_read block other) block) → All (PaysExit s' b block) (exits_with (returns_read block row) block)
    exits_paid b (blocks.TransferByParameter q) row other fits rule h =
        same_paid b (blocks.TransferByParameter q) (map returns_to (return_blocks (kind_of row q)))
        (fewer_paid (PaysExit t' b (blocks.TransferByParameter q)) (return_blocks (kind_of row q)) (return_blocks (kind_of other q))
        (return_fits (kind_of row q) (kind_of other q) (fits.params q) (reads_return t q other rule)) h)
    exits_paid b block row other fits rule h = same_paid b block (exits_with (returns_read block other) block) h

    row_paid : (b : ℕ) (block : Block) (row : Row) → block_at p.blocks b ≡ Some block → own_row s b ≡ Some row → Pays s' b block row
    row_paid b block row is has =
        let found = some_and (own_table t (targets.Block b)) row
        (below_there row (own_table s (targets.Block b)) (own_table t (targets.Block b)) has (below (targets.Block b))) in
        let paid = w.each_row b block found.0 is found.1 in
        let may = ((flow_passes_at_each_block t (own_table t)).0 flow).each_row b block found.0 is found.1 in
        record {
          slope = slope_fits (slope_at p.slopes b) row found.0 found.2 paid.slope;
          chain = chain_paid b block paid.chain;
          exits =
              exits_paid b block row found.0 found.2 may.each_rule paid.exits;
        }

    pub weighted_below : Weighted s'
    weighted_below = record { least = w.least; chains = w.chains; arrivals = w.arrivals; each_row = row_paid }

-- THE LAW

module _ (p : Parts) (fault : Fault) (none : NoneChanged p) (q : Parts) (differ : DiffersInTableAndWeights p q) (it : IsAccepted q) where
  abbrev tabled : Parts
  tabled = with_table p q.returns q.states q.chain_states

  tabled_passes : Passes p tabled
  tabled_passes =
      let checked = is_checked q it.accepted in
      let kinds : KindsPass (with_weights tabled q.weights q.chain_weights) = subst KindsPass (sym differ) (kinds_pass q checked) in
      let flow : FlowPasses (with_weights tabled q.weights q.chain_weights) (own_table (with_weights tabled q.weights q.chain_weights)) =
      subst (λ (x : Parts). FlowPasses x (own_table x)) (sym differ) (flow_passes q checked) in
      record {
        same = refl;
        kinds = kinds_same_from tabled p.version q.weights p.slopes q.chain_weights kinds;
        flow =
            flow_same_from tabled p.version q.weights p.slopes q.chain_weights (own_table tabled) flow;
      }

  tabled_weighted : Weighted (with_weights tabled q.weights q.chain_weights)
  tabled_weighted = subst Weighted (sym differ) ((weights_pass_where_weighted q it.spelled).0 (weights_pass q it.accepted))

  settled_weighted : (settled : Parts) → Passes p settled → IsTableBelow (own_table settled) (own_table tabled)
      → Weighted (with_weights settled q.weights q.chain_weights)
  settled_weighted settled passes below =
      let same = passes.same in
      let below_there : IsTableBelow (own_table (with_table p settled.returns settled.states settled.chain_states)) (own_table tabled) =
      subst (λ (x : Parts). IsTableBelow (own_table x) (own_table tabled)) same below in
      subst (λ (x : Parts). Weighted (with_weights x q.weights q.chain_weights)) (sym same)
      (weighted_below p settled.returns q.returns settled.states settled.chain_states q.states q.chain_states q.weights q.chain_weights
      below_there tabled_passes.flow tabled_weighted)

  -- the weights of q may stand where it has as many blocks and user chains
  certificate : (found : Parts) → HasSpelling found → length p.blocks ≡ length found.blocks → chains_in p.entities
      ≡ chains_in found.entities → Weighted (with_weights found q.weights q.chain_weights) → AreCertificate found q.weights q.chain_weights
  certificate found spelled blocks chains one =
      let l = it.spelled.limits in
      let many : length q.weights ≡ length found.blocks = l.weights ∙ sym (ap (λ (x : Parts). length x.blocks) differ) ∙ blocks in
      let chain_many : length q.chain_weights ≡ chains_in found.entities = l.chain_weights ∙ sym (ap (λ (x : Parts). chains_in x.entities) differ) ∙ chains in
      record {
        blocks = many;
        chains = chain_many;
        range = l.each_weight;
        chain_range = l.each_chain_weight;
        passes = (weights_pass_where_weighted (with_weights found q.weights q.chain_weights)
            (still_spelled found q.weights q.chain_weights spelled many chain_many l.each_weight l.each_chain_weight)).1 one;
      }

  pub none_passes : HasNoWeights p fault → ⊥
  none_passes (found, completion, fails) =
      let settled = completion.settled in
      let passes = completion.settlement.passes in
      let weighed = still_weighed settled passes.kinds completion.settlement.code passes.flow found completion.weights fault fails.refused in
      let below = completion.settlement.greatest none tabled tabled_passes in
      let one : Weighted (with_weights found q.weights q.chain_weights) =
      subst (λ (x : Parts). Weighted (with_weights x q.weights q.chain_weights)) weighed (settled_weighted settled passes below) in
      let blocks : length p.blocks ≡ length found.blocks = sym (ap (λ (x : Parts). length x.blocks) passes.same)
      ∙ ap (λ (x : Parts). length x.blocks) weighed in
      let chains : chains_in p.entities ≡ chains_in found.entities = sym (ap (λ (x : Parts). chains_in x.entities) passes.same)
      ∙ ap (λ (x : Parts). chains_in x.entities) weighed in
      fails.none q.weights q.chain_weights (certificate found fails.spelled blocks chains one)

pub no_table_and_weights_pass : NoTableAndWeightsPass
no_table_and_weights_pass p fault none no_weights q differ it = none_passes p fault none q differ it no_weights
