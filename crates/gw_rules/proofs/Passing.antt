-- Flow passes exactly where it holds at each block.
use Rattle.std.proofs.Common.{◌≡◌, ◌↔◌, ℕ, List, [], ◌∷◌, ◌++◌, map, Option, Some, None, Bool, true, false, if◌then◌else◌, refl, sym, ap, subst, ◌∙◌}
use Rattle.std.specs.Prelude.{All, Decides, IsSome, IsSomeAnd}
use Rattle.std.proofs.lemmas.Bool.{false≢true}
use Rattle.std.proofs.lemmas.List.{map-append}
use Rattle.gw_object.specs.declared.blocks.Block.{Block}
use Rattle.gw_object.specs.declared.parts.Parts.{Parts}
use Rattle.gw_rules.specs.Checks.{first_broken}
use Rattle.gw_rules.specs.Kinds.{block_at, is_generate}
use Rattle.gw_rules.specs.FlowCodes as codes
use Rattle.gw_rules.specs.Rows.{Row, nothing_known, Fits}
use Rattle.gw_rules.specs.declared.edges.Target.TheVariants as targets
use Rattle.gw_rules.specs.Blocks.{FlowEdge, Table, Rule, rule, value_rules, rules, edges}
use Rattle.gw_rules.specs.Flow.{fits_row, rule_check, edge_check, rule_checks, edge_checks, checks_in, checks_at, flow_checks, FlowPasses}
use Rattle.gw_rules.specs.FlowLaws.{MayPass, FlowHolds, FlowPassesAtEachBlock}
use Rattle.gw_rules.proofs.Each.{Hold, parts_hold, hold_together}
use Rattle.gw_rules.proofs.EachBlock.{each_decided, numbered_holds, all_numbered_hold}
use Rattle.gw_rules.proofs.Fitting.{fits_is_decided}

row_decided : (state : Row) (row : Option Row) → Decides (fits_row state row) (IsSomeAnd row (Fits state))
row_decided state None = (λ h. false≢true h, λ h. absurd h)
row_decided state (Some row) = fits_is_decided state row

-- what a block without a row asks, if it is a GENERATE
abbrev rules_if : Parts → Block → Bool → List Rule
rules_if p block g = if g then value_rules p block nothing_known ++ rule codes.edge_state false ∷ [] else []

module _ (p : Parts) (table : Table) where
  -- what is decided of an edge: where it leads there is a row that its state fits
  abbrev Arrives : FlowEdge → Type 0
  Arrives edge = IsSomeAnd (table edge.target) (Fits edge.state)

  rules_decided : (b : ℕ) (block : Block) (state : Row) → Hold (rule_checks p b block state) ↔ All (λ (rule : Rule). rule.holds ≡ true) (rules p block state)
  rules_decided b block state = each_decided (rule_check b) (λ (rule : Rule). rule.holds ≡ true) (λ rule. (λ h. h, λ h. h)) (rules p block state)

  edges_decided : (b : ℕ) (block : Block) (state : Row) → Hold (edge_checks p table b block state) ↔ All Arrives (edges p table b block state)
  edges_decided b block state = each_decided (edge_check table b) Arrives (λ edge. row_decided edge.state (table edge.target)) (edges p table b block state)

  pub may_pass : (b : ℕ) (block : Block) (row : Row) → Hold (checks_in p table b block (Some row)) → MayPass p table b block row
  may_pass b block row h =
      let parts = parts_hold (rule_checks p b block row) (edge_checks p table b block row) h in
      record { each_rule = (rules_decided b block row).0 parts.0; each_edge = (edges_decided b block row).0 parts.1 }

  pub may_pass_holds : (b : ℕ) (block : Block) (row : Row) → MayPass p table b block row → Hold (checks_in p table b block (Some row))
  may_pass_holds b block row h =
      hold_together (rule_checks p b block row) (edge_checks p table b block row) ((rules_decided b block row).1 h.each_rule)
      ((edges_decided b block row).1 h.each_edge)

  -- the checks of a block without a row hold exactly where it is no GENERATE
  without_row : (b : ℕ) (block : Block) (g : Bool) → (g ≡ true → false ≡ true) → Hold (map (rule_check b) (rules_if p block g))
  without_row b block true own = absurd (false≢true (own refl))
  without_row b block false own = refl

  lacks_row : (b : ℕ) (block : Block) (g : Bool) → Hold (map (rule_check b) (rules_if p block g)) → g ≡ true → false ≡ true
  lacks_row b block true h is =
      let values = value_rules p block nothing_known in
      let parts = parts_hold (map (rule_check b) values) (map (rule_check b) (rule codes.edge_state false ∷ []))
      (sym (ap first_broken (map-append (rule_check b) values (rule codes.edge_state false ∷ []))) ∙ h) in
      absurd (cc)
  lacks_row b block false h is = is

  -- the checks of a block hold where it has no row and is no GENERATE, or may be passed
  checks_hold : (b : ℕ) (block : Block) (row : Option Row) → (is_generate (Some block) ≡ true → IsSome row)
      → ((r : Row) → row ≡ Some r → MayPass p table b block r) → Hold (checks_in p table b block row)
  checks_hold b block None own passes = without_row b block (is_generate (Some block)) own
  checks_hold b block (Some row) own passes = may_pass_holds b block row (passes row refl)

  -- a block is there where it is a GENERATE
  generate_there : (block : Option Block) → is_generate block ≡ true → (there : Block) × (block ≡ Some there)
  generate_there None g = absurd (false≢true g)
  generate_there (Some block) g = (block, refl)

  -- a GENERATE whose checks hold has a row
  arrival : (b : ℕ) (block : Block) (row : Option Row) → Hold (checks_in p table b block row) → is_generate (Some block) ≡ true → IsSome row
  arrival b block None h g = lacks_row b block (is_generate (Some block)) h g
  arrival b block (Some row) h g = refl

  holds : FlowPasses p table → FlowHolds p table
  unfolding flow_checks
  holds h = record {
    arrivals = λ b gen.
        let found = generate_there (block_at p.blocks b) gen in
        arrival b found.0 (table (targets.Block b)) (numbered_holds (checks_at p table) p.blocks b found.0 h found.1) (sym (ap is_generate found.1) ∙ gen);
    each_row = λ b block row is has. may_pass b block row
        (subst (λ r. Hold (checks_in p table b block r)) has (numbered_holds (checks_at p table) p.blocks b block h is));
  }

  passes : FlowHolds p table → FlowPasses p table
  unfolding flow_checks
  passes h =
      all_numbered_hold (checks_at p table) p.blocks
      (λ b block is. checks_hold b block (table (targets.Block b)) (λ g. h.arrivals b (ap is_generate is ∙ g)) (λ row has. h.each_row b block row is has))

pub flow_passes_at_each_block : FlowPassesAtEachBlock
flow_passes_at_each_block p table = (holds p table, passes p table)
