-- An object with another version, and other weights and slopes: what of its checks stays as it was.
use Rattle.std.proofs.Common.{◌≡◌, ℕ, ◌+◌, List, [], ◌∷◌, ◌++◌, Option, Some, None, true, refl, sym, ap, ap₂, subst, ◌∙◌}
use Rattle.std.specs.Prelude.{All}
use Rattle.std.specs.List.{flat_map}
use Rattle.gw_num.specs.Table.{at}
use Rattle.gw_object.specs.declared.blocks.Block.{Block}
use Rattle.gw_object.specs.declared.blocks.Block.TheVariants as blocks
use Rattle.gw_object.specs.declared.blocks.Operand.{Operand}
use Rattle.gw_object.specs.declared.blocks.Operand.TheVariants as operands
use Rattle.gw_object.specs.declared.code.Instruction.{Instruction}
use Rattle.gw_object.specs.declared.code.Instruction.TheVariants as instructions
use Rattle.gw_object.specs.declared.code.Procedure.{Procedure}
use Rattle.gw_object.specs.declared.parts.Parts.{Parts}
use Rattle.gw_rules.specs.Code.{cost_of_code, takes, asks_for, asked_by_source, parameters_asked}
use Rattle.gw_rules.specs.Sources.{evaluation_operands}
use Rattle.gw_rules.specs.Checks.{Check, first_broken}
use Rattle.gw_rules.specs.Pass.{kinds_checks, KindsPass}
use Rattle.gw_rules.specs.PlusChecks.{Heights, heights_after, instruction_checks, code_checks, whole_checks, checks_from, plus_checks, PlusPasses}
use Rattle.gw_rules.specs.Rows.{Row}
use Rattle.gw_rules.specs.Blocks.{Table, Rule, own_rules, rules}
use Rattle.gw_rules.specs.Flow.{FlowPasses}
use Rattle.gw_rules.specs.FlowLaws.{FlowHolds}
use Rattle.gw_rules.proofs.Passing.{flow_passes_at_each_block}

module _ (p : Parts) (version : ℕ) (weights : List ℕ) (slopes : List (Option (ℕ × ℕ))) (chains : List ℕ) where
  abbrev q : Parts
  q = record p { version = version; weights = weights; slopes = slopes; chain_weights = chains }

  pub kinds_same : KindsPass p → KindsPass q
  unfolding kinds_checks
  kinds_same h = h

  pub kinds_same_from : KindsPass q → KindsPass p
  unfolding kinds_checks
  kinds_same_from h = h

  takes_same : (i : Instruction) → takes q i ≡ takes p i
  takes_same (instructions.Call n) = refl
  takes_same i = refl

  asked_same : (o : Operand) → asked_by_source q o ≡ asked_by_source p o
  asked_same (operands.Procedure n) = refl
  asked_same o = refl

  asks_same : (i : Instruction) → asks_for q i ≡ asks_for p i
  asks_same (instructions.Value sna) = asked_same _
  asks_same (instructions.Call n) = refl
  asks_same i = refl

  instruction_same : (n : ℕ) (pr : Procedure) (heights : Heights) (k : ℕ) (i : Instruction) (o : Option ℕ)
      → instruction_checks q n pr heights k i o ≡ instruction_checks p n pr heights k i o
  instruction_same n pr heights k i None = refl
  instruction_same n pr heights k i (Some height) = rw (takes_same i, asks_same i) refl

  heights_same : (heights : Heights) (k : ℕ) (i : Instruction) → heights_after q heights k i ≡ heights_after p heights k i
  heights_same heights k i = rw (takes_same i) refl

  code_same : (n : ℕ) (pr : Procedure) (heights : Heights) (k : ℕ) (code : List Instruction) → code_checks q n pr heights k code
      ≡ code_checks p n pr heights k code
  code_same n pr heights k [] = refl
  code_same n pr heights k (i ∷ code) =
      ap₂ (λ (cs ds : List Check). cs ++ ds)
      (instruction_same n pr heights k i (at None heights k))
      (code_same n pr (heights_after q heights k i) (k + 1) code ∙ ap (λ hs. code_checks p n pr hs (k + 1) code) (heights_same heights k i))

  from_same : (costs : List ℕ) (n : ℕ) (prs : List Procedure) → checks_from q costs n prs ≡ checks_from p costs n prs
  from_same costs n [] = refl
  from_same costs n (pr ∷ prs) =
      ap₂ (λ (cs ds : List Check). cs ++ ds)
      (ap (λ cs. cs ++ whole_checks p costs n pr.code) (code_same n pr (Some 0 ∷ []) 0 pr.code))
      (from_same (costs ++ cost_of_code p.entities costs pr.code ∷ []) (n + 1) prs)

  pub plus_same : PlusPasses p → PlusPasses q
  unfolding plus_checks
  plus_same h = subst (λ cs. first_broken cs ≡ None) (sym (from_same [] 0 p.procedures)) h

  flat_same : (os : List Operand) → flat_map (parameters_asked q) os ≡ flat_map (parameters_asked p) os
  flat_same [] = refl
  flat_same (o ∷ os) = ap₂ (λ (xs ys : List ℕ). xs ++ ys) (asked_same _) (flat_same os)

  own_same : (block : Block) (row : Row) → own_rules q block row ≡ own_rules p block row
  own_same (blocks.Enter u) row = refl
  own_same block row = refl

  rules_same : (block : Block) (row : Row) → rules q block row ≡ rules p block row
  rules_same block row = rw (flat_same (evaluation_operands p.entities block), own_same block row) refl

  flow_from : (table : Table) → FlowHolds q table → FlowHolds p table
  flow_from table h = record {
    arrivals = h.arrivals;
    each_row = λ b block row is has. let may = h.each_row b block row is has in
        record { each_rule = subst (All (λ (rule : Rule). rule.holds ≡ true)) (rules_same block row) may.each_rule; each_edge = may.each_edge };
  }

  flow_to : (table : Table) → FlowHolds p table → FlowHolds q table
  flow_to table h = record {
    arrivals = h.arrivals;
    each_row = λ b block row is has. let may = h.each_row b block row is has in
        record { each_rule = subst (All (λ (rule : Rule). rule.holds ≡ true)) (sym (rules_same block row)) may.each_rule; each_edge = may.each_edge };
  }

  pub flow_same_from : (table : Table) → FlowPasses q table → FlowPasses p table
  flow_same_from table h = (flow_passes_at_each_block p table).1 (flow_from table ((flow_passes_at_each_block q table).0 h))

  pub flow_same_to : (table : Table) → FlowPasses p table → FlowPasses q table
  flow_same_to table h = (flow_passes_at_each_block q table).1 (flow_to table ((flow_passes_at_each_block p table).0 h))
