use Rattle.std.proofs.Common.{◌≡◌, ℕ, map, [], ◌∷◌, ◌++◌, Some, true, false, ap}
use Rattle.std.proofs.lemmas.Result.{err_from_is_err_and}
use Rattle.std.proofs.lemmas.List.{map-append}
use Rattle.gw_object.specs.declared.blocks.Block.{Block}
use Rattle.gw_object.specs.declared.parts.Parts.{Parts}
use Rattle.gw_rules.specs.Kinds.{is_generate}
use Rattle.gw_rules.proofs.Broken.{stops_first, joined}
use Rattle.gw_rules.specs.FlowCodes as codes
use Rattle.gw_rules.specs.Rows.{nothing_known}
use Rattle.gw_rules.specs.Blocks.{rule, value_rules, rules_without_row}
use Rattle.gw_rules.specs.Flow.{rule_check}
use Rattle.gw_flow.proofs.rules.check_without_row.Goals as goal

-- the checks of a GENERATE without a row: of its values, and that it has none
of_generate : (p : Parts) (b : ℕ) (block : Block) → is_generate (Some block) ≡ true →
    map (rule_check b) (rules_without_row p block) ≡ map (rule_check b) (value_rules p block nothing_known) ++ rule_check b (rule codes.edge_state false) ∷ []
of_generate p b block is = rw is (map-append (rule_check b) (value_rules p block nothing_known) (rule codes.edge_state false ∷ []))

pub returns-in_err-check_values-in-Generate : goal.returns-in_err-check_values-in-Generate
returns-in_err-check_values-in-Generate c =
    let all = of_generate c.args.parts.now c.args.number c.args.block.now (ap (λ block. is_generate (Some block)) c.in-Generate.is) in
    let p = err_from_is_err_and c.from_residual.result c.from_residual.ensures.1 in
    rw (p.1, p.2) (rw all (stops_first (map (rule_check c.args.number) (value_rules c.args.parts.now c.args.block.now nothing_known)) _ _
    c.in_err-check_values-in-Generate.ensures))

pub returns-in_ok-check_values-in-Generate : goal.returns-in_ok-check_values-in-Generate
returns-in_ok-check_values-in-Generate c =
    let all = of_generate c.args.parts.now c.args.number c.args.block.now (ap (λ block. is_generate (Some block)) c.in-Generate.is) in
    rw all (joined c.check.result (map (rule_check c.args.number) (value_rules c.args.parts.now c.args.block.now nothing_known)) _
    c.in_ok-check_values-in-Generate.ensures c.check.ensures)
