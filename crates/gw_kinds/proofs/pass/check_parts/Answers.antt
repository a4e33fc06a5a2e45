use Rattle.std.proofs.Common.{◌≡◌, List, None, Result, Err}
use Rattle.std.proofs.lemmas.Result.{err_from_is_err_and}
use Rattle.gw_object.specs.declared.fault.Fault.{Fault}
use Rattle.gw_object.specs.declared.fault.Place.TheVariants as places
use Rattle.gw_object.specs.declared.parts.Parts.{Parts}
use Rattle.gw_rules.specs.Checks.{Check, Finds, first_broken, checks_by_number}
use Rattle.gw_rules.specs.Kinds.{entity_checks, return_checks, row_checks, chain_checks, block_checks}
use Rattle.gw_rules.specs.Procedures.{procedure_checks}
use Rattle.gw_rules.specs.Pass.{chain_and_block_checks, row_and_later_checks, return_and_later_checks, procedure_and_later_checks, kinds_checks}
use Rattle.gw_rules.proofs.Broken.{stops_first, joined}
use Rattle.gw_kinds.proofs.pass.check_parts.Goals as goal

-- none of these checks is broken
abbrev Hold : List Check → Type 0
Hold checks = first_broken checks ≡ None

module _ (p : Parts) where
  abbrev entities : List Check
  entities = checks_by_number (entity_checks p) 0 p.entities

  abbrev procedures : List Check
  procedures = checks_by_number (procedure_checks p) 0 p.procedures

  abbrev return_rows : List Check
  return_rows = checks_by_number (return_checks p) 0 p.returns

  abbrev block_rows : List Check
  block_rows = checks_by_number (λ b. row_checks p (places.Block b)) 1 p.states

  abbrev chain_rows : List Check
  chain_rows = checks_by_number (chain_checks p) 0 p.entities

  abbrev blocks : List Check
  blocks = checks_by_number (block_checks p) 1 p.blocks

  -- what is found behind checks that hold is found by all
  module _ (r : Result (Unit {0}) Fault) where
    behind_entities : Hold entities → Finds r (procedure_and_later_checks p) → Finds r (kinds_checks p)
    unfolding kinds_checks
    behind_entities e found = joined r entities (procedure_and_later_checks p) e found

    behind_procedures : Hold entities → Hold procedures → Finds r (return_and_later_checks p) → Finds r (kinds_checks p)
    behind_procedures e q found = behind_entities e (joined r procedures (return_and_later_checks p) q found)

    behind_returns : Hold entities → Hold procedures → Hold return_rows → Finds r (row_and_later_checks p) → Finds r (kinds_checks p)
    behind_returns e q s found = behind_procedures e q (joined r return_rows (row_and_later_checks p) s found)

    behind_rows : Hold entities → Hold procedures → Hold return_rows → Hold block_rows → Finds r (chain_and_block_checks p) → Finds r (kinds_checks p)
    behind_rows e q s b found = behind_returns e q s (joined r block_rows (chain_and_block_checks p) b found)

    behind_chains : Hold entities → Hold procedures → Hold return_rows → Hold block_rows → Hold chain_rows → Finds r blocks → Finds r (kinds_checks p)
    behind_chains e q s b d found = behind_rows e q s b (joined r chain_rows blocks d found)

pub returns-in_err-check_each : goal.returns-in_err-check_each
unfolding kinds_checks
returns-in_err-check_each c =
    let p = c.args.parts.now in
    let is = err_from_is_err_and c.from_residual.result c.from_residual.ensures.1 in
    rw (is.1, is.2) (stops_first (entities p) (procedure_and_later_checks p) _ (rw c.as_slice.ensures at c.in_err-check_each.ensures))

pub returns-in_err-check_each-2 : goal.returns-in_err-check_each-2
returns-in_err-check_each-2 c =
    let p = c.args.parts.now in
    let is = err_from_is_err_and c.from_residual-in_err-check_each-2.result c.from_residual-in_err-check_each-2.ensures.1 in
    rw (is.1, is.2) (behind_entities p (Err _) (rw c.as_slice.ensures at c.in_ok-check_each.ensures)
    (stops_first (procedures p) (return_and_later_checks p) _ (rw c.as_slice-2.ensures at c.in_err-check_each-2.ensures)))

pub returns-in_err-check_each-3 : goal.returns-in_err-check_each-3
returns-in_err-check_each-3 c =
    let p = c.args.parts.now in
    let is = err_from_is_err_and c.from_residual-in_err-check_each-3.result c.from_residual-in_err-check_each-3.ensures.1 in
    rw (is.1, is.2) (behind_procedures p (Err _) (rw c.as_slice.ensures at c.in_ok-check_each.ensures)
    (rw c.as_slice-2.ensures at c.in_ok-check_each-2.ensures)
    (stops_first (return_rows p) (row_and_later_checks p) _ (rw c.as_slice-3.ensures at c.in_err-check_each-3.ensures)))

pub returns-in_err-check_each-4 : goal.returns-in_err-check_each-4
returns-in_err-check_each-4 c =
    let p = c.args.parts.now in
    let is = err_from_is_err_and c.from_residual-in_err-check_each-4.result c.from_residual-in_err-check_each-4.ensures.1 in
    rw (is.1, is.2) (behind_returns p (Err _) (rw c.as_slice.ensures at c.in_ok-check_each.ensures)
    (rw c.as_slice-2.ensures at c.in_ok-check_each-2.ensures) (rw c.as_slice-3.ensures at c.in_ok-check_each-3.ensures)
    (stops_first (block_rows p) (chain_and_block_checks p) _ (rw c.as_slice-4.ensures at c.in_err-check_each-4.ensures)))

pub returns-in_err-check_each-5 : goal.returns-in_err-check_each-5
returns-in_err-check_each-5 c =
    let p = c.args.parts.now in
    let is = err_from_is_err_and c.from_residual-in_err-check_each-5.result c.from_residual-in_err-check_each-5.ensures.1 in
    rw (is.1, is.2) (behind_rows p (Err _) (rw c.as_slice.ensures at c.in_ok-check_each.ensures)
    (rw c.as_slice-2.ensures at c.in_ok-check_each-2.ensures) (rw c.as_slice-3.ensures at c.in_ok-check_each-3.ensures)
    (rw c.as_slice-4.ensures at c.in_ok-check_each-4.ensures)
    (stops_first (chain_rows p) (blocks p) _ (rw c.as_slice-5.ensures at c.in_err-check_each-5.ensures)))

pub returns : goal.returns
returns c = behind_chains c.args.parts.now c.check_each-6.result (rw c.as_slice.ensures at c.in_ok-check_each.ensures)
    (rw c.as_slice-2.ensures at c.in_ok-check_each-2.ensures) (rw c.as_slice-3.ensures at c.in_ok-check_each-3.ensures)
    (rw c.as_slice-4.ensures at c.in_ok-check_each-4.ensures) (rw c.as_slice-5.ensures at c.in_ok-check_each-5.ensures)
    (rw c.as_slice-6.ensures at c.check_each-6.ensures)
