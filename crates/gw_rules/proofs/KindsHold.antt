-- What kinds are where their checks hold.
use Rattle.std.proofs.Common.{◌≡◌, ℕ, zero, suc, ◌<◌, List, [], ◌∷◌, ◌++◌, map, length, Option, Some, None, Bool, true, false, not, nat_lt}
use Rattle.std.proofs.Common.{if◌then◌else◌, refl, sym, ap, subst, ◌∙◌, arith}
use Rattle.std.specs.Prelude.{◌&&◌, is_some, filter_map, option_to_list, IfSome, IsTrue}
use Rattle.std.specs.List.{All, list_all, cons_option}
use Rattle.std.specs.Option.{IsSome, IsSomeAnd}
use Rattle.std.proofs.lemmas.Bool.{and_parts, and_from, ltb-true, lt-ltb}
use Rattle.std.proofs.lemmas.List.Elements.{All-nil, All-cons, All-head, All-tail}
use Rattle.std.proofs.lemmas.List.Folds.{list_all-append}
use Rattle.std.proofs.lemmas.List.Sums.{AllPass-from_list_all, list_all-from_AllPass}
use Rattle.gw_object.specs.declared.fault.Place.{Place}
use Rattle.gw_object.specs.declared.fault.Place.TheVariants as places
use Rattle.gw_object.specs.Entities.{is_chain}
use Rattle.gw_object.specs.declared.code.Instruction.{Instruction}
use Rattle.gw_object.specs.declared.code.Procedure.{Procedure}
use Rattle.gw_object.specs.declared.parts.Entity.{Entity}
use Rattle.gw_object.specs.declared.blocks.Block.{Block}
use Rattle.gw_object.specs.declared.parts.TableState.{TableState}
use Rattle.gw_object.specs.declared.parts.ReturnRow.{ReturnRow}
use Rattle.gw_object.specs.declared.parts.Parts.{Parts}
use Rattle.gw_rules.specs.declared.entities.Named.{Named}
use Rattle.gw_rules.specs.declared.ways.Way.{Way}
use Rattle.gw_rules.specs.declared.ways.Way.TheVariants.{Falls, Goes}
use Rattle.gw_rules.specs.declared.ways.Exit.{Exit}
use Rattle.gw_rules.specs.Checks.{Check, checks_by_number}
use Rattle.gw_rules.specs.Sources.{operand_of, values}
use Rattle.gw_rules.specs.Exits.{leads_to, exits, other_way, ways}
use Rattle.gw_rules.specs.Kinds.{is_none_or, named_entities, named_procedures, entities_of_row, names_no_other_kind, are_there, is_no_other_kind, is_there, takes_no_arguments, is_procedure, is_block, block_at, is_generate, number_of, block_of, named_blocks, has_named_blocks, leads_to_no_generate, stays_inside, is_call_at, return_rows_of, has_return_rows, names_well, has_plain_argument, has_plain_half, entity_checks, naming_checks, exit_checks, constant_checks, return_checks, row_checks, chain_row, chain_checks, block_checks}
use Rattle.gw_rules.specs.Procedures.{entity_in, procedure_in, block_in, draws_nothing, instruction_checks, procedure_checks}
use Rattle.gw_rules.specs.Pass.{chain_and_block_checks, row_and_later_checks, return_and_later_checks, procedure_and_later_checks, kinds_checks}
use Rattle.gw_rules.specs.KindsLaws.{IsEntity, MayBeEntered, TakesNoArguments, EntityHolds, InstructionHolds, ProcedureHolds, ReturnsHold, RowHolds, ChainHolds, BlockHolds, KindsPassAtEachPlace}
use Rattle.gw_rules.proofs.Each.{Hold, at_number, first_and_others, first_with_others, parts_hold, hold_together, each_holds, all_hold, each_has, from_each}
use Rattle.gw_rules.proofs.NamedHold.{if_any, tests_any, one_is, one_passes, each_is, each_passes, is_entity, from_entity, takes_none, from_takes_none, operand_if, passes_if}

-- ENTITIES

-- the entities that are named at a place
module _ (es : List Entity) where
  entities : (ns : List Named) → names_no_other_kind es ns ≡ true → are_there es ns ≡ true → All (IsEntity es) ns
  entities = each_is (is_no_other_kind es) (is_there es) (IsEntity es) (is_entity es)

  from_entities : (ns : List Named) → All (IsEntity es) ns → (names_no_other_kind es ns ≡ true) × (are_there es ns ≡ true)
  from_entities = each_passes (is_no_other_kind es) (is_there es) (IsEntity es) (from_entity es)

entity_from_checks : (p : Parts) (e : ℕ) (entity : Entity) → Hold (entity_checks p e entity) → EntityHolds p entity
entity_from_checks p e entity h =
    let right = first_and_others _ _ _ h in
    let both = and_parts (is_none_or (operand_of entity.kind) (names_well p)) (has_plain_argument entity.kind) right.0 in
    let there = first_and_others _ _ _ right.1 in
    record { operand = operand_if p (operand_of entity.kind) both.0 there.0 (first_and_others _ _ _ there.1).0; argument = both.1 }

checks_from_entity : (p : Parts) (e : ℕ) (entity : Entity) → EntityHolds p entity → Hold (entity_checks p e entity)
checks_from_entity p e entity h =
    let three = passes_if p (operand_of entity.kind) h.operand in
    first_with_others _ _ _ (and_from _ _ three.0 h.argument) (first_with_others _ _ _ three.1 (first_with_others _ _ _ three.2 refl))

-- ROWS

-- return rows that are there
rows_there : (n : ℕ) (rs : List ℕ) → list_all (λ r. nat_lt r n) rs ≡ true → All (λ r. r < n) rs
rows_there n [] h = All-nil (λ r. r < n)
rows_there n (r ∷ rs) h =
    let two = and_parts (nat_lt r n) (list_all (λ r. nat_lt r n) rs) h in
    All-cons (λ r. r < n) r rs (ltb-true r n two.0) (rows_there n rs two.1)

from_rows : (n : ℕ) (rs : List ℕ) → All (λ r. r < n) rs → list_all (λ r. nat_lt r n) rs ≡ true
from_rows n [] h = refl
from_rows n (r ∷ rs) h = and_from _ _ (lt-ltb r n (All-head (λ r. r < n) r rs h)) (from_rows n rs (All-tail (λ r. r < n) r rs h))

row_from_checks : (p : Parts) (place : Place) (row : Option TableState) → Hold (row_checks p place row) → IfSome row (RowHolds p)
row_from_checks p place None h = tt
row_from_checks p place (Some row) h =
    let right = first_and_others _ _ _ h in
    let there = and_parts (are_there p.entities (entities_of_row row)) (has_return_rows p.returns row) (first_and_others _ _ _ right.1).0 in
    record { entities = entities p.entities (entities_of_row row) right.0 there.0; returns = rows_there (length p.returns) (return_rows_of row) there.1 }

checks_from_row : (p : Parts) (place : Place) (row : Option TableState) → IfSome row (RowHolds p) → Hold (row_checks p place row)
checks_from_row p place None h = refl
checks_from_row p place (Some row) h =
    let two = from_entities p.entities (entities_of_row row) h.entities in
    first_with_others _ _ _ two.0 (first_with_others _ _ _ (and_from _ _ two.1 (from_rows (length p.returns) (return_rows_of row) h.returns)) refl)

returns_from_checks : (p : Parts) (r : ℕ) (row : ReturnRow) → Hold (return_checks p r row) → ReturnsHold p row
returns_from_checks p r row h = AllPass-from_list_all (is_call_at p.blocks) row.blocks (first_and_others _ _ _ h).0

checks_from_returns : (p : Parts) (r : ℕ) (row : ReturnRow) → ReturnsHold p row → Hold (return_checks p r row)
checks_from_returns p r row h = first_with_others _ _ _ (list_all-from_AllPass (is_call_at p.blocks) row.blocks h) refl

-- EXITS

-- a block that is there (12, 14) and no GENERATE (13)
enterable : (next : Option Block) → is_some next ≡ true → not (is_generate next) ≡ true → IsSomeAnd next (λ block. is_generate (Some block) ≡ false)
enterable None there enters = absurd (cc)
enterable (Some block) there enters = is_false (is_generate (Some block)) enters
  where
    is_false : (b : Bool) → not b ≡ true → b ≡ false
    is_false true h = absurd (cc)
    is_false false h = refl

from_enterable : (next : Option Block) → IsSomeAnd next (λ block. is_generate (Some block) ≡ false) → (is_some next ≡ true) × (not (is_generate next) ≡ true)
from_enterable None h = absurd h
from_enterable (Some block) h = (refl, ap not h)

module _ (p : Parts) (b : ℕ) where
  abbrev Goes_on : Way → Type 0
  Goes_on way = MayBeEntered p (leads_to b way)

  abbrev Leads : Exit → Type 0
  Leads exit = Goes_on exit.way

  abbrev are_blocks : List ℕ → Bool
  are_blocks targets = list_all (λ target. is_some (block_at p.blocks target)) targets

  -- a way leads to a block that is there: by its number, or as the next one
  way_there : (way : Way) (targets : List ℕ) → are_blocks (cons_option (number_of way) targets) ≡ true → stays_inside p.blocks b way ≡ true
      → (is_some (block_at p.blocks (leads_to b way)) ≡ true) × (are_blocks targets ≡ true)
  way_there Falls targets named inside = (inside, named)
  way_there (Goes target) targets named inside = and_parts _ _ named

  from_way : (way : Way) → is_some (block_at p.blocks (leads_to b way)) ≡ true → stays_inside p.blocks b way ≡ true
  from_way Falls there = there
  from_way (Goes target) there = refl

  -- the tests of ways: that none leads to a GENERATE, and that none falls off
  abbrev no_generate : List Way → Bool
  no_generate ws = list_all (leads_to_no_generate p.blocks b) ws

  abbrev inside : List Way → Bool
  inside ws = list_all (stays_inside p.blocks b) ws

  lead_on : (ws : List Way) → are_blocks (filter_map number_of ws) ≡ true → no_generate ws ≡ true → inside ws ≡ true → All Goes_on ws
  lead_on [] n g i = All-nil Goes_on
  lead_on (w ∷ ws) n g i =
      let g' = and_parts (leads_to_no_generate p.blocks b w) (no_generate ws) g in
      let i' = and_parts (stays_inside p.blocks b w) (inside ws) i in
      let there = way_there w (filter_map number_of ws) n i'.0 in
      All-cons Goes_on w ws (enterable (block_at p.blocks (leads_to b w)) there.0 g'.0) (lead_on ws there.1 g'.1 i'.1)

  from_leads : (ws : List Way) → All Goes_on ws → (no_generate ws ≡ true) × (inside ws ≡ true)
  from_leads [] h = (refl, refl)
  from_leads (w ∷ ws) h =
      let one = from_enterable (block_at p.blocks (leads_to b w)) (All-head Goes_on w ws h) in
      let others = from_leads ws (All-tail Goes_on w ws h) in
      (and_from _ _ one.1 others.0, and_from _ _ (from_way w one.0) others.1)

  -- the ways of exits and other ways, apart
  apart : (es : List Exit) (others : List Way) → All Goes_on (map (λ (exit : Exit). exit.way) es ++ others) → All Leads es × All Goes_on others
  apart [] others h = (All-nil Leads, h)
  apart (e ∷ es) others h =
      let rest = apart es others (All-tail Goes_on e.way (map (λ (exit : Exit). exit.way) es ++ others) h) in
      (All-cons Leads e es (All-head Goes_on e.way (map (λ (exit : Exit). exit.way) es ++ others) h) rest.0, rest.1)

  together : (es : List Exit) (others : List Way) → All Leads es → All Goes_on others → All Goes_on (map (λ (exit : Exit). exit.way) es ++ others)
  together [] others h k = k
  together (e ∷ es) others h k =
      All-cons Goes_on e.way (map (λ (exit : Exit). exit.way) es ++ others) (All-head Leads e es h) (together es others (All-tail Leads e es h) k)

-- PROCEDURES

instruction_from_checks : (p : Parts) (n locals k : ℕ) (i : Instruction) → Hold (instruction_checks p n locals k i) → InstructionHolds p locals i
instruction_from_checks p n locals k i h =
    let right = first_and_others _ _ _ h in
    let rights = and_parts (is_none_or (entity_in i) (is_no_other_kind p.entities)) (draws_nothing p.entities i) right.0 in
    let there = first_and_others _ _ _ right.1 in
    let theres = and_parts (is_none_or (entity_in i) (is_there p.entities)) (is_none_or (procedure_in i) (is_procedure p.procedures)) there.0 in
    let block = first_and_others _ _ _ there.1 in record {
      entity = one_is (is_no_other_kind p.entities) (is_there p.entities) (IsEntity p.entities) (is_entity p.entities) (entity_in i) rights.0 theres.0;
      called = if_any (is_procedure p.procedures) (λ q. q < length p.procedures) (λ q. ltb-true q (length p.procedures)) (procedure_in i) theres.1;
      block = if_any (is_block p.blocks) (λ b. IsSome (block_at p.blocks b)) (λ b h. h) (block_in i) block.0;
      draws = rights.1;
      numbers = (first_and_others _ _ _ block.1).0;
    }

checks_from_instruction : (p : Parts) (n locals k : ℕ) (i : Instruction) → InstructionHolds p locals i → Hold (instruction_checks p n locals k i)
checks_from_instruction p n locals k i h =
    let entity = one_passes (is_no_other_kind p.entities) (is_there p.entities) (IsEntity p.entities) (from_entity p.entities) (entity_in i) h.entity in
    let called = tests_any (is_procedure p.procedures) (λ q. q < length p.procedures) (λ q. lt-ltb q (length p.procedures)) (procedure_in i) h.called in
    let block = tests_any (is_block p.blocks) (λ b. IsSome (block_at p.blocks b)) (λ b h. h) (block_in i) h.block in
    first_with_others _ _ _ (and_from _ _ entity.0 h.draws)
    (first_with_others _ _ _ (and_from _ _ entity.1 called) (first_with_others _ _ _ block (first_with_others _ _ _ h.numbers refl)))

procedure_from_checks : (p : Parts) (n : ℕ) (pr : Procedure) → Hold (procedure_checks p n pr) → ProcedureHolds p pr
procedure_from_checks p n pr h = each_has (instruction_checks p n pr.locals) (InstructionHolds p pr.locals) (instruction_from_checks p n pr.locals) 0 pr.code h

checks_from_procedure : (p : Parts) (n : ℕ) (pr : Procedure) → ProcedureHolds p pr → Hold (procedure_checks p n pr)
checks_from_procedure p n pr h = from_each (instruction_checks p n pr.locals) (InstructionHolds p pr.locals) (checks_from_instruction p n pr.locals) 0 pr.code h

-- THE BLOCK

targets_there : (p : Parts) (block : Block) → has_named_blocks p.blocks block ≡ true → list_all (is_block p.blocks) (filter_map number_of (ways block)) ≡ true
targets_there p block h =
    (and_parts _ _ (sym (list_all-append (is_block p.blocks) (filter_map number_of (ways block)) (filter_map block_of (values block))) ∙ h)).0

-- the entities and the procedures that a block names, and half the range of its time
abbrev NamingHolds : Parts → Block → Type 0
NamingHolds p block = All (IsEntity p.entities) (named_entities block) × All (TakesNoArguments p) (named_procedures block) × IsTrue (has_plain_half block)

naming_from_checks : (p : Parts) (b : ℕ) (block : Block) → Hold (naming_checks p b block) → NamingHolds p block
naming_from_checks p b block h =
    let right = first_and_others _ _ _ h in
    let three = and_parts (names_no_other_kind p.entities (named_entities block)
    && list_all (takes_no_arguments p.procedures) (named_procedures block)) (has_plain_half block) right.0 in
    let rights = and_parts (names_no_other_kind p.entities (named_entities block))
    (list_all (takes_no_arguments p.procedures) (named_procedures block)) three.0 in
    let theres = and_parts (are_there p.entities (named_entities block)) (list_all (is_procedure p.procedures) (named_procedures block))
    (first_and_others _ _ _ right.1).0 in (
      entities p.entities (named_entities block) rights.0 theres.0,
      each_is (takes_no_arguments p.procedures) (is_procedure p.procedures) (TakesNoArguments p) (takes_none p) (named_procedures block) rights.1 theres.1,
      three.1,
    )

checks_from_naming : (p : Parts) (b : ℕ) (block : Block) → NamingHolds p block → Hold (naming_checks p b block)
checks_from_naming p b block h =
    let named = from_entities p.entities (named_entities block) h.0 in
    let called = each_passes (takes_no_arguments p.procedures) (is_procedure p.procedures) (TakesNoArguments p) (from_takes_none p)
    (named_procedures block) h.1 in
    first_with_others _ _ _ (and_from _ _ (and_from _ _ named.0 called.0) h.2) (first_with_others _ _ _ (and_from _ _ named.1 called.1) refl)

block_from_checks : (p : Parts) (b : ℕ) (block : Block) → Hold (block_checks p b block) → BlockHolds p b block
block_from_checks p b block h =
    let two = parts_hold (naming_checks p b block) (exit_checks p.blocks b block ++ constant_checks b block) h in
    let three = parts_hold (exit_checks p.blocks b block) (constant_checks b block) two.1 in
    let naming = naming_from_checks p b block two.0 in
    let named = first_and_others _ _ _ three.0 in
    let enters = first_and_others _ _ _ named.1 in
    let on = apart p b (exits block) (option_to_list (other_way block))
    (lead_on p b (ways block) (targets_there p block named.0) enters.0 (first_and_others _ _ _ enters.1).0) in
    record {
      entities = naming.0;
      procedures = naming.1;
      half = naming.2;
      blocks = AllPass-from_list_all (is_block p.blocks) (named_blocks block) named.0;
      exits = on.0;
      others = on.1;
      constants = (first_and_others _ _ _ three.1).0;
    }

checks_from_block : (p : Parts) (b : ℕ) (block : Block) → BlockHolds p b block → Hold (block_checks p b block)
checks_from_block p b block h =
    let on = from_leads p b (ways block) (together p b (exits block) (option_to_list (other_way block)) h.exits h.others) in
    hold_together (naming_checks p b block) (exit_checks p.blocks b block ++ constant_checks b block)
    (checks_from_naming p b block (h.entities, h.procedures, h.half))
    (hold_together (exit_checks p.blocks b block) (constant_checks b block)
    (first_with_others _ _ _ (list_all-from_AllPass (is_block p.blocks) (named_blocks block) h.blocks)
    (first_with_others _ _ _ on.0 (first_with_others _ _ _ on.1 refl)))
    (first_with_others _ _ _ h.constants refl))

-- THE OBJECT

-- at a block, by its number
block_holds : (p : Parts) (b : ℕ) (block : Block) → Hold (checks_by_number (block_checks p) 1 p.blocks) → block_at p.blocks b ≡ Some block
    → BlockHolds p b block
block_holds p zero block h is = absurd (cc)
block_holds p (suc i) block h is =
    block_from_checks p (suc i) block (at_number (block_checks p) block (omega arith) (each_holds (block_checks p) 1 p.blocks i block h is))

-- the checks of an entity's row, where it is a user chain
chain_from_checks : (p : Parts) (e : ℕ) (entity : Entity) → Hold (chain_checks p e entity) → ChainHolds p e entity
chain_from_checks p e entity h is =
    row_from_checks p (places.Chain e) (chain_row p e) (subst (λ so. Hold (if so then row_checks p (places.Chain e) (chain_row p e) else [])) is h)

checks_from_chain : (p : Parts) (e : ℕ) (entity : Entity) → ChainHolds p e entity → Hold (chain_checks p e entity)
checks_from_chain p e entity h = by_test (is_chain entity.kind) h
  where
    by_test : (so : Bool) → (IsTrue so → IfSome (chain_row p e) (RowHolds p)) → Hold (if so then row_checks p (places.Chain e) (chain_row p e) else [])
    by_test true h = checks_from_row p (places.Chain e) (chain_row p e) (h refl)
    by_test false h = refl

pub kinds_pass_at_each_place : KindsPassAtEachPlace
unfolding kinds_checks
kinds_pass_at_each_place p =
    let of_rows : ℕ → Option TableState → List Check = λ b. row_checks p (places.Block b) in (
      λ h.
          let six = parts_hold (checks_by_number (entity_checks p) 0 p.entities) (procedure_and_later_checks p) h in
          let five = parts_hold (checks_by_number (procedure_checks p) 0 p.procedures) (return_and_later_checks p) six.1 in
          let four = parts_hold (checks_by_number (return_checks p) 0 p.returns) (row_and_later_checks p) five.1 in
          let three = parts_hold (checks_by_number of_rows 1 p.states) (chain_and_block_checks p) four.1 in
          let two = parts_hold (checks_by_number (chain_checks p) 0 p.entities) (checks_by_number (block_checks p) 1 p.blocks) three.1 in (
            each_has (entity_checks p) (EntityHolds p) (entity_from_checks p) 0 p.entities six.0,
            each_has (procedure_checks p) (ProcedureHolds p) (procedure_from_checks p) 0 p.procedures five.0,
            each_has (return_checks p) (ReturnsHold p) (returns_from_checks p) 0 p.returns four.0,
            each_has of_rows (λ row. IfSome row (RowHolds p)) (λ b. row_from_checks p (places.Block b)) 1 p.states three.0,
            λ e entity is. chain_from_checks p e entity
                (at_number (chain_checks p) entity (omega arith) (each_holds (chain_checks p) 0 p.entities e entity two.0 is)),
            λ b block is. block_holds p b block two.1 is,
          ),
      λ h.
          hold_together (checks_by_number (entity_checks p) 0 p.entities) (procedure_and_later_checks p)
          (from_each (entity_checks p) (EntityHolds p) (checks_from_entity p) 0 p.entities h.0)
          (hold_together (checks_by_number (procedure_checks p) 0 p.procedures) (return_and_later_checks p)
          (from_each (procedure_checks p) (ProcedureHolds p) (checks_from_procedure p) 0 p.procedures h.1)
          (hold_together (checks_by_number (return_checks p) 0 p.returns) (row_and_later_checks p)
          (from_each (return_checks p) (ReturnsHold p) (checks_from_returns p) 0 p.returns h.2)
          (hold_together (checks_by_number of_rows 1 p.states) (chain_and_block_checks p)
          (from_each of_rows (λ row. IfSome row (RowHolds p)) (λ b. checks_from_row p (places.Block b)) 1 p.states h.3)
          (hold_together (checks_by_number (chain_checks p) 0 p.entities) (checks_by_number (block_checks p) 1 p.blocks)
          (all_hold (chain_checks p) 0 p.entities
          (λ i entity is. at_number (chain_checks p) entity (omega arith) (checks_from_chain p i entity (h.4 i entity is))))
          (all_hold (block_checks p) 1 p.blocks
          (λ i block is. at_number (block_checks p) block (omega arith) (checks_from_block p (suc i) block (h.5 (suc i) block is)))))))),
    )
