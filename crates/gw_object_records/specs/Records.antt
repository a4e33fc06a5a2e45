-- The record of each block statement: what the object has for it.
use Rattle.std.specs.Prelude.{ℕ, List, [], ◌∷◌, Option, Some, None, option_map, option_and_then}
use Rattle.gw_object.specs.declared.blocks.Block.{Block}
use Rattle.gw_object.specs.declared.blocks.Block.TheVariants as blocks
use Rattle.gw_object.specs.declared.blocks.Operand.{Operand}
use Rattle.gw_object.specs.declared.blocks.Spread.{Spread}
use Rattle.gw_object.specs.declared.blocks.Units.{Units}
use Rattle.gw_object.specs.declared.blocks.Comparison.{Comparison}
use Rattle.gw_object.specs.declared.blocks.Comparison.TheVariants as comparisons
use Rattle.gw_object.specs.declared.blocks.Condition.{Condition}
use Rattle.gw_object.specs.declared.blocks.Condition.TheVariants as conditions
use Rattle.gw_object.specs.declared.blocks.SwitchAction.{SwitchAction}
use Rattle.gw_object.specs.declared.blocks.SwitchAction.TheVariants as actions
use Rattle.gw_rules.specs.declared.entities.EntityKind.{EntityKind}
use Rattle.gw_rules.specs.declared.entities.EntityKind.TheVariants as kinds
use Rattle.gw_rules.specs.Kinds.{needed_by}
use Rattle.gw_text_tokens.specs.declared.words.Word.{Word}
use Rattle.gw_text_tokens.specs.declared.words.Word.TheVariants as words
use Rattle.gw_text_statements.specs.declared.model.Operand.{Operand as Text}
use Rattle.gw_text_statements.specs.declared.model.Operand.TheVariants as texts
use Rattle.gw_text_statements.specs.declared.model.Modifier.{Modifier}
use Rattle.gw_text_statements.specs.declared.model.Modifier.TheVariants as modifiers
use Rattle.gw_text_statements.specs.declared.model.Test.{Test}
use Rattle.gw_text_statements.specs.declared.model.Test.TheVariants as tests
use Rattle.gw_text_statements.specs.declared.model.Gate.{Gate}
use Rattle.gw_text_statements.specs.declared.model.Gate.TheVariants as gates
use Rattle.gw_text_statements.specs.declared.model.Switching.{Switching}
use Rattle.gw_text_statements.specs.declared.model.Switching.TheVariants as switchings
use Rattle.gw_text.specs.declared.model.Statement.{Statement}
use Rattle.gw_compile.specs.Numbers.{Numbers}
use Rattle.gw_object_records.specs.declared.blocks.Reading.{Reading}
use Rattle.gw_object_records.specs.Operands.{value_in, procedure_at, entity_in, block_in, optional_block_in, priority_in, count_in, optional_whole_in}
use Rattle.gw_object_records.specs.Operands.{optional_count_in, parameter_in, optional_parameter_in, mode_in, order_in, is_written}

-- WHAT IS MADE OF PARTS

-- what is made of two parts, if both are there
abbrev pub of_two : {A B C : Type 0} → (A → B → C) → Option A → Option B → Option C
of_two make a b = option_and_then (λ x. option_map (make x) b) a

-- and of three
abbrev pub of_three : {A B C D : Type 0} → (A → B → C → D) → Option A → Option B → Option C → Option D
of_three make a b c = option_and_then (λ x. of_two (make x) b c) a

-- OPERATORS

-- how the two values of a TEST are compared
abbrev pub comparison_of : Test → Comparison
comparison_of tests.Equal = comparisons.Equal
comparison_of tests.NotEqual = comparisons.NotEqual
comparison_of tests.Greater = comparisons.Greater
comparison_of tests.GreaterOrEqual = comparisons.GreaterOrEqual
comparison_of tests.Less = comparisons.Less
comparison_of tests.LessOrEqual = comparisons.LessOrEqual

-- what a GATE asks
abbrev pub condition_of : Gate → Condition
condition_of gates.Set = conditions.SwitchSet
condition_of gates.Reset = conditions.SwitchReset
condition_of gates.InUse = conditions.FacilityInUse
condition_of gates.NotInUse = conditions.FacilityNotInUse
condition_of gates.Full = conditions.StorageFull
condition_of gates.Empty = conditions.StorageEmpty
condition_of gates.NotFull = conditions.StorageNotFull
condition_of gates.NotEmpty = conditions.StorageNotEmpty

-- and of what
abbrev pub asked_of : Gate → EntityKind
asked_of gate = needed_by (condition_of gate)

-- what a LOGIC block does
abbrev pub action_of : Switching → SwitchAction
action_of switchings.Set = actions.Set
action_of switchings.Reset = actions.Reset
action_of switchings.Invert = actions.Invert

-- RECORDS

-- what is made by what operands are read by: by the numbers of names, and by the procedures that operands become
abbrev pub by_reading : {N A : Type 0} → (N → Numbers) → Reading N → (Numbers → List (Option ℕ) → A) → A
by_reading numbers reading make = make (numbers reading.names.now) reading.procedures.now

-- GENERATE, with this interval
abbrev pub generate_of : Option Spread → Text → Text → Text → Option Block
generate_of interval first limit priority =
    option_and_then (λ i. of_three (λ f l p. blocks.Generate (record { interval = i; first = f; limit = l; priority = p }))
    (optional_whole_in first) (optional_count_in limit) (priority_in priority))
    interval

module _ (n : Numbers) where
  -- units of an entity of this kind, 1 where no number is written
  abbrev pub units_in : EntityKind → Text → Text → Option Units
  units_in kind entity number = of_two (λ e k. record { entity = e; number = k }) (entity_in n kind entity) (count_in 4294967295 1 number)

  -- GATE
  abbrev pub gate_of : Gate → Text → Text → Option Block
  gate_of gate entity otherwise =
      of_two (λ e o. blocks.Gate (record { condition = condition_of gate; entity = e; otherwise = o }))
      (entity_in n (asked_of gate) entity) (optional_block_in n otherwise)

  -- TRANSFER by a fraction
  abbrev pub by_fraction : ℕ → Text → Text → Option Block
  by_fraction k otherwise to =
      of_two (λ o t. blocks.TransferByFraction (record { thousandths = k; otherwise = o; target = t })) (optional_block_in n otherwise) (block_in n to)

  -- TRANSFER BOTH
  abbrev pub both_of : Text → Text → Option Block
  both_of first second = of_two (λ f s. blocks.TransferBoth (record { first = f; second = s })) (optional_block_in n first) (block_in n second)

  -- TRANSFER to a subroutine
  abbrev pub call_of : Text → Text → Option Block
  call_of to x = of_two (λ t p. blocks.TransferToSubroutine (record { target = t; parameter = p })) (block_in n to) (parameter_in n x)

  -- TRANSFER with two operands: to a block, or back from a subroutine
  abbrev pub transfer_of_two : Text → Text → Option Block
  transfer_of_two texts.Missing to = option_map blocks.Transfer (block_in n to)
  transfer_of_two (texts.Name form) x = option_map blocks.TransferByParameter (parameter_in n x)
  transfer_of_two form operand = None

  -- and with three: by a fraction, to one of two blocks, or to a subroutine
  abbrev pub transfer_of_three : Text → Text → Text → Option Block
  transfer_of_three (texts.Fraction k) otherwise to = by_fraction k otherwise to
  transfer_of_three texts.Both first second = both_of first second
  transfer_of_three (texts.Name form) to x = call_of to x
  transfer_of_three form first second = None

  -- LOOP
  abbrev pub loop_of : Text → Text → Option Block
  loop_of x to = of_two (λ p t. blocks.Loop (record { parameter = p; target = t })) (parameter_in n x) (block_in n to)

  -- SPLIT
  abbrev pub split_of : Text → Text → Option Block
  split_of copies to = of_two (λ k t. blocks.Split (record { copies = k; target = t })) (count_in 65535 0 copies) (optional_block_in n to)

  -- LINK
  abbrev pub link_of : Text → Text → Option Block
  link_of chain order = option_map (λ e. blocks.Link (record { chain = e; order = order_in order })) (entity_in n kinds.Chain chain)

  -- UNLINK
  abbrev pub unlink_of : Text → Text → Text → Option Block
  unlink_of chain to most =
      of_three (λ e t k. blocks.Unlink (record { chain = e; target = t; most = k })) (entity_in n kinds.Chain chain) (block_in n to) (optional_count_in most)

  -- LOGIC
  abbrev pub logic_of : Switching → Text → Option Block
  logic_of switching e = option_map (λ switch. blocks.Logic (record { action = action_of switching; switch = switch })) (entity_in n kinds.Switch e)

-- where the operands that are expressions become these procedures
module _ (n : Numbers) (procedures : List (Option ℕ)) where
  -- the value of the operand at a position
  abbrev pub value_at : ℕ → Text → Option Operand
  value_at k operand = value_in n (procedure_at procedures k) operand

  -- a time of the first two operands, its mean and half its range
  abbrev pub time_in : Text → Text → Option Spread
  time_in mean half = of_two (λ m h. record { mean = m; half = h }) (value_at 0 mean) (value_at 1 half)

  -- TEST
  abbrev pub test_of : Test → Text → Text → Text → Option Block
  test_of test left right otherwise =
      of_three (λ l r o. blocks.Test (record { comparison = comparison_of test; left = l; right = r; otherwise = o }))
      (value_at 0 left) (value_at 1 right) (optional_block_in n otherwise)

  -- ASSIGN
  abbrev pub assign_of : Option Modifier → Text → Text → Option Block
  assign_of modifier x value =
      of_two (λ p v. blocks.Assign (record { parameter = p; mode = mode_in modifier; value = v })) (parameter_in n x) (value_at 1 value)

  -- SAVEVALUE
  abbrev pub save_of : Option Modifier → Text → Text → Option Block
  save_of modifier x value =
      of_two (λ e v. blocks.Savevalue (record { savevalue = e; mode = mode_in modifier; value = v })) (entity_in n kinds.Savevalue x) (value_at 1 value)

  -- PRIORITY
  abbrev pub priority_of : Text → Text → Option Block
  priority_of value behind = option_map (λ v. blocks.Priority (record { value = v; behind = is_written behind })) (value_at 0 value)

  -- PLUS
  abbrev pub plus_of : Text → Text → Option Block
  plus_of value x = of_two (λ v p. blocks.Plus (record { value = v; parameter = p })) (value_at 0 value) (optional_parameter_in n x)

  -- the record of a block statement of this word, with this modifier and these operands
  abbrev pub block_of : Word → Option Modifier → List Text → Option Block
  block_of words.Generate m (mean ∷ half ∷ first ∷ limit ∷ priority ∷ []) = generate_of (time_in mean half) first limit priority
  block_of words.Terminate m (by ∷ []) = option_map blocks.Terminate (value_at 0 by)
  block_of words.Advance m (mean ∷ half ∷ []) = option_map blocks.Advance (time_in mean half)
  block_of words.Seize m (f ∷ []) = option_map blocks.Seize (entity_in n kinds.Facility f)
  block_of words.Release m (f ∷ []) = option_map blocks.Release (entity_in n kinds.Facility f)
  block_of words.Enter m (s ∷ units ∷ []) = option_map blocks.Enter (units_in n kinds.Storage s units)
  block_of words.Leave m (s ∷ units ∷ []) = option_map blocks.Leave (units_in n kinds.Storage s units)
  block_of words.Queue m (q ∷ units ∷ []) = option_map blocks.Queue (units_in n kinds.Queue q units)
  block_of words.Depart m (q ∷ units ∷ []) = option_map blocks.Depart (units_in n kinds.Queue q units)
  block_of words.Assign m (x ∷ value ∷ []) = assign_of m x value
  block_of words.Savevalue m (x ∷ value ∷ []) = save_of m x value
  block_of words.Test (Some (modifiers.Test test)) (left ∷ right ∷ otherwise ∷ []) = test_of test left right otherwise
  block_of words.Gate (Some (modifiers.Gate gate)) (entity ∷ otherwise ∷ []) = gate_of n gate entity otherwise
  block_of words.Transfer m (form ∷ operand ∷ []) = transfer_of_two n form operand
  block_of words.Transfer m (form ∷ first ∷ second ∷ []) = transfer_of_three n form first second
  block_of words.Loop m (x ∷ to ∷ []) = loop_of n x to
  block_of words.Split m (copies ∷ to ∷ []) = split_of n copies to
  block_of words.Assemble m (partners ∷ []) = option_map blocks.Assemble (count_in 65535 0 partners)
  block_of words.Link m (chain ∷ order ∷ []) = link_of n chain order
  block_of words.Unlink m (chain ∷ to ∷ most ∷ []) = unlink_of n chain to most
  block_of words.Logic (Some (modifiers.Logic switching)) (e ∷ []) = logic_of n switching e
  block_of words.Mark m (x ∷ []) = option_map blocks.Mark (optional_parameter_in n x)
  block_of words.Priority m (value ∷ behind ∷ []) = priority_of value behind
  block_of words.Buffer m [] = Some blocks.Buffer
  block_of words.Plus m (value ∷ x ∷ []) = plus_of value x
  block_of words.Tabulate m (t ∷ []) = option_map blocks.Tabulate (entity_in n kinds.Table t)
  block_of word m operands = None

-- the record of a statement, if it is a block and has the operands of its word, and each name is known
abbrev pub record_of : Numbers → List (Option ℕ) → Statement → Option Block
record_of n procedures s = block_of n procedures s.word s.modifier s.operands.items
