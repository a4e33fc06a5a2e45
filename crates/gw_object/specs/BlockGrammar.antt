-- The grammar of blocks: which operands have a spelling, which bytes spell a block, and with which word it begins in a model text.
use Rattle.std.specs.Prelude.{ℕ, ◌<◌, ◌^◌, FitsSigned, Bool, true, false, not, IsTrue, ◌==◌, List, [], ◌∷◌, Option, IfSome, codes, nat_lt}
use Rattle.std.specs.Int.{w16, w32, w64}
use Rattle.gw_object.specs.Limits.{most_parameters, most_streams}
use Rattle.gw_object.specs.declared.blocks.Attribute.{Attribute as OwnAttribute}
use Rattle.gw_object.specs.declared.blocks.Attribute.TheVariants.{Clock, AbsoluteClock, Priority, TransitTime, TransactionNumber, TerminationCount}
use Rattle.gw_object.specs.declared.blocks.EntityAttribute.{EntityAttribute}
use Rattle.gw_object.specs.declared.blocks.EntityAttribute.TheVariants.{FacilityOwned, StorageContent, StorageRemaining, QueueContent, SavevalueValue, SwitchSetting, ChainMembers, VariableValue, BooleanValue, FunctionValue, BlockEntries, BlockCount}
use Rattle.gw_object.specs.declared.blocks.Numbered.{Numbered}
use Rattle.gw_object.specs.declared.blocks.Operand.{Operand}
use Rattle.gw_object.specs.declared.blocks.Operand.TheVariants.{Constant, Parameter, Attribute, OfEntity, Random, Procedure}
use Rattle.gw_object.specs.declared.blocks.Spread.{Spread}
use Rattle.gw_object.specs.declared.blocks.Generate.{Generate as GenerateOperands}
use Rattle.gw_object.specs.declared.blocks.Block.{Block}
use Rattle.gw_object.specs.declared.blocks.Units.{Units}
use Rattle.gw_object.specs.declared.blocks.Fraction.{Fraction}
use Rattle.gw_object.specs.declared.blocks.Both.{Both}
use Rattle.gw_object.specs.declared.blocks.Mode.{Mode}
use Rattle.gw_object.specs.declared.blocks.Mode.TheVariants.{Set, Add, Subtract}
use Rattle.gw_object.specs.declared.blocks.Assign.{Assign as AssignOperands}
use Rattle.gw_object.specs.declared.blocks.Comparison.{Comparison}
use Rattle.gw_object.specs.declared.blocks.Comparison.TheVariants.{Equal, NotEqual, Greater, GreaterOrEqual, Less, LessOrEqual}
use Rattle.gw_object.specs.declared.blocks.Test.{Test as TestOperands}
use Rattle.gw_object.specs.declared.blocks.Condition.{Condition}
use Rattle.gw_object.specs.declared.blocks.Condition.TheVariants.{SwitchSet, SwitchReset, FacilityInUse, FacilityNotInUse, StorageFull, StorageEmpty, StorageNotFull, StorageNotEmpty}
use Rattle.gw_object.specs.declared.blocks.Gate.{Gate as GateOperands}
use Rattle.gw_object.specs.declared.blocks.Loop.{Loop as LoopOperands}
use Rattle.gw_object.specs.declared.blocks.Call.{Call}
use Rattle.gw_object.specs.declared.blocks.Split.{Split as SplitOperands}
use Rattle.gw_object.specs.declared.blocks.LinkOrder.{LinkOrder}
use Rattle.gw_object.specs.declared.blocks.LinkOrder.TheVariants.{Fifo, Lifo}
use Rattle.gw_object.specs.declared.blocks.Link.{Link as LinkOperands}
use Rattle.gw_object.specs.declared.blocks.Unlink.{Unlink as UnlinkOperands}
use Rattle.gw_object.specs.declared.blocks.SwitchAction.{SwitchAction}
use Rattle.gw_object.specs.declared.blocks.SwitchAction.TheVariants.{Set as SetSwitch, Reset as ResetSwitch, Invert as InvertSwitch}
use Rattle.gw_object.specs.declared.blocks.Logic.{Logic as LogicOperands}
use Rattle.gw_object.specs.declared.blocks.Save.{Save}
use Rattle.gw_object.specs.declared.blocks.Priority.{Priority as PriorityOperands}
use Rattle.gw_object.specs.declared.blocks.Plus.{Plus as PlusOperands}
use Rattle.gw_object.specs.declared.blocks.Block.TheVariants as blocks
use Rattle.gw_fields.specs.Fields.{Read, Field, byte, number, signed_number, flag, nothing, as_type, both, field_that_fits, number_between, key_above}
use Rattle.gw_fields.specs.Fields.{optional, Form, behind, by_tag, one_of}

-- ---- numbers

-- an entity's number
abbrev pub entity_number : Field ℕ
entity_number = number w16

-- a block's number
abbrev pub block_number : Field ℕ
block_number = number w16

-- a procedure's number
abbrev pub procedure_number : Field ℕ
procedure_number = number w16

-- a parameter's number
abbrev pub parameter_number : Field ℕ
parameter_number = number_between 1 most_parameters byte

-- a parameter's number that is above the one before it, if there is one
abbrev pub parameter_above : Option ℕ → Field ℕ
parameter_above before = key_above nat_lt before parameter_number

-- a stream's number
abbrev pub stream_number : Field ℕ
stream_number = number_between 1 most_streams byte

-- ---- operands

-- the byte that stands for an attribute of the clock, the termination count or the transaction
abbrev pub attribute_byte : OwnAttribute → ℕ
attribute_byte Clock = 0
attribute_byte AbsoluteClock = 1
attribute_byte Priority = 2
attribute_byte TransitTime = 3
attribute_byte TransactionNumber = 4
attribute_byte TerminationCount = 5

-- these attributes
abbrev pub attributes : List OwnAttribute
attributes = Clock ∷ AbsoluteClock ∷ Priority ∷ TransitTime ∷ TransactionNumber ∷ TerminationCount ∷ []

-- one of them
abbrev pub attribute : Field OwnAttribute
attribute = one_of attribute_byte attributes

-- the byte that stands for an attribute of an entity or a block
abbrev pub entity_attribute_byte : EntityAttribute → ℕ
entity_attribute_byte FacilityOwned = 0
entity_attribute_byte StorageContent = 1
entity_attribute_byte StorageRemaining = 2
entity_attribute_byte QueueContent = 3
entity_attribute_byte SavevalueValue = 4
entity_attribute_byte SwitchSetting = 5
entity_attribute_byte ChainMembers = 6
entity_attribute_byte VariableValue = 7
entity_attribute_byte BooleanValue = 8
entity_attribute_byte FunctionValue = 9
entity_attribute_byte BlockEntries = 10
entity_attribute_byte BlockCount = 11

-- these attributes
abbrev pub entity_attributes : List EntityAttribute
entity_attributes = FacilityOwned ∷ StorageContent ∷ StorageRemaining ∷ QueueContent ∷ SavevalueValue ∷ SwitchSetting ∷ ChainMembers
    ∷ VariableValue ∷ BooleanValue ∷ FunctionValue ∷ BlockEntries ∷ BlockCount ∷ []

-- the number of the entity or the block fits
abbrev pub NumberedFits : Numbered → Type 0
NumberedFits n = n.number < 2 ^ 16

-- an attribute, and the number of the entity or the block
abbrev pub numbered_field : Field Numbered
numbered_field = field_that_fits NumberedFits (as_type
    (λ (of, n). record { attribute = of; number = n })
    (λ n. (n.attribute, n.number))
    (both (one_of entity_attribute_byte entity_attributes) (number w16)))

-- the value of an operand fits
abbrev pub OperandFits : Operand → Type 0
OperandFits (Constant n) = FitsSigned w64 n
OperandFits (Parameter p) = parameter_number.Fits p
OperandFits (Attribute a) = Unit {0}
OperandFits (OfEntity n) = NumberedFits n
OperandFits (Random s) = stream_number.Fits s
OperandFits (Procedure q) = procedure_number.Fits q

-- the tag, and the value behind it
abbrev pub operand_spelling : Operand → List ℕ
operand_spelling (Constant n) = 0 ∷ (signed_number w64).spell n
operand_spelling (Parameter p) = 1 ∷ parameter_number.spell p
operand_spelling (Attribute a) = 2 ∷ attribute.spell a
operand_spelling (OfEntity n) = 3 ∷ numbered_field.spell n
operand_spelling (Random s) = 4 ∷ stream_number.spell s
operand_spelling (Procedure q) = 5 ∷ procedure_number.spell q

-- the operands
abbrev pub operand_forms : List (Form Operand)
operand_forms =
    behind 0 (λ n. Constant n) (signed_number w64)
    ∷ behind 1 (λ p. Parameter p) parameter_number
    ∷ behind 2 (λ a. Attribute a) attribute
    ∷ behind 3 (λ n. OfEntity n) numbered_field
    ∷ behind 4 (λ s. Random s) stream_number
    ∷ behind 5 (λ q. Procedure q) procedure_number
    ∷ []

-- by its tag; another tag is a fault
unfoldable pub operand_read : List ℕ → Read Operand
operand_read = by_tag operand_forms

-- an operand
abbrev pub operand : Field Operand
operand = record { spell = operand_spelling; read = operand_read; Fits = OperandFits }

-- the mean and half the range fit
pub record SpreadFits (s : Spread) : Type 0 where
  pub mean : OperandFits s.mean
  pub half : OperandFits s.half

-- the mean and half the range
abbrev pub spread : Field Spread
spread = field_that_fits SpreadFits (as_type (λ (mean, half). record { mean = mean; half = half }) (λ s. (s.mean, s.half)) (both operand operand))

-- ---- blocks

-- each operand fits
pub record GenerateFits (g : GenerateOperands) : Type 0 where
  pub interval : SpreadFits g.interval
  pub first : IfSome g.first (FitsSigned w64)
  pub limit : IfSome g.limit (λ n. n < 2 ^ 32)
  pub priority : FitsSigned w32 g.priority

-- the interval, the first arrival, the limit and the priority
abbrev pub generate : Field GenerateOperands
generate = field_that_fits GenerateFits (as_type
    (λ (interval, (first, (limit, priority))). record { interval = interval; first = first; limit = limit; priority = priority })
    (λ g. (g.interval, (g.first, (g.limit, g.priority))))
    (both spread (both (optional (signed_number w64)) (both (optional (number w32)) (signed_number w32)))))

-- the entity's number and the number of units fit
pub record UnitsFit (u : Units) : Type 0 where
  pub entity : entity_number.Fits u.entity
  pub number : u.number < 2 ^ 32

-- the entity's number and the number of units
abbrev pub units : Field Units
units = field_that_fits UnitsFit (as_type (λ (entity, n). record { entity = entity; number = n }) (λ u. (u.entity, u.number)) (both entity_number (number w32)))

-- each operand fits
pub record FractionFits (f : Fraction) : Type 0 where
  pub thousandths : f.thousandths < 2 ^ 16
  pub otherwise : IfSome f.otherwise block_number.Fits
  pub target : block_number.Fits f.target

-- the thousandths, the block for the others, and the target
abbrev pub fraction : Field Fraction
fraction = field_that_fits FractionFits (as_type
    (λ (thousandths, (otherwise, target)). record { thousandths = thousandths; otherwise = otherwise; target = target })
    (λ f. (f.thousandths, (f.otherwise, f.target)))
    (both (number w16) (both (optional block_number) block_number)))

-- each operand fits
pub record BothFits (t : Both) : Type 0 where
  pub first : IfSome t.first block_number.Fits
  pub second : block_number.Fits t.second

-- the two blocks
abbrev pub choice : Field Both
choice = field_that_fits BothFits (as_type
    (λ (first, second). record { first = first; second = second })
    (λ t. (t.first, t.second))
    (both (optional block_number) block_number))

-- the byte that stands for a mode
abbrev pub mode_byte : Mode → ℕ
mode_byte Set = 0
mode_byte Add = 1
mode_byte Subtract = 2

-- the modes
abbrev pub modes : List Mode
modes = Set ∷ Add ∷ Subtract ∷ []

-- a mode
abbrev pub mode : Field Mode
mode = one_of mode_byte modes

-- each operand fits
pub record AssignFits (a : AssignOperands) : Type 0 where
  pub parameter : parameter_number.Fits a.parameter
  pub value : OperandFits a.value

-- the parameter's number, the mode and the value
abbrev pub assign : Field AssignOperands
assign = field_that_fits AssignFits (as_type
    (λ (parameter, (how, value)). record { parameter = parameter; mode = how; value = value })
    (λ a. (a.parameter, (a.mode, a.value)))
    (both parameter_number (both mode operand)))

-- the byte that stands for how two values are compared
abbrev pub comparison_byte : Comparison → ℕ
comparison_byte Equal = 0
comparison_byte NotEqual = 1
comparison_byte Greater = 2
comparison_byte GreaterOrEqual = 3
comparison_byte Less = 4
comparison_byte LessOrEqual = 5

-- how two values may be compared
abbrev pub comparisons : List Comparison
comparisons = Equal ∷ NotEqual ∷ Greater ∷ GreaterOrEqual ∷ Less ∷ LessOrEqual ∷ []

-- each operand fits
pub record TestFits (t : TestOperands) : Type 0 where
  pub left : OperandFits t.left
  pub right : OperandFits t.right
  pub otherwise : IfSome t.otherwise block_number.Fits

-- how they are compared, the two values, and the block for those for whom it is false
abbrev pub test_operands : Field TestOperands
test_operands = field_that_fits TestFits (as_type
    (λ (comparison, (left, (right, otherwise))). record { comparison = comparison; left = left; right = right; otherwise = otherwise })
    (λ t. (t.comparison, (t.left, (t.right, t.otherwise))))
    (both (one_of comparison_byte comparisons) (both operand (both operand (optional block_number)))))

-- the byte that stands for what is asked of an entity
abbrev pub condition_byte : Condition → ℕ
condition_byte SwitchSet = 0
condition_byte SwitchReset = 1
condition_byte FacilityInUse = 2
condition_byte FacilityNotInUse = 3
condition_byte StorageFull = 4
condition_byte StorageEmpty = 5
condition_byte StorageNotFull = 6
condition_byte StorageNotEmpty = 7

-- what may be asked of an entity
abbrev pub conditions : List Condition
conditions = SwitchSet ∷ SwitchReset ∷ FacilityInUse ∷ FacilityNotInUse ∷ StorageFull ∷ StorageEmpty ∷ StorageNotFull ∷ StorageNotEmpty ∷ []

-- each operand fits
pub record GateFits (g : GateOperands) : Type 0 where
  pub entity : entity_number.Fits g.entity
  pub otherwise : IfSome g.otherwise block_number.Fits

-- what is asked, the entity's number, and the block for those for whom it isn't so
abbrev pub gate : Field GateOperands
gate = field_that_fits GateFits (as_type
    (λ (condition, (entity, otherwise)). record { condition = condition; entity = entity; otherwise = otherwise })
    (λ g. (g.condition, (g.entity, g.otherwise)))
    (both (one_of condition_byte conditions) (both entity_number (optional block_number))))

-- each operand fits
pub record CallFits (c : Call) : Type 0 where
  pub target : block_number.Fits c.target
  pub parameter : parameter_number.Fits c.parameter

-- the target and the parameter's number
abbrev pub call : Field Call
call = field_that_fits CallFits
    (as_type (λ (target, parameter). record { target = target; parameter = parameter }) (λ c. (c.target, c.parameter)) (both block_number parameter_number))

-- each operand fits
pub record LoopFits (l : LoopOperands) : Type 0 where
  pub parameter : parameter_number.Fits l.parameter
  pub target : block_number.Fits l.target

-- the parameter's number and the target
abbrev pub countdown : Field LoopOperands
countdown = field_that_fits LoopFits
    (as_type (λ (parameter, target). record { parameter = parameter; target = target }) (λ l. (l.parameter, l.target)) (both parameter_number block_number))

-- each operand fits
pub record SplitFits (s : SplitOperands) : Type 0 where
  pub copies : s.copies < 2 ^ 16
  pub target : IfSome s.target block_number.Fits

-- the number of copies and their target
abbrev pub split : Field SplitOperands
split = field_that_fits SplitFits
    (as_type (λ (copies, target). record { copies = copies; target = target }) (λ s. (s.copies, s.target)) (both (number w16) (optional block_number)))

-- how many transactions an assembly waits for in all
abbrev pub set_size : Field ℕ
set_size = number w16

-- the byte that stands for the end of a user chain at which it is joined
abbrev pub order_byte : LinkOrder → ℕ
order_byte Fifo = 0
order_byte Lifo = 1

-- the two ends
abbrev pub orders : List LinkOrder
orders = Fifo ∷ Lifo ∷ []

-- the user chain's number fits
abbrev pub LinkFits : LinkOperands → Type 0
LinkFits l = entity_number.Fits l.chain

-- the user chain's number, and the end at which it is joined
abbrev pub link : Field LinkOperands
link = field_that_fits LinkFits
    (as_type (λ (chain, order). record { chain = chain; order = order }) (λ l. (l.chain, l.order)) (both entity_number (one_of order_byte orders)))

-- each operand fits
pub record UnlinkFits (u : UnlinkOperands) : Type 0 where
  pub chain : entity_number.Fits u.chain
  pub target : block_number.Fits u.target
  pub most : IfSome u.most (λ n. n < 2 ^ 32)

-- the user chain's number, the block to which its members go, and how many are taken at most
abbrev pub unlink : Field UnlinkOperands
unlink = field_that_fits UnlinkFits (as_type
    (λ (chain, (target, most)). record { chain = chain; target = target; most = most })
    (λ u. (u.chain, (u.target, u.most)))
    (both entity_number (both block_number (optional (number w32)))))

-- the byte that stands for what is done with a switch
abbrev pub action_byte : SwitchAction → ℕ
action_byte SetSwitch = 0
action_byte ResetSwitch = 1
action_byte InvertSwitch = 2

-- what may be done with a switch
abbrev pub actions : List SwitchAction
actions = SetSwitch ∷ ResetSwitch ∷ InvertSwitch ∷ []

-- the switch's number fits
abbrev pub LogicFits : LogicOperands → Type 0
LogicFits l = entity_number.Fits l.switch

-- what is done, and the switch's number
abbrev pub logic : Field LogicOperands
logic = field_that_fits LogicFits
    (as_type (λ (action, switch). record { action = action; switch = switch }) (λ l. (l.action, l.switch)) (both (one_of action_byte actions) entity_number))

-- each operand fits
pub record SaveFits (s : Save) : Type 0 where
  pub savevalue : entity_number.Fits s.savevalue
  pub value : OperandFits s.value

-- the savevalue's number, the mode and the value
abbrev pub save : Field Save
save = field_that_fits SaveFits (as_type
    (λ (savevalue, (how, value)). record { savevalue = savevalue; mode = how; value = value })
    (λ s. (s.savevalue, (s.mode, s.value)))
    (both entity_number (both mode operand)))

-- the new priority fits
abbrev pub PriorityFits : PriorityOperands → Type 0
PriorityFits p = OperandFits p.value

-- the new priority, and whether the transaction goes behind its peers
abbrev pub priority : Field PriorityOperands
priority = field_that_fits PriorityFits
    (as_type (λ (value, behind_peers). record { value = value; behind = behind_peers }) (λ p. (p.value, p.behind)) (both operand flag))

-- each operand fits
pub record PlusFits (a : PlusOperands) : Type 0 where
  pub value : OperandFits a.value
  pub parameter : IfSome a.parameter parameter_number.Fits

-- what is evaluated, and the parameter that takes it
abbrev pub plus : Field PlusOperands
plus = field_that_fits PlusFits
    (as_type (λ (value, parameter). record { value = value; parameter = parameter }) (λ a. (a.value, a.parameter)) (both operand (optional parameter_number)))

-- the operands of a block fit, if it has operands
abbrev pub BlockFits : Block → Type 0
BlockFits (blocks.Generate g) = GenerateFits g
BlockFits (blocks.Terminate decrement) = OperandFits decrement
BlockFits (blocks.Advance time) = SpreadFits time
BlockFits (blocks.Seize facility) = entity_number.Fits facility
BlockFits (blocks.Release facility) = entity_number.Fits facility
BlockFits (blocks.Enter u) = UnitsFit u
BlockFits (blocks.Leave u) = UnitsFit u
BlockFits (blocks.Queue u) = UnitsFit u
BlockFits (blocks.Depart u) = UnitsFit u
BlockFits (blocks.Assign a) = AssignFits a
BlockFits (blocks.Test t) = TestFits t
BlockFits (blocks.Gate g) = GateFits g
BlockFits (blocks.Transfer target) = block_number.Fits target
BlockFits (blocks.TransferByFraction f) = FractionFits f
BlockFits (blocks.TransferBoth t) = BothFits t
BlockFits (blocks.TransferToSubroutine c) = CallFits c
BlockFits (blocks.TransferByParameter parameter) = parameter_number.Fits parameter
BlockFits (blocks.Loop l) = LoopFits l
BlockFits (blocks.Split s) = SplitFits s
BlockFits (blocks.Assemble size) = set_size.Fits size
BlockFits (blocks.Link l) = LinkFits l
BlockFits (blocks.Unlink u) = UnlinkFits u
BlockFits (blocks.Logic l) = LogicFits l
BlockFits (blocks.Savevalue s) = SaveFits s
BlockFits (blocks.Mark parameter) = IfSome parameter parameter_number.Fits
BlockFits (blocks.Priority p) = PriorityFits p
BlockFits (blocks.Plus a) = PlusFits a
BlockFits (blocks.Tabulate table) = entity_number.Fits table
BlockFits block = Unit {0}

-- the tag, and the operands behind it, if there are any
abbrev pub block_spelling : Block → List ℕ
block_spelling (blocks.Generate g) = 1 ∷ generate.spell g
block_spelling (blocks.Terminate decrement) = 2 ∷ operand.spell decrement
block_spelling (blocks.Advance time) = 3 ∷ spread.spell time
block_spelling (blocks.Seize facility) = 4 ∷ entity_number.spell facility
block_spelling (blocks.Release facility) = 5 ∷ entity_number.spell facility
block_spelling (blocks.Enter u) = 6 ∷ units.spell u
block_spelling (blocks.Leave u) = 7 ∷ units.spell u
block_spelling (blocks.Queue u) = 8 ∷ units.spell u
block_spelling (blocks.Depart u) = 9 ∷ units.spell u
block_spelling (blocks.Assign a) = 10 ∷ assign.spell a
block_spelling (blocks.Test t) = 11 ∷ test_operands.spell t
block_spelling (blocks.Gate g) = 12 ∷ gate.spell g
block_spelling (blocks.Transfer target) = 13 ∷ block_number.spell target
block_spelling (blocks.TransferByFraction f) = 14 ∷ fraction.spell f
block_spelling (blocks.TransferBoth t) = 29 ∷ choice.spell t
block_spelling (blocks.TransferToSubroutine c) = 15 ∷ call.spell c
block_spelling (blocks.TransferByParameter parameter) = 16 ∷ parameter_number.spell parameter
block_spelling (blocks.Loop l) = 17 ∷ countdown.spell l
block_spelling (blocks.Split s) = 18 ∷ split.spell s
block_spelling (blocks.Assemble size) = 19 ∷ set_size.spell size
block_spelling (blocks.Link l) = 20 ∷ link.spell l
block_spelling (blocks.Unlink u) = 21 ∷ unlink.spell u
block_spelling (blocks.Logic l) = 22 ∷ logic.spell l
block_spelling (blocks.Savevalue s) = 23 ∷ save.spell s
block_spelling (blocks.Mark parameter) = 24 ∷ (optional parameter_number).spell parameter
block_spelling (blocks.Priority p) = 25 ∷ priority.spell p
block_spelling (blocks.Plus a) = 27 ∷ plus.spell a
block_spelling (blocks.Tabulate table) = 28 ∷ entity_number.spell table
block_spelling blocks.Buffer = 26 ∷ []

-- what has nothing behind its tag
abbrev pub tag_form : {A : Type 0} → ℕ → A → Form A
tag_form tag one = behind tag (λ _. one) nothing

-- the blocks of version 1: those with operands, and then those without
abbrev pub block_forms : List (Form Block)
block_forms =
    behind 1 (λ g. blocks.Generate g) generate
    ∷ behind 2 (λ decrement. blocks.Terminate decrement) operand
    ∷ behind 3 (λ time. blocks.Advance time) spread
    ∷ behind 4 (λ facility. blocks.Seize facility) entity_number
    ∷ behind 5 (λ facility. blocks.Release facility) entity_number
    ∷ behind 6 (λ u. blocks.Enter u) units
    ∷ behind 7 (λ u. blocks.Leave u) units
    ∷ behind 8 (λ u. blocks.Queue u) units
    ∷ behind 9 (λ u. blocks.Depart u) units
    ∷ behind 10 (λ a. blocks.Assign a) assign
    ∷ behind 11 (λ t. blocks.Test t) test_operands
    ∷ behind 12 (λ g. blocks.Gate g) gate
    ∷ behind 13 (λ target. blocks.Transfer target) block_number
    ∷ behind 14 (λ f. blocks.TransferByFraction f) fraction
    ∷ behind 15 (λ c. blocks.TransferToSubroutine c) call
    ∷ behind 16 (λ parameter. blocks.TransferByParameter parameter) parameter_number
    ∷ behind 17 (λ l. blocks.Loop l) countdown
    ∷ behind 18 (λ s. blocks.Split s) split
    ∷ behind 19 (λ size. blocks.Assemble size) set_size
    ∷ behind 20 (λ l. blocks.Link l) link
    ∷ behind 21 (λ u. blocks.Unlink u) unlink
    ∷ behind 22 (λ l. blocks.Logic l) logic
    ∷ behind 23 (λ s. blocks.Savevalue s) save
    ∷ behind 24 (λ parameter. blocks.Mark parameter) (optional parameter_number)
    ∷ behind 25 (λ p. blocks.Priority p) priority
    ∷ behind 27 (λ a. blocks.Plus a) plus
    ∷ behind 28 (λ table. blocks.Tabulate table) entity_number
    ∷ tag_form 26 blocks.Buffer
    ∷ []

-- whether a version has the blocks with two next blocks: the first hasn't
abbrev pub has_choices : ℕ → Bool
has_choices version = not (version == 1)

-- the version has this block
abbrev pub IsOfVersion : ℕ → Block → Type 0
IsOfVersion version (blocks.TransferBoth t) = IsTrue (has_choices version)
IsOfVersion version block = Unit {0}

-- the blocks of a version: where it has them, TRANSFER in both mode is one
abbrev pub forms_where : Bool → List (Form Block)
forms_where false = block_forms
forms_where true = behind 29 (λ t. blocks.TransferBoth t) choice ∷ block_forms

-- by its tag; another tag, also one that the version doesn't have, is a fault
unfoldable pub block_read : ℕ → List ℕ → Read Block
block_read version = by_tag (forms_where (has_choices version))

-- a block of a version
abbrev pub block : ℕ → Field Block
block version = record { spell = block_spelling; read = block_read version; Fits = λ b. IsOfVersion version b × BlockFits b }

-- ---- words

-- the word of a block in a model text
abbrev pub block_word : Block → List ℕ
block_word (blocks.Generate g) = codes "GENERATE"
block_word (blocks.Terminate by) = codes "TERMINATE"
block_word (blocks.Advance time) = codes "ADVANCE"
block_word (blocks.Seize facility) = codes "SEIZE"
block_word (blocks.Release facility) = codes "RELEASE"
block_word (blocks.Enter u) = codes "ENTER"
block_word (blocks.Leave u) = codes "LEAVE"
block_word (blocks.Queue u) = codes "QUEUE"
block_word (blocks.Depart u) = codes "DEPART"
block_word (blocks.Assign a) = codes "ASSIGN"
block_word (blocks.Test t) = codes "TEST"
block_word (blocks.Gate g) = codes "GATE"
block_word (blocks.Transfer target) = codes "TRANSFER"
block_word (blocks.TransferByFraction f) = codes "TRANSFER"
block_word (blocks.TransferBoth t) = codes "TRANSFER"
block_word (blocks.TransferToSubroutine c) = codes "TRANSFER"
block_word (blocks.TransferByParameter parameter) = codes "TRANSFER"
block_word (blocks.Loop l) = codes "LOOP"
block_word (blocks.Split s) = codes "SPLIT"
block_word (blocks.Assemble size) = codes "ASSEMBLE"
block_word (blocks.Link l) = codes "LINK"
block_word (blocks.Unlink u) = codes "UNLINK"
block_word (blocks.Priority p) = codes "PRIORITY"
block_word (blocks.Logic l) = codes "LOGIC"
block_word (blocks.Savevalue s) = codes "SAVEVALUE"
block_word (blocks.Mark parameter) = codes "MARK"
block_word (blocks.Plus a) = codes "PLUS"
block_word (blocks.Tabulate table) = codes "TABULATE"
block_word blocks.Buffer = codes "BUFFER"
