-- What procedures read of an environment that is lent, and which environments an object's procedures may be evaluated in.
use Rattle.std.specs.Prelude.{◌≡◌, ℕ, ◌≤◌, ◌<◌, ◌^◌, pos, ◌≤ℤ◌, [], length, Some, None}
use Rattle.std.specs.Option.{IsSome}
use Rattle.gw_num.specs.Table.{at}
use Rattle.gw_object.specs.declared.blocks.EntityAttribute.{EntityAttribute}
use Rattle.gw_object.specs.declared.blocks.EntityAttribute.TheVariants.{FacilityOwned, StorageContent, StorageRemaining, QueueContent, SavevalueValue, SwitchSetting, ChainMembers, VariableValue, BooleanValue, FunctionValue, BlockEntries, BlockCount}
use Rattle.gw_object.specs.declared.blocks.Numbered.{Numbered}
use Rattle.gw_object.specs.declared.blocks.Operand.{Operand}
use Rattle.gw_object.specs.declared.blocks.Operand.TheVariants as operands
use Rattle.gw_object.specs.declared.code.Procedure.{Procedure}
use Rattle.gw_object.specs.declared.parts.Parts.{Parts}
use Rattle.gw_entities.specs.Attributes.{Readings, attribute_of}
use Rattle.gw_rules.specs.Environment.{Environment}
use Rattle.gw_rules.specs.Code.{procedure_at}
use Rattle.gw_rules.specs.PlusLaws.{HasSet}
use Rattle.gw_plus.specs.declared.env.Env.{Env}

-- what may be read of entities and blocks
abbrev pub readings_of : Env → Readings
readings_of env = record {
  facilities = env.facilities.now.values;
  storages = env.storages.now.values;
  queues = env.queues.now.values;
  savevalues = env.savevalues.now;
  switches = env.switches.now;
  members = λ c. length (at [] env.chains.now.lists c);
  entries = at 0 env.entries.now;
  here = at 0 env.here.now;
}

-- what an environment that is lent says
abbrev pub environment_of : Env → Environment
environment_of env = record {
  clock = env.clock;
  count = env.count;
  number = env.number;
  priority = env.priority;
  mark = env.mark;
  parameters = env.parameters.now.values;
  of_entity = λ (a : Numbered). attribute_of (readings_of env) a.attribute a.number;
}

-- an environment is one of an object: each table has an entry for each entity, no time is below 0, and an i64 holds each count
pub record IsOf (p : Parts) (env : Env) : Type 0 where
  pub facilities : length env.facilities.now.values ≡ length p.entities
  pub storages : length env.storages.now.values ≡ length p.entities
  pub queues : length env.queues.now.values ≡ length p.entities
  pub switches : length env.switches.now ≡ length p.entities
  pub savevalues : length env.savevalues.now ≡ length p.entities
  pub tables : length env.tables.now ≡ length p.entities
  pub chains : length env.chains.now.lists ≡ length p.entities
  pub entries : (b : ℕ) → at 0 env.entries.now b ≤ 2 ^ 62
  pub here : (b : ℕ) → at 0 env.here.now b ≤ 2 ^ 62
  pub number : env.number ≤ 2 ^ 62
  pub clock : pos 0 ≤ℤ env.clock
  pub mark : pos 0 ≤ℤ env.mark

-- a procedure of the object that takes no arguments, and whose parameters the environment has
abbrev pub CanEvaluate : Parts → Environment → ℕ → Type 0
CanEvaluate p env n = (pr : Procedure) × (procedure_at p n ≡ Some pr) × (pr.arguments ≡ 0) × HasSet env pr.needs

-- an i64 holds each attribute of the transaction: its number, and the time since its mark
pub record AttributesFit (env : Env) : Type 0 where
  pub number : env.number ≤ 2 ^ 62
  pub clock : pos 0 ≤ℤ env.clock
  pub mark : pos 0 ≤ℤ env.mark

-- an attribute of an entity or a block may be read: the table has an entry for the entity, or an i64 holds the block's
-- count; nothing is asked where nothing is kept
abbrev pub MayRead : Env → EntityAttribute → ℕ → Type 0
MayRead env FacilityOwned f = f < length env.facilities.now.values
MayRead env StorageContent s = s < length env.storages.now.values
MayRead env StorageRemaining s = s < length env.storages.now.values
MayRead env QueueContent q = q < length env.queues.now.values
MayRead env SavevalueValue x = x < length env.savevalues.now
MayRead env SwitchSetting l = l < length env.switches.now
MayRead env ChainMembers c = c < length env.chains.now.lists
MayRead env VariableValue v = Unit {0}
MayRead env BooleanValue v = Unit {0}
MayRead env FunctionValue f = Unit {0}
MayRead env BlockEntries b = at 0 env.entries.now b ≤ 2 ^ 62
MayRead env BlockCount b = at 0 env.here.now b ≤ 2 ^ 62

-- an operand may be read that is kept: if it is a parameter, that one is set; nothing is kept of what is drawn, or evaluated by a procedure
abbrev pub MayReadKept : Env → Operand → Type 0
MayReadKept env (operands.Constant z) = Unit {0}
MayReadKept env (operands.Parameter p) = IsSome (at None env.parameters.now.values p)
MayReadKept env (operands.Attribute a) = AttributesFit env
MayReadKept env (operands.OfEntity a) = MayRead env a.attribute a.number
MayReadKept env (operands.Random j) = ⊥
MayReadKept env (operands.Procedure q) = ⊥
