-- The error stops: what a job may come to for which the rules have no case, so that it is stuck.
use Rattle.std.specs.Prelude.{◌≡◌, ℕ, ◌+◌, ◌<◌, ◌≤◌, ℤ, pos, List, [], ◌∷◌, ◌++◌, Some, None, true, false}
use Rattle.gw_object.specs.declared.blocks.Operand.{Operand}
use Rattle.gw_object.specs.declared.blocks.Generate.{Generate}
use Rattle.gw_object.specs.declared.blocks.Units.{Units}
use Rattle.gw_object.specs.declared.blocks.Both.{Both}
use Rattle.gw_object.specs.declared.blocks.Loop.{Loop}
use Rattle.gw_object.specs.declared.blocks.Split.{Split}
use Rattle.gw_object.specs.declared.blocks.Unlink.{Unlink}
use Rattle.gw_object.specs.declared.blocks.Block.{Block}
use Rattle.gw_object.specs.declared.blocks.Block.TheVariants as blocks
use Rattle.gw_rules.specs.Sources.{evaluation_operands}
use Rattle.gw_rules.specs.Values.{Value, operand_value, operands}
use Rattle.gw_rules.specs.Kinds.{block_at, is_generate}
use Rattle.gw_rules.specs.Exits.{leads_to, goes_or_falls}
use Rattle.gw_num.specs.Table.{at}
use Rattle.gw_transactions.specs.declared.Transaction.{Transaction}
use Rattle.gw_transactions.specs.Transactions.{parameter_at, live_count}
use Rattle.gw_entities.specs.Facility.{is_owned_by}
use Rattle.gw_step.specs.Outcome.{Gives}
use Rattle.gw_step.specs.State.{Assembly, State, with_streams}
use Rattle.gw_step.specs.Times.{environment_of, environment_of_next}
use Rattle.gw_step.specs.Changes.{facility, storage, queue}
use Rattle.gw_step.specs.Blocks.{is_owed, refuses, assembly_at, taken_by}
use Rattle.gw_step.specs.Start.{nothing, first_arrivals}
use Rattle.gw_step.specs.Job.{Job, IsStuck, start_of}
use Rattle.gw_stops.specs.Activations.{OneLacksValue}
use Rattle.gw_stops.specs.Attempts.{Attempts, Tries}
use Rattle.gw_stops.specs.Moves.{IsNoTarget, goes_on_to, IsOneOfTwo, ComesToNoEnd}

-- each of these is asked of who tries a block: n, which is t then, in the state u of the attempt

-- FACILITIES

-- RELEASE of a facility that one doesn't own
abbrev pub ReleaseOfAnothersStops : Type 0
ReleaseOfAnothersStops =
    (j : Job) (s u : State) (n f : ℕ) (t : Transaction) → Tries j s u n t (blocks.Release f)
    → is_owned_by n (facility f u) ≡ false → IsStuck j s

-- SEIZE of a facility that one owns already
abbrev pub SeizeOfOnesOwnStops : Type 0
SeizeOfOnesOwnStops =
    (j : Job) (s u : State) (n f : ℕ) (t : Transaction) → Tries j s u n t (blocks.Seize f)
    → is_owned_by n (facility f u) ≡ true → IsStuck j s

-- TERMINATE while one owns a facility; the operand is 0 or more, else the job ends by Number
abbrev pub TerminateWhileOwningStops : Type 0
TerminateWhileOwningStops =
    (j : Job) (s u : State) (n f k : ℕ) (t : Transaction) (by : Operand) (streams : List ℕ)
    → Tries j s u n t (blocks.Terminate by) → operand_value j.parts (environment_of n t u) by u.streams ≡ Value (pos k, streams)
    → is_owned_by n (facility f u) ≡ true → IsStuck j s

-- destruction by an ASSEMBLE, where the first of the set waits, while one owns a facility
abbrev pub AssembleWhileOwningStops : Type 0
AssembleWhileOwningStops =
    (j : Job) (s u : State) (n f size : ℕ) (t : Transaction) (a : Assembly) → Tries j s u n t (blocks.Assemble size)
    → 1 < size → assembly_at t.next t.set u ≡ Some a → is_owned_by n (facility f u) ≡ true → IsStuck j s

-- STORAGES AND QUEUES

-- LEAVE of more units than are inside
abbrev pub LeaveOfTooMuchStops : Type 0
LeaveOfTooMuchStops =
    (j : Job) (s u : State) (n : ℕ) (t : Transaction) (units : Units) → Tries j s u n t (blocks.Leave units)
    → (storage units.entity u).contents.content < units.number → IsStuck j s

-- DEPART of more
abbrev pub DepartOfTooMuchStops : Type 0
DepartOfTooMuchStops =
    (j : Job) (s u : State) (n : ℕ) (t : Transaction) (units : Units) → Tries j s u n t (blocks.Depart units)
    → (queue units.entity u).content < units.number → IsStuck j s

-- ENTER of more units than the storage ever holds
abbrev pub EnterAboveCapacityStops : Type 0
EnterAboveCapacityStops =
    (j : Job) (s u : State) (n : ℕ) (t : Transaction) (units : Units) → Tries j s u n t (blocks.Enter units)
    → (storage units.entity u).capacity < units.number → IsStuck j s

-- MOVES

-- the block that is tried isn't there
abbrev pub MissingBlockStops : Type 0
MissingBlockStops =
    (j : Job) (s u : State) (n : ℕ) (t : Transaction) → Attempts j s u n t → block_at j.parts.blocks t.next ≡ None
    → IsStuck j s

-- a block that isn't refused, with no named end, leads to a block that isn't there or to a GENERATE
abbrev pub MoveToNoTargetStops : Type 0
MoveToNoTargetStops =
    (j : Job) (s u : State) (n b : ℕ) (t : Transaction) (block : Block) (values : List ℤ) (streams : List ℕ)
    → Tries j s u n t block → operands j.parts (environment_of n t u) block u.streams ≡ Value (values, streams)
    → refuses n block values (with_streams streams u) ≡ false → ComesToNoEnd j.parts n t block values (with_streams streams u)
    → goes_on_to n t block values (with_streams streams u) ≡ Some b → IsNoTarget j.parts.blocks b → IsStuck j s

-- a TRANSFER BOTH leads there by one of its two, at once where it is entered
abbrev pub ChoiceOfNoTargetStops : Type 0
ChoiceOfNoTargetStops =
    (j : Job) (s u : State) (n b : ℕ) (t : Transaction) (two : Both) → Tries j s u n t (blocks.TransferBoth two)
    → IsOneOfTwo t.next two b → IsNoTarget j.parts.blocks b → IsStuck j s

-- SPLIT sends copies there
abbrev pub CopiesToNoTargetStop : Type 0
CopiesToNoTargetStop =
    (j : Job) (s u : State) (n : ℕ) (t : Transaction) (c : Split) → Tries j s u n t (blocks.Split c) → 0 < c.copies
    → live_count u.transactions + c.copies ≤ 65536 → IsNoTarget j.parts.blocks (leads_to t.next (goes_or_falls c.target))
    → IsStuck j s

-- UNLINK sends members there
abbrev pub MembersToNoTargetStop : Type 0
MembersToNoTargetStop =
    (j : Job) (s u : State) (n : ℕ) (t : Transaction) (taken : Unlink) → Tries j s u n t (blocks.Unlink taken)
    → 0 < taken_by taken u → IsNoTarget j.parts.blocks taken.target → IsStuck j s

-- PARAMETERS THAT AREN'T SET

-- an operand has no value, and each before it has one
abbrev pub OperandWithoutValueStops : Type 0
OperandWithoutValueStops =
    (j : Job) (s u : State) (n : ℕ) (t : Transaction) (block : Block) → Tries j s u n t block
    → is_generate (Some block) ≡ false
    → OneLacksValue j.parts (environment_of n t u) (evaluation_operands j.parts.entities block) u.streams → IsStuck j s

-- LOOP by a parameter that isn't set
abbrev pub LoopByUnsetStops : Type 0
LoopByUnsetStops =
    (j : Job) (s u : State) (n : ℕ) (t : Transaction) (l : Loop) → Tries j s u n t (blocks.Loop l)
    → parameter_at n l.parameter u.transactions ≡ None → IsStuck j s

-- TRANSFER in parameter mode by one
abbrev pub ReturnByUnsetStops : Type 0
ReturnByUnsetStops =
    (j : Job) (s u : State) (n q : ℕ) (t : Transaction) → Tries j s u n t (blocks.TransferByParameter q)
    → parameter_at n q u.transactions ≡ None → IsStuck j s

-- the interval of a GENERATE has no value that owes an arrival
abbrev pub IntervalWithoutValueStops : Type 0
IntervalWithoutValueStops =
    (j : Job) (s u : State) (n : ℕ) (t : Transaction) (g : Generate) → Tries j s u n t (blocks.Generate g)
    → is_owed g.limit (at 0 u.scheduled t.next) ≡ true
    → OneLacksValue j.parts (environment_of_next g.priority u) (g.interval.mean ∷ g.interval.half ∷ []) u.streams
    → IsStuck j s

-- where the time of the first arrival of a GENERATE has no value, and those before it have their arrivals, there is no start
abbrev pub ArrivalWithoutValueHasNoStart : Type 0
ArrivalWithoutValueHasNoStart =
    (j : Job) (before after : List Block) (g : Generate) (s : State) → j.parts.blocks ≡ before ++ blocks.Generate g ∷ after
    → first_arrivals j.parts 1 before (nothing j.parts j.count j.streams) ≡ Gives s
    → g.first ≡ None → OneLacksValue j.parts (environment_of_next g.priority s) (g.interval.mean ∷ g.interval.half ∷ []) s.streams → start_of j ≡ None
