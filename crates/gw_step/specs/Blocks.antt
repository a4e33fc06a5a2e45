-- What each block does to the active transaction: whether it refuses it, and what entering comes to.
use Rattle.std.specs.Prelude.{ℕ, zero, suc, min, length, ◌+◌, ◌-◌, ◌^◌, ℤ, pos, negsuc, List, [], ◌∷◌, Option, Some, None, Result, Ok, Bool, true}
use Rattle.std.specs.Prelude.{false, not, nat_lt, nat_le, ◌==◌, if◌then◌else◌, int_lt, int_le, unsigned_abs, unwrap_or, is_none, ◌&&◌}
use Rattle.std.specs.Ordering.{int_eq}
use Rattle.std.specs.Option.{option_map_or}
use Rattle.std.specs.List.{find}
use Rattle.gw_object.specs.declared.blocks.Generate.{Generate}
use Rattle.gw_object.specs.declared.blocks.Units.{Units}
use Rattle.gw_object.specs.declared.blocks.Fraction.{Fraction}
use Rattle.gw_object.specs.declared.blocks.Both.{Both}
use Rattle.gw_object.specs.declared.blocks.Comparison.{Comparison}
use Rattle.gw_object.specs.declared.blocks.Comparison.TheVariants.{Equal, NotEqual, Greater, GreaterOrEqual, Less, LessOrEqual}
use Rattle.gw_object.specs.declared.blocks.Test.{Test}
use Rattle.gw_object.specs.declared.blocks.Condition.{Condition}
use Rattle.gw_object.specs.declared.blocks.Condition.TheVariants.{SwitchSet, SwitchReset, FacilityInUse, FacilityNotInUse, StorageFull, StorageEmpty, StorageNotFull, StorageNotEmpty}
use Rattle.gw_object.specs.declared.blocks.Mode.{Mode}
use Rattle.gw_object.specs.declared.blocks.Mode.TheVariants.{Set, Add, Subtract}
use Rattle.gw_object.specs.declared.blocks.Assign.{Assign}
use Rattle.gw_object.specs.declared.blocks.Call.{Call}
use Rattle.gw_object.specs.declared.blocks.Loop.{Loop}
use Rattle.gw_object.specs.declared.blocks.SwitchAction.{SwitchAction}
use Rattle.gw_object.specs.declared.blocks.SwitchAction.TheVariants as switches
use Rattle.gw_object.specs.declared.blocks.Logic.{Logic}
use Rattle.gw_object.specs.declared.blocks.Save.{Save}
use Rattle.gw_object.specs.declared.blocks.Split.{Split}
use Rattle.gw_object.specs.declared.blocks.Link.{Link}
use Rattle.gw_object.specs.declared.blocks.Unlink.{Unlink}
use Rattle.gw_object.specs.declared.blocks.Block.{Block}
use Rattle.gw_object.specs.declared.blocks.Block.TheVariants as blocks
use Rattle.gw_object.specs.declared.parts.Parts.{Parts}
use Rattle.gw_rules.specs.Kinds.{block_at}
use Rattle.gw_rules.specs.Exits.{leads_to, goes_or_falls}
use Rattle.gw_rules.specs.Values.{evaluation_of, operands}
use Rattle.gw_num.specs.declared.arithmetic.NumFault.{NumFault}
use Rattle.gw_num.specs.Arithmetic.{sum_of, difference_of}
use Rattle.gw_num.specs.Table.{at}
use Rattle.gw_transactions.specs.declared.Transaction.{Transaction}
use Rattle.gw_transactions.specs.Transactions.{attributes_at, parameter_at, live_count}
use Rattle.gw_entities.specs.declared.storages.Storage.{Storage}
use Rattle.gw_entities.specs.Facility.{is_idle, with_owner, seizure_by, release_by, owns_any}
use Rattle.gw_entities.specs.Storage.{has_room, with_entries as with_units_entered, entry_of, exit_of}
use Rattle.gw_entities.specs.Queue.{with_arrivals, departure_of}
use Rattle.gw_entities.specs.Tabulation.{tabulation_of}
use Rattle.gw_step.specs.declared.ends.End.TheVariants.{Number, Live}
use Rattle.gw_step.specs.declared.placement.Placement.{Placement}
use Rattle.gw_step.specs.declared.placement.Placement.TheVariants.{StaysActive, RestsUntil, JoinsDelayList, JoinsRetryList, RestsAhead, RestsBehind}
use Rattle.gw_step.specs.declared.placement.Placement.TheVariants.{AwaitsSet, JoinsChain, LeavesModel}
use Rattle.gw_step.specs.Outcome.{Outcome, Gives, EndsBy, ◌>>=◌, only_if, case_of, evaluation_outcome}
use Rattle.gw_step.specs.State.{Assembly, State, may_enter, with_streams, delay_list, user_chain}
use Rattle.gw_step.specs.Times.{environment_of, environment_of_next, moment_after, drawn_moment}
use Rattle.gw_step.specs.Changes.{enter_next, enters_and_falls, arrives, copies_made, is_of, assemble_all, come_to, leaves_chain, called_from}
use Rattle.gw_step.specs.Changes.{assign_to, facility, storage, queue, switch, savevalue, table, put_facility, put_storage, put_queue, put_switch}
use Rattle.gw_step.specs.Changes.{put_savevalue, put_table, count_down}
use Rattle.gw_step.specs.Placing.{place_by}

-- REFUSAL

-- an entity answers that who asks has to wait
abbrev pub has_to_wait : {A : Type 0} → Option (Bool × A) → Bool
has_to_wait (Some (true, a)) = false
has_to_wait (Some (false, a)) = true
has_to_wait None = false

-- whether two values compare so
abbrev pub compares : Comparison → ℤ → ℤ → Bool
compares Equal a b = int_eq a b
compares NotEqual a b = not (int_eq a b)
compares Greater a b = int_lt b a
compares GreaterOrEqual a b = int_le b a
compares Less a b = int_lt a b
compares LessOrEqual a b = int_le a b

-- whether the values of a TEST compare as it asks
abbrev pub passes_test : Test → List ℤ → Bool
passes_test test (left ∷ right ∷ values) = compares test.comparison left right
passes_test test values = false

-- no unit of a storage is free
abbrev pub is_full : Storage → Bool
is_full s = nat_le s.capacity s.contents.content

-- nothing is inside of a storage
abbrev pub is_empty : Storage → Bool
is_empty s = s.contents.content == 0

-- whether it is so with the entity of a number
abbrev pub is_so : Condition → ℕ → State → Bool
is_so SwitchSet e s = switch e s
is_so SwitchReset e s = not (switch e s)
is_so FacilityInUse e s = not (is_idle (facility e s))
is_so FacilityNotInUse e s = is_idle (facility e s)
is_so StorageFull e s = is_full (storage e s)
is_so StorageEmpty e s = is_empty (storage e s)
is_so StorageNotFull e s = not (is_full (storage e s))
is_so StorageNotEmpty e s = not (is_empty (storage e s))

-- a TERMINATE, the one block at which the termination count falls
abbrev pub is_terminate : Block → Bool
is_terminate (blocks.Terminate by) = true
is_terminate block = false

-- a block with these operand values refuses the transaction n: a SEIZE of a facility that another owns, an ENTER of
-- units that are within the capacity and not free, and a TEST or a GATE that is false and names no other block
abbrev pub refuses : ℕ → Block → List ℤ → State → Bool
refuses n (blocks.Seize f) values s = has_to_wait (seizure_by n (facility f s))
refuses n (blocks.Enter u) values s = has_to_wait (entry_of u.number (storage u.entity s))
refuses n (blocks.Test test) values s = is_none test.otherwise && not (passes_test test values)
refuses n (blocks.Gate gate) values s = is_none gate.otherwise && not (is_so gate.condition gate.entity s)
refuses n block values s = false

-- where a transaction rests that a block refused
abbrev pub refused_placement : Block → Placement
refused_placement (blocks.Seize f) = JoinsDelayList f
refused_placement (blocks.Enter u) = JoinsDelayList u.entity
refused_placement block = JoinsRetryList

-- ENTERING

-- a transaction goes on to the block of a number, which has to be there
abbrev pub leads : {A : Type 0} → List Block → ℕ → Outcome A → Outcome A
leads bs b outcome = only_if (may_enter (block_at bs b)) outcome

-- the state after an entry, where who entered stays active
abbrev pub stays : State → Outcome (State × Placement)
stays s = Gives (s, StaysActive)

-- the effect of a block that does nothing else: the transaction enters, and is placed so
abbrev pub passes : List Block → ℕ → Transaction → Placement → State → Outcome (State × Placement)
passes bs n t placement s = leads bs (t.next + 1) (Gives (enters_and_falls n t s, placement))

-- the operand value of a block that has one
abbrev pub the_value : List ℤ → ℤ
the_value [] = pos 0
the_value (value ∷ values) = value

-- TIME

-- whether an arrival is still to be scheduled, where so many were
abbrev pub is_owed : Option ℕ → ℕ → Bool
is_owed None scheduled = true
is_owed (Some limit) scheduled = nat_lt scheduled limit

-- so many more transactions, where with them at most 65,536 live, scheduled arrivals included
abbrev pub within_live_limit : {A : Type 0} → ℕ → State → Outcome A → Outcome A
within_live_limit more s outcome = if nat_le (live_count s.transactions + more) 65536 then outcome else EndsBy Live

-- the next arrival of a GENERATE block, b, is scheduled, if one is owed; the interval is evaluated for the coming transaction
abbrev pub next_arrival : Parts → ℕ → Generate → State → Outcome State
next_arrival p b g s =
    if is_owed g.limit (at 0 s.scheduled b)
    then (drawn_moment p (environment_of_next g.priority s) g.interval s.clock s.streams
    >>= λ d. within_live_limit 1 s (Gives (arrives b g.priority d.0 (with_streams d.1 s))))
    else Gives s

-- the effect of GENERATE: the next arrival is scheduled, and the transaction enters with the clock as its mark time
abbrev pub generate : Parts → ℕ → Transaction → Generate → State → Outcome (State × Placement)
generate p n t g s = next_arrival p t.next g s >>= λ after. leads p.blocks (t.next + 1) (stays (enters_and_falls n (record t { mark = s.clock }) after))

-- a transaction rests until a moment; where that is now it stays active
abbrev pub until : ℤ → ℤ → Placement
until clock moment = if int_lt clock moment then RestsUntil moment else StaysActive

-- the effect of ADVANCE: the transaction enters and rests for a time
abbrev pub advance : List Block → ℕ → Transaction → ℤ → State → Outcome (State × Placement)
advance bs n t time s = moment_after s.clock time >>= λ moment. leads bs (t.next + 1) (Gives (enters_and_falls n t s, until s.clock moment))

-- FACILITIES

-- the effect of SEIZE: the transaction enters and owns the facility from now on
abbrev pub seize : List Block → ℕ → Transaction → ℕ → State → Outcome (State × Placement)
seize bs n t f s = leads bs (t.next + 1) (case_of (seizure_by n (facility f s)) >>= λ r. stays (put_facility f r.1 (enters_and_falls n t s)))

-- whether a block is a SEIZE of this facility
abbrev pub is_seize : ℕ → Option Block → Bool
is_seize f (Some (blocks.Seize g)) = g == f
is_seize f other = false

-- the waiter n, which is t, is called, and owns the facility at once in its SEIZE block. Whether a move leads on from there isn't asked
abbrev pub takes_over : List Block → ℕ → ℕ → State → Transaction → State
takes_over bs f n s t = if is_seize f (block_at bs t.next) then put_facility f (with_owner n (facility f s)) (enters_and_falls n t (called_from f n s)) else s

-- hand-over: to the first of these who wait for the facility
abbrev pub hand_over : List Block → ℕ → List ℕ → State → State
hand_over bs f [] s = s
hand_over bs f (n ∷ ns) s = option_map_or (takes_over bs f n s) (attributes_at n s.transactions) s

-- the effect of RELEASE: the transaction, its owner, enters and gives the facility up, and it is handed over
abbrev pub release : List Block → ℕ → Transaction → ℕ → State → Outcome (State × Placement)
release bs n t f s = leads bs (t.next + 1)
    (case_of (release_by n (facility f s)) >>= λ r. stays (hand_over bs f (delay_list f s) (put_facility f r (enters_and_falls n t s))))

-- STORAGES

-- the effect of ENTER: the transaction enters, and units of the storage are taken
abbrev pub enter : List Block → ℕ → Transaction → Units → State → Outcome (State × Placement)
enter bs n t u s = leads bs (t.next + 1) (case_of (entry_of u.number (storage u.entity s)) >>= λ r. stays (put_storage u.entity r.1 (enters_and_falls n t s)))

-- the units of a storage that a block asks for, if it is its ENTER
abbrev pub units_asked : ℕ → Option Block → Option Units
units_asked e (Some (blocks.Enter u)) = if u.entity == e then Some u else None
units_asked e other = None

-- the waiter n, which is t, is called, and enters its ENTER block, where the units that it asks for are free. Whether a move leads on from there isn't asked
abbrev pub enters_if_free : ℕ → Transaction → State → Units → State
enters_if_free n t s u =
    if has_room u.number (storage u.entity s)
    then put_storage u.entity (with_units_entered u.number (storage u.entity s)) (enters_and_falls n t (called_from u.entity n s))
    else s

-- the same, by what its next block asks of the storage
abbrev pub admit_by : List Block → ℕ → ℕ → State → Transaction → State
admit_by bs e n s t = option_map_or (enters_if_free n t s) (units_asked e (block_at bs t.next)) s

-- the walk comes to the waiter n
abbrev pub looked_at : List Block → ℕ → ℕ → State → State
looked_at bs e n s = option_map_or (admit_by bs e n s) (attributes_at n s.transactions) s

-- admission: one walk over those who wait for a storage, in their order
unfoldable pub admission : List Block → ℕ → List ℕ → State → State
admission bs e [] s = s
admission bs e (n ∷ ns) s = admission bs e ns (looked_at bs e n s)

-- the effect of LEAVE: the transaction enters, units of the storage are given back, and waiters are admitted
abbrev pub leave : List Block → ℕ → Transaction → Units → State → Outcome (State × Placement)
leave bs n t u s =
    leads bs (t.next + 1) (case_of (exit_of u.number (storage u.entity s))
    >>= λ r. stays (admission bs u.entity (delay_list u.entity s) (put_storage u.entity r (enters_and_falls n t s))))

-- QUEUES

-- the effect of QUEUE: the transaction enters, and units join the queue, which never refuses
abbrev pub join_queue : List Block → ℕ → Transaction → Units → State → Outcome (State × Placement)
join_queue bs n t u s = leads bs (t.next + 1) (stays (put_queue u.entity (with_arrivals u.number (queue u.entity s)) (enters_and_falls n t s)))

-- the effect of DEPART: the transaction enters, and units depart from the queue
abbrev pub depart : List Block → ℕ → Transaction → Units → State → Outcome (State × Placement)
depart bs n t u s = leads bs (t.next + 1) (case_of (departure_of u.number (queue u.entity s)) >>= λ r. stays (put_queue u.entity r (enters_and_falls n t s)))

-- CONDITIONS

-- where a TEST or a GATE, the block of number b, leads to: to the next block where it is true, else to the other one that it names
abbrev pub led_by : ℕ → Option ℕ → Bool → ℕ
led_by b otherwise true = b + 1
led_by b otherwise false = unwrap_or otherwise (b + 1)

-- TRANSFERS

-- the effect of TRANSFER: the transaction enters and goes to a block
abbrev pub transfer : List Block → ℕ → Transaction → ℕ → State → Outcome (State × Placement)
transfer bs n t target s = leads bs target (stays (enter_next n t target s))

-- where a TRANSFER by fraction, the block of number b, leads to when so many thousandths are drawn
abbrev pub choice_of : ℕ → Fraction → ℤ → ℕ
choice_of b f drawn = if int_lt drawn (pos f.thousandths) then f.target else unwrap_or f.otherwise (b + 1)

-- the effect of TRANSFER BOTH: the transaction enters and stays at its block; both of its next blocks have to be there
abbrev pub both : List Block → ℕ → Transaction → Both → State → Outcome (State × Placement)
both bs n t two s =
    leads bs (leads_to t.next (goes_or_falls two.first)) (leads bs two.second (stays (enter_next n t t.next s)))

-- SUBROUTINES

-- the effect of TRANSFER in subroutine mode: a parameter of the transaction is set to the number of the block, and the
-- transaction enters and goes to the subroutine
abbrev pub call : List Block → ℕ → Transaction → Call → State → Outcome (State × Placement)
call bs n t c s = leads bs c.target (stays (enter_next n t c.target (assign_to n c.parameter (pos t.next) s)))

-- the number of the block after the one whose number a value is; 0, which is no block's, where the value is below 0
abbrev pub block_after : ℤ → ℕ
block_after value = if int_lt value (pos 0) then 0 else unsigned_abs value + 1

-- the effect of TRANSFER in parameter mode: the transaction enters and goes to the block after the one whose number is
-- in a parameter of it, which has to be set
abbrev pub come_back : List Block → ℕ → Transaction → ℕ → State → Outcome (State × Placement)
come_back bs n t q s = case_of (parameter_at n q s.transactions) >>= λ value. transfer bs n t (block_after value) s

-- PARAMETERS

-- a value put where an old one is: it takes its place, or is added to it, or subtracted from it
abbrev pub put_by : Mode → ℤ → ℤ → Result ℤ NumFault
put_by Set old value = Ok value
put_by Add old value = sum_of old value
put_by Subtract old value = difference_of old value

-- the effect of ASSIGN: a parameter of the transaction is set, where it has no value yet that counts as 0, and the transaction enters
abbrev pub assign : List Block → ℕ → Transaction → Assign → ℤ → State → Outcome (State × Placement)
assign bs n t a value s =
    evaluation_outcome (evaluation_of (put_by a.mode (unwrap_or (parameter_at n a.parameter s.transactions) (pos 0)) value)) >>= λ new.
    leads bs (t.next + 1) (stays (enters_and_falls n t (assign_to n a.parameter new s)))

-- where a LOOP, the block of number b, leads to when its parameter has come to this
abbrev pub loop_target : ℕ → ℕ → ℤ → ℕ
loop_target b target left = if int_lt (pos 0) left then target else b + 1

-- the effect of LOOP: a parameter of the transaction, which has to be set, falls by one, and the transaction enters
abbrev pub loop : List Block → ℕ → Transaction → Loop → State → Outcome (State × Placement)
loop bs n t l s =
    case_of (parameter_at n l.parameter s.transactions) >>= λ old.
    evaluation_outcome (evaluation_of (difference_of old (pos 1))) >>= λ left.
    leads bs (loop_target t.next l.target left) (stays (enter_next n t (loop_target t.next l.target left) (assign_to n l.parameter left s)))

-- the effect of MARK: the clock is the transaction's mark time from now on, or the value of a parameter, and the transaction enters
abbrev pub mark : List Block → ℕ → Transaction → Option ℕ → State → Outcome (State × Placement)
mark bs n t None s = leads bs (t.next + 1) (stays (enters_and_falls n (record t { mark = s.clock }) s))
mark bs n t (Some p) s = leads bs (t.next + 1) (stays (enters_and_falls n t (assign_to n p s.clock s)))

-- the effect of PLUS: the transaction enters, and a parameter of it has the value, if one takes it
abbrev pub plus : List Block → ℕ → Transaction → Option ℕ → ℤ → State → Outcome (State × Placement)
plus bs n t None value s = leads bs (t.next + 1) (stays (enters_and_falls n t s))
plus bs n t (Some p) value s = leads bs (t.next + 1) (stays (enters_and_falls n t (assign_to n p value s)))

-- COPIES

-- where a block sends others on, as many as these, it is to a block that has to be there
abbrev pub others_lead : {A : Type 0} → List Block → ℕ → ℕ → Outcome A → Outcome A
others_lead bs others target outcome = if others == 0 then outcome else leads bs target outcome

-- the effect of SPLIT: the transaction enters, and as many copies as the block asks for are made, if so many more may live
abbrev pub split : List Block → ℕ → Transaction → Split → State → Outcome (State × Placement)
split bs n t c s =
    within_live_limit c.copies s (leads bs (t.next + 1) (others_lead bs c.copies (leads_to t.next (goes_or_falls c.target))
    (stays (copies_made c.copies n (record t { current = t.next }) (leads_to t.next (goes_or_falls c.target)) (enters_and_falls n t s)))))

-- ASSEMBLY

-- the assembly of a set at a block, if it has begun
abbrev pub assembly_at : ℕ → ℕ → State → Option Assembly
assembly_at block set s = find (is_of block set) s.lists.assemblies

-- one more has come to an assembly: where it was the last, who waits goes on
abbrev pub joined_by_one : Assembly → State → State
joined_by_one a s = if nat_le a.missing 1 then assemble_all a s else come_to a s

-- the first of its set enters an ASSEMBLE, and waits for so many more
abbrev pub assemble_first : List Block → ℕ → Transaction → ℕ → State → Outcome (State × Placement)
assemble_first bs n t missing s = leads bs (t.next + 1) (Gives (enters_and_falls n t s, AwaitsSet (record { block = t.next; set = t.set; missing = missing })))

-- another of a set enters an ASSEMBLE, where the first waits, and is destroyed; it owns nothing
abbrev pub assemble_other : ℕ → Transaction → Assembly → State → Outcome (State × Placement)
assemble_other n t a s = only_if (not (owns_any n s.entities.facilities)) (Gives (joined_by_one a (enter_next n t t.next s), LeavesModel))

-- one of a set of this size enters an ASSEMBLE: the assembly of its set has begun, or begins now
abbrev pub assemble_in : List Block → ℕ → Transaction → ℕ → Option Assembly → State → Outcome (State × Placement)
assemble_in bs n t size None s = assemble_first bs n t (size - 1) s
assemble_in bs n t size (Some a) s = assemble_other n t a s

-- the effect of ASSEMBLE: where one is the whole set, the transaction passes
abbrev pub assemble : List Block → ℕ → Transaction → ℕ → State → Outcome (State × Placement)
assemble bs n t size s = if nat_le size 1 then leads bs (t.next + 1) (stays (enters_and_falls n t s)) else
    assemble_in bs n t size (assembly_at t.next t.set s) s

-- USER CHAINS

-- the effect of LINK: the transaction enters, and joins a user chain
abbrev pub link : ℕ → Transaction → Link → State → Outcome (State × Placement)
link n t l s = Gives (enter_next n t t.next s, JoinsChain l)

-- the first of these, who are the members of a user chain, c, leaves it for a block, if there is one
abbrev pub first_unlinked : ℕ → ℕ → List ℕ → State → State
first_unlinked c target [] s = s
first_unlinked c target (n ∷ ns) s = option_map_or (λ t. leaves_chain c target n t s) (attributes_at n s.transactions) s

-- so many members leave a user chain, c, for a block, one after the other from the front
unfoldable pub unlink_members : ℕ → ℕ → ℕ → State → State
unlink_members zero c target s = s
unlink_members (suc k) c target s = unlink_members k c target (first_unlinked c target (user_chain c s) s)

-- how many members an UNLINK takes from its user chain: as many as it asks for at most, or all
abbrev pub taken_by : Unlink → State → ℕ
taken_by u s = option_map_or (λ most. min most (length (user_chain u.chain s))) u.most (length (user_chain u.chain s))

-- the effect of UNLINK: the transaction enters, and members of a user chain leave it for a block
abbrev pub unlink : List Block → ℕ → Transaction → Unlink → State → Outcome (State × Placement)
unlink bs n t u s = leads bs (t.next + 1)
    (others_lead bs (taken_by u s) u.target (stays (unlink_members (taken_by u s) u.chain u.target (enters_and_falls n t s))))

-- PRIORITY

-- a priority is a number of 32 bits
abbrev pub is_priority : ℤ → Bool
is_priority (pos n) = nat_lt n (2 ^ 31)
is_priority (negsuc n) = nat_lt n (2 ^ 31)

-- the effect of PRIORITY: the transaction, which has this priority from now on, enters, and goes ahead of its peers on the current events chain, or behind them
abbrev pub set_priority : List Block → ℕ → Transaction → Bool → ℤ → State → Outcome (State × Placement)
set_priority bs n t behind value s =
    if is_priority value
    then leads bs (t.next + 1) (Gives (enters_and_falls n (record t { priority = value }) s, if behind then RestsBehind else RestsAhead))
    else EndsBy Number

-- LOGIC SWITCHES, SAVEVALUES AND TABLES

-- what becomes of a logic switch
abbrev pub switch_after : SwitchAction → Bool → Bool
switch_after switches.Set on = true
switch_after switches.Reset on = false
switch_after switches.Invert on = not on

-- the effect of LOGIC: the transaction enters, and the logic switch is set, reset or inverted
abbrev pub logic : List Block → ℕ → Transaction → Logic → State → Outcome (State × Placement)
logic bs n t l s = leads bs (t.next + 1) (stays (put_switch l.switch (switch_after l.action (switch l.switch s)) (enters_and_falls n t s)))

-- the effect of SAVEVALUE: the transaction enters, and the savevalue has another value
abbrev pub save : List Block → ℕ → Transaction → Save → ℤ → State → Outcome (State × Placement)
save bs n t a value s =
    evaluation_outcome (evaluation_of (put_by a.mode (savevalue a.savevalue s) value)) >>= λ new.
    leads bs (t.next + 1) (stays (put_savevalue a.savevalue new (enters_and_falls n t s)))

-- the effect of TABULATE: the transaction enters, and the value is entered into the table
abbrev pub tabulate : List Block → ℕ → Transaction → ℕ → ℤ → State → Outcome (State × Placement)
tabulate bs n t e value s =
    evaluation_outcome (evaluation_of (tabulation_of value (table e s))) >>= λ new.
    leads bs (t.next + 1) (stays (put_table e new (enters_and_falls n t s)))

-- THE END OF A TRANSACTION

-- the effect of TERMINATE: the transaction, which owns nothing, enters and is destroyed, and the termination count falls, but not by less than 0
abbrev pub terminate : ℕ → Transaction → ℤ → State → Outcome (State × Placement)
terminate n t by s = if int_lt by (pos 0) then EndsBy Number else
    only_if (not (owns_any n s.entities.facilities)) (Gives (count_down by (enter_next n t t.next s), LeavesModel))

-- THE STEP OF THE ACTIVE TRANSACTION

-- what entering comes to: the active transaction n, which is t, enters its next block, which has these operand values
unfoldable pub effect : Parts → ℕ → Transaction → Block → List ℤ → State → Outcome (State × Placement)
effect p n t (blocks.Generate g) values s = generate p n t g s
effect p n t (blocks.Terminate by) values s = terminate n t (the_value values) s
effect p n t (blocks.Advance time) values s = advance p.blocks n t (the_value values) s
effect p n t (blocks.Seize f) values s = seize p.blocks n t f s
effect p n t (blocks.Release f) values s = release p.blocks n t f s
effect p n t (blocks.Enter u) values s = enter p.blocks n t u s
effect p n t (blocks.Leave u) values s = leave p.blocks n t u s
effect p n t (blocks.Queue u) values s = join_queue p.blocks n t u s
effect p n t (blocks.Depart u) values s = depart p.blocks n t u s
effect p n t (blocks.Assign a) values s = assign p.blocks n t a (the_value values) s
effect p n t (blocks.Test test) values s = transfer p.blocks n t (led_by t.next test.otherwise (passes_test test values)) s
effect p n t (blocks.Gate gate) values s = transfer p.blocks n t (led_by t.next gate.otherwise (is_so gate.condition gate.entity s)) s
effect p n t (blocks.Transfer target) values s = transfer p.blocks n t target s
effect p n t (blocks.TransferByFraction f) values s = transfer p.blocks n t (choice_of t.next f (the_value values)) s
effect p n t (blocks.TransferBoth two) values s = both p.blocks n t two s
effect p n t (blocks.TransferToSubroutine c) values s = call p.blocks n t c s
effect p n t (blocks.TransferByParameter q) values s = come_back p.blocks n t q s
effect p n t (blocks.Loop l) values s = loop p.blocks n t l s
effect p n t (blocks.Split c) values s = split p.blocks n t c s
effect p n t (blocks.Assemble size) values s = assemble p.blocks n t size s
effect p n t (blocks.Link l) values s = link n t l s
effect p n t (blocks.Unlink u) values s = unlink p.blocks n t u s
effect p n t (blocks.Logic l) values s = logic p.blocks n t l s
effect p n t (blocks.Savevalue a) values s = save p.blocks n t a (the_value values) s
effect p n t (blocks.Mark q) values s = mark p.blocks n t q s
effect p n t (blocks.Priority a) values s = set_priority p.blocks n t a.behind (the_value values) s
effect p n t (blocks.Plus a) values s = plus p.blocks n t a.parameter (the_value values) s
effect p n t (blocks.Tabulate e) values s = tabulate p.blocks n t e (the_value values) s
-- who enters a BUFFER goes behind its peers on the current events chain
effect p n t blocks.Buffer values s = passes p.blocks n t RestsBehind s

-- what entering came to, with the transaction n placed
abbrev pub then_placed : ℕ → Outcome (State × Placement) → Outcome State
then_placed n outcome = outcome >>= λ e. Gives (place_by n e.1 e.0)

-- the block refuses the active transaction n, which is t, or is entered by it
abbrev pub meets : Parts → ℕ → Transaction → Block → List ℤ → State → Outcome State
meets p n t block values s =
    if refuses n block values s
    then Gives (place_by n (refused_placement block) s)
    else then_placed n (effect p n t block values s)

-- the active transaction n, which is t, at its next block: the operands are evaluated before it enters, and their draws stand also where it is refused
unfoldable pub act : Parts → ℕ → Transaction → Block → State → Outcome State
act p n t block s = evaluation_outcome (operands p (environment_of n t s) block s.streams) >>= λ read. meets p n t block read.0 (with_streams read.1 s)
