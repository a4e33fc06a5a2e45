-- The line of a step: by what was seen of the state before it, and the state after it.
use Rattle.std.specs.Prelude.{ℕ, List, [], ◌++◌, length, codes, slice_get, Option, Some, None, is_some, nat_lt, ◌==◌, if◌then◌else◌}
use Rattle.std.specs.Option.{unwrap_or, option_map_or}
use Rattle.std.specs.Fmt.{decimal, signed_decimal}
use Rattle.gw_object.specs.declared.blocks.Block.{Block}
use Rattle.gw_object.specs.declared.blocks.Block.TheVariants as blocks
use Rattle.gw_object.specs.BlockGrammar.{block_word}
use Rattle.gw_object.specs.declared.parts.Entity.{Entity}
use Rattle.gw_object.specs.declared.parts.Parts.{Parts}
use Rattle.gw_rules.specs.Kinds.{block_at}
use Rattle.gw_transactions.specs.Transactions.{live_count}
use Rattle.gw_step.specs.declared.ends.End.{End}
use Rattle.gw_step.specs.State.{State}
use Rattle.gw_step.specs.Changes.{facility}
use Rattle.gw_scan.specs.declared.sim.Status.TheVariants.{Ended}
use Rattle.gw_scan.specs.Views.{delayed_in}
use Rattle.gw_report.specs.Report.{status_word}
use Rattle.gw_trace.specs.declared.line.Step.{Step}
use Rattle.gw_trace.specs.declared.sight.Choice.{Choice}
use Rattle.gw_trace.specs.declared.sight.Sight.{Sight}
use Rattle.gw_trace.specs.declared.happening.Happening.{Happening}
use Rattle.gw_trace.specs.declared.happening.Happening.TheVariants.{Activation, ClockMove, Entry, Refusal, Stop}
use Rattle.gw_writing.specs.Columns.{padded}
use Rattle.gw_trace.specs.Columns.{number_or_dash}
use Rattle.gw_trace.specs.Happenings.{is_delayed, let_in, what_happened, woken_members}
use Rattle.gw_trace.specs.Sights.{next_block}

-- BLOCKS

-- the entity that a block is about, if it is about one
abbrev pub entity_of : Block → Option ℕ
entity_of (blocks.Seize facility) = Some facility
entity_of (blocks.Release facility) = Some facility
entity_of (blocks.Enter units) = Some units.entity
entity_of (blocks.Leave units) = Some units.entity
entity_of (blocks.Queue units) = Some units.entity
entity_of (blocks.Depart units) = Some units.entity
entity_of (blocks.Gate gate) = Some gate.entity
entity_of (blocks.Link link) = Some link.chain
entity_of (blocks.Unlink unlink) = Some unlink.chain
entity_of (blocks.Logic logic) = Some logic.switch
entity_of (blocks.Savevalue save) = Some save.savevalue
entity_of (blocks.Tabulate table) = Some table
entity_of block = None

-- a blank and the name of an entity
abbrev pub name_text : Parts → ℕ → List ℕ
name_text p e = option_map_or (λ (entity : Entity). codes " " ++ entity.name) (slice_get p.entities e) []

-- the word of a block, and the name of its entity
abbrev pub block_text : Parts → Block → List ℕ
block_text p block = block_word block ++ option_map_or (name_text p) (entity_of block) []

-- the same for the block of a number
abbrev pub block_at_text : Parts → ℕ → List ℕ
block_at_text p b = option_map_or (block_text p) (block_at p.blocks b) (codes "no block")

-- STEPS

-- what is made of a step: of what was seen before it, and of the state after it
abbrev pub of_step : {A : Type 0} → Step → (Sight → State → A) → A
of_step step make = make step.before.now step.sim.now.state

-- WHAT HAPPENED

-- where a transaction rests that entered this block and lives on
abbrev pub resting_place : Option Block → List ℕ
resting_place (Some (blocks.Advance time)) = codes ", waits on the future events chain"
resting_place (Some (blocks.Link link)) = codes ", waits on the user chain"
resting_place (Some (blocks.Assemble size)) = codes ", waits for the rest of its set"
resting_place other = codes ", goes back to the current events chain"

-- what became of who entered a block, unless it is still active
abbrev pub rest_text : Sight → State → Option Block → List ℕ
rest_text before after block =
    if is_some after.lists.active then []
    else if nat_lt (live_count after.transactions) before.live then codes ", leaves the model"
    else resting_place block

-- the facility that a block gives up, if it is a RELEASE
abbrev pub released_by : Option Block → Option ℕ
released_by (Some (blocks.Release facility)) = Some facility
released_by other = None

-- to whom a facility was handed over
abbrev pub heir_text : State → ℕ → List ℕ
heir_text after f = codes ", handed over to " ++ decimal (unwrap_or (facility f after).owner 0)

-- how many waiters were let in
abbrev pub let_in_count : ℕ → List ℕ
let_in_count count = codes ", let in from its delay list: " ++ decimal count

-- the one of a RELEASE, the other of a LEAVE
abbrev pub taken_text : State → ℕ → Option ℕ → List ℕ
taken_text after count (Some f) = heir_text after f
taken_text after count None = let_in_count count

-- the same, if somebody left a delay list
abbrev pub let_in_text : Sight → State → Option Block → List ℕ
let_in_text before after block = if let_in before after == 0 then [] else taken_text after (let_in before after) (released_by block)

-- an entry of a block, and what became of it
abbrev pub entry_text : Parts → Sight → State → ℕ → List ℕ
entry_text p before after b =
    codes "enters " ++ block_at_text p b ++ rest_text before after (block_at p.blocks b)
    ++ let_in_text before after (block_at p.blocks b)

-- two blocks, with this between them
abbrev pub choice_text : Parts → Choice → List ℕ → List ℕ
choice_text p choice between = block_at_text p choice.first.block ++ between ++ block_at_text p choice.second.block

-- where a transaction rests that one block refused
abbrev pub waiting_place : Sight → State → List ℕ
waiting_place before after = if is_delayed before after then codes ", waits on its delay list" else codes ", waits on the retry list"

-- a refusal by both of two blocks
abbrev pub refusal_by_both : Parts → Choice → List ℕ
refusal_by_both p choice = codes "refused by both " ++ choice_text p choice (codes " and ") ++ codes ", waits on the retry list"

-- a refusal, and where the refused one rests
abbrev pub refusal_of : Option Choice → Parts → Sight → State → List ℕ
refusal_of None p before after = codes "refused by " ++ block_at_text p before.next.block ++ waiting_place before after
refusal_of (Some choice) p before after = refusal_by_both p choice

abbrev pub refusal_text : Parts → Sight → State → List ℕ
refusal_text p before after = refusal_of before.choice p before after

-- what a transaction tried to enter: a block, or one of two
abbrev pub tried_text : Option Choice → Parts → ℕ → List ℕ
tried_text None p b = block_at_text p b
tried_text (Some choice) p b = choice_text p choice (codes " or ")

-- by what was seen
abbrev pub attempt_text : Parts → Sight → List ℕ
attempt_text p before = tried_text before.choice p before.next.block

-- where a run stopped by an end that changes nothing else
abbrev pub stopped_text : Option ℕ → Parts → Sight → List ℕ
stopped_text None p before = codes "nobody is left to move"
stopped_text (Some n) p before = codes "stopped at " ++ attempt_text p before

abbrev pub stop_text : Parts → Sight → List ℕ
stop_text p before = stopped_text before.active p before

-- what happened, but for whom it woke and the end of the run
abbrev pub happening_text : Parts → Sight → State → Happening → List ℕ
happening_text p before after Activation = codes "becomes active"
happening_text p before after ClockMove = codes "the clock moves"
happening_text p before after (Entry b) = entry_text p before after b
happening_text p before after Refusal = refusal_text p before after
happening_text p before after Stop = stop_text p before

-- how many of the retry list were woken
abbrev pub woken_count : ℕ → List ℕ
woken_count count = codes ", woken from the retry list: " ++ decimal count

-- the same, if any were
abbrev pub woken_text : ℕ → List ℕ
woken_text count = if count == 0 then [] else woken_count count

-- the named end to which the run came, if it did
abbrev pub end_text : Option End → List ℕ
end_text None = []
end_text (Some end) = codes ", the run ends: " ++ status_word (Ended end)

-- COLUMNS

-- the transaction and the block that a step was about
abbrev pub subject_columns : Option ℕ → ℕ → List ℕ
subject_columns n b = padded 8 (number_or_dash (unwrap_or n 0)) ++ padded 7 (number_or_dash b)

-- who became active, and the block that it tries to enter; who was active, and the block that it entered, or that it tried to enter
abbrev pub subject : Sight → State → Happening → List ℕ
subject before after Activation = subject_columns after.lists.active (next_block after)
subject before after (Entry b) = subject_columns before.active b
subject before after other = subject_columns before.active before.next.block

-- how many are on the current events chain, on the future events chain, on delay lists and on the retry list
abbrev pub lengths : State → List ℕ
lengths s =
    padded 7 (decimal (length s.lists.current_events)) ++ padded 7 (decimal (length s.lists.future_events))
    ++ padded 7 (decimal (delayed_in s)) ++ padded 7 (decimal (length s.lists.retry))

-- the columns of a line
unfoldable pub columns : Sight → State → Happening → List ℕ
columns before after what = padded 12 (signed_decimal after.clock) ++ subject before after what ++ lengths after ++ codes "  "

-- what happened, whom it woke, and the end of the run, if it ended
unfoldable pub words : Parts → Sight → State → Happening → List ℕ
words p before after what =
    happening_text p before after what ++ woken_text (woken_members before after what) ++ end_text after.ended ++ codes "\n"

-- the line of a step
unfoldable pub step_line : Parts → Sight → State → List ℕ
step_line p before after = columns before after (what_happened before after) ++ words p before after (what_happened before after)
