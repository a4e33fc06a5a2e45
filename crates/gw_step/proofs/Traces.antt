-- A step is a list of elementary changes, and each keeps a state well-typed.
use Rattle.gw_step.specs.Blocks.{is_owed}
use Rattle.gw_rules.specs.Exits.{takes_time}
use Rattle.gw_rules.specs.Weights.{chain_weight}
use Rattle.gw_rules.specs.WeightsLaws.{Weighted}
use Rattle.gw_step.specs.Weight.{weighs_there, weight_in}
use Rattle.gw_transactions.specs.Transactions.{LiveTransaction, made_with, with_attributes, with_parameter, with_chain, chain_of, attributes_at}
use Rattle.gw_transactions.specs.Transactions.{put_attributes, put_parameter, put_chain, live_count}
use Rattle.std.proofs.Common.{◌≡◌, ℕ, suc, ◌+◌, ◌<◌, ◌≤◌, ◌≤ℤ◌, ℤ, pos, ◌-ℤ◌, List, [], ◌∷◌, length, map, Option, Some, None, Bool, true, false}
use Rattle.std.proofs.Common.{is_some, if◌then◌else◌, ◌==◌, refl, sym, ap, ◌∙◌, subst, arith, inl, inr, IsSome, option_map}
use Rattle.std.specs.Prelude.{◌<ℤ◌, IsSomeAnd, Contains, unsigned_abs, sum_by, IfSome, IsTrue, nat_le, ◌&&◌, ◌-◌, ◌++◌, All}
use Rattle.std.specs.List.{find}
use Rattle.gw_members.specs.Firsts.{without_first, with_first_changed}
use Rattle.std.specs.Option.{option_map_or}
use Rattle.std.proofs.lemmas.Bool.{cases_eq, eqb-true, false≢true, and_parts}
use Rattle.std.proofs.lemmas.List.Elements.{All-contains, All-head, All-tail, All-cons, All-nil}
use Rattle.gw_object.specs.declared.blocks.Generate.{Generate}
use Rattle.gw_object.specs.declared.parts.Kind.{Kind}
use Rattle.gw_object.specs.declared.parts.Kind.TheVariants as kinds
use Rattle.gw_object.specs.declared.blocks.Block.{Block}
use Rattle.gw_object.specs.declared.blocks.Block.TheVariants as blocks
use Rattle.gw_object.specs.declared.parts.Parts.{Parts}
use Rattle.gw_rules.specs.Sources.{kind_at}
use Rattle.gw_rules.specs.Kinds.{block_at, is_generate}
use Rattle.gw_rules.specs.KindsLaws.{MayBeEntered}
use Rattle.gw_rules.specs.Entries.{entry}
use Rattle.gw_rules.specs.Rows.{ParamKind, Num, Ret, Row, is_empty, kind_of, kind_fits, Fits}
use Rattle.gw_rules.specs.Blocks.{move, edges}
use Rattle.gw_rules.specs.Flow.{own_table, own_row}
use Rattle.gw_rules.specs.FlowLaws.{MayPass, FlowHolds}
use Rattle.gw_rules.proofs.Fitting.{included}
use Rattle.gw_num.specs.Table.{at, put}
use Rattle.gw_num.proofs.Tables.{at-map, at-put, at-put_other, put-put, by_entry, at_past}
use Rattle.gw_members.specs.Chain.{behind, rest}
use Rattle.gw_object.specs.declared.blocks.Link.{Link}
use Rattle.gw_rules.specs.declared.edges.Target.TheVariants as targets
use Rattle.gw_transactions.specs.declared.Transaction.{Transaction}
use Rattle.gw_entities.specs.declared.facilities.Facility.{Facility}
use Rattle.gw_entities.specs.declared.storages.Storage.{Storage}
use Rattle.gw_entities.specs.declared.contents.Contents.{Contents}
use Rattle.gw_entities.specs.Contents.{empty, contents_after}
use Rattle.gw_entities.specs.Facility.{idle, is_idle, is_owned_by, facility_after}
use Rattle.gw_entities.specs.Storage as storages
use Rattle.gw_step.specs.declared.ends.End.{End}
use Rattle.gw_step.specs.declared.placement.Placement.{Placement}
use Rattle.gw_step.specs.declared.placement.Placement.TheVariants.{StaysActive, RestsUntil, JoinsDelayList, JoinsRetryList, RestsAhead, RestsBehind}
use Rattle.gw_step.specs.declared.placement.Placement.TheVariants.{AwaitsSet, JoinsChain, LeavesModel}
use Rattle.gw_step.specs.Placing.{placed_at, place_by}
use Rattle.gw_step.specs.Turning.{turn_to}
use Rattle.gw_step.specs.State.{FutureEvent, Assembly, Lists, EntityStates, State, with_streams, priority_of, delay_list, user_chain, without}
use Rattle.gw_step.specs.Changes.{newcomer, copy_to, rests_ahead, rests_behind, awaits_set, is_of, assemble_all, one_fewer, come_to, joins_chain}
use Rattle.gw_step.specs.Changes.{leaves_chain, enter_next, assign_to, destroy, arrives, rests_until, waits_for, retries, called_from, wake}
use Rattle.gw_step.specs.Changes.{count_down, time_passes, clock_moves}
use Rattle.gw_step.specs.Residence.{EachResidesOnce, occurrences, active_numbers, occurrences_in}
use Rattle.gw_step.proofs.Residence.{one_if, at_most_one, same_number, other_number, alone, occurrences-one, occurrences-joined, occurrences-without}
use Rattle.gw_step.proofs.Residence.{occurrences-linked, resides-linked, resides-unlinked, resides-entered, resides-assigned, resides-destroyed}
use Rattle.gw_step.proofs.Residence.{resides-rests, resides-arrives, resides-active, resides-clock, resides-waits, resides-called, resides-retries}
use Rattle.gw_step.proofs.Residence.{resides-woken, resides-ahead, resides-behind, resides-copied, resides-awaits, resides-assembled, resides-come}
use Rattle.gw_step.proofs.Follows.{at-map_same, nothing-after}
use Rattle.gw_step.specs.Places.{place, place_of, IsThere, row_of}
use Rattle.gw_step.specs.Times.{parameters_of}
use Rattle.gw_transactions.specs.Parameters.{no_parameters}
use Rattle.gw_step.specs.Typing.{IsAsKnown, AreAsKnown, IsPlaced, promised_units, content_of, WaitsFor, is_member, Agree, WellTyped}
use Rattle.gw_step.proofs.Owning.{lists-none}
use Rattle.gw_step.proofs.Agreeing.{IsMissing, Balanced, linked-written, agree-written, agree-moved, agree-apart}
use Rattle.gw_step.proofs.Attributes.{bearer_at, chain-attributes, written_both}
use Rattle.gw_step.proofs.Balances.{balanced-nothing, balanced-fits, balanced-end, balanced-arrival, balanced-copy}

-- the transaction n, which is t, is at a block, in a row
pub record IsAt (p : Parts) (transactions : List (Option LiveTransaction)) (n : ℕ) (t : Transaction) (block : Block) (row : Row) : Type 0 where
  pub found : attributes_at n transactions ≡ Some t
  pub block_is : block_at p.blocks t.next ≡ Some block
  pub row_is : own_row p t.next ≡ Some row
  -- it is a member of no user chain
  pub free : chain_of (at None transactions n) ≡ None

-- the place of who is a member of no user chain is a block
pub place-free : (u : LiveTransaction) (t : Transaction) → u.chain ≡ None → u.attributes ≡ t → place u ≡ targets.Block t.next
place-free u t free is = ap (λ c. place_of c u.attributes.next) free ∙ ap (λ (a : Transaction). targets.Block a.next) is

-- the user chain of who is there
pub its_chain : (o : Option LiveTransaction) (u : LiveTransaction) (chain : Option ℕ) → o ≡ Some u → chain_of o ≡ chain → u.chain ≡ chain
its_chain o u chain there is = sym (ap chain_of there) ∙ is

-- so is the place of the transaction that is at one
pub its_place : (p : Parts) (ts : List (Option LiveTransaction)) (n : ℕ) (t : Transaction) (block : Block) (row : Row)
    (is : IsAt p ts n t block row) → place (bearer_at ts n t is.found).0 ≡ targets.Block t.next
its_place p ts n t block row is = let bears = bearer_at ts n t is.found in place-free bears.0 t (its_chain (at None ts n) bears.0 None bears.1 is.free) bears.2

-- the row of its place
pub its_row : (p : Parts) (ts : List (Option LiveTransaction)) (n : ℕ) (t : Transaction) (block : Block) (row : Row)
    → IsAt p ts n t block row → row_of p (at None ts n) ≡ Some row
its_row p ts n t block row is = let bears = bearer_at ts n t is.found in ap (row_of p) bears.1 ∙ ap (own_table p) (its_place p ts n t block row is) ∙ is.row_is

-- its parameters are what its row knows them to be
pub its_parameters : (p : Parts) (s : State) → WellTyped p s → (n : ℕ) (t : Transaction) (block : Block) (row : Row)
    → IsAt p s.transactions n t block row → AreAsKnown (Some row) (parameters_of n s)
its_parameters p s ty n t block row is =
    let bears = bearer_at s.transactions n t is.found in
    let placed : IsPlaced p bears.0 = subst (λ o. IfSome o (IsPlaced p)) bears.1 (ty.placed n) in
    let row_is : own_table p (place bears.0) ≡ Some row = ap (own_table p) (its_place p s.transactions n t block row is) ∙ is.row_is in
    subst (AreAsKnown (Some row)) (sym (ap (λ o. option_map_or (λ (x : LiveTransaction). x.parameters) o no_parameters) bears.1))
    (subst (λ r. AreAsKnown r bears.0.parameters) row_is placed.parameters)

-- n is active, or on the current events chain
abbrev pub IsPresent : Lists → ℕ → Type 0
IsPresent l n = 1 ≤ occurrences n (active_numbers l.active) + occurrences n l.current_events

-- who may leave the model: its row owns nothing
pub record OwnsNothing (p : Parts) (n : ℕ) (transactions : List (Option LiveTransaction)) : Type 0 where
  pub t : LiveTransaction
  pub row : Row
  pub found : at None transactions n ≡ Some t
  pub row_is : own_table p (place t) ≡ Some row
  pub none : (length row.facilities == 0) ≡ true

-- who may join a user chain: what its row knows of it fits the row of the chain
pub record MayLink (p : Parts) (n c : ℕ) (transactions : List (Option LiveTransaction)) : Type 0 where
  pub t : LiveTransaction
  pub row : Row
  pub members : Row
  pub found : at None transactions n ≡ Some t
  pub row_is : own_table p (place t) ≡ Some row
  pub members_is : own_table p (targets.Chain c) ≡ Some members
  pub fits : Fits row members
  pub below : c < length p.entities

-- the transaction n may be placed so: where it doesn't stay active, it is the active one
abbrev pub MayRest : Parts → ℕ → Placement → Option ℕ → ℤ → List (Option LiveTransaction) → Type 0
MayRest p n StaysActive active clock ts = Unit {0}
MayRest p n (RestsUntil time) active clock ts = (active ≡ Some n) × (clock <ℤ time)
MayRest p n (JoinsDelayList e) active clock ts = (active ≡ Some n) × WaitsFor p e (at None ts n) × (e < length p.entities)
MayRest p n JoinsRetryList active clock ts = active ≡ Some n
MayRest p n RestsAhead active clock ts = active ≡ Some n
MayRest p n RestsBehind active clock ts = active ≡ Some n
MayRest p n (AwaitsSet a) active clock ts = (active ≡ Some n) × (1 ≤ a.missing)
MayRest p n (JoinsChain l) active clock ts = (active ≡ Some n) × MayLink p n l.chain ts
MayRest p n LeavesModel active clock ts = (active ≡ Some n) × OwnsNothing p n ts

-- and so it may in a state
abbrev pub Rested : Parts → ℕ → Placement → State → Type 0
Rested p n placement s = MayRest p n placement s.lists.active s.clock s.transactions

-- the entries that a placement leaves to come, beside others: a waiter's
abbrev pub credited : Placement → ℕ → ℕ
credited (JoinsDelayList e) entries = suc entries
credited JoinsRetryList entries = suc entries
credited placement entries = entries

-- as many streams as a job has stay as many
abbrev pub KeepStreams : List ℕ → List ℕ → Type 0
KeepStreams old new = length old ≡ 16 → length new ≡ 16

-- the attributes of a transaction that enters its block: its mark time may be the clock
pub record Becomes (s : State) (t u : Transaction) : Type 0 where
  pub next : u.next ≡ t.next
  pub mark : pos 0 ≤ℤ s.clock → pos 0 ≤ℤ t.mark → pos 0 ≤ℤ u.mark

-- where the object is weighted, so much is paid by so much
abbrev pub Paid : Parts → ℕ → ℕ → Type 0
Paid p cost credit = Weighted p → cost ≤ credit

-- what a placement of the transaction n makes of a credit: who rests until later, joins a user chain or leaves gives the weight of its place
abbrev pub Settles : Parts → ℕ → Placement → State → ℕ → ℕ → Type 0
Settles p n (RestsUntil time) s c d = Paid p d (weight_in p (at None s.transactions n) + c)
Settles p n (JoinsChain l) s c d = Paid p (chain_weight p l.chain + d) (weight_in p (at None s.transactions n) + c)
Settles p n LeavesModel s c d = Paid p d (weight_in p (at None s.transactions n) + c)
Settles p n placement s c d = c ≡ d

-- the elementary changes. From so many entries, made or to come, and arrivals at most, to so many: an entry is one
-- more, and a waiter has one to come. And from a credit to a credit: it grows by the weight that a state loses, and
-- pays for entries and for what a state weighs more
pub data Change (p : Parts) : ℕ → ℕ → ℕ → State → ℕ → ℕ → ℕ → State → Type 0 where
  -- a transaction enters its block and goes along one of its edges, and what the entities hold is in balance with that
  Goes : {en ar c d : ℕ} {s : State} (n to : ℕ) (t u : Transaction) (block : Block) (row state : Row) (h : EntityStates)
      → IsAt p s.transactions n t block row → Becomes s t u → IsPresent s.lists n → AreAsKnown (Some state) (parameters_of n s)
      → Contains (edges p (own_table p) t.next block row) (move to state) → MayBeEntered p to
      → Balanced p n (Some row) (Some state) s.entities h
      → Paid p (1 + weighs_there p to (parameters_of n s) + d) (weight_in p (at None s.transactions n) + c)
      → Change p en ar c s (suc en) ar d (record (enter_next n u to s) { entities = h })
  -- a transaction enters its block, and stays at it: it goes nowhere from there, or has two next blocks from then on
  EntersLast : {en ar c d : ℕ} {s : State} (n : ℕ) (t : Transaction) (block : Block) (row : Row) → IsAt p s.transactions n t block row
      → IsPresent s.lists n → Paid p (1 + weight_in p (at None (enter_next n t t.next s).transactions n) + d)
      (weight_in p (at None s.transactions n) + c) → Change p en ar c s (suc en) ar d (enter_next n t t.next s)
  -- a transaction turns to a block to which an edge of its block leads, and enters nothing
  Turns : {en ar c d : ℕ} {s : State} (n to : ℕ) (t : Transaction) (block : Block) (row : Row) → IsAt p s.transactions n t block row
      → IsPresent s.lists n → Contains (edges p (own_table p) t.next block row) (move to row) → MayBeEntered p to
      → Paid p (weighs_there p to (parameters_of n s) + d) (weight_in p (at None s.transactions n) + c) → Change p en ar c s en ar d (turn_to n t to s)
  -- a parameter of a transaction is set, and it enters its block and goes along one of its edges, where the parameter is known to be what it is set to
  GoesWith : {en ar c d : ℕ} {s : State} (n to q : ℕ) (value : ℤ) (t : Transaction) (block : Block) (row state : Row)
      → IsAt p s.transactions n t block row → IsPresent s.lists n → AreAsKnown (Some state) (put None (parameters_of n s) q (Some value))
      → Contains (edges p (own_table p) t.next block row) (move to state) → MayBeEntered p to
      → Balanced p n (Some row) (Some state) s.entities s.entities
      → Paid p (1 + weighs_there p to (put None (parameters_of n s) q (Some value)) + d) (weight_in p (at None s.transactions n) + c)
      → Change p en ar c s (suc en) ar d (enter_next n t to (assign_to n q value s))
  -- a transaction is scheduled to arrive at a GENERATE
  Arrives : {en ar c : ℕ} {s : State} (b : ℕ) (g : Generate) (row : Row) (priority time : ℤ) → block_at p.blocks b
      ≡ Some (blocks.Generate g) → own_row p b ≡ Some row → is_empty row ≡ true → s.clock ≤ℤ time
      → (takes_time g.interval.mean g.interval.half ≡ true → s.clock <ℤ time) → is_owed g.limit (at 0 s.scheduled b) ≡ true
      → nat_le (live_count s.transactions + 1) 65536 ≡ true → Change p en ar c s en (suc ar) c (arrives b priority time s)
  -- a copy of a transaction is made, and goes along an edge of a block
  Copied : {en ar c d : ℕ} {s : State} (n target b : ℕ) (t u : Transaction) (block : Block) (row state : Row)
      → attributes_at n s.transactions ≡ Some u → t.mark ≡ u.mark → AreAsKnown (Some state) (parameters_of n s) → block_at p.blocks b
      ≡ Some block → own_row p b ≡ Some row
      → Contains (edges p (own_table p) b block row) (move target state) → MayBeEntered p target → state.facilities ≡ [] → state.units ≡ []
      → live_count s.transactions + 1 ≤ 65536 → Paid p (weighs_there p target (parameters_of n s) + d) c
      → Change p en ar c s en (suc ar) d (copy_to n t target s)
  -- the active transaction is placed
  Rests : {en ar c d : ℕ} {s : State} (n : ℕ) (placement : Placement) → Rested p n placement s → Settles p n placement s c d
      → Change p en ar c s (credited placement en) ar d (placed_at n placement s)
  -- a waiter is called
  Called : {en ar c : ℕ} {s : State} (e n : ℕ) → 1 ≤ occurrences n (delay_list e s) → e < length p.entities
      → Change p (suc en) ar c s en ar c (called_from e n s)
  -- the last of its set has come to an assembly
  Assembled : {en ar c : ℕ} {s : State} (a : Assembly) → find (is_of a.block a.set) s.lists.assemblies ≡ Some a → Change p en ar c s en ar c (assemble_all a s)
  -- another has come to an assembly, and more are to come
  Comes : {en ar c : ℕ} {s : State} (a : Assembly) → find (is_of a.block a.set) s.lists.assemblies ≡ Some a → 2 ≤ a.missing
      → Change p en ar c s en ar c (come_to a s)
  -- the first member of a user chain leaves it for a block, whose row the row of the chain fits
  Unlinked : {en ar d : ℕ} {s : State} (c target n : ℕ) (t : Transaction) (ns : List ℕ) (members row : Row) → user_chain c s ≡ n ∷ ns
      → attributes_at n s.transactions ≡ Some t → own_table p (targets.Chain c) ≡ Some members → own_row p target ≡ Some row → Fits members row
      → MayBeEntered p target → c < length p.entities → Paid p (weighs_there p target (parameters_of n s)) (chain_weight p c)
      → Change p en ar d s en ar d (leaves_chain c target n t s)
  -- the retry list is woken
  Woken : {en ar c : ℕ} {s : State} → Change p en ar c s en ar c (wake s)
  -- the first of the current events chain becomes active
  Activates : {en ar c : ℕ} {s : State} (n : ℕ) (ns : List ℕ) → s.lists.active ≡ None → s.lists.current_events ≡ n ∷ ns
      → Change p en ar c s en ar c (record s { lists = record s.lists { active = Some n; current_events = ns } })
  -- the clock moves to the first future event
  ClockMoves : {en ar c : ℕ} {s : State} (e : FutureEvent) (es : List FutureEvent) → s.lists.future_events ≡ e ∷ es
      → Change p en ar c s en ar c (clock_moves e.time s)
  -- draws
  Draws : {en ar c : ℕ} {s : State} (streams : List ℕ) → KeepStreams s.streams streams → Change p en ar c s en ar c (with_streams streams s)
  -- the termination count falls
  Counts : {en ar c : ℕ} {s : State} (by : ℤ) → Change p en ar c s en ar c (count_down by s)
  -- a step is counted, and an end may stand
  Marks : {en ar c : ℕ} {s : State} (steps : ℕ) (ended : Option End) → Change p en ar c s en ar c (record s { steps = steps; ended = ended })

-- some changes, one after the other
pub data Trace (p : Parts) : ℕ → ℕ → ℕ → State → ℕ → ℕ → ℕ → State → Type 0 where
  Done : {en ar c : ℕ} {s : State} → Trace p en ar c s en ar c s
  Then : {en ar c en' ar' c' en2 ar2 c2 : ℕ} {s t u : State} → Change p en ar c s en' ar' c' t → Trace p en' ar' c' t en2 ar2 c2 u
      → Trace p en ar c s en2 ar2 c2 u

pub trace_on : (p : Parts) {en ar c en' ar' c' en2 ar2 c2 : ℕ} {s t u : State} → Trace p en ar c s en' ar' c' t
    → Trace p en' ar' c' t en2 ar2 c2 u → Trace p en ar c s en2 ar2 c2 u
trace_on p Done ys = ys
trace_on p (Then x xs) ys = Then x (trace_on p xs ys)

-- PLACED

-- the transaction rests, where something stirred once the retry list was woken
stirs_rests : (b : Bool) (p : Parts) (en ar c d n : ℕ) (placement : Placement) (s : State) → Rested p n placement s
    → Settles p n placement s c d → Settles p n placement (wake s) c d
    → Trace p en ar c s (credited placement en) ar d (placed_at n placement (if b then wake s else s))
stirs_rests true p en ar c d n placement s may settles later = Then Woken (Then (Rests n placement may later) Done)
stirs_rests false p en ar c d n placement s may settles later = Then (Rests n placement may settles) Done

-- the one lemma on placements, for each block and each refusal
pub placed_traced : (p : Parts) (en ar c d n : ℕ) (placement : Placement) (s : State) → Rested p n placement s
    → Settles p n placement s c d → Trace p en ar c s (credited placement en) ar d (place_by n placement s)
placed_traced p en ar c d n StaysActive s may settles = subst (λ e. Trace p en ar c s en ar e s) settles Done
placed_traced p en ar c d n (RestsUntil time) s may settles = stirs_rests s.stir p en ar c d n (RestsUntil time) s may settles settles
placed_traced p en ar c d n (JoinsDelayList e) s may settles = stirs_rests s.stir p en ar c d n (JoinsDelayList e) s may settles settles
placed_traced p en ar c d n JoinsRetryList s may settles = stirs_rests s.stir p en ar c d n JoinsRetryList s may settles settles
placed_traced p en ar c d n RestsAhead s may settles = stirs_rests s.stir p en ar c d n RestsAhead s may settles settles
placed_traced p en ar c d n RestsBehind s may settles = stirs_rests s.stir p en ar c d n RestsBehind s may settles settles
placed_traced p en ar c d n (AwaitsSet a) s may settles = stirs_rests s.stir p en ar c d n (AwaitsSet a) s may settles settles
placed_traced p en ar c d n (JoinsChain l) s may settles = stirs_rests s.stir p en ar c d n (JoinsChain l) s may settles settles
placed_traced p en ar c d n LeavesModel s may settles = stirs_rests s.stir p en ar c d n LeavesModel s may settles settles

-- WHO IS ON NO DELAY LIST

most : (p : Parts) (ts : List (Option LiveTransaction)) (l : Lists) (g : EntityStates) → Agree p ts l g → (n : ℕ) → occurrences_in l n ≤ 1
most p ts l g ty n = omega (arith, ty.resides n, at_most_one (is_some (at None ts n)))

-- who is present waits for nothing
pub nowhere : (p : Parts) (ts : List (Option LiveTransaction)) (l : Lists) (g : EntityStates) → Agree p ts l g → (n : ℕ) → IsPresent l n
    → (e : ℕ) → occurrences n (at [] l.delay_lists e) ≡ 0
nowhere p ts l g ty n here e = omega (arith, most p ts l g ty n, occurrences-one n l.delay_lists e, here)

-- who is active is present
pub present : (l : Lists) (n : ℕ) → l.active ≡ Some n → IsPresent l n
present l n is = omega (arith, ap (λ a. occurrences n (active_numbers a)) is, same_number n n refl)

-- who resides on no user chain is a member of none
pub free : (p : Parts) (ts : List (Option LiveTransaction)) (l : Lists) (g : EntityStates) → Agree p ts l g → (n : ℕ)
    → sum_by (occurrences n) l.user_chains ≡ 0 → chain_of (at None ts n) ≡ None
free p ts l g ty n none = by_chain (chain_of (at None ts n)) (λ c. ty.linked c n)
  where
    by_chain : (o : Option ℕ) → ((c : ℕ) → occurrences n (at [] l.user_chains c) ≡ one_if (is_member c o)) → o ≡ None
    by_chain None h = refl
    by_chain (Some c) h = absurd (omega (arith, none, h c, occurrences-one n l.user_chains c, same_number c c refl))

-- so is who is present
pub present_free : (p : Parts) (ts : List (Option LiveTransaction)) (l : Lists) (g : EntityStates) → Agree p ts l g → (n : ℕ)
    → IsPresent l n → chain_of (at None ts n) ≡ None
present_free p ts l g ty n here = free p ts l g ty n (omega (arith, most p ts l g ty n, here))

-- and who waits for an entity
pub waiting_free : (p : Parts) (ts : List (Option LiveTransaction)) (l : Lists) (g : EntityStates) → Agree p ts l g → (e n : ℕ) → 1
    ≤ occurrences n (at [] l.delay_lists e) → chain_of (at None ts n) ≡ None
waiting_free p ts l g ty e n waits = free p ts l g ty n (omega (arith, most p ts l g ty n, waits, occurrences-one n l.delay_lists e))

-- who resides on a user chain is a member of it
pub member_of : (p : Parts) (ts : List (Option LiveTransaction)) (l : Lists) (g : EntityStates) → Agree p ts l g → (c n : ℕ) → 1
    ≤ occurrences n (at [] l.user_chains c) → chain_of (at None ts n) ≡ Some c
member_of p ts l g ty c n here = by_chain (chain_of (at None ts n)) (ty.linked c n)
  where
    by_chain : (o : Option ℕ) → occurrences n (at [] l.user_chains c) ≡ one_if (is_member c o) → o ≡ Some c
    by_chain None h = absurd (omega (arith, here, h))
    by_chain (Some d) h =
        elim (cases_eq d c) [
          | inl same ↦ ap Some same
          | inr other ↦ absurd (omega (arith, here, h, other_number d c other))
        ]

-- so the chain is its place
pub member_at : (p : Parts) (s : State) → WellTyped p s → (c n : ℕ) → 1 ≤ occurrences n (user_chain c s) → (u : LiveTransaction)
    → at None s.transactions n ≡ Some u → place u ≡ targets.Chain c
member_at p s ty c n here u there =
    ap (λ d. place_of d u.attributes.next) (its_chain (at None s.transactions n) u (Some c) there (member_of p s.transactions s.lists s.entities ty c n here))

-- a fresh number waits for nothing
fresh : (p : Parts) (ts : List (Option LiveTransaction)) (l : Lists) (g : EntityStates) → Agree p ts l g → (e : ℕ)
    → occurrences (length ts) (at [] l.delay_lists e) ≡ 0
fresh p ts l g ty e = omega
    (arith, ty.resides (length ts), ap (λ o. one_if (is_some o)) (at_past None ts (length ts) (omega arith)), occurrences-one (length ts) l.delay_lists e)

-- WHAT IS KNOWN OF PARAMETERS

-- a value that is of one kind is of each kind that this one fits
as_asked : (held asked : Option ParamKind) (value : Option ℤ) → IsTrue (kind_fits held asked) → IsAsKnown held value → IsAsKnown asked value
as_asked held None value h is = tt
as_asked (Some Num) (Some Num) value h is = is
as_asked (Some (Ret bs)) (Some (Ret cs)) None h is = absurd is
as_asked (Some (Ret bs)) (Some (Ret cs)) (Some value) h is = (is.0, included bs cs h is.0 is.1, is.2)
as_asked None (Some kind) value h is = absurd (false≢true h)
as_asked (Some Num) (Some (Ret cs)) value h is = absurd (false≢true h)
as_asked (Some (Ret bs)) (Some Num) value h is = absurd (false≢true h)

-- so parameters are what a row knows them to be that a state fits which knows them
pub known_on : (state row : Row) (parameters : List (Option ℤ)) → Fits state row → AreAsKnown (Some state) parameters → AreAsKnown (Some row) parameters
known_on state row parameters fits known q = as_asked (kind_of state q) (kind_of row q) (at None parameters q) (fits.params q) (known q)

-- an empty row knows nothing
pub none_known : (row : Row) → is_empty row ≡ true → (q : ℕ) → kind_of row q ≡ None
none_known row empty q = by_params row.params (and_parts (length row.params == 0 && length row.facilities == 0) (length row.units == 0) empty).0
  where
    by_params : (ps : List (ℕ × ParamKind)) → (length ps == 0 && length row.facilities == 0) ≡ true → entry ps q ≡ None
    by_params [] h = refl
    by_params (p ∷ ps) h = absurd (omega (arith, eqb-true (length (p ∷ ps)) 0 (and_parts (length (p ∷ ps) == 0) (length row.facilities == 0) h).0))

-- so any parameters are what it knows them to be
pub all_as_known : (row : Row) → is_empty row ≡ true → (parameters : List (Option ℤ)) → AreAsKnown (Some row) parameters
all_as_known row empty parameters q = subst (λ kind. IsAsKnown kind (at None parameters q)) (sym (none_known row empty q)) tt

-- HOW MANY ARE MISSING

-- an assembly begins
missing-begun : (xs : List Assembly) (a : Assembly) → All IsMissing xs → 1 ≤ a.missing → All IsMissing (xs ++ a ∷ [])
missing-begun [] a h more = All-cons IsMissing a [] more (All-nil IsMissing)
missing-begun (x ∷ xs) a h more = All-cons IsMissing x (xs ++ a ∷ []) (All-head IsMissing x xs h) (missing-begun xs a (All-tail IsMissing x xs h) more)

-- an assembly ends
missing-without : (passes : Assembly → Bool) (xs : List Assembly) → All IsMissing xs → All IsMissing (without_first passes xs)
missing-without passes [] h = h
missing-without passes (x ∷ xs) h = by_test (passes x) (missing-without passes xs (All-tail IsMissing x xs h))
  where
    by_test : (b : Bool) → All IsMissing (without_first passes xs) → All IsMissing (if b then xs else x ∷ without_first passes xs)
    by_test true rest = All-tail IsMissing x xs h
    by_test false rest = All-cons IsMissing x (without_first passes xs) (All-head IsMissing x xs h) rest

-- an assembly waits for one fewer
missing-changed : (passes : Assembly → Bool) (xs : List Assembly) (a : Assembly) → find passes xs ≡ Some a → 2 ≤ a.missing
    → All IsMissing xs → All IsMissing (with_first_changed passes one_fewer xs)
missing-changed passes [] a is more h = h
missing-changed passes (x ∷ xs) a is more h = by_test (passes x) is (λ found. missing-changed passes xs a found more (All-tail IsMissing x xs h))
  where
    by_test : (b : Bool) → (if b then Some x else find passes xs) ≡ Some a
        → (find passes xs ≡ Some a → All IsMissing (with_first_changed passes one_fewer xs))
        → All IsMissing (if b then one_fewer x ∷ xs else x ∷ with_first_changed passes one_fewer xs)
    by_test true is rest =
        let same : x ≡ a = cc in
        let left : 1 ≤ x.missing - 1 = omega (arith, more, ap (λ (y : Assembly). y.missing) same) in
        All-cons IsMissing (one_fewer x) xs left (All-tail IsMissing x xs h)
    by_test false is rest = All-cons IsMissing x (with_first_changed passes one_fewer xs) (All-head IsMissing x xs h) (rest is)

-- EACH CHANGE

-- where a move leads there is a block, whose row the move's state fits
pub record Leads (p : Parts) (to : ℕ) (state : Row) : Type 0 where
  pub row : Row
  pub is : own_row p to ≡ Some row
  pub fits : Fits state row

-- the row that there is, which the state fits
pub the_row : (r : Option Row) (state : Row) → IsSomeAnd r (Fits state) → (row : Row) × (r ≡ Some row) × Fits state row
the_row None state h = absurd h
the_row (Some row) state h = (row, refl, h)

pub leads : (p : Parts) (b to : ℕ) (block : Block) (row state : Row) → MayPass p (own_table p) b block row
    → Contains (edges p (own_table p) b block row) (move to state) → Leads p to state
leads p b to block row state pass along =
    let found = the_row (own_row p to) state
    (All-contains (λ edge. IsSomeAnd (own_table p edge.target) (Fits edge.state)) (edges p (own_table p) b block row) (move to state)
    pass.each_edge along) in
    record { row = found.0; is = found.1; fits = found.2 }

there : (o : Option Block) → IsSomeAnd o (λ block. is_generate (Some block) ≡ false) → is_some o ≡ true
there None h = absurd h
there (Some block) h = refl

pub storages-later : (time : ℕ) (xs : List Storage) (e : ℕ) → at (storages.vacant 0) (map (storages.storage_after time) xs) e
    ≡ storages.storage_after time (at (storages.vacant 0) xs e)
storages-later time xs e =
    at-map_same (storages.storage_after time) (storages.vacant 0) xs e (ap (λ c. record (storages.vacant 0) { contents = c }) (nothing-after time))

module _ (p : Parts) (flow : FlowHolds p (own_table p)) where
  -- a transaction enters its block, and is at another place from then on
  enters : (s : State) → WellTyped p s → (n to : ℕ) (t u : Transaction) (block : Block) (row next : Row) (h : EntityStates)
      → IsAt p s.transactions n t block row → IsPresent s.lists n → AreAsKnown (Some next) (parameters_of n s)
      → IsSome (block_at p.blocks to) → own_row p to ≡ Some next → Balanced p n (Some row) (Some next) s.entities h
      → WellTyped p (record (enter_next n u to s) { entities = h })
  enters s ty n to t u block row next h is here known there lands balance =
      let v : Transaction = record u { current = u.next; next = to } in
      let bears = bearer_at s.transactions n t is.found in
      let now : option_map (with_attributes v) (at None s.transactions n) ≡ Some (with_attributes v bears.0) = ap (option_map (with_attributes v)) bears.1 in
      let goes_to : place (with_attributes v bears.0) ≡ targets.Block to =
      place-free (with_attributes v bears.0) v (its_chain (at None s.transactions n) bears.0 None bears.1 is.free) refl in
      let its : own_table p (place (with_attributes v bears.0)) ≡ Some next = ap (own_table p) goes_to ∙ lands in
      agree-written p s.transactions s.lists s.entities ty s.lists h n (option_map (with_attributes v) (at None s.transactions n))
      (nowhere p s.transactions s.lists s.entities ty n here)
      (resides-entered n u to s ty.resides) refl refl
      (linked-written p s.transactions s.lists s.entities ty s.lists n (option_map (with_attributes v) (at None s.transactions n)) refl
      (chain-attributes v (at None s.transactions n)))
      (subst (λ o. IfSome o (IsPlaced p)) (sym now)
      (record {
        there = subst (IsThere p) (sym goes_to) there;
        row = ap is_some its;
        parameters =
            subst (λ r. AreAsKnown r bears.0.parameters) (sym its)
            (subst (AreAsKnown (Some next)) (ap (λ o. option_map_or (λ (x : LiveTransaction). x.parameters) o no_parameters) bears.1) known);
      }))
      (subst (λ r. Balanced p n r (row_of p (option_map (with_attributes v) (at None s.transactions n))) s.entities h)
      (sym (its_row p s.transactions n t block row is))
      (subst (λ r. Balanced p n (Some row) r s.entities h) (sym (ap (row_of p) now ∙ its)) balance))

  goes : (s : State) → WellTyped p s → (n to : ℕ) (t u : Transaction) (block : Block) (row state : Row) (h : EntityStates)
      → IsAt p s.transactions n t block row → IsPresent s.lists n → AreAsKnown (Some state) (parameters_of n s)
      → Contains (edges p (own_table p) t.next block row) (move to state) → MayBeEntered p to
      → Balanced p n (Some row) (Some state) s.entities h → WellTyped p (record (enter_next n u to s) { entities = h })
  goes s ty n to t u block row state h is here known along may balance =
      let lead = leads p t.next to block row state (flow.each_row t.next block row is.block_is is.row_is) along in
      enters s ty n to t u block row lead.row h is here (known_on state lead.row (parameters_of n s) lead.fits known)
      (there (block_at p.blocks to) may) lead.is (balanced-fits p n (Some row) state lead.row s.entities h balance lead.fits)

  -- a transaction that turns to a block enters nothing, and is at that block's row
  pub turns : (s : State) → WellTyped p s → (n to : ℕ) (t : Transaction) (block : Block) (row : Row) → IsAt p s.transactions n t block row
      → IsPresent s.lists n → Contains (edges p (own_table p) t.next block row) (move to row) → MayBeEntered p to → WellTyped p (turn_to n t to s)
  turns s ty n to t block row is here along may =
      goes s ty n to t (record t { next = t.current }) block row row s.entities is here (its_parameters p s ty n t block row is) along may
      (balanced-nothing p n row s.entities)

  -- a parameter of it is set besides
  goes_with : (s : State) → WellTyped p s → (n to q : ℕ) (value : ℤ) (t : Transaction) (block : Block) (row state : Row)
      → IsAt p s.transactions n t block row → IsPresent s.lists n → AreAsKnown (Some state) (put None (parameters_of n s) q (Some value))
      → Contains (edges p (own_table p) t.next block row) (move to state) → MayBeEntered p to
      → Balanced p n (Some row) (Some state) s.entities s.entities → WellTyped p (enter_next n t to (assign_to n q value s))
  goes_with s ty n to q value t block row state is here known along may balance =
      let ts = s.transactions in
      let lead = leads p t.next to block row state (flow.each_row t.next block row is.block_is is.row_is) along in
      let a : Transaction = record t { current = t.next; next = to } in
      let bears = bearer_at ts n t is.found in
      let later : LiveTransaction = with_attributes a (with_parameter q value bears.0) in
      let now : option_map (with_attributes a) (at None (put_parameter n q value ts) n) ≡ Some later =
      ap (option_map (with_attributes a))
      (at-put None ts n (option_map (with_parameter q value) (at None ts n)) ∙ ap (option_map (with_parameter q value)) bears.1) in
      let same : put_attributes n a (put_parameter n q value ts) ≡ put None ts n (Some later) =
      ap (put None (put_parameter n q value ts) n) now ∙ put-put None ts n (option_map (with_parameter q value) (at None ts n)) (Some later) in
      let goes_to : place later ≡ targets.Block to = place-free later a (its_chain (at None ts n) bears.0 None bears.1 is.free) refl in
      let its : own_table p (place later) ≡ Some lead.row = ap (own_table p) goes_to ∙ lead.is in
      let set : AreAsKnown (Some state) later.parameters =
      subst (λ o. AreAsKnown (Some state)
      (put None (option_map_or (λ (x : LiveTransaction). x.parameters) o no_parameters) q (Some value))) bears.1 known in
      subst (λ xs. Agree p xs s.lists s.entities) (sym same)
      (agree-written p ts s.lists s.entities ty s.lists s.entities n (Some later)
      (nowhere p ts s.lists s.entities ty n here)
      (subst (λ xs. EachResidesOnce xs s.lists) same (resides-entered n t to (assign_to n q value s) (resides-assigned n q value s ty.resides))) refl refl
      (linked-written p ts s.lists s.entities ty s.lists n (Some later) refl (its_chain (at None ts n) bears.0 None bears.1 is.free ∙ sym is.free))
      (record {
        there = subst (IsThere p) (sym goes_to) (there (block_at p.blocks to) may);
        row = ap is_some its;
        parameters =
            subst (λ r. AreAsKnown r later.parameters) (sym its) (known_on state lead.row later.parameters lead.fits set);
      })
      (subst (λ r. Balanced p n r (own_table p (place later)) s.entities s.entities) (sym (its_row p ts n t block row is))
      (subst (λ r. Balanced p n (Some row) r s.entities s.entities) (sym its)
      (balanced-fits p n (Some row) state lead.row s.entities s.entities balance lead.fits))))

  leaves : (s : State) → WellTyped p s → (n : ℕ) → s.lists.active ≡ Some n → OwnsNothing p n s.transactions → WellTyped p (destroy n s)
  leaves s ty n active is =
      agree-written p s.transactions s.lists s.entities ty (destroy n s).lists s.entities n None
      (nowhere p s.transactions s.lists s.entities ty n (present s.lists n active))
      (resides-destroyed n is.t s active is.found ty.resides) refl refl
      (linked-written p s.transactions s.lists s.entities ty (destroy n s).lists n None refl
      (sym (present_free p s.transactions s.lists s.entities ty n (present s.lists n active)))) tt
      (subst (λ r. Balanced p n r None s.entities s.entities) (sym (ap (row_of p) is.found ∙ is.row_is))
      (balanced-end p n is.row s.entities (lists-none is.row.facilities is.none)))

  pub arrived : (s : State) → WellTyped p s → (b : ℕ) (g : Generate) (row : Row) (priority time : ℤ) → block_at p.blocks b
      ≡ Some (blocks.Generate g) → own_row p b ≡ Some row → is_empty row ≡ true → WellTyped p (arrives b priority time s)
  arrived s ty b g row priority time block is none =
      let n = length s.transactions in
      let v : LiveTransaction = newcomer b priority s in
      agree-written p s.transactions s.lists s.entities ty (arrives b priority time s).lists s.entities n (Some v)
      (fresh p s.transactions s.lists s.entities ty)
      (resides-arrives b priority time s ty.resides) refl refl
      (linked-written p s.transactions s.lists s.entities ty (arrives b priority time s).lists n (Some v) refl
      (sym (ap chain_of (at_past None s.transactions n (omega arith)))))
      (record {
        there = ap is_some block;
        row = ap is_some is;
        parameters =
            subst (λ r. AreAsKnown r no_parameters) (sym is) (all_as_known row none no_parameters);
      })
      (subst (λ t. Balanced p n (row_of p t) (own_row p b) s.entities s.entities) (sym (at_past None s.transactions n (omega arith)))
      (subst (λ r. Balanced p n None r s.entities s.entities) (sym is) (balanced-arrival p n row s.entities none)))

  -- a copy goes along an edge, and has nothing but parameters
  copy_made : (s : State) → WellTyped p s → (n target b : ℕ) (t : Transaction) (block : Block) (row state : Row)
      → AreAsKnown (Some state) (parameters_of n s) → block_at p.blocks b ≡ Some block → own_row p b ≡ Some row
      → Contains (edges p (own_table p) b block row) (move target state) → MayBeEntered p target → state.facilities ≡ [] → state.units ≡ []
      → WellTyped p (copy_to n t target s)
  copy_made s ty n target b t block row state known block_is row_is along may facilities units =
      let m = length s.transactions in
      let v : LiveTransaction = made_with (parameters_of n s) (record t { next = target }) in
      let lead = leads p b target block row state (flow.each_row b block row block_is row_is) along in
      agree-written p s.transactions s.lists s.entities ty (copy_to n t target s).lists s.entities m (Some v)
      (fresh p s.transactions s.lists s.entities ty)
      (resides-copied n t target s ty.resides) refl refl
      (linked-written p s.transactions s.lists s.entities ty (copy_to n t target s).lists m (Some v) refl
      (sym (ap chain_of (at_past None s.transactions m (omega arith)))))
      (record {
        there = there (block_at p.blocks target) may;
        row = ap is_some lead.is;
        parameters =
            subst (λ r. AreAsKnown r (parameters_of n s)) (sym lead.is) (known_on state lead.row (parameters_of n s) lead.fits known);
      })
      (subst (λ o. Balanced p m (row_of p o) (own_row p target) s.entities s.entities) (sym (at_past None s.transactions m (omega arith)))
      (subst (λ r. Balanced p m None r s.entities s.entities) (sym lead.is) (balanced-copy p m state lead.row s.entities facilities units lead.fits)))

  waits : (s : State) → WellTyped p s → (e n : ℕ) → s.lists.active ≡ Some n → WaitsFor p e (at None s.transactions n) → WellTyped p (waits_for e n s)
  waits s ty e n active asks =
      let old = delay_list e s in
      let new = behind (priority_of s.transactions) n old in
      agree-moved p s.transactions s.lists s.entities ty (waits_for e n s).lists (resides-waits e n s active ty.resides)
      (by_entry [] s.lists.delay_lists e new (λ d ns. (m : ℕ) → 1 ≤ occurrences m ns → WaitsFor p d (at None s.transactions m))
      (λ m waits.
      elim (cases_eq m n) [
        | inl same ↦ subst (λ k. WaitsFor p e (at None s.transactions k)) (sym same) asks
        | inr other ↦ ty.waiting e m
            (omega (arith, waits, occurrences-joined m (priority_of s.transactions) n old, other_number n m (λ same. other (sym same))))
      ])
      (λ d apart. ty.waiting d))
      refl ty.assembling

  called : (s : State) → WellTyped p s → (e n : ℕ) → 1 ≤ occurrences n (delay_list e s) → WellTyped p (called_from e n s)
  called s ty e n here =
      let old = delay_list e s in
      agree-moved p s.transactions s.lists s.entities ty (called_from e n s).lists (resides-called e n s here ty.resides)
      (by_entry [] s.lists.delay_lists e (without n old) (λ d ns. (m : ℕ) → 1 ≤ occurrences m ns → WaitsFor p d (at None s.transactions m))
      (λ m waits. ty.waiting e m (omega (arith, waits, occurrences-without m n old here)))
      (λ d apart. ty.waiting d))
      refl ty.assembling

  -- while time passes owners, contents and capacities stay
  owner_stays : (time n : ℕ) (f : Facility) → is_owned_by n (facility_after time f) ≡ is_owned_by n f
  owner_stays time n f = by_test (is_idle f)
    where
      by_test : (b : Bool) → is_owned_by n (if b then f else record f { busy = f.busy + time }) ≡ is_owned_by n f
      by_test true = refl
      by_test false = refl

  contents_stay : (time e : ℕ) (g : EntityStates) (kind : Option Kind) → content_of e (time_passes time g) kind ≡ content_of e g kind
  contents_stay time e g None = refl
  contents_stay time e g (Some (kinds.Storage capacity)) = ap (λ (x : Storage). x.contents.content) (storages-later time g.storages e)
  contents_stay time e g (Some kinds.Queue) = ap (λ (x : Contents). x.content) (at-map_same (contents_after time) empty g.queues e (nothing-after time))
  contents_stay time e g (Some kind) = refl

  agree-later : (ts : List (Option LiveTransaction)) (l : Lists) (g : EntityStates) (time : ℕ) → Agree p ts l g → Agree p ts l (time_passes time g)
  agree-later ts l g time ty = record {
    resides = ty.resides;
    placed = ty.placed;
    owned = λ f n. ap (is_owned_by n) (at-map (facility_after time) idle g.facilities f) ∙ owner_stays time n (at idle g.facilities f) ∙ ty.owned f n;
    promised = λ e. subst (λ k. sum_by (λ t. promised_units e (row_of p t)) ts ≤ k) (sym (contents_stay time e g (kind_at p.entities e))) (ty.promised e);
    waiting = ty.waiting;
    linked = ty.linked;
    assembling = ty.assembling;
    sized = λ e. ap (λ (x : Storage). x.capacity) (storages-later time g.storages e) ∙ ty.sized e;
  }

  moved_on : (s : State) → WellTyped p s → (time : ℤ) → WellTyped p (clock_moves time s)
  moved_on s ty time =
      agree-later s.transactions (clock_moves time s).lists s.entities (unsigned_abs (time -ℤ s.clock))
      (agree-apart p s.transactions s.lists s.entities ty (clock_moves time s).lists (resides-clock time s ty.resides) refl refl ty.assembling)

  -- who is active joins a user chain: its place is the chain from then on
  links : (s : State) → WellTyped p s → (n : ℕ) (l : Link) → s.lists.active ≡ Some n → MayLink p n l.chain s.transactions → WellTyped p (joins_chain n l s)
  links s ty n l active may =
      let ts = s.transactions in
      let v : LiveTransaction = with_chain (Some l.chain) may.t in
      let now : option_map (with_chain (Some l.chain)) (at None ts n) ≡ Some v = ap (option_map (with_chain (Some l.chain))) may.found in
      let same : put_chain n (Some l.chain) ts ≡ put None ts n (Some v) = ap (put None ts n) now in
      let here = present s.lists n active in
      let apart = alone n s active ty.resides in
      let was : row_of p (at None ts n) ≡ Some may.row = ap (row_of p) may.found ∙ may.row_is in
      let placed : IsPlaced p may.t = subst (λ o. IfSome o (IsPlaced p)) may.found (ty.placed n) in
      let known : AreAsKnown (Some may.row) may.t.parameters = subst (λ r. AreAsKnown r may.t.parameters) may.row_is placed.parameters in
      subst (λ xs. Agree p xs (joins_chain n l s).lists s.entities) (sym same)
      (agree-written p ts s.lists s.entities ty (joins_chain n l s).lists s.entities n (Some v)
      (nowhere p ts s.lists s.entities ty n here)
      (subst (λ xs. EachResidesOnce xs (joins_chain n l s).lists) same (resides-linked n l s active ty.resides)) refl refl
      (by_entry [] s.lists.user_chains l.chain _ (λ c ms. (m : ℕ) → occurrences m ms ≡ one_if (is_member c (chain_of (at None (put None ts n (Some v)) m))))
      (λ m.
      elim (cases_eq m n) [
        | inl e ↦
            let joined = occurrences-linked m l.order n (user_chain l.chain s) in
            let none : occurrences m (user_chain l.chain s) ≡ 0 = ap (λ k. occurrences k (user_chain l.chain s)) e ∙ apart.user_chains l.chain in
            let one : one_if (is_member l.chain (chain_of (at None (put None ts n (Some v)) m))) ≡ 1 =
            ap (λ k. one_if (is_member l.chain (chain_of (at None (put None ts n (Some v)) k)))) e
            ∙ ap (λ o. one_if (is_member l.chain (chain_of o))) (at-put None ts n (Some v)) ∙ same_number l.chain l.chain refl in
            omega (arith, joined, none, one, same_number n m (sym e))
        | inr e ↦
            let joined = occurrences-linked m l.order n (user_chain l.chain s) in
            let kept : one_if (is_member l.chain (chain_of (at None (put None ts n (Some v)) m)))
            ≡ one_if (is_member l.chain (chain_of (at None ts m))) =
            ap (λ o. one_if (is_member l.chain (chain_of o))) (at-put_other None ts n m (Some v) e) in
            omega (arith, joined, kept, ty.linked l.chain m, other_number n m (λ d. e (sym d)))
      ])
      (λ c other m.
      elim (cases_eq m n) [
        | inl e ↦
            let none : occurrences m (user_chain c s) ≡ 0 = ap (λ k. occurrences k (user_chain c s)) e ∙ apart.user_chains c in
            let one : one_if (is_member c (chain_of (at None (put None ts n (Some v)) m))) ≡ 0 =
            ap (λ k. one_if (is_member c (chain_of (at None (put None ts n (Some v)) k)))) e
            ∙ ap (λ o. one_if (is_member c (chain_of o))) (at-put None ts n (Some v)) ∙ other_number l.chain c (λ d. other (sym d)) in
            none ∙ sym one
        | inr e ↦ ty.linked c m ∙ sym (ap (λ o. one_if (is_member c (chain_of o))) (at-put_other None ts n m (Some v) e))
      ]))
      (record {
        there = tt;
        row = ap is_some may.members_is;
        parameters =
            subst (λ r. AreAsKnown r may.t.parameters) (sym may.members_is) (known_on may.row may.members may.t.parameters may.fits known);
      })
      (subst (λ r. Balanced p n r (own_table p (targets.Chain l.chain)) s.entities s.entities) (sym was)
      (subst (λ r. Balanced p n (Some may.row) r s.entities s.entities) (sym may.members_is)
      (balanced-fits p n (Some may.row) may.row may.members s.entities s.entities (balanced-nothing p n may.row s.entities) may.fits))))

  -- the first member of a user chain leaves it: its place is a block from then on
  unlinks : (s : State) → WellTyped p s → (c target n : ℕ) (t : Transaction) (ns : List ℕ) (members row : Row) → user_chain c s ≡ n ∷ ns
      → attributes_at n s.transactions ≡ Some t → own_table p (targets.Chain c) ≡ Some members → own_row p target ≡ Some row
      → Fits members row → MayBeEntered p target
      → WellTyped p (leaves_chain c target n t s)
  unlinks s ty c target n t ns members row is found members_is row_is fits may =
      let ts = s.transactions in
      let bears = bearer_at ts n t found in
      let v : LiveTransaction = with_chain None (with_attributes (record t { next = target }) bears.0) in
      let same : put_chain n None (put_attributes n (record t { next = target }) ts) ≡ put None ts n (Some v) =
      written_both ts n (record t { next = target }) None bears.0 bears.1 in
      let one : occurrences n (user_chain c s) ≡ one_if (n == n) + occurrences n ns = ap (occurrences n) is in
      let here : 1 ≤ occurrences n (user_chain c s) = omega (arith, one, same_number n n refl) in
      let only = most p ts s.lists s.entities ty n in
      let member : chain_of (at None ts n) ≡ Some c = member_of p ts s.lists s.entities ty c n here in
      let was : own_table p (place bears.0) ≡ Some members = ap (own_table p) (member_at p s ty c n here bears.0 bears.1) ∙ members_is in
      let placed : IsPlaced p bears.0 = subst (λ o. IfSome o (IsPlaced p)) bears.1 (ty.placed n) in
      let known : AreAsKnown (Some members) bears.0.parameters = subst (λ r. AreAsKnown r bears.0.parameters) was placed.parameters in
      let left : (m : ℕ) → occurrences m (rest (user_chain c s)) ≡ occurrences m ns = λ m. ap (λ ms. occurrences m (rest ms)) is in
      subst (λ xs. Agree p xs (leaves_chain c target n t s).lists s.entities) (sym same)
      (agree-written p ts s.lists s.entities ty (leaves_chain c target n t s).lists s.entities n (Some v)
      (λ e. omega (arith, only, here, occurrences-one n s.lists.delay_lists e, occurrences-one n s.lists.user_chains c))
      (subst (λ xs. EachResidesOnce xs (leaves_chain c target n t s).lists) same (resides-unlinked c target n t ns s is ty.resides)) refl refl
      (by_entry [] s.lists.user_chains c (rest (user_chain c s))
      (λ d ms. (m : ℕ) → occurrences m ms ≡ one_if (is_member d (chain_of (at None (put None ts n (Some v)) m))))
      (λ m.
      elim (cases_eq m n) [
        | inl e ↦
            let none : one_if (is_member c (chain_of (at None (put None ts n (Some v)) m))) ≡ 0 =
            ap (λ k. one_if (is_member c (chain_of (at None (put None ts n (Some v)) k)))) e
            ∙ ap (λ o. one_if (is_member c (chain_of o))) (at-put None ts n (Some v)) in
            let others : occurrences m (rest (user_chain c s)) ≡ occurrences n ns = left m ∙ ap (λ k. occurrences k ns) e in
            omega (arith, none, others, one, same_number n n refl, only, occurrences-one n s.lists.user_chains c)
        | inr e ↦
            let kept : one_if (is_member c (chain_of (at None (put None ts n (Some v)) m)))
            ≡ one_if (is_member c (chain_of (at None ts m))) = ap (λ o. one_if (is_member c (chain_of o))) (at-put_other None ts n m (Some v) e) in
            let before : occurrences m (user_chain c s) ≡ one_if (n == m) + occurrences m ns = ap (occurrences m) is in
            omega (arith, kept, before, left m, ty.linked c m, other_number n m (λ d. e (sym d)))
      ])
      (λ d other m.
      elim (cases_eq m n) [
        | inl e ↦
            let none : one_if (is_member d (chain_of (at None (put None ts n (Some v)) m))) ≡ 0 =
            ap (λ k. one_if (is_member d (chain_of (at None (put None ts n (Some v)) k)))) e
            ∙ ap (λ o. one_if (is_member d (chain_of o))) (at-put None ts n (Some v)) in
            let before : occurrences m (user_chain d s) ≡ 0 = ap (λ k. occurrences k (user_chain d s)) e ∙ ty.linked d n
            ∙ ap (λ o. one_if (is_member d o)) member ∙ other_number c d (λ g. other (sym g)) in
            before ∙ sym none
        | inr e ↦ ty.linked d m ∙ sym (ap (λ o. one_if (is_member d (chain_of o))) (at-put_other None ts n m (Some v) e))
      ]))
      (record {
        there = there (block_at p.blocks target) may;
        row = ap is_some row_is;
        parameters =
            subst (λ r. AreAsKnown r bears.0.parameters) (sym row_is) (known_on members row bears.0.parameters fits known);
      })
      (subst (λ r. Balanced p n r (own_row p target) s.entities s.entities) (sym (ap (row_of p) bears.1 ∙ was))
      (subst (λ r. Balanced p n (Some members) r s.entities s.entities) (sym row_is)
      (balanced-fits p n (Some members) members row s.entities s.entities (balanced-nothing p n members s.entities) fits))))

  rests : (s : State) → WellTyped p s → (n : ℕ) (placement : Placement) → Rested p n placement s → WellTyped p (placed_at n placement s)
  rests s ty n StaysActive may = ty
  rests s ty n (RestsUntil time) may =
      agree-apart p s.transactions s.lists s.entities ty (rests_until n time s).lists (resides-rests n time s may.0 ty.resides) refl refl ty.assembling
  rests s ty n (JoinsDelayList e) may = waits s ty e n may.0 may.1
  rests s ty n JoinsRetryList may =
      agree-apart p s.transactions s.lists s.entities ty (retries n s).lists (resides-retries n s may ty.resides) refl refl ty.assembling
  rests s ty n RestsAhead may =
      agree-apart p s.transactions s.lists s.entities ty (rests_ahead n s).lists (resides-ahead n s may ty.resides) refl refl ty.assembling
  rests s ty n RestsBehind may =
      agree-apart p s.transactions s.lists s.entities ty (rests_behind n s).lists (resides-behind n s may ty.resides) refl refl ty.assembling
  rests s ty n (AwaitsSet a) may =
      agree-apart p s.transactions s.lists s.entities ty (awaits_set n a s).lists (resides-awaits n a s may.0 ty.resides) refl refl
      (missing-begun s.lists.assemblies (record { block = a.block; set = a.set; number = n; missing = a.missing }) ty.assembling may.1)
  rests s ty n (JoinsChain l) may = links s ty n l may.0 may.1
  rests s ty n LeavesModel may = leaves s ty n may.0 may.1

  pub change-keeps : {en ar c en' ar' c' : ℕ} {s t : State} → Change p en ar c s en' ar' c' t → WellTyped p s → WellTyped p t
  change-keeps (Goes {s = s} n to t u block row state h is same here known along may balance pays) ty =
      goes s ty n to t u block row state h is here known along may balance
  change-keeps (EntersLast {s = s} n t block row is here pays) ty =
      enters s ty n t.next t t block row row s.entities is here (its_parameters p s ty n t block row is) (ap is_some is.block_is) is.row_is
      (balanced-nothing p n row s.entities)
  change-keeps (Turns {s = s} n to t block row is here along may pays) ty = turns s ty n to t block row is here along may
  change-keeps (GoesWith {s = s} n to q value t block row state is here known along may balance pays) ty =
      goes_with s ty n to q value t block row state is here known along may balance
  change-keeps (Arrives {s = s} b g row priority time block is none later passes owed few) ty = arrived s ty b g row priority time block is none
  change-keeps (Rests {s = s} n placement may settles) ty = rests s ty n placement may
  change-keeps (Called {s = s} e n here below) ty = called s ty e n here
  change-keeps (Copied {s = s} n target b t u block row state found mark known block_is row_is along may facilities units few pays) ty =
      copy_made s ty n target b t block row state known block_is row_is along may facilities units
  change-keeps (Assembled {s = s} a is) ty =
      agree-apart p s.transactions s.lists s.entities ty (assemble_all a s).lists (resides-assembled a s is ty.resides) refl refl
      (missing-without (is_of a.block a.set) s.lists.assemblies ty.assembling)
  change-keeps (Comes {s = s} a is more) ty =
      agree-apart p s.transactions s.lists s.entities ty (come_to a s).lists (resides-come a s ty.resides) refl refl
      (missing-changed (is_of a.block a.set) s.lists.assemblies a is more ty.assembling)
  change-keeps (Unlinked {s = s} c target n t ns members row is found members_is row_is fits may below pays) ty =
      unlinks s ty c target n t ns members row is found members_is row_is fits may
  change-keeps (Woken {s = s}) ty = agree-apart p s.transactions s.lists s.entities ty (wake s).lists (resides-woken s ty.resides) refl refl ty.assembling
  change-keeps (Activates {s = s} n ns nobody first) ty =
      agree-apart p s.transactions s.lists s.entities ty (record s.lists { active = Some n; current_events = ns })
      (resides-active n ns s nobody first ty.resides) refl refl ty.assembling
  change-keeps (ClockMoves {s = s} e es is) ty = moved_on s ty e.time
  change-keeps (Draws streams same) ty = ty
  change-keeps (Counts by) ty = ty
  change-keeps (Marks steps ended) ty = ty

  pub trace-keeps : {en ar c en' ar' c' : ℕ} {s t : State} → Trace p en ar c s en' ar' c' t → WellTyped p s → WellTyped p t
  trace-keeps Done ty = ty
  trace-keeps (Then x xs) ty = trace-keeps xs (change-keeps x ty)
