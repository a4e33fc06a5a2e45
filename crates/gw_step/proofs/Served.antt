-- In a well-typed state of a checked object the active transaction has what its next block asks for.
use Rattle.std.proofs.Common.{◌≡◌, ℕ, ◌+◌, ◌≤◌, ℤ, pos, List, [], ◌∷◌, ◌++◌, map, length, Option, Some, None, Bool, true, false, not, ◌==◌, refl, sym}
use Rattle.std.proofs.Common.{ap, ◌∙◌, subst, arith, option_map}
use Rattle.std.specs.Prelude.{nat_le, int_lt, All, IfSome, IsSome, IsSomeAnd}
use Rattle.std.specs.Option.{option_map_or, option_flatten}
use Rattle.std.specs.List.{AllByRecursion}
use Rattle.std.proofs.lemmas.Bool.{leb-true, false≢true}
use Rattle.std.proofs.lemmas.Int.{ints}
use Rattle.std.proofs.lemmas.List.Elements.{All-head, All-tail}
use Rattle.gw_object.specs.declared.blocks.Units.{Units}
use Rattle.gw_object.specs.declared.blocks.Block.{Block}
use Rattle.gw_object.specs.declared.blocks.Block.TheVariants as blocks
use Rattle.gw_object.specs.declared.parts.Kind.{Kind}
use Rattle.gw_object.specs.declared.parts.Kind.TheVariants as kinds
use Rattle.gw_object.specs.declared.parts.Parts.{Parts}
use Rattle.gw_rules.specs.declared.ways.Exit.{Exit}
use Rattle.gw_rules.specs.declared.ways.Way.{Way}
use Rattle.gw_rules.specs.Exits.{leads_to, exits, ways}
use Rattle.gw_rules.specs.Sources.{kind_at}
use Rattle.gw_rules.specs.Kinds.{block_at}
use Rattle.gw_rules.specs.KindsLaws.{MayBeEntered, ReturnsHold, BlockHolds}
use Rattle.gw_rules.specs.FlowCodes as codes
use Rattle.gw_rules.specs.Entries.{lists}
use Rattle.gw_rules.specs.Rows.{ParamKind, Num, Ret, Row, kind_of, owns, units_of}
use Rattle.gw_rules.proofs.Parameters.{loop_is_number, return_is}
use Rattle.gw_rules.specs.Blocks.{capacity_at}
use Rattle.gw_rules.specs.Flow.{own_table}
use Rattle.gw_num.specs.Table.{at}
use Rattle.gw_transactions.specs.declared.Transaction.{Transaction}
use Rattle.gw_transactions.specs.Parameters.{no_parameters}
use Rattle.gw_transactions.specs.Transactions.{LiveTransaction, attributes_at, parameter_at}
use Rattle.gw_entities.specs.Facility.{owns_any}
use Rattle.gw_step.specs.State.{State}
use Rattle.gw_step.specs.Times.{parameters_of}
use Rattle.gw_step.specs.Changes.{storage, queue}
use Rattle.gw_step.specs.Blocks.{block_after}
use Rattle.gw_step.specs.Places.{IsThere, row_of}
use Rattle.gw_step.specs.Typing.{IsAsKnown, IsPlaced, WellTyped, promised_units, content_of}
use Rattle.gw_step.specs.Asks.{MayLead, IsReturn, Asks, Leads}
use Rattle.gw_step.specs.Safety.{BlocksAreServed}
use Rattle.gw_step.proofs.Outcomes.{choose}
use Rattle.gw_step.proofs.Residence.{at-le-sum}
use Rattle.gw_step.proofs.Owning.{lists-none}
use Rattle.gw_step.proofs.Traces.{place-free, its_chain, its_row, its_parameters, present, present_free}
use Rattle.gw_step.proofs.AtBlock.{is_storage, is_queue, is_table}
use Rattle.gw_step.proofs.Attributes.{bearer_at}
use Rattle.gw_step.specs.Turning.{choice_at}
use Rattle.gw_step.proofs.Paying.{one_plain}
use Rattle.gw_step.proofs.Moving.{Acts, enterable, the_rule, owner_as}
use Rattle.gw_step.proofs.Returns.{may_come_back}
use Rattle.gw_step.proofs.Calling.{some_of}
use Rattle.gw_step.proofs.Effects.{owns_none, value_is_set}
use Rattle.gw_step.proofs.Asked.{acts_at}
use Rattle.gw_step.proofs.Safe.{kinds_of, flow_of, sound_of, returns_of}

not-true : (b : Bool) → not b ≡ true → b ≡ false
not-true true h = absurd (false≢true h)
not-true false h = refl

-- the block after the one whose number a value is
after_it : (b : ℕ) → block_after (pos b) ≡ b + 1
after_it b = choose (λ to. to ≡ b + 1) (int_lt (pos b) (pos 0)) 0 (b + 1) (λ below. absurd (omega (arith, ints, below))) (λ above. refl)

-- a parameter that is known to hold the return to one of these blocks does so
value_returns : (bs : List ℕ) (value : Option ℤ) → IsAsKnown (Some (Ret bs)) value → (b : ℕ) × (lists bs b ≡ true) × (value ≡ Some (pos b))
value_returns bs None h = absurd h
value_returns bs (Some value) h = (h.0, h.1, ap Some h.2)

parameter_read : (s : State) (n q : ℕ) (b : LiveTransaction) → at None s.transactions n ≡ Some b → at None (parameters_of n s) q
    ≡ parameter_at n q s.transactions
parameter_read s n q b found =
    ap (λ o. at None (option_map_or (λ (t : LiveTransaction). t.parameters) o no_parameters) q) found
    ∙ sym (ap (λ o. option_flatten (option_map (λ (t : LiveTransaction). at None t.parameters q) o)) found)

module _ (p : Parts) where
  -- a block that may be entered is one to which a move may lead
  may_lead : (b : ℕ) → MayBeEntered p b → MayLead p.blocks b
  may_lead b may = enterable (block_at p.blocks b) may

  -- and so are those on each way
  on_ways : (b : ℕ) (es : List Exit) (others : List Way) → All (λ (exit : Exit). MayBeEntered p (leads_to b exit.way)) es
      → All (λ way. MayBeEntered p (leads_to b way)) others
      → AllByRecursion (λ way. MayLead p.blocks (leads_to b way)) (map (λ (exit : Exit). exit.way) es ++ others)
  on_ways b [] [] each others = tt
  on_ways b [] (way ∷ ways) each others = (
    may_lead (leads_to b way) (All-head (λ way. MayBeEntered p (leads_to b way)) way ways others),
    on_ways b [] ways each (All-tail (λ way. MayBeEntered p (leads_to b way)) way ways others),
  )
  on_ways b (e ∷ es) ways each others = (
    may_lead (leads_to b e.way) (All-head (λ (exit : Exit). MayBeEntered p (leads_to b exit.way)) e es each),
    on_ways b es ways (All-tail (λ (exit : Exit). MayBeEntered p (leads_to b exit.way)) e es each) others,
  )

  module _ (each_return : All (ReturnsHold p) p.returns)
      (each_block : (b : ℕ) (block : Block) → block_at p.blocks b ≡ Some block → BlockHolds p b block) (s : State) (n : ℕ) (t : Transaction) where
    inside : (block : Block) (row : Row) → Acts p s n t block row → (e : ℕ) → units_of row e ≤ content_of e s.entities (kind_at p.entities e)
    inside block row acts e =
        omega (
          arith,
          acts.typed.promised e,
          at-le-sum None (λ t. promised_units e (row_of p t)) s.transactions n refl,
          ap (promised_units e) (its_row p s.transactions n t block row acts.is),
        )

    known_value : (block : Block) (row : Row) → Acts p s n t block row → (q : ℕ) (kind : ParamKind) → kind_of row q ≡ Some kind
        → IsAsKnown (Some kind) (parameter_at n q s.transactions)
    known_value block row acts q kind is =
        let bears = bearer_at s.transactions n t acts.is.found in
        subst (IsAsKnown (Some kind)) (parameter_read s n q bears.0 bears.1)
        (subst (λ k. IsAsKnown k (at None (parameters_of n s) q)) is (its_parameters p s acts.typed n t block row acts.is q))

    held : (u : Units) (row : Row) (kind : Option Kind) (capacity : ℕ) → kind ≡ Some (kinds.Storage capacity) → units_of row u.entity
        ≤ content_of u.entity s.entities kind → units_of row u.entity ≤ (storage u.entity s).contents.content
    held u row kind capacity is h = subst (λ k. units_of row u.entity ≤ content_of u.entity s.entities k) is h

    -- where the rule holds that it has to own nothing, it owns nothing
    owns_nothing : (block : Block) (row : Row) → Acts p s n t block row → (length row.facilities == 0) ≡ true → owns_any n s.entities.facilities ≡ false
    owns_nothing block row acts none = owns_none s.entities.facilities n (λ f. owner_as p s n t block row acts f ∙ lists-none row.facilities none f)

    asks : (block : Block) (row : Row) → Acts p s n t block row → Asks p n s block
    asks (blocks.Terminate by) row acts =
        owns_nothing (blocks.Terminate by) row acts (the_rule p t.next codes.owns_at_end (length row.facilities == 0) (blocks.Terminate by) row refl acts.flow)
    asks (blocks.Assemble size) row acts =
        owns_nothing (blocks.Assemble size) row acts
        (the_rule p t.next codes.owns_at_end (length row.facilities == 0) (blocks.Assemble size) row refl acts.flow)
    asks (blocks.Seize f) row acts =
        owner_as p s n t (blocks.Seize f) row acts f
        ∙ not-true (owns row f) (the_rule p t.next codes.already_owned (not (owns row f)) (blocks.Seize f) row refl acts.flow)
    asks (blocks.Release f) row acts =
        owner_as p s n t (blocks.Release f) row acts f ∙ the_rule p t.next codes.not_owner (owns row f) (blocks.Release f) row refl acts.flow
    asks (blocks.Enter u) row acts =
        let rule = leb-true _ _ (the_rule p t.next codes.over_capacity (nat_le u.number (capacity_at p.entities u.entity)) (blocks.Enter u)
        row refl acts.flow) in
        omega (arith, rule, acts.typed.sized u.entity)
    asks (blocks.Leave u) row acts =
        let kind = is_storage p.entities u.entity acts.kinds.entities in
        let enough = leb-true u.number (units_of row u.entity)
        (the_rule p t.next codes.too_few_units (nat_le u.number (units_of row u.entity)) (blocks.Leave u) row refl acts.flow) in
        omega (arith, enough, held u row (kind_at p.entities u.entity) kind.0 kind.1 (inside (blocks.Leave u) row acts u.entity))
    asks (blocks.Depart u) row acts =
        let kind = is_queue p.entities u.entity acts.kinds.entities in
        let enough = leb-true u.number (units_of row u.entity)
        (the_rule p t.next codes.too_few_units (nat_le u.number (units_of row u.entity)) (blocks.Depart u) row refl acts.flow) in
        let within : units_of row u.entity ≤ (queue u.entity s).content =
        subst (λ k. units_of row u.entity ≤ content_of u.entity s.entities k) kind (inside (blocks.Depart u) row acts u.entity) in
        omega (arith, enough, within)
    asks (blocks.TransferByParameter q) row acts =
        let kind = return_is p (own_table p) t.next q row acts.flow in
        let number = value_returns kind.0 (parameter_at n q s.transactions) (known_value (blocks.TransferByParameter q) row acts q (Ret kind.0) kind.1) in
        let leads = subst (MayLead p.blocks) (sym (after_it number.0))
        (may_lead (number.0 + 1) (may_come_back p each_block each_return t.next q number.0 row kind.0 acts.is.row_is kind.1 number.1)) in
        subst (IsReturn p.blocks) (sym number.2) leads
    asks (blocks.Loop l) row acts =
        let number = loop_is_number p (own_table p) t.next l row acts.flow in
        value_is_set Num (parameter_at n l.parameter s.transactions) (known_value (blocks.Loop l) row acts l.parameter Num number)
    asks (blocks.Tabulate e) row acts =
        let argument = is_table p.entities e acts.kinds.entities in
        subst IsSome (sym argument.1) refl
    asks block row acts = tt

    -- kinds say where each way leads
    leads : (block : Block) → BlockHolds p t.next block → Leads p.blocks t.next block
    leads block kinds = on_ways t.next (exits block) _ kinds.exits kinds.others

    -- who has entered a TRANSFER BOTH is asked for nothing there
    asks_nothing : (block : Block) (pair : ℕ × ℕ) → choice_at t.next block ≡ Some pair → Asks p n s block
    asks_nothing (blocks.TransferBoth two) pair is = tt
    asks_nothing block pair is = absurd cc

-- the block that the active transaction meets next is there
next_is_there : (p : Parts) (s : State) → WellTyped p s → (n : ℕ) (t : Transaction) → s.lists.active ≡ Some n
    → attributes_at n s.transactions ≡ Some t → (block : Block) × (block_at p.blocks t.next ≡ Some block)
next_is_there p s ty n t active found =
    let bears = bearer_at s.transactions n t found in
    let placed : IsPlaced p bears.0 = subst (λ o. IfSome o (IsPlaced p)) bears.1 (ty.placed n) in
    let free = present_free p s.transactions s.lists s.entities ty n (present s.lists n active) in
    let at_block = place-free bears.0 t (its_chain (at None s.transactions n) bears.0 None bears.1 free) bears.2 in
    some_of (block_at p.blocks t.next) (subst (IsThere p) at_block placed.there)

pub blocks_are_served : BlocksAreServed
blocks_are_served p s checked ty n t active found =
    let block = next_is_there p s ty n t active found in
    let asked : (o : Option (ℕ × ℕ)) → choice_at t.next block.0 ≡ o → Asks p n s block.0 = λ o is. by_choice block.0 block.1 o is in
    let serves : Asks p n s block.0 × Leads p.blocks t.next block.0 = (
      asked (choice_at t.next block.0) refl,
      leads p (returns_of p checked) (kinds_of p checked) s n t block.0 (kinds_of p checked t.next block.0 block.1),
    ) in
    subst (λ o. IsSomeAnd o (λ b. Asks p n s b × Leads p.blocks t.next b)) (sym block.1) serves
  where
    by_choice : (block : Block) → block_at p.blocks t.next ≡ Some block → (o : Option (ℕ × ℕ)) → choice_at t.next block ≡ o → Asks p n s block
    by_choice block there None is =
        let acts = acts_at p (sound_of p checked).entities (kinds_of p checked) (flow_of p checked) s ty n t block active found there
        (λ weighted. one_plain p t block there is) in
        asks p (returns_of p checked) (kinds_of p checked) s n t block acts.0 acts.1
    by_choice block there (Some pair) is = asks_nothing p (returns_of p checked) (kinds_of p checked) s n t block pair is
