-- What the rounds keep.
use Rattle.std.proofs.Common.{◌≡◌, ◌⊎◌, inl, inr, ⊎_elim, ℕ, zero, suc, ◌+◌, ◌*◌, ◌<◌, ◌≤◌, List, [], ◌∷◌, map, length, replicate, get_or, Option}
use Rattle.std.proofs.Common.{Some, None, Bool, true, false, not, ◌==◌, if◌then◌else◌, refl, sym, ap, subst, ◌∙◌, arith}
use Rattle.std.specs.Prelude.{All, IfSome, IsSomeAnd, IsTrue, slice_get, option_to_list, filter_map, cond}
use Rattle.std.specs.List.{list_all}
use Rattle.std.specs.Option.{option_flatten, option_map, option_map_or}
use Rattle.std.proofs.Math.ListN.{length-replicate}
use Rattle.std.proofs.lemmas.Bool.{false≢true, eq-eqb, or_left, or_right}
use Rattle.std.proofs.lemmas.List.Sums.{sum_by_more_le, count_by-le-length}
use Rattle.std.proofs.lemmas.Option.{slice_get-map, slice_get_within, get_or_from_slice_get}
use Rattle.std.proofs.lemmas.List.Elements.{All-nil, All-cons, All-head, All-tail, All-append, All-map, All-weaker, All-replicate}
use Rattle.gw_object.specs.declared.blocks.Block.{Block}
use Rattle.gw_object.specs.declared.blocks.Block.TheVariants as blocks
use Rattle.gw_object.specs.declared.parts.Entity.{Entity}
use Rattle.gw_object.specs.declared.parts.Parts.{Parts}
use Rattle.gw_object.specs.declared.parts.Kind.{Kind}
use Rattle.gw_object.specs.declared.parts.Kind.TheVariants as kinds
use Rattle.gw_object.specs.Entities.{chains_in, is_chain}
use Rattle.gw_rules.specs.declared.entities.EntityKind.TheVariants.{Chain, Facility, StorageOrQueue}
use Rattle.gw_rules.specs.declared.ways.Way.{Way}
use Rattle.gw_rules.specs.declared.ways.Exit.{Exit}
use Rattle.gw_rules.specs.Sources.{values}
use Rattle.gw_rules.specs.Exits.{leads_to, exits, is_call, other_way}
use Rattle.gw_rules.specs.Kinds.{block_at, chain_place, is_generate, is_call_at, needs, serves_as, entity_of}
use Rattle.gw_rules.specs.KindsLaws.{IsEntity, MayBeEntered, BlockHolds}
use Rattle.gw_rules.proofs.KindsHold.{kinds_pass_at_each_place}
use Rattle.gw_rules.specs.declared.edges.Target.{Target}
use Rattle.gw_rules.specs.declared.edges.Target.TheVariants as targets
use Rattle.gw_rules.specs.Blocks.{FlowEdge, Table, Rule, rules, after, edges}
use Rattle.gw_rules.specs.Entries.{lists}
use Rattle.gw_rules.specs.Rows.{Row, ParamKind, Num, Ret, kind_of, units_of, return_blocks, nothing_known, parameters_alone, HasRoom, Fits}
use Rattle.gw_rules.specs.Flow.{FlowPasses}
use Rattle.gw_settle.specs.Joins.{is_within, joined_kind, join_rows, with_state}
use Rattle.gw_settle.specs.Rounds.{TableRows, as_table, send_edge, all_sent, sends_in, sends, visit_block, visited_to, start_row, start}
use Rattle.gw_settle.specs.Keeps.{NoneChanged, IsOnePlace, IsByPlace, IsBelow, may_enter, MayEnter, sets_return, IsKindGrounded, IsGrounded, IsNamed}
use Rattle.gw_settle.specs.Keeps.{KindNamesCalls, NamesCalls, absent, HasFew, IsGood, HasShape, IsWell, AreSound, AreKept}
use Rattle.gw_settle.proofs.Joining.{units_joined}
use Rattle.gw_settle.proofs.Ordering.{keep_all, given_all}
use Rattle.gw_settle.proofs.Rows.{lookup_sent, shape_sent, absent_sent, fewer_sent, absent_length, by_place, if_has, with_state_has, at_target, all_sent_to}
use Rattle.gw_settle.proofs.Goods.{HasLittleMore, named_after, named_alone, calls_after, more_after, at_edges}
use Rattle.gw_settle.proofs.Sending.{LeadsWell, sound_edges}
use Rattle.gw_settle.proofs.Complete.{IsStart, grounded_kinds, grounded_joined, fits_joined, row_passes, start_is_good, start_at}

-- ONE EDGE

-- a state has at most 2^20 units more than rows have for each that is there
abbrev pub HasNearlyFew : Parts → TableRows → Row → Type 0
HasNearlyFew p rows state = (e : ℕ) → units_of state e + absent rows * 1048576 ≤ (length p.blocks + chains_in p.entities) * 1048576 + 1048576

-- an edge that may be sent
pub record MaySend (p : Parts) (rows : TableRows) (e : FlowEdge) : Type 0 where
  pub grounded : IsGrounded p e.state
  pub enters : MayEnter p e.target
  pub named : IsNamed p.entities e.state
  pub calls : NamesCalls p.blocks e.state
  pub nearly : HasNearlyFew p rows e.state

-- the state of an edge fits the row of its target in each table that passes
abbrev pub FitsEach : Parts → FlowEdge → Type 0
FitsEach p e = NoneChanged p → (t : Table) → IsByPlace p t → FlowPasses p t → IsSomeAnd (t e.target) (Fits e.state)

-- what is kept is sound
pub sound_if_kept : (p : Parts) (rows : TableRows) → AreKept p rows → AreSound p rows
sound_if_kept p rows h =
    record { shape = h.shape; grounded = h.good.grounded; named = h.named; block_calls = h.block_calls; chain_calls = h.chain_calls; few = h.few }

below_if : (row there : Option Row) → IsBelow row there → IfSome row (λ r. IsSomeAnd there (Fits r))
below_if None there h = tt
below_if (Some row) there h = h

fits_both : (there : Option Row) (row state : Row) → IsSomeAnd there (Fits row) → IsSomeAnd there (Fits state) → IsSomeAnd there (Fits (join_rows row state))
fits_both None row state h g = h
fits_both (Some other) row state h g = fits_joined row state other h g

named_joined : (es : List Entity) (row state : Row) → IsNamed es row → IsNamed es (join_rows row state)
named_joined es row state h = record { facilities = h.facilities; units = keep_all (λ e. IsEntity es (needs StorageOrQueue e)) _ row.units h.units }

-- a block that keeps a return in a parameter calls a subroutine
is_called : (o : Option Block) (q : ℕ) → sets_return o q ≡ true → option_map_or is_call o false ≡ true
is_called None q h = absurd (false≢true h)
is_called (Some (blocks.TransferToSubroutine c)) q h = refl
is_called (Some block) q h = absurd (false≢true h)

all_listed : (P : ℕ → Type 0) (bs : List ℕ) → ((b : ℕ) → lists bs b ≡ true → P b) → All P bs
all_listed P [] h = All-nil P
all_listed P (x ∷ bs) h =
    All-cons P x bs (h x (or_left (x == x) (lists bs x) (eq-eqb x x refl))) (all_listed P bs (λ b has. h b (or_right (x == b) (lists bs b) has)))

kind_calls : (p : Parts) (q : ℕ) (kind : ParamKind) → IsKindGrounded p q (Some kind) → KindNamesCalls p.blocks kind
kind_calls p q Num h = tt
kind_calls p q (Ret bs) h = all_listed (λ b. is_call_at p.blocks b ≡ true) bs (λ b has. is_called (block_at p.blocks b) q (h.each b has))

calls_joined : (p : Parts) (row state : Row) → IsGrounded p row → IsGrounded p state → NamesCalls p.blocks (join_rows row state)
calls_joined p row state h g =
    given_all (KindNamesCalls p.blocks) (λ n. joined_kind (kind_of row n) (kind_of state n)) row.params
    (λ n v is. kind_calls p n v (subst (IsKindGrounded p n) is (grounded_kinds p n (kind_of row n) (kind_of state n) (h n) (g n))))

pub calls_at : (p : Parts) (rows : TableRows) → AreSound p rows → (x : Target) → IfSome (as_table p rows x) (NamesCalls p.blocks)
calls_at p rows kept = at_target p (NamesCalls p.blocks) rows kept.block_calls kept.chain_calls

abbrev CallsWell : Parts → Row → Type 0
CallsWell p row = NamesCalls p.blocks row × IsGrounded p row

calls_well : (p : Parts) (row : Option Row) → IfSome row (NamesCalls p.blocks) → IfSome row (IsGrounded p) → IfSome row (CallsWell p)
calls_well p None h g = tt
calls_well p (Some row) h g = (h, g)

no_arrival : (there : Option Block) → is_generate there ≡ true → may_enter there ≡ true → ⊥
no_arrival None g h = false≢true g
no_arrival (Some block) g h = false≢true (sym (ap not g) ∙ h)

enters_none : (p : Parts) (b : ℕ) (x : Target) → is_generate (block_at p.blocks b) ≡ true → IsOnePlace p.entities x (targets.Block b) → MayEnter p x → ⊥
enters_none p b (targets.Block c) is same enters = no_arrival (block_at p.blocks b) is (subst (λ n. may_enter (block_at p.blocks n) ≡ true) same enters)
enters_none p b (targets.Chain c) is same enters = same

module _ (p : Parts) (e : FlowEdge) (rows : TableRows) (sound : AreSound p rows) (may : MaySend p rows e) where
  abbrev s : Table
  s = as_table p rows

  abbrev s' : Table
  s' = as_table p (send_edge p e rows)

  looked : (x : Target) → (s' x ≡ s x) ⊎ (IsOnePlace p.entities e.target x × (s' x ≡ Some (with_state e.state (s x))))
  looked = lookup_sent p e rows may.enters sound.shape

  grounded_sent : (x : Target) → IfSome (s' x) (IsGrounded p)
  grounded_sent x = ⊎_elim
      (λ (q : s' x ≡ s x). subst (λ row. IfSome row (IsGrounded p)) (sym q) (sound.grounded x))
      (λ (q : IsOnePlace p.entities e.target x × (s' x ≡ Some (with_state e.state (s x)))).
      subst (λ row. IfSome row (IsGrounded p)) (sym q.1)
      (with_state_has (IsGrounded p) e.state (s x) (sound.grounded x) may.grounded (λ r h g. grounded_joined p r e.state h g)))
      (looked x)

  named_sent : (x : Target) → IfSome (s' x) (IsNamed p.entities)
  named_sent x = ⊎_elim
      (λ (q : s' x ≡ s x). subst (λ row. IfSome row (IsNamed p.entities)) (sym q) (sound.named x))
      (λ (q : IsOnePlace p.entities e.target x × (s' x ≡ Some (with_state e.state (s x)))).
      subst (λ row. IfSome row (IsNamed p.entities)) (sym q.1)
      (with_state_has (IsNamed p.entities) e.state (s x) (sound.named x) may.named (λ r h g. named_joined p.entities r e.state h)))
      (looked x)

  calls_sent : All (λ row. IfSome row (NamesCalls p.blocks)) (send_edge p e rows).blocks
      × All (λ row. IfSome row (NamesCalls p.blocks)) (send_edge p e rows).chains
  calls_sent =
      all_sent_to p (NamesCalls p.blocks) e.state e.target rows sound.block_calls sound.chain_calls
      (with_state_has (CallsWell p) e.state (s e.target)
      (calls_well p (s e.target) (calls_at p rows sound e.target) (sound.grounded e.target)) (may.calls, may.grounded)
      (λ r h g. (calls_joined p r e.state h.1 g.1, grounded_joined p r e.state h.1 g.1))).0

  few_still : (row : Option Row) → IfSome row (HasFew p rows) → IfSome row (HasFew p (send_edge p e rows))
  few_still None h = tt
  few_still (Some row) h = λ q. omega (arith, h q, absent_sent p e rows)

  few_row : (row : Option Row) → s e.target ≡ row → IfSome row (HasFew p rows) → HasFew p (send_edge p e rows) (with_state e.state row)
  few_row None is h = λ q. omega (arith, may.nearly q, fewer_sent p e rows may.enters sound.shape is)
  few_row (Some row) is h =
      if_has (HasFew p (send_edge p e rows)) (is_within e.state row) row (join_rows row e.state)
      (λ q. omega (arith, h q, absent_sent p e rows))
      (λ q. omega (arith, h q, absent_sent p e rows, units_joined row e.state q))

  few_sent : (x : Target) → IfSome (s' x) (HasFew p (send_edge p e rows))
  few_sent x = ⊎_elim
      (λ (q : s' x ≡ s x). subst (λ row. IfSome row (HasFew p (send_edge p e rows))) (sym q) (few_still (s x) (sound.few x)))
      (λ (q : IsOnePlace p.entities e.target x × (s' x ≡ Some (with_state e.state (s x)))).
      subst (λ row. IfSome row (HasFew p (send_edge p e rows))) (sym q.1) (few_row (s x) (by_place p rows e.target x q.0) (sound.few x)))
      (looked x)

  pub sound_sent : AreSound p (send_edge p e rows)
  sound_sent = record {
    shape = shape_sent p e rows sound.shape;
    grounded = grounded_sent;
    named = named_sent;
    block_calls = calls_sent.0;
    chain_calls = calls_sent.1;
    few = few_sent;
  }

module _ (p : Parts) (e : FlowEdge) (rows : TableRows) (kept : AreKept p rows) (may : MaySend p rows e) (fit : FitsEach p e) where
  abbrev before : Table
  before = as_table p rows

  abbrev next : Table
  next = as_table p (send_edge p e rows)

  sound_after : AreSound p (send_edge p e rows)
  sound_after = sound_sent p e rows (sound_if_kept p rows kept) may

  good_sent : IsGood p next
  good_sent = record {
    arrivals = λ b is. ⊎_elim
        (λ (q : next (targets.Block b) ≡ before (targets.Block b)). q ∙ kept.good.arrivals b is)
        (λ (q : IsOnePlace p.entities e.target (targets.Block b)
        × (next (targets.Block b) ≡ Some (with_state e.state (before (targets.Block b))))). absurd (enters_none p b e.target is q.0 may.enters))
        (lookup_sent p e rows may.enters kept.shape (targets.Block b));
    grounded = sound_after.grounded;
    below = λ none t by pass x. ⊎_elim
        (λ (q : next x ≡ before x). subst (λ y. IsBelow y (t x)) (sym q) (kept.good.below none t by pass x))
        (λ (q : IsOnePlace p.entities e.target x × (next x ≡ Some (with_state e.state (before x)))).
        subst (λ y. IsBelow y (t x)) (sym q.1)
        (with_state_has (λ r. IsSomeAnd (t x) (Fits r)) e.state (before x) (below_if (before x) (t x) (kept.good.below none t by pass x))
        (subst (λ y. IsSomeAnd y (Fits e.state)) (by e.target x q.0) (fit none t by pass))
        (λ r h g. fits_both (t x) r e.state h g)))
        (lookup_sent p e rows may.enters kept.shape x);
  }

  pub kept_sent : AreKept p (send_edge p e rows)
  kept_sent = record {
    shape = sound_after.shape;
    good = good_sent;
    named = sound_after.named;
    block_calls = sound_after.block_calls;
    chain_calls = sound_after.chain_calls;
    few = sound_after.few;
  }

-- what may be sent may be sent after another edge was
pub may_still : (p : Parts) (d e : FlowEdge) (rows : TableRows) → MaySend p rows e → MaySend p (send_edge p d rows) e
may_still p d e rows h =
    record { grounded = h.grounded; enters = h.enters; named = h.named; calls = h.calls; nearly = λ q. omega (arith, h.nearly q, absent_sent p d rows) }

-- several edges
may_still_all : (p : Parts) (e : FlowEdge) (es : List FlowEdge) (rows : TableRows) → All (MaySend p rows) (e ∷ es) → All (MaySend p (send_edge p e rows)) es
may_still_all p e es rows h = All-weaker (MaySend p rows) (MaySend p (send_edge p e rows)) (λ d g. may_still p e d rows g) es (All-tail (MaySend p rows) e es h)

pub sound_all : (p : Parts) (es : List FlowEdge) (rows : TableRows) → AreSound p rows → All (MaySend p rows) es → AreSound p (all_sent p es rows)
sound_all p [] rows sound h = sound
sound_all p (e ∷ es) rows sound h =
    sound_all p es (send_edge p e rows) (sound_sent p e rows sound (All-head (MaySend p rows) e es h)) (may_still_all p e es rows h)

pub kept_all : (p : Parts) (es : List FlowEdge) (rows : TableRows) → AreKept p rows → All (MaySend p rows) es → All (FitsEach p) es
    → AreKept p (all_sent p es rows)
kept_all p [] rows kept h fit = kept
kept_all p (e ∷ es) rows kept h fit =
    kept_all p es (send_edge p e rows) (kept_sent p e rows kept (All-head (MaySend p rows) e es h) (All-head (FitsEach p) e es fit))
    (may_still_all p e es rows h) (All-tail (FitsEach p) e es fit)

-- WHAT KINDS GIVE

entered : (o : Option Block) → IsSomeAnd o (λ block. is_generate (Some block) ≡ false) → may_enter o ≡ true
entered None h = absurd h
entered (Some block) h = ap not h

block_holds : (p : Parts) → IsWell p → (b : ℕ) (block : Block) → block_at p.blocks b ≡ Some block → BlockHolds p b block
block_holds p well = ((kinds_pass_at_each_place p).0 well.kinds).5

chain_kind : (kind : Kind) → serves_as Chain kind ≡ true → is_chain kind ≡ true
chain_kind kinds.Chain h = refl
chain_kind kind h = absurd (false≢true h)

chain_at : (es : List Entity) (e : ℕ) (o : Option Entity) → slice_get es e ≡ o
    → IsSomeAnd (option_map (λ (entity : Entity). entity.kind) o) (λ kind. IsTrue (serves_as Chain kind)) → chain_place es e < chains_in es
chain_at es e None is h = absurd h
chain_at es e (Some x) is h =
    let same : get_or es e x ≡ x = get_or_from_slice_get es e x x is in
    let one : ◌≡◌ {A = ℕ} (cond (is_chain (get_or es e x).kind) 1 0) 1 = rw (same, chain_kind x.kind h) refl in
    omega (arith, sum_by_more_le (λ (y : Entity). cond (is_chain y.kind) 1 0) es e x (slice_get_within es e x is), one)

chain_before : (es : List Entity) (e : ℕ) → IsEntity es (needs Chain e) → chain_place es e < chains_in es
chain_before es e h = chain_at es e (slice_get es e) refl h

pub leads_well : (p : Parts) → IsWell p → LeadsWell p
leads_well p well = record {
  ways = λ b block is. All-append (λ (way : Way). may_enter (block_at p.blocks (leads_to b way)) ≡ true)
      (map (λ (exit : Exit). exit.way) (exits block)) (option_to_list (other_way block))
      (All-map (λ (way : Way). may_enter (block_at p.blocks (leads_to b way)) ≡ true) (λ (exit : Exit). exit.way) (exits block)
      (All-weaker (λ (exit : Exit). MayBeEntered p (leads_to b exit.way))
      (λ (exit : Exit). may_enter (block_at p.blocks (leads_to b exit.way)) ≡ true)
      (λ exit h. entered (block_at p.blocks (leads_to b exit.way)) h) (exits block) (block_holds p well b block is).exits))
      (All-weaker (λ (way : Way). MayBeEntered p (leads_to b way)) (λ (way : Way). may_enter (block_at p.blocks (leads_to b way)) ≡ true)
      (λ way h. entered (block_at p.blocks (leads_to b way)) h) (option_to_list (other_way block)) (block_holds p well b block is).others);
  links = λ b l is. chain_before p.entities l.chain
      (All-head (IsEntity p.entities) (needs Chain l.chain) (filter_map entity_of (values (blocks.Link l))) (block_holds p well b (blocks.Link l) is).entities);
}

-- WHAT A BLOCK SENDS

all_if : (P : FlowEdge → Type 0) (c : Bool) (es : List FlowEdge) → All P es → All P (if c then es else [])
all_if P true es h = h
all_if P false es h = All-nil P

nearly_alone : (p : Parts) (rows : TableRows) (row : Row) → absent rows ≤ length p.blocks + chains_in p.entities → HasNearlyFew p rows (parameters_alone row)
nearly_alone p rows row h = λ e. omega (arith, h)

few_nearly : (p : Parts) (rows : TableRows) (row state : Row) → HasFew p rows row → HasLittleMore row state → HasNearlyFew p rows state
few_nearly p rows row state h g = λ e. omega (arith, h e, g e)

if_nearly : (p : Parts) (rows : TableRows) (row : Option Row) → IfSome row (HasFew p rows) → IfSome row (HasNearlyFew p rows)
if_nearly p rows None h = tt
if_nearly p rows (Some row) h = λ e. omega (arith, h e)

all_absent : (p : Parts) (rows : TableRows) → HasShape p rows → absent rows ≤ length p.blocks + chains_in p.entities
all_absent p rows s = omega (arith, absent_length rows.blocks, absent_length rows.chains, s.blocks, s.chains)

edges_may : (p : Parts) (b : ℕ) (block : Block) (row : Row) (rows : TableRows) → IsWell p → AreSound p rows → block_at p.blocks b
    ≡ Some block → as_table p rows (targets.Block b) ≡ Some row → All (MaySend p rows) (edges p (as_table p rows) b block row)
edges_may p b block row rows well sound is has =
    let table = as_table p rows in
    let holds = block_holds p well b block is in
    let few : HasFew p rows row = subst (λ r. IfSome r (HasFew p rows)) has (sound.few (targets.Block b)) in
    let named : IsNamed p.entities row = subst (λ r. IfSome r (IsNamed p.entities)) has (sound.named (targets.Block b)) in
    let grounded : IsGrounded p row = subst (λ r. IfSome r (IsGrounded p)) has (sound.grounded (targets.Block b)) in
    let leads = sound_edges p (leads_well p well) table b block row is grounded sound.grounded in
    let names = at_edges (IsNamed p.entities) table b block row named (named_after p.entities b block row holds.entities named)
    (named_alone p.entities (after b block row)) (λ e. sound.named (targets.Chain e)) in
    let own_calls : NamesCalls p.blocks row = subst (λ r. IfSome r (NamesCalls p.blocks)) has (calls_at p rows sound (targets.Block b)) in
    let then_calls = calls_after p.blocks b block row is own_calls in
    let calls = at_edges (NamesCalls p.blocks) table b block row own_calls then_calls then_calls (λ e. calls_at p rows sound (targets.Chain e)) in
    let nearly = at_edges (HasNearlyFew p rows) table b block row (few_nearly p rows row row few (λ e. omega arith))
    (few_nearly p rows row (after b block row) few (more_after b block row holds.constants))
    (nearly_alone p rows (after b block row) (all_absent p rows sound.shape))
    (λ e. if_nearly p rows (table (targets.Chain e)) (sound.few (targets.Chain e))) in
    λ k d within. record {
      grounded = (leads k d within).0;
      enters = (leads k d within).1;
      named = names k d within;
      calls = calls k d within;
      nearly = nearly k d within;
    }

edges_fit : (p : Parts) (b : ℕ) (block : Block) (row : Row) (rows : TableRows) → AreKept p rows → block_at p.blocks b ≡ Some block
    → as_table p rows (targets.Block b) ≡ Some row → All (FitsEach p) (edges p (as_table p rows) b block row)
edges_fit p b block row rows kept is has =
    λ k d within none t by pass. (row_passes p (as_table p rows) t kept.good none by pass b block row is has).1 k d within

sends_may_in : (p : Parts) (b : ℕ) (block : Option Block) (row : Option Row) (rows : TableRows) → IsWell p → AreSound p rows
    → block_at p.blocks b ≡ block → as_table p rows (targets.Block b) ≡ row → All (MaySend p rows) (sends_in p (as_table p rows) b block row)
sends_may_in p b None row rows well sound is has = All-nil (MaySend p rows)
sends_may_in p b (Some block) None rows well sound is has = All-nil (MaySend p rows)
sends_may_in p b (Some block) (Some row) rows well sound is has =
    all_if (MaySend p rows) (list_all (λ (rule : Rule). rule.holds) (rules p block row)) (edges p (as_table p rows) b block row)
    (edges_may p b block row rows well sound is has)

-- what a block sends may be sent
pub sends_may : (p : Parts) (b : ℕ) (rows : TableRows) → IsWell p → AreSound p rows → All (MaySend p rows) (sends p (as_table p rows) b)
sends_may p b rows well sound = sends_may_in p b (block_at p.blocks b) (as_table p rows (targets.Block b)) rows well sound refl refl

sends_fit_in : (p : Parts) (b : ℕ) (block : Option Block) (row : Option Row) (rows : TableRows) → AreKept p rows → block_at p.blocks b
    ≡ block → as_table p rows (targets.Block b) ≡ row → All (FitsEach p) (sends_in p (as_table p rows) b block row)
sends_fit_in p b None row rows kept is has = All-nil (FitsEach p)
sends_fit_in p b (Some block) None rows kept is has = All-nil (FitsEach p)
sends_fit_in p b (Some block) (Some row) rows kept is has =
    all_if (FitsEach p) (list_all (λ (rule : Rule). rule.holds) (rules p block row)) (edges p (as_table p rows) b block row)
    (edges_fit p b block row rows kept is has)

-- what a block sends fits where it comes
sends_fit : (p : Parts) (b : ℕ) (rows : TableRows) → AreKept p rows → All (FitsEach p) (sends p (as_table p rows) b)
sends_fit p b rows kept = sends_fit_in p b (block_at p.blocks b) (as_table p rows (targets.Block b)) rows kept refl refl

-- ROUNDS

pub visits_keep : (p : Parts) (b : ℕ) (rows : TableRows) → IsWell p → AreKept p rows → AreKept p (visit_block p b rows)
visits_keep p b rows well kept =
    kept_all p (sends p (as_table p rows) b) rows kept (sends_may p b rows well (sound_if_kept p rows kept)) (sends_fit p b rows kept)

visit_sound : (p : Parts) (b : ℕ) (rows : TableRows) → IsWell p → AreSound p rows → AreSound p (visit_block p b rows)
visit_sound p b rows well sound = sound_all p (sends p (as_table p rows) b) rows sound (sends_may p b rows well sound)

pub visited_sound : (p : Parts) (k : ℕ) (rows : TableRows) → IsWell p → AreSound p rows → AreSound p (visited_to p k rows)
visited_sound p zero rows well sound = sound
visited_sound p (suc k) rows well sound = visit_sound p (suc k) (visited_to p k rows) well (visited_sound p k rows well sound)

pub visited_keep : (p : Parts) (k : ℕ) (rows : TableRows) → IsWell p → AreKept p rows → AreKept p (visited_to p k rows)
visited_keep p zero rows well kept = kept
visited_keep p (suc k) rows well kept = visits_keep p (suc k) (visited_to p k rows) well (visited_keep p k rows well kept)

-- THE START

start_some : (o : Option Block) → is_generate o ≡ true → option_flatten (option_map start_row o) ≡ Some nothing_known
start_some None h = absurd (false≢true h)
start_some (Some block) h = rw h refl

start_none : (o : Option Block) → is_generate o ≡ false → option_flatten (option_map start_row o) ≡ None
start_none None h = refl
start_none (Some block) h = rw h refl

no_chain : (n k : ℕ) → ◌≡◌ {A = Option Row} (option_flatten (slice_get (replicate n None) k)) None
no_chain zero k = refl
no_chain (suc n) zero = refl
no_chain (suc n) (suc k) = no_chain n k

start_block : (p : Parts) (b : ℕ) (row : Option Row)
    → ((o : Option Block) → o ≡ block_at p.blocks b → option_flatten (option_map start_row o) ≡ row) → as_table p (start p) (targets.Block b) ≡ row
start_block p zero row h = h None refl
start_block p (suc i) row h = ap option_flatten (slice_get-map start_row p.blocks i) ∙ h (slice_get p.blocks i) refl

is_start : (p : Parts) → IsStart p (as_table p (start p))
is_start p = record {
  arrivals = λ b is. start_block p b (Some nothing_known) (λ o q. start_some o (ap is_generate q ∙ is));
  others = λ b is. start_block p b None (λ o q. start_none o (ap is_generate q ∙ is));
  chains = λ e. no_chain (chains_in p.entities) (chain_place p.entities e);
}

length_start : (bs : List Block) → length (map start_row bs) ≡ length bs
length_start [] = refl
length_start (b ∷ bs) = omega (arith, length_start bs)

pub start_kept : (p : Parts) → AreKept p (start p)
start_kept p = record {
  shape = shape;
  good = start_is_good p (as_table p (start p)) (is_start p);
  named = λ x. from_start (IsNamed p.entities) nothing_named x;
  block_calls = start_calls p.blocks;
  chain_calls = All-replicate (λ row. IfSome row (NamesCalls p.blocks)) (chains_in p.entities) None tt;
  few = λ x. from_start (HasFew p (start p)) nothing_few x;
}
  where
    start_calls_if : (arrives : Bool) → IfSome (if arrives then Some nothing_known else None) (NamesCalls p.blocks)
    start_calls_if true = All-nil (λ (e : ℕ × ParamKind). KindNamesCalls p.blocks e.1)
    start_calls_if false = tt

    start_calls : (bs : List Block) → All (λ row. IfSome row (NamesCalls p.blocks)) (map start_row bs)
    start_calls [] = All-nil (λ row. IfSome row (NamesCalls p.blocks))
    start_calls (b ∷ bs) = All-cons (λ row. IfSome row (NamesCalls p.blocks)) (start_row b) (map start_row bs)
        (start_calls_if (is_generate (Some b))) (start_calls bs)

    shape : HasShape p (start p)
    shape = record { blocks = length_start p.blocks; chains = length-replicate (chains_in p.entities) None }

    nothing_named : IsNamed p.entities nothing_known
    nothing_named = record {
      facilities = All-nil (λ f. IsEntity p.entities (needs Facility f));
      units =
          All-nil (λ (e : ℕ × ℕ). IsEntity p.entities (needs StorageOrQueue e.0));
    }

    nothing_few : HasFew p (start p) nothing_known
    nothing_few = λ e. omega (arith, all_absent p (start p) shape)

    of_row : (P : Row → Type 0) (row : Option Row) → P nothing_known → (row ≡ None) ⊎ (row ≡ Some nothing_known) → IfSome row P
    of_row P row h (inl q) = subst (λ r. IfSome r P) (sym q) tt
    of_row P row h (inr q) = subst (λ r. IfSome r P) (sym q) h

    from_start : (P : Row → Type 0) → P nothing_known → (x : Target) → IfSome (as_table p (start p) x) P
    from_start P h x = of_row P (as_table p (start p) x) h
        (⊎_elim (λ (q : as_table p (start p) x ≡ None). inl q)
        (λ (q : (as_table p (start p) x ≡ Some nothing_known) × ((b : ℕ) × (x ≡ targets.Block b)
        × (is_generate (block_at p.blocks b) ≡ true))). inr q.0) (start_at p (as_table p (start p)) x (is_start p)))

-- ROOM

in_range : (p : Parts) (b q : ℕ) (o : Option Block) → block_at p.blocks b ≡ o → sets_return o q ≡ true → b ≤ length p.blocks
in_range p b q None is h = absurd (false≢true h)
in_range p zero q (Some block) is h = omega arith
in_range p (suc k) q (Some block) is h = omega (arith, slice_get_within p.blocks k block is)

returns_room : (p : Parts) (q : ℕ) (kind : Option ParamKind) → length p.blocks ≤ 4096 → IsKindGrounded p q kind → All (λ b. b < 65535) (return_blocks kind)
returns_room p q None few h = All-nil (λ b. b < 65535)
returns_room p q (Some Num) few h = All-nil (λ b. b < 65535)
returns_room p q (Some (Ret bs)) few h = all_listed (λ b. b < 65535) bs (λ b has. omega (arith, few, in_range p b q (block_at p.blocks b) refl (h.each b has)))

chains_few : (p : Parts) → IsWell p → chains_in p.entities ≤ 1024
chains_few p well = omega (arith, count_by-le-length (λ (e : Entity). is_chain e.kind) p.entities, well.spelled.limits.entities)

-- a row has room for what a block adds
pub row_room : (p : Parts) (b : ℕ) (row : Row) (rows : TableRows) → IsWell p → AreSound p rows → as_table p rows (targets.Block b) ≡ Some row → HasRoom row
row_room p b row rows well sound has =
    let few : HasFew p rows row = subst (λ r. IfSome r (HasFew p rows)) has (sound.few (targets.Block b)) in
    let grounded : IsGrounded p row = subst (λ r. IfSome r (IsGrounded p)) has (sound.grounded (targets.Block b)) in
    record {
      amounts = λ e. omega (arith, few e, chains_few p well, well.spelled.limits.blocks);
      returns = λ q. returns_room p q (kind_of row q) well.spelled.limits.blocks (grounded q);
    }

-- each edge that a block sends leads to a place
pub sends_enter : (p : Parts) (b : ℕ) (rows : TableRows) → IsWell p → AreSound p rows
    → All (λ (e : FlowEdge). MayEnter p e.target) (sends p (as_table p rows) b)
sends_enter p b rows well sound =
    All-weaker (MaySend p rows) (λ (e : FlowEdge). MayEnter p e.target) (λ e h. h.enters) (sends p (as_table p rows) b) (sends_may p b rows well sound)
