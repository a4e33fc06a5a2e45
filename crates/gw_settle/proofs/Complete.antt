-- Each row that the rounds compute fits the row of every table that passes, so a settled table passes where any does.
use Rattle.std.proofs.Common.{◌≡◌, ◌⊎◌, ⊎_elim, inl, inr, ℕ, List, [], ◌∷◌, ◌++◌, length, Option, Some, None, Bool, true, false, not, ◌&&◌, ◌||◌}
use Rattle.std.proofs.Common.{◌==◌, refl, sym, ap, subst, ◌∙◌, arith}
use Rattle.std.specs.Prelude.{All, IsSomeAnd, IfSome, is_some}
use Rattle.std.specs.List.{list_all}
use Rattle.std.proofs.lemmas.Bool.{and_parts, and_from, eqb-true, eq-eqb, false≢true}
use Rattle.std.proofs.lemmas.List.Elements.{All-nil, All-cons, All-head, All-tail, All-append}
use Rattle.gw_object.specs.declared.blocks.Assign.{Assign}
use Rattle.gw_object.specs.declared.blocks.Generate.{Generate}
use Rattle.gw_object.specs.declared.blocks.Mode.TheVariants.{Set}
use Rattle.gw_object.specs.declared.blocks.Block.{Block}
use Rattle.gw_object.specs.declared.blocks.Block.TheVariants as blocks
use Rattle.gw_object.specs.declared.parts.Parts.{Parts}
use Rattle.gw_rules.specs.Kinds.{block_at, is_generate}
use Rattle.gw_rules.specs.declared.edges.Target.{Target}
use Rattle.gw_rules.specs.declared.edges.Target.TheVariants as targets
use Rattle.gw_rules.specs.Blocks.{FlowEdge, Table, Rule, rule, replaces, rules, value_rules, own_rules, move, edges_from, members_move, members_edges, chain_edges, edges}
use Rattle.gw_rules.specs.FlowCodes as codes
use Rattle.gw_rules.specs.Entries.{lists}
use Rattle.gw_rules.specs.Rows.{Row, ParamKind, Num, Ret, kind_of, is_return, is_empty, nothing_known, Fits}
use Rattle.gw_rules.specs.Flow.{FlowPasses}
use Rattle.gw_rules.specs.FlowLaws.{MayPass, FlowHolds, forbids}
use Rattle.gw_rules.proofs.EachBlock.{All-front, All-back}
use Rattle.gw_rules.proofs.Chains.{ChainUse, Links, Unlinks, Neither, chain_use}
use Rattle.gw_rules.proofs.Fitting.{fits_on, fits_itself}
use Rattle.gw_rules.proofs.Passing.{flow_passes_at_each_block}
use Rattle.gw_rules.proofs.Monotone.{fitting_states_pass}
use Rattle.gw_settle.specs.Joins.{joined_kind, join_rows, Within}
use Rattle.gw_settle.proofs.Joining.{join_is_greatest, kind_joined, in_either}
use Rattle.gw_settle.specs.Rounds.{sends}
use Rattle.gw_settle.specs.Keeps.{changes, NoneChanged, IsByPlace, IsKindGrounded, IsGrounded, IsBelow, IsTableBelow, IsGood, IsIdle, IsIdleAt}

abbrev Holds : Rule → Type 0
Holds rule = rule.holds ≡ true

-- what a block forbids: at an arrival all, at an ASSIGN that its parameter is a return
data Forbidding : Block → Type 0 where
  Arrives : (g : Generate) → Forbidding (blocks.Generate g)
  Assigns : (a : Assign) → Forbidding (blocks.Assign a)
  Nothing : {block : Block} → forbids block ≡ false → Forbidding block

forbidding : (block : Block) → Forbidding block
forbidding (blocks.Generate g) = Arrives g
forbidding (blocks.Assign a) = Assigns a
forbidding block = Nothing refl

-- NOTHING IS KNOWN

no_list : {X : Type 0} (xs : List X) → (length xs == 0) ≡ true → xs ≡ []
no_list [] h = refl
no_list (x ∷ xs) h = absurd (let e = eqb-true (length (x ∷ xs)) 0 h in omega (arith, e))

empty_fields : (ps : List (ℕ × ParamKind)) (fs : List ℕ) (us : List (ℕ × ℕ)) → ps ≡ [] → fs ≡ [] → us ≡ []
    → ◌≡◌ {A = Row} (record { params = ps; facilities = fs; units = us }) nothing_known
empty_fields ps fs us e f g = rw (e, f, g) refl

empty_is : (row : Row) → is_empty row ≡ true → row ≡ nothing_known
empty_is row h =
    let p = and_parts ((length row.params == 0) && (length row.facilities == 0)) (length row.units == 0) h in
    let q = and_parts (length row.params == 0) (length row.facilities == 0) p.0 in
    empty_fields row.params row.facilities row.units (no_list row.params q.0) (no_list row.facilities q.1) (no_list row.units p.1)

some_same : {X : Type 0} (x y : X) → Some x ≡ Some y → x ≡ y
some_same x y h = cc

-- JOINS KEEP WHAT HOLDS

module _ (p : Parts) where
  pub grounded_kinds : (q : ℕ) (k l : Option ParamKind) → IsKindGrounded p q k → IsKindGrounded p q l → IsKindGrounded p q (joined_kind k l)
  grounded_kinds q None l h g = tt
  grounded_kinds q (Some Num) None h g = tt
  grounded_kinds q (Some Num) (Some Num) h g = tt
  grounded_kinds q (Some Num) (Some (Ret cs)) h g = tt
  grounded_kinds q (Some (Ret bs)) None h g = tt
  grounded_kinds q (Some (Ret bs)) (Some Num) h g = tt
  grounded_kinds q (Some (Ret bs)) (Some (Ret cs)) h g = record {
    some = h.some;
    each = λ b has. ⊎_elim (λ (x : lists bs b ≡ true). h.each b x) (λ (x : lists cs b ≡ true). g.each b x) (in_either bs cs b has);
  }

  pub grounded_joined : (row state : Row) → IsGrounded p row → IsGrounded p state → IsGrounded p (join_rows row state)
  grounded_joined row state h g = λ q. rw (kind_joined row state q) (grounded_kinds q (kind_of row q) (kind_of state q) (h q) (g q))

within : (state row : Row) → Fits state row → Within state row
within state row h = record { params = h.params; units = h.units }

-- what fits both fits the join of both
pub fits_joined : (row state other : Row) → Fits row other → Fits state other → Fits (join_rows row state) other
fits_joined row state other h g =
    let both = join_is_greatest row state other (within row other h) (within state other g) in
    record { params = both.params; facilities = h.facilities; units = both.units }

-- A ROW BELOW ONE THAT PASSES

module _ (p : Parts) (s t : Table) (good : IsGood p s) (none : NoneChanged p) (by : IsByPlace p t) (pass : FlowPasses p t) where
  holds : FlowHolds p t
  holds = (flow_passes_at_each_block p t).0 pass

  below : IsTableBelow s t
  below = good.below none t by pass

  -- a parameter to which something is added holds no return
  not_return : (b q : ℕ) (kind : Option ParamKind) → changes (block_at p.blocks b) q ≡ true → IsKindGrounded p q kind → is_return kind ≡ false
  not_return b q None h g = refl
  not_return b q (Some Num) h g = refl
  not_return b q (Some (Ret bs)) h g = absurd (none g.some.0 b q g.some.1 h)

  either : (sets : Bool) (kind : Option ParamKind) → (sets ≡ false → is_return kind ≡ false) → (sets || not (is_return kind)) ≡ true
  either true kind h = refl
  either false kind h = ap not (h refl)

  may_assign : (b : ℕ) (a : Assign) (state row : Row) → block_at p.blocks b ≡ Some (blocks.Assign a) → IsGrounded p state → Fits state row
      → MayPass p t b (blocks.Assign a) row → MayPass p t b (blocks.Assign a) state
  may_assign b a state row is g fits may =
      let sets : Block = blocks.Assign (record a { mode = Set }) in
      let values = All-front Holds (value_rules p (blocks.Assign a) row) (own_rules p (blocks.Assign a) row) may.each_rule in
      let always = All-cons Holds (rule codes.param_kind true) [] refl (All-nil Holds) in
      let as_set : MayPass p t b sets row =
      record { each_rule = All-append Holds (value_rules p (blocks.Assign a) row) (own_rules p sets row) values always; each_edge = may.each_edge } in
      let on = fitting_states_pass p t b sets state row refl fits as_set in
      let own : (replaces a.mode || not (is_return (kind_of state a.parameter))) ≡ true = either (replaces a.mode) (kind_of state a.parameter)
      (λ adds. not_return b a.parameter (kind_of state a.parameter)
      (ap (λ k. changes k a.parameter) is
      ∙ and_from (not (replaces a.mode)) (a.parameter == a.parameter) (ap not adds) (eq-eqb a.parameter a.parameter refl)) (g a.parameter)) in
      record {
        each_rule = All-append Holds (value_rules p (blocks.Assign a) state) (own_rules p (blocks.Assign a) state)
            (All-front Holds (value_rules p (blocks.Assign a) state) (own_rules p sets state) on.each_rule)
            (All-cons Holds (rule codes.param_kind (replaces a.mode || not (is_return (kind_of state a.parameter)))) [] own (All-nil Holds));
        each_edge = on.each_edge;
      }

  may_pass : (b : ℕ) (block : Block) (state row : Row) → Forbidding block → block_at p.blocks b ≡ Some block → s (targets.Block b)
      ≡ Some state → Fits state row → MayPass p t b block row → MayPass p t b block state
  may_pass b _ state row (Arrives g) is has fits may =
      let rule_holds = All-back Holds (value_rules p (blocks.Generate g) row) (own_rules p (blocks.Generate g) row) may.each_rule in
      let empty = empty_is row (All-head Holds (rule codes.edge_state (is_empty row)) [] rule_holds) in
      let here : state ≡ nothing_known = some_same state nothing_known (sym has ∙ good.arrivals b (ap is_generate is)) in
      subst (MayPass p t b (blocks.Generate g)) (empty ∙ sym here) may
  may_pass b _ state row (Assigns a) is has fits may =
      may_assign b a state row is (subst (λ row. IfSome row (IsGrounded p)) has (good.grounded (targets.Block b))) fits may
  may_pass b block state row (Nothing isnt) is has fits may = fitting_states_pass p t b block state row isnt fits may

  -- EDGES TO AND FROM CHAINS

  abbrev Fit : FlowEdge → Type 0
  Fit edge = IsSomeAnd (t edge.target) (Fits edge.state)

  on : (there : Option Row) (state row : Row) → Fits state row → IsSomeAnd there (Fits row) → IsSomeAnd there (Fits state)
  on None state row h g = g
  on (Some other) state row h g = fits_on state row other h g

  members_fit : (to : ℕ) (own other : Option Row) → IsBelow own other → All Fit (members_move to other) → All Fit (members_move to own)
  members_fit to None other h g = All-nil Fit
  members_fit to (Some own) None h g = absurd h
  members_fit to (Some own) (Some other) h g =
      All-cons Fit (record (move to own) { code = codes.chain_state }) []
      (on (t (targets.Block to)) own other h (All-head Fit (record (move to other) { code = codes.chain_state }) [] g)) (All-nil Fit)

  chains_fit : (block : Block) (state : Row) → ChainUse block → All Fit (chain_edges t block state) → All Fit (chain_edges s block state)
  chains_fit _ state (Links l) h = h
  chains_fit _ state (Unlinks u) h = members_fit u.target (s (targets.Chain u.chain)) (t (targets.Chain u.chain)) (below (targets.Chain u.chain)) h
  chains_fit block state (Neither joins_none members) h =
      subst (λ es. All Fit (es ++ members_edges s block)) (sym (joins_none state)) (subst (All Fit) (sym (members s)) (All-nil Fit))

  -- in its row of the table of the rounds, a block's rules hold, and its edges fit the rows of the table that passes
  row_in : (b : ℕ) (block : Block) (state : Row) (there : Option Row) → block_at p.blocks b ≡ Some block → s (targets.Block b) ≡ Some state
      → t (targets.Block b) ≡ there → IsSomeAnd there (Fits state) → All Holds (rules p block state) × All Fit (edges p s b block state)
  row_in b block state None is has there fits = absurd fits
  row_in b block state (Some row) is has there fits =
      let may = may_pass b block state row (forbidding block) is has fits (holds.each_row b block row is there) in (
        may.each_rule,
        All-append Fit (edges_from b block state) (chain_edges s block state)
            (All-front Fit (edges_from b block state) (chain_edges t block state) may.each_edge)
            (chains_fit block state (chain_use block) (All-back Fit (edges_from b block state) (chain_edges t block state) may.each_edge)),
      )

  pub row_passes : (b : ℕ) (block : Block) (state : Row) → block_at p.blocks b ≡ Some block → s (targets.Block b) ≡ Some state
      → All Holds (rules p block state) × All Fit (edges p s b block state)
  row_passes b block state is has =
      row_in b block state (t (targets.Block b)) is has refl (subst (λ r. IsBelow r (t (targets.Block b))) has (below (targets.Block b)))

  -- A SETTLED TABLE

  idle_fits : (state : Row) (own other : Option Row) → IsBelow own other → IsSomeAnd own (Within state) → IsSomeAnd other (Fits state)
      → IsSomeAnd own (Fits state)
  idle_fits state None other h idle fits = idle
  idle_fits state (Some row) None h idle fits = absurd h
  idle_fits state (Some row) (Some other) h idle fits = record { params = idle.params; facilities = fits.facilities ∙ sym h.facilities; units = idle.units }

  all_fit : (es : List FlowEdge) → All (IsIdle s) es → All Fit es → All (λ edge. IsSomeAnd (s edge.target) (Fits edge.state)) es
  all_fit [] idle fits = All-nil (λ edge. IsSomeAnd (s edge.target) (Fits edge.state))
  all_fit (e ∷ es) idle fits =
      All-cons (λ edge. IsSomeAnd (s edge.target) (Fits edge.state)) e es
      (idle_fits e.state (s e.target) (t e.target) (below e.target) (All-head (IsIdle s) e es idle) (All-head Fit e es fits))
      (all_fit es (All-tail (IsIdle s) e es idle) (All-tail Fit e es fits))

  all_hold : (rs : List Rule) → All Holds rs → list_all (λ (rule : Rule). rule.holds) rs ≡ true
  all_hold [] h = refl
  all_hold (r ∷ rs) h = and_from r.holds (list_all (λ (rule : Rule). rule.holds) rs) (All-head Holds r rs h) (all_hold rs (All-tail Holds r rs h))

  settled_row : ((b : ℕ) → IsIdleAt p s b) → (b : ℕ) (block : Block) (state : Row) → block_at p.blocks b ≡ Some block → s (targets.Block b)
      ≡ Some state → MayPass p s b block state
  settled_row settled b block state is has =
      let passes = row_passes b block state is has in
      let sent : sends p s b ≡ edges p s b block state = rw (is, has) (rw (all_hold (rules p block state) passes.0) refl) in
      record { each_rule = passes.0; each_edge = all_fit (edges p s b block state) (subst (All (IsIdle s)) sent (settled b)) passes.1 }

  pub settled_holds : ((b : ℕ) → IsIdleAt p s b) → FlowPasses p s
  settled_holds settled = (flow_passes_at_each_block p s).1 (record {
    arrivals = λ b is. ap is_there (good.arrivals b is);
    each_row = λ b block row is has. settled_row settled b block row is has;
  })
    where
      is_there : Option Row → Bool
      is_there None = false
      is_there (Some row) = true

pub settled_passes : (p : Parts) (s t : Table) → NoneChanged p → IsGood p s → ((b : ℕ) → IsIdleAt p s b) → IsByPlace p t → FlowPasses p t → FlowPasses p s
settled_passes p s t none good settled by pass = settled_holds p s t good none by pass settled

-- THE START

-- a table at the start: of an arrival nothing is known, and nobody goes anywhere else
pub record IsStart (p : Parts) (table : Table) : Type 0 where
  pub arrivals : (b : ℕ) → is_generate (block_at p.blocks b) ≡ true → table (targets.Block b) ≡ Some nothing_known
  pub others : (b : ℕ) → is_generate (block_at p.blocks b) ≡ false → table (targets.Block b) ≡ None
  pub chains : (e : ℕ) → table (targets.Chain e) ≡ None

start_grounded : (p : Parts) (row : Option Row) → (row ≡ None) ⊎ (row ≡ Some nothing_known) → IfSome row (IsGrounded p)
start_grounded p row (inl e) = subst (λ row. IfSome row (IsGrounded p)) (sym e) tt
start_grounded p row (inr e) = subst (λ row. IfSome row (IsGrounded p)) (sym e) (λ q. tt)

pub start_at : (p : Parts) (s : Table) (x : Target) → IsStart p s → (s x ≡ None)
    ⊎ ((s x ≡ Some nothing_known) × ((b : ℕ) × (x ≡ targets.Block b) × (is_generate (block_at p.blocks b) ≡ true)))
start_at p s (targets.Chain e) start = inl (start.chains e)
start_at p s (targets.Block b) start = by_case (is_generate (block_at p.blocks b)) refl
  where
    by_case : (g : Bool) → is_generate (block_at p.blocks b) ≡ g → (s (targets.Block b) ≡ None)
        ⊎ ((s (targets.Block b) ≡ Some nothing_known) × ((c : ℕ) × (targets.Block b ≡ targets.Block c) × (is_generate (block_at p.blocks c) ≡ true)))
    by_case true g = inr (start.arrivals b g, (b, refl, g))
    by_case false g = inl (start.others b g)

arrival_block : (block : Option Block) → is_generate block ≡ true → (g : Generate) × (block ≡ Some (blocks.Generate g))
arrival_block None h = absurd (false≢true h)
arrival_block (Some (blocks.Generate g)) h = (g, refl)
arrival_block (Some block) h = absurd (false≢true h)

start_below : (p : Parts) (t : Table) (b : ℕ) (there : Option Row) → FlowHolds p t → is_generate (block_at p.blocks b) ≡ true
    → t (targets.Block b) ≡ there → IsSomeAnd there (Fits nothing_known)
start_below p t b None holds is has = absurd (let e = holds.arrivals b is in let n = ap (λ (o : Option Row). is_some o) has in false≢true (sym n ∙ e))
start_below p t b (Some row) holds is has =
    let block = arrival_block (block_at p.blocks b) is in
    let may = holds.each_row b (blocks.Generate block.0) row block.1 has in
    let own = All-back Holds (value_rules p (blocks.Generate block.0) row) (own_rules p (blocks.Generate block.0) row) may.each_rule in
    let e = empty_is row (All-head Holds (rule codes.edge_state (is_empty row)) [] own) in
    subst (Fits nothing_known) (sym e) (fits_itself nothing_known)

pub start_is_good : (p : Parts) (s : Table) → IsStart p s → IsGood p s
start_is_good p s start = record {
  arrivals = start.arrivals;
  grounded = λ x. ⊎_elim (λ (e : s x ≡ None). start_grounded p (s x) (inl e))
      (λ (e : (s x ≡ Some nothing_known) × ((b : ℕ) × (x ≡ targets.Block b) × (is_generate (block_at p.blocks b) ≡ true))). start_grounded
      p (s x) (inr e.0)) (start_at p s x start);
  below = λ none t by pass x. ⊎_elim
      (λ (e : s x ≡ None). subst (λ y. IsBelow y (t x)) (sym e) tt)
      (λ (e : (s x ≡ Some nothing_known) × ((b : ℕ) × (x ≡ targets.Block b) × (is_generate (block_at p.blocks b) ≡ true))).
      subst (λ y. IsBelow y (t x)) (sym e.0)
      (subst (λ y. IsSomeAnd (t y) (Fits nothing_known)) (sym e.1.1)
      (start_below p t e.1.0 (t (targets.Block e.1.0)) ((flow_passes_at_each_block p t).0 pass) e.1.2 refl)))
      (start_at p s x start);
}
