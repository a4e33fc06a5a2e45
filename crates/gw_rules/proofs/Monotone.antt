-- A state that fits a row may pass each block that the row may pass.
use Rattle.std.proofs.Common.{◌≡◌, ◌≢◌, ⊎_elim, ℕ, ◌+◌, ◌-◌, ◌≤◌, List, [], ◌∷◌, ◌++◌, length, Option, Some, None, Bool, true, false, not, ◌||◌}
use Rattle.std.proofs.Common.{if◌then◌else◌, ◌==◌, IsTrue, refl, sym, ap, subst, ◌∙◌, arith}
use Rattle.std.specs.Prelude.{All, IsSomeAnd, is_some, map}
use Rattle.std.specs.List.{flat_map, list_all}
use Rattle.std.proofs.lemmas.Bool.{cases_eq, ne_eqb, le-leb, leb-true, and_parts, false≢true, not-false}
use Rattle.std.proofs.lemmas.List.Elements.{All-nil, All-cons, All-head, All-tail, All-append}
use Rattle.gw_object.specs.declared.blocks.Block.{Block}
use Rattle.gw_object.specs.declared.blocks.Block.TheVariants as blocks
use Rattle.gw_object.specs.declared.parts.Parts.{Parts}
use Rattle.gw_rules.specs.declared.ways.Who.{Who}
use Rattle.gw_rules.specs.declared.ways.Who.TheVariants.{Itself, Copies}
use Rattle.gw_rules.specs.declared.ways.Exit.{Exit}
use Rattle.gw_rules.specs.Exits.{leads_to, exits, returns_to}
use Rattle.gw_rules.specs.Sources.{evaluation_operands}
use Rattle.gw_rules.specs.FlowCodes as codes
use Rattle.gw_rules.specs.Entries.{lists, with_number, without_number}
use Rattle.gw_rules.specs.Rows.{Row, ParamKind, Num, Ret, kind_of, is_number, is_return, return_blocks, units_of, with_parameter, with_facility, without_facility, with_units, kind_fits, Fits}
use Rattle.gw_rules.specs.Blocks.{FlowEdge, Table, Rule, rule, holds_units, number_rules, return_rules, parameters_read, value_rules, replaces, own_rules, parameter_set, with_setting, after, move, is_used, known_of, edge_along, edges_along, edges_from, join, members_edges, chain_edges}
use Rattle.gw_rules.specs.declared.edges.Target.TheVariants as targets
use Rattle.gw_rules.specs.declared.set_parameters.Parameter.{Parameter}
use Rattle.gw_rules.specs.Seen.{kind_seen}
use Rattle.gw_rules.specs.FlowLaws.{forbids, FittingStatesPass}
use Rattle.gw_rules.proofs.Chains.{ChainUse, Links, Unlinks, Neither, chain_use}
use Rattle.gw_rules.proofs.Entries.{entry-with_entry, amount-with_entry}
use Rattle.gw_rules.proofs.EachBlock.{All-front, All-back}
use Rattle.gw_rules.proofs.Fitting.{kind_itself, fits_on}

-- CHANGES

kind_if : (b : Bool) (kind : ParamKind) (j k : Option ParamKind) → IsTrue (kind_fits j k)
    → IsTrue (kind_fits (if b then Some kind else j) (if b then Some kind else k))
kind_if true kind j k h = kind_itself (Some kind)
kind_if false kind j k h = h

fits_parameter : (p : ℕ) (kind : ParamKind) (state row : Row) → Fits state row → Fits (with_parameter p kind state) (with_parameter p kind row)
fits_parameter p kind state row h = record {
  params = λ q. rw (entry-with_entry p (Some kind) state.params q, entry-with_entry p (Some kind) row.params q)
      (kind_if (p == q) kind (kind_of state q) (kind_of row q) (h.params q));
  facilities = h.facilities;
  units = h.units;
}

fits_set : (set : Option Parameter) (state row : Row) → Fits state row → Fits (with_setting set state) (with_setting set row)
fits_set None state row h = h
fits_set (Some set) state row h = fits_parameter set.number (kind_seen [] set.kind) state row h

fits_facility : (f : ℕ) (state row : Row) → Fits state row → Fits (with_facility f state) (with_facility f row)
fits_facility f state row h = record { params = h.params; facilities = ap (with_number f) h.facilities; units = h.units }

fits_without : (f : ℕ) (state row : Row) → Fits state row → Fits (without_facility f state) (without_facility f row)
fits_without f state row h = record { params = h.params; facilities = ap (without_number f) h.facilities; units = h.units }

if-le : (b : Bool) (j k m n : ℕ) → j ≤ k → m ≤ n → (if b then j else m) ≤ (if b then k else n)
if-le true j k m n h g = h
if-le false j k m n h g = g

fits_units : (e more less : ℕ) (state row : Row) → less ≤ more → Fits state row → Fits (with_units e more state) (with_units e less row)
fits_units e more less state row le h = record {
  params = h.params;
  facilities = h.facilities;
  units = λ q. rw (amount-with_entry e less row.units q, amount-with_entry e more state.units q)
      (if-le (e == q) less more (units_of row q) (units_of state q) le (h.units q));
}

-- what is known of who goes along an exit fits too
fits_known : (who : Who) (state row : Row) → Fits state row → Fits (known_of who state) (known_of who row)
fits_known Itself state row h = h
fits_known (Copies copies) state row h = record { params = h.params; facilities = refl; units = λ e. omega arith }

-- RULES

abbrev Holds : Rule → Type 0
Holds rule = rule.holds ≡ true

-- a rule on the facilities alone
by_facilities : (code : ℕ) (test : List ℕ → Bool) (state row : Row) → Fits state row → All Holds (rule code (test row.facilities) ∷ [])
    → All Holds (rule code (test state.facilities) ∷ [])
by_facilities code test state row h g = subst (λ fs. All Holds (rule code (test fs) ∷ [])) (sym h.facilities) g

-- a rule that asks for units
by_units : (e n : ℕ) (state row : Row) → Fits state row → All Holds (holds_units row e n ∷ []) → All Holds (holds_units state e n ∷ [])
by_units e n state row h g =
    let enough = leb-true n (units_of row e) (All-head Holds (holds_units row e n) [] g) in
    All-cons Holds (holds_units state e n) [] (le-leb n (units_of state e) (omega (arith, h.units e))) (All-nil Holds)

-- a parameter that is set, and one that is a number, is so in a state that fits
set_on : (kind said : Option ParamKind) → IsTrue (kind_fits kind said) → is_some said ≡ true → is_some kind ≡ true
set_on None (Some k) h g = absurd (false≢true h)
set_on (Some k) (Some j) h g = refl
set_on kind None h g = absurd (false≢true g)

number_on : (kind said : Option ParamKind) → IsTrue (kind_fits kind said) → is_number said ≡ true → is_number kind ≡ true
number_on None (Some Num) h g = absurd (false≢true h)
number_on (Some Num) (Some Num) h g = refl
number_on (Some (Ret bs)) (Some Num) h g = absurd (false≢true h)
number_on kind (Some (Ret cs)) h g = absurd (false≢true g)
number_on kind None h g = absurd (false≢true g)

-- a return to some blocks is one in a state that fits, to no others
return_on : (kind said : Option ParamKind) → IsTrue (kind_fits kind said) → is_return said ≡ true → (is_return kind ≡ true)
    × (list_all (λ b. lists (return_blocks said) b) (return_blocks kind) ≡ true)
return_on (Some (Ret bs)) (Some (Ret cs)) h g = (refl, h)
return_on None (Some (Ret cs)) h g = absurd (false≢true h)
return_on (Some Num) (Some (Ret cs)) h g = absurd (false≢true h)
return_on kind (Some Num) h g = absurd (false≢true g)
return_on kind None h g = absurd (false≢true g)

-- the rules of a parameter that is used as a number
by_number : (p : ℕ) (state row : Row) → Fits state row → All Holds (number_rules row p) → All Holds (number_rules state p)
by_number p state row h hold =
    let set = rule codes.unset_param (is_some (kind_of state p)) in
    let number = rule codes.param_kind (is_number (kind_of state p)) in
    All-cons Holds set (number ∷ [])
    (set_on (kind_of state p) (kind_of row p) (h.params p)
    (All-head Holds (rule codes.unset_param (is_some (kind_of row p))) (rule codes.param_kind (is_number (kind_of row p)) ∷ []) hold))
    (All-cons Holds number []
    (number_on (kind_of state p) (kind_of row p) (h.params p)
    (All-head Holds (rule codes.param_kind (is_number (kind_of row p))) []
    (All-tail Holds (rule codes.unset_param (is_some (kind_of row p))) (rule codes.param_kind (is_number (kind_of row p)) ∷ []) hold))) (All-nil Holds))

-- the rules of a parameter that is used as a return
by_return : (p : ℕ) (state row : Row) → Fits state row → All Holds (return_rules row p) → All Holds (return_rules state p)
by_return p state row h hold =
    let set = rule codes.unset_param (is_some (kind_of state p)) in
    let returns = rule codes.param_kind (is_return (kind_of state p)) in
    let row_set = rule codes.unset_param (is_some (kind_of row p)) in
    let row_returns = rule codes.param_kind (is_return (kind_of row p)) in
    All-cons Holds set (returns ∷ [])
    (set_on (kind_of state p) (kind_of row p) (h.params p) (All-head Holds row_set (row_returns ∷ []) hold))
    (All-cons Holds returns []
    (return_on (kind_of state p) (kind_of row p) (h.params p)
    (All-head Holds row_returns [] (All-tail Holds row_set (row_returns ∷ []) hold))).0 (All-nil Holds))

-- and of several
by_numbers : (ps : List ℕ) (state row : Row) → Fits state row → All Holds (flat_map (number_rules row) ps) → All Holds (flat_map (number_rules state) ps)
by_numbers [] state row h hold = All-nil Holds
by_numbers (p ∷ ps) state row h hold =
    All-append Holds (number_rules state p) (flat_map (number_rules state) ps)
    (by_number p state row h (All-front Holds (number_rules row p) (flat_map (number_rules row) ps) hold))
    (by_numbers ps state row h (All-back Holds (number_rules row p) (flat_map (number_rules row) ps) hold))

-- a rule that holds in each state
always : (code : ℕ) (holds other : Bool) → holds ≡ true → All Holds (rule code (holds || other) ∷ [])
always code holds other h = All-cons Holds (rule code (holds || other)) [] (ap (λ b. b || other) h) (All-nil Holds)

-- of a state that fits a row: its own rules of a block that hold in the row hold, and so it fits once it has passed the block
record PassesLike (p : Parts) (b : ℕ) (block : Block) (state row : Row) : Type 0 where
  rules_hold : forbids block ≡ false → All Holds (own_rules p block row) → All Holds (own_rules p block state)
  after_fits : Fits (after b block state) (after b block row)

-- more units, and fewer
more_units : (e n : ℕ) (state row : Row) → Fits state row → Fits (with_units e (units_of state e + n) state) (with_units e (units_of row e + n) row)
more_units e n state row h = fits_units e (units_of state e + n) (units_of row e + n) state row (omega (arith, h.units e)) h

fewer_units : (e n : ℕ) (state row : Row) → Fits state row → Fits (with_units e (units_of state e - n) state) (with_units e (units_of row e - n) row)
fewer_units e n state row h = fits_units e (units_of state e - n) (units_of row e - n) state row (omega (arith, h.units e)) h

passes_like : (p : Parts) (b : ℕ) (block : Block) (state row : Row) → Fits state row → PassesLike p b block state row
passes_like p b (blocks.Generate g) state row h = record { rules_hold = λ isnt hold. absurd (cc); after_fits = h }
passes_like p b (blocks.Terminate by) state row h =
    record { rules_hold = λ _ hold. by_facilities codes.owns_at_end (λ fs. length fs == 0) state row h hold; after_fits = h }
passes_like p b (blocks.Seize f) state row h =
    record { rules_hold = λ _ hold. by_facilities codes.already_owned (λ fs. not (lists fs f)) state row h hold; after_fits = fits_facility f state row h }
passes_like p b (blocks.Release f) state row h =
    record { rules_hold = λ _ hold. by_facilities codes.not_owner (λ fs. lists fs f) state row h hold; after_fits = fits_without f state row h }
passes_like p b (blocks.Enter u) state row h = record { rules_hold = λ _ hold. hold; after_fits = more_units u.entity u.number state row h }
passes_like p b (blocks.Leave u) state row h =
    record { rules_hold = λ _ hold. by_units u.entity u.number state row h hold; after_fits = fewer_units u.entity u.number state row h }
passes_like p b (blocks.Queue u) state row h = record { rules_hold = λ _ hold. hold; after_fits = more_units u.entity u.number state row h }
passes_like p b (blocks.Depart u) state row h =
    record { rules_hold = λ _ hold. by_units u.entity u.number state row h hold; after_fits = fewer_units u.entity u.number state row h }
passes_like p b (blocks.Assign a) state row h = record {
  rules_hold = λ sets hold. always codes.param_kind (replaces a.mode) (not (is_return (kind_of state a.parameter))) (not-false (replaces a.mode) sets);
  after_fits = fits_parameter a.parameter Num state row h;
}
passes_like p b (blocks.Loop l) state row h = record { rules_hold = λ _ hold. by_number l.parameter state row h hold; after_fits = h }
passes_like p b (blocks.Mark p') state row h = record { rules_hold = λ _ hold. hold; after_fits = fits_set (parameter_set b (blocks.Mark p')) state row h }
passes_like p b (blocks.Plus a) state row h = record { rules_hold = λ _ hold. hold; after_fits = fits_set (parameter_set b (blocks.Plus a)) state row h }
passes_like p b (blocks.TransferToSubroutine c) state row h =
    record { rules_hold = λ _ hold. hold; after_fits = fits_parameter c.parameter (Ret (b ∷ [])) state row h }
passes_like p b (blocks.TransferByParameter q) state row h = record { rules_hold = λ _ hold. by_return q state row h hold; after_fits = h }
passes_like p b (blocks.Assemble size) state row h =
    record { rules_hold = λ _ hold. by_facilities codes.owns_at_end (λ fs. length fs == 0) state row h hold; after_fits = h }
passes_like p b block state row h = record { rules_hold = λ _ hold. hold; after_fits = h }

-- EDGES

module _ (table : Table) where
  abbrev Arrives : FlowEdge → Type 0
  Arrives edge = IsSomeAnd (table edge.target) (Fits edge.state)

  pub on : (there : Option Row) (state row : Row) → Fits state row → IsSomeAnd there (Fits row) → IsSomeAnd there (Fits state)
  on None state row h g = g
  on (Some other) state row h g = fits_on state row other h g

  -- along an exit, if somebody may go along it, what fits arrives where what it fits does
  edge_fits : (used : Bool) (to : ℕ) (state row : Row) → Fits state row → All Arrives (if used then move to row ∷ [] else [])
      → All Arrives (if used then move to state ∷ [] else [])
  edge_fits true to state row h arrive =
      All-cons Arrives (move to state) [] (on (table (targets.Block to)) state row h (All-head Arrives (move to row) [] arrive)) (All-nil Arrives)
  edge_fits false to state row h arrive = All-nil Arrives

  -- and along each exit
  edges_fit : (b : ℕ) (es : List Exit) (state row : Row) → Fits state row → All Arrives (edges_along b es row) → All Arrives (edges_along b es state)
  edges_fit b [] state row h arrive = All-nil Arrives
  edges_fit b (e ∷ es) state row h arrive =
      All-append Arrives (edge_along b state e) (edges_along b es state)
      (edge_fits (is_used e.who) (leads_to b e.way) (known_of e.who state) (known_of e.who row) (fits_known e.who state row h)
      (All-front Arrives (edge_along b row e) (edges_along b es row) arrive))
      (edges_fit b es state row h (All-back Arrives (edge_along b row e) (edges_along b es row) arrive))

  -- the edges to the blocks after some of those to which what it fits returns
  one_of_them : (b : ℕ) (cs : List ℕ) (c : ℕ) (row : Row) → lists cs c ≡ true → All Arrives (edges_along b (map returns_to cs) row)
      → IsSomeAnd (table (targets.Block (c + 1))) (Fits row)
  one_of_them b [] c row there arrive = absurd (false≢true there)
  one_of_them b (d ∷ cs) c row there arrive =
      ⊎_elim
      (λ (same : d ≡ c). subst (λ k. IsSomeAnd (table (targets.Block (k + 1))) (Fits row)) same
      (All-head Arrives (move (d + 1) row) (edges_along b (map returns_to cs) row) arrive))
      (λ (other : d ≢ c). one_of_them b cs c row (rw (ne_eqb d c other) at there)
      (All-tail Arrives (move (d + 1) row) (edges_along b (map returns_to cs) row) arrive))
      (cases_eq d c)

  returns_fit : (b : ℕ) (bs cs : List ℕ) (state row : Row) → list_all (λ c. lists cs c) bs ≡ true → Fits state row
      → All Arrives (edges_along b (map returns_to cs) row) → All Arrives (edges_along b (map returns_to bs) state)
  returns_fit b [] cs state row among h arrive = All-nil Arrives
  returns_fit b (c ∷ bs) cs state row among h arrive =
      let parts = and_parts (lists cs c) (list_all (λ c. lists cs c) bs) among in
      All-cons Arrives (move (c + 1) state) (edges_along b (map returns_to bs) state)
      (on (table (targets.Block (c + 1))) state row h (one_of_them b cs c row parts.0 arrive))
      (returns_fit b bs cs state row parts.1 h arrive)

  -- along each exit of a block, also where it is a TRANSFER in parameter mode whose parameter is a return
  block_fits : (p : Parts) (b : ℕ) (block : Block) (state row : Row) → Fits state row → Fits (after b block state) (after b block row)
      → All Holds (own_rules p block row) → All Arrives (edges_from b block row) → All Arrives (edges_from b block state)
  block_fits p b (blocks.TransferByParameter q) state row h later hold arrive =
      let row_set = rule codes.unset_param (is_some (kind_of row q)) in
      let row_returns = rule codes.param_kind (is_return (kind_of row q)) in
      let returns = return_on (kind_of state q) (kind_of row q) (h.params q) (All-head Holds row_returns [] (All-tail Holds row_set (row_returns ∷ []) hold)) in
      returns_fit b (return_blocks (kind_of state q)) (return_blocks (kind_of row q)) state row returns.1 later arrive
  block_fits p b block state row h later hold arrive = edges_fit b (exits block) (after b block state) (after b block row) later arrive

  -- to a user chain that a block joins; who is sent on from one knows nothing of who enters
  chains_fit : (block : Block) (state row : Row) → ChainUse block → Fits state row → All Arrives (chain_edges table block row)
      → All Arrives (chain_edges table block state)
  chains_fit _ state row (Links l) h arrive =
      All-cons Arrives (join l.chain state) []
      (on (table (targets.Chain l.chain)) state row h (All-head Arrives (join l.chain row) [] arrive)) (All-nil Arrives)
  chains_fit _ state row (Unlinks u) h arrive = arrive
  chains_fit block state row (Neither none members) h arrive =
      subst (λ es. All Arrives (es ++ members_edges table block)) (none row ∙ sym (none state)) arrive

pub fitting_states_pass : FittingStatesPass
fitting_states_pass p table b block state row isnt h pass =
    let like = passes_like p b block state row h in
    let own = All-back Holds (value_rules p block row) (own_rules p block row) pass.each_rule in
    record {
      each_rule = All-append Holds (value_rules p block state) (own_rules p block state)
          (by_numbers (parameters_read p (evaluation_operands p.entities block)) state row h
          (All-front Holds (value_rules p block row) (own_rules p block row) pass.each_rule))
          (like.rules_hold isnt own);
      each_edge = All-append (Arrives table) (edges_from b block state) (chain_edges table block state)
          (block_fits table p b block state row h like.after_fits own
          (All-front (Arrives table) (edges_from b block row) (chain_edges table block row) pass.each_edge))
          (chains_fit table block state row (chain_use block) h
          (All-back (Arrives table) (edges_from b block row) (chain_edges table block row) pass.each_edge));
    }
