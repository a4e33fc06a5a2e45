-- What a block sends holds entities of the right kinds, and at most 2^20 units more.
use Rattle.std.proofs.Common.{◌≡◌, ℕ, ◌+◌, ◌-◌, ◌≤◌, List, [], ◌∷◌, ◌++◌, Option, Some, None, Bool, true, false, if◌then◌else◌, ◌==◌, ◌&&◌, not}
use Rattle.std.proofs.Common.{nat_lt, nat_le, refl, sym, ap, subst, arith}
use Rattle.std.specs.Prelude.{All, IfSome, IsSomeAnd, IsTrue, filter, filter_map, option_to_list, option_map}
use Rattle.std.specs.Option.{option_map_or}
use Rattle.std.proofs.lemmas.Bool.{false≢true, leb-true, eqb-true, and_parts}
use Rattle.std.proofs.lemmas.List.Elements.{All-nil, All-cons, All-head, All-append, All-filter}
use Rattle.gw_object.specs.declared.blocks.Block.{Block}
use Rattle.gw_object.specs.declared.blocks.Block.TheVariants as blocks
use Rattle.gw_object.specs.declared.parts.Entity.{Entity}
use Rattle.gw_object.specs.declared.parts.Kind.{Kind}
use Rattle.gw_object.specs.declared.parts.Kind.TheVariants as kinds
use Rattle.gw_rules.specs.declared.entities.EntityKind.TheVariants.{Facility, Storage, Queue, StorageOrQueue}
use Rattle.gw_rules.specs.declared.ways.Exit.{Exit}
use Rattle.gw_rules.specs.declared.ways.Who.{Who}
use Rattle.gw_rules.specs.declared.ways.Who.TheVariants.{Itself, Copies}
use Rattle.gw_rules.specs.Sources.{kind_at, values}
use Rattle.gw_rules.specs.Exits.{leads_to, is_call, exits_with}
use Rattle.gw_rules.specs.Kinds.{block_at, is_call_at, needs, serves_as, entity_of, named_entities, has_good_constants}
use Rattle.gw_rules.specs.KindsLaws.{IsEntity}
use Rattle.gw_rules.specs.declared.set_parameters.Parameter.{Parameter}
use Rattle.gw_rules.specs.Blocks.{FlowEdge, Table, number_in, parameter_set, with_setting, after, returns_read, move, is_used, known_of, edge_along, edges_along, edges_from, join, members_move, members_edges, chain_edges}
use Rattle.gw_rules.specs.declared.edges.Target.TheVariants as targets
use Rattle.gw_rules.specs.Rows.{Row, ParamKind, units_of, nonzero, with_units, parameters_alone}
use Rattle.gw_rules.specs.Seen.{kind_seen}
use Rattle.gw_rules.proofs.Entries.{amount-with_entry}
use Rattle.gw_rules.proofs.Parameters.{after_params}
use Rattle.gw_rules.proofs.Chains.{ChainUse, Links, Unlinks, Neither, chain_use}
use Rattle.gw_settle.specs.Keeps.{IsNamed, KindNamesCalls, NamesCalls}

-- NAMES

storage_is : (o : Option Kind) → IsSomeAnd o (λ kind. IsTrue (serves_as Storage kind)) → IsSomeAnd o (λ kind. IsTrue (serves_as StorageOrQueue kind))
storage_is None h = absurd h
storage_is (Some (kinds.Storage capacity)) h = refl
storage_is (Some kind) h = absurd (false≢true h)

queue_is : (o : Option Kind) → IsSomeAnd o (λ kind. IsTrue (serves_as Queue kind)) → IsSomeAnd o (λ kind. IsTrue (serves_as StorageOrQueue kind))
queue_is None h = absurd h
queue_is (Some kinds.Queue) h = refl
queue_is (Some kind) h = absurd (false≢true h)

module _ (es : List Entity) where
  abbrev Holds : ℕ × ℕ → Type 0
  Holds e = IsEntity es (needs StorageOrQueue e.0)

  one_held : (e : ℕ) (n : Option ℕ) → IsEntity es (needs StorageOrQueue e) → All Holds (option_to_list (option_map (λ v. (e, v)) n))
  one_held e None h = All-nil Holds
  one_held e (Some n) h = All-cons Holds (e, n) [] h (All-nil Holds)

  named_units : (e n : ℕ) (row : Row) → IsEntity es (needs StorageOrQueue e) → IsNamed es row → IsNamed es (with_units e n row)
  named_units e n row h g = record {
    facilities = g.facilities;
    units = All-append Holds (filter (λ x. nat_lt x.0 e) row.units ++ option_to_list (option_map (λ v. (e, v)) (nonzero n)))
        (filter (λ x. nat_lt e x.0) row.units)
        (All-append Holds (filter (λ x. nat_lt x.0 e) row.units) (option_to_list (option_map (λ v. (e, v)) (nonzero n)))
        (All-filter (λ x. nat_lt x.0 e) Holds row.units g.units) (one_held e (nonzero n) h))
        (All-filter (λ x. nat_lt e x.0) Holds row.units g.units);
  }

  named_set : (set : Option Parameter) (row : Row) → IsNamed es row → IsNamed es (with_setting set row)
  named_set None row g = g
  named_set (Some set) row g = record { facilities = g.facilities; units = g.units }

  abbrev Owns : ℕ → Type 0
  Owns f = IsEntity es (needs Facility f)

  pub named_after : (b : ℕ) (block : Block) (row : Row) → All (IsEntity es) (named_entities block) → IsNamed es row → IsNamed es (after b block row)
  named_after b (blocks.Seize f) row h g = record {
    facilities = All-append Owns (filter (λ m. nat_lt m f) row.facilities) (f ∷ filter (λ m. nat_lt f m) row.facilities)
        (All-filter (λ m. nat_lt m f) Owns row.facilities g.facilities)
        (All-cons Owns f (filter (λ m. nat_lt f m) row.facilities)
        (All-head (IsEntity es) (needs Facility f) (filter_map entity_of (values (blocks.Seize f))) h)
        (All-filter (λ m. nat_lt f m) Owns row.facilities g.facilities));
    units = g.units;
  }
  named_after b (blocks.Release f) row h g = record { facilities = All-filter (λ m. not (m == f)) Owns row.facilities g.facilities; units = g.units }
  named_after b (blocks.Enter u) row h g =
      named_units u.entity (units_of row u.entity + u.number) row
      (storage_is (kind_at es u.entity) (All-head (IsEntity es) (needs Storage u.entity) (filter_map entity_of (values (blocks.Enter u))) h)) g
  named_after b (blocks.Leave u) row h g =
      named_units u.entity (units_of row u.entity - u.number) row
      (storage_is (kind_at es u.entity) (All-head (IsEntity es) (needs Storage u.entity) (filter_map entity_of (values (blocks.Leave u))) h)) g
  named_after b (blocks.Queue u) row h g =
      named_units u.entity (units_of row u.entity + u.number) row
      (queue_is (kind_at es u.entity) (All-head (IsEntity es) (needs Queue u.entity) (filter_map entity_of (values (blocks.Queue u))) h)) g
  named_after b (blocks.Depart u) row h g =
      named_units u.entity (units_of row u.entity - u.number) row
      (queue_is (kind_at es u.entity) (All-head (IsEntity es) (needs Queue u.entity) (filter_map entity_of (values (blocks.Depart u))) h)) g
  named_after b block row h g = named_set (parameter_set b block) row g

-- CALLS

abbrev Calls : List Block → ℕ × ParamKind → Type 0
Calls bs e = KindNamesCalls bs e.1

set_calls : (bs : List Block) (set : Option Parameter) (row : Row)
    → IfSome set (λ (s : Parameter). KindNamesCalls bs (kind_seen [] s.kind)) → NamesCalls bs row → NamesCalls bs (with_setting set row)
set_calls bs None row h g = g
set_calls bs (Some set) row h g =
    All-append (Calls bs) (filter (λ e. nat_lt e.0 set.number) row.params ++ (set.number, kind_seen [] set.kind) ∷ [])
    (filter (λ e. nat_lt set.number e.0) row.params)
    (All-append (Calls bs) (filter (λ e. nat_lt e.0 set.number) row.params) ((set.number, kind_seen [] set.kind) ∷ [])
    (All-filter (λ e. nat_lt e.0 set.number) (Calls bs) row.params g)
    (All-cons (Calls bs) (set.number, kind_seen [] set.kind) [] h (All-nil (Calls bs))))
    (All-filter (λ e. nat_lt set.number e.0) (Calls bs) row.params g)

number_calls : (bs : List Block) (q : Option ℕ) → IfSome (option_map number_in q) (λ (s : Parameter). KindNamesCalls bs (kind_seen [] s.kind))
number_calls bs None = tt
number_calls bs (Some q) = tt

own_calls : (bs : List Block) (b : ℕ) (block : Block) → block_at bs b ≡ Some block
    → IfSome (parameter_set b block) (λ (s : Parameter). KindNamesCalls bs (kind_seen [] s.kind))
own_calls bs b (blocks.Assign a) is = tt
own_calls bs b (blocks.TransferToSubroutine c) is =
    All-cons (λ n. is_call_at bs n ≡ true) b [] (ap (λ o. option_map_or is_call o false) is) (All-nil (λ n. is_call_at bs n ≡ true))
own_calls bs b (blocks.Mark q) is = number_calls bs q
own_calls bs b (blocks.Plus a) is = number_calls bs a.parameter
own_calls bs b block is = tt

pub calls_after : (bs : List Block) (b : ℕ) (block : Block) (row : Row) → block_at bs b ≡ Some block → NamesCalls bs row → NamesCalls bs (after b block row)
calls_after bs b block row is h = subst (All (Calls bs)) (sym (after_params b block row)) (set_calls bs (parameter_set b block) row (own_calls bs b block is) h)

-- UNITS

-- a state has at most 2^20 units more of each entity than a row
abbrev pub HasLittleMore : Row → Row → Type 0
HasLittleMore row state = (e : ℕ) → units_of state e ≤ units_of row e + 1048576

if_more : (b : Bool) (m n here : ℕ) → m ≤ here + n → n ≤ 1048576 → (if b then m else here) ≤ here + 1048576
if_more true m n here le small = omega (arith, le, small)
if_more false m n here le small = omega arith

more_units : (e m n : ℕ) (row : Row) → m ≤ units_of row e + n → n ≤ 1048576 → HasLittleMore row (with_units e m row)
more_units e m n row le small q = rw (amount-with_entry e m row.units q) (by_number (e == q) refl)
  where
    by_number : (b : Bool) → (e == q) ≡ b → (if b then m else units_of row q) ≤ units_of row q + 1048576
    by_number true is = let s : units_of row e ≡ units_of row q = ap (λ x. units_of row x) (eqb-true e q is) in omega (arith, le, small, s)
    by_number false is = omega arith

more_set : (set : Option Parameter) (row : Row) → HasLittleMore row (with_setting set row)
more_set None row e = omega arith
more_set (Some set) row e = omega arith

units_small : (n : ℕ) → (nat_le 1 n && nat_le n 1048576) ≡ true → n ≤ 1048576
units_small n h = leb-true n 1048576 (and_parts (nat_le 1 n) (nat_le n 1048576) h).1

pub more_after : (b : ℕ) (block : Block) (row : Row) → IsTrue (has_good_constants block) → HasLittleMore row (after b block row)
more_after b (blocks.Seize f) row h = λ e. omega arith
more_after b (blocks.Release f) row h = λ e. omega arith
more_after b (blocks.Enter u) row h = more_units u.entity (units_of row u.entity + u.number) u.number row (omega arith) (units_small u.number h)
more_after b (blocks.Leave u) row h = more_units u.entity (units_of row u.entity - u.number) 0 row (omega arith) (omega arith)
more_after b (blocks.Queue u) row h = more_units u.entity (units_of row u.entity + u.number) u.number row (omega arith) (units_small u.number h)
more_after b (blocks.Depart u) row h = more_units u.entity (units_of row u.entity - u.number) 0 row (omega arith) (omega arith)
more_after b block row h = more_set (parameter_set b block) row

-- EDGES

-- what holds of who has passed a block, of copies, of who joins a user chain and of members holds at each edge
module _ (P : Row → Type 0) where
  abbrev At : FlowEdge → Type 0
  At edge = P edge.state

  at_if : (used : Bool) (to : ℕ) (state : Row) → P state → All At (if used then move to state ∷ [] else [])
  at_if true to state h = All-cons At (move to state) [] h (All-nil At)
  at_if false to state h = All-nil At

  at_known : (who : Who) (passed : Row) → P passed → P (parameters_alone passed) → P (known_of who passed)
  at_known Itself passed h g = h
  at_known (Copies n) passed h g = g

  at_along : (b : ℕ) (es : List Exit) (passed : Row) → P passed → P (parameters_alone passed) → All At (edges_along b es passed)
  at_along b [] passed h g = All-nil At
  at_along b (e ∷ es) passed h g =
      All-append At (edge_along b passed e) (edges_along b es passed)
      (at_if (is_used e.who) (leads_to b e.way) (known_of e.who passed) (at_known e.who passed h g))
      (at_along b es passed h g)

  at_members : (to : ℕ) (members : Option Row) → IfSome members P → All At (members_move to members)
  at_members to None h = All-nil At
  at_members to (Some members) h = All-cons At (record (move to members) { code = 26 }) [] h (All-nil At)

  at_chains : (table : Table) (block : Block) (row : Row) → ChainUse block → P row → ((e : ℕ) → IfSome (table (targets.Chain e)) P)
      → All At (chain_edges table block row)
  at_chains table _ row (Links l) h g = All-cons At (join l.chain row) [] h (All-nil At)
  at_chains table _ row (Unlinks u) h g = at_members u.target (table (targets.Chain u.chain)) (g u.chain)
  at_chains table block row (Neither none members) h g =
      subst (λ es. All At (es ++ members_edges table block)) (sym (none row)) (subst (All At) (sym (members table)) (All-nil At))

  pub at_edges : (table : Table) (b : ℕ) (block : Block) (row : Row) → P row → P (after b block row)
      → P (parameters_alone (after b block row)) → ((e : ℕ) → IfSome (table (targets.Chain e)) P) →
      All At (edges_from b block row ++ chain_edges table block row)
  at_edges table b block row here passed copies chains =
      All-append At (edges_from b block row) (chain_edges table block row)
      (at_along b (exits_with (returns_read block row) block) (after b block row) passed copies)
      (at_chains table block row (chain_use block) here chains)

pub named_alone : (es : List Entity) (row : Row) → IsNamed es (parameters_alone row)
named_alone es row = record {
  facilities = All-nil (λ f. IsEntity es (needs Facility f));
  units =
      All-nil (λ (e : ℕ × ℕ). IsEntity es (needs StorageOrQueue e.0));
}
