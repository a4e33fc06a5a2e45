-- What a block sends, and what is written of it.
use Rattle.std.proofs.Common.{◌≡◌, ℕ, zero, suc, ◌<◌, get_or, length, List, [], ◌∷◌, ◌++◌, map, slice_set, Option, Some, None, Bool, true, false}
use Rattle.std.proofs.Common.{◌&&◌, if◌then◌else◌, refl, sym, ap, subst, append_assoc, ◌∙◌}
use Rattle.std.specs.Prelude.{slice_get, is_err, Result, Ok, Err}
use Rattle.std.proofs.lemmas.Bool.{false≢true}
use Rattle.std.proofs.lemmas.Option.{slice_get-get_or}
use Rattle.std.specs.List.{list_all}
use Rattle.gw_object.specs.declared.fault.Fault.{Fault}
use Rattle.gw_object.specs.declared.parts.Parts.{Parts}
use Rattle.gw_object.specs.declared.blocks.Block.{Block}
use Rattle.gw_object.specs.declared.blocks.Block.TheVariants as blocks
use Rattle.gw_rules.specs.Checks.{Check, Finds, first_broken}
use Rattle.gw_rules.specs.Kinds.{block_at}
use Rattle.gw_rules.specs.declared.edges.Target.TheVariants as targets
use Rattle.gw_rules.specs.Blocks.{FlowEdge, Table, Rule, rules, edges_from, joins, members_edges, edges}
use Rattle.gw_rules.specs.Rows.{Row}
use Rattle.gw_rules.specs.Flow.{rule_check}
use Rattle.gw_settle.specs.declared.table.Change.{Change}
use Rattle.gw_settle.specs.declared.table.Change.TheVariants.{Same, Less, More}
use Rattle.gw_settle.specs.Joins.{is_within, with_state}
use Rattle.gw_settle.specs.Rounds.{TableRows, as_table, sent_at, send_edge, all_sent, members_in, members_from, sends_in, sends, change_of}
use Rattle.gw_settle.specs.Rounds.{followed_by, changes_of}
use Rattle.gw_settle.specs.Keeps.{HasShape}
use Rattle.gw_settle.proofs.Rows.{shape_sent}

-- RULES

hold_if : (b : ℕ) (rule : Rule) (holds : Bool) (rest : Option Fault) → (if holds then rest else Some (rule_check b rule).fault) ≡ None
    → (holds ≡ true) × (rest ≡ None)
hold_if b rule true rest h = (refl, h)
hold_if b rule false rest h = absurd (cc)

-- where no rule is broken all hold
pub rules_hold : (b : ℕ) (rs : List Rule) → first_broken (map (rule_check b) rs) ≡ None → list_all (λ (rule : Rule). rule.holds) rs ≡ true
rules_hold b [] h = refl
rules_hold b (r ∷ rs) h =
    let both = hold_if b r r.holds (first_broken (map (rule_check b) rs)) h in
    rw both.0 (rules_hold b rs both.1)

broken_if : (holds all : Bool) → (holds ≡ true → all ≡ false) → (holds && all) ≡ false
broken_if true all h = h refl
broken_if false all h = refl

-- where one is broken not all hold
pub rules_broken : (b : ℕ) (rs : List Rule) (fault : Fault) → first_broken (map (rule_check b) rs) ≡ Some fault
    → list_all (λ (rule : Rule). rule.holds) rs ≡ false
rules_broken b [] fault h = absurd (cc)
rules_broken b (r ∷ rs) fault h = broken_if r.holds (list_all (λ (rule : Rule). rule.holds) rs) (λ holds. rules_broken b rs fault (rw holds at h))

-- EDGES

members_are : (table : Table) (block : Block) → members_edges table block ≡ members_from block (members_in table block)
members_are table (blocks.Unlink u) = refl
members_are table block = refl

-- a block's edges are its own, and that of members
pub edges_are : (p : Parts) (table : Table) (b : ℕ) (block : Block) (row : Row) (members : Option Row) → members ≡ members_in table block
    → list_all (λ (rule : Rule). rule.holds) (rules p block row) ≡ true →
    (edges_from b block row ++ joins block row) ++ members_from block members ≡ sends_in p table b (Some block) (Some row)
edges_are p table b block row members is holds =
    let all : (edges_from b block row ++ joins block row) ++ members_from block members ≡ edges p table b block row =
    append_assoc (edges_from b block row) (joins block row) (members_from block members)
    ∙ ap (λ (es : List FlowEdge). edges_from b block row ++ (joins block row ++ es)) (ap (members_from block) is ∙ sym (members_are table block)) in
    all ∙ rw holds refl

pub edges_none : (p : Parts) (table : Table) (b : ℕ) (block : Block) (row : Row)
    → list_all (λ (rule : Rule). rule.holds) (rules p block row) ≡ false → [] ≡ sends_in p table b (Some block) (Some row)
edges_none p table b block row broken = rw broken refl

-- what a test that found a fault, or none, says
pub broken_found : {X : Type 0} (r : Result X Fault) (cs : List Check) → is_err r ≡ true → Finds r cs → (fault : Fault) × (first_broken cs ≡ Some fault)
broken_found (Ok x) cs is h = absurd (false≢true is)
broken_found (Err fault) cs is h = (fault, h)

pub none_found : {X : Type 0} (r : Result X Fault) (cs : List Check) → is_err r ≡ false → Finds r cs → first_broken cs ≡ None
none_found (Ok x) cs is h = h
none_found (Err fault) cs is h = absurd (false≢true (sym is))

-- what a block sends that is there, in its row
pub sends_are : (p : Parts) (table : Table) (b : ℕ) (block : Block) (row : Row) → block_at p.blocks b ≡ Some block
    → table (targets.Block b) ≡ Some row → sends_in p table b (Some block) (Some row) ≡ sends p table b
sends_are p table b block row is has = rw (is, has) refl

-- ONE ROW

-- what is read at a place
pub full_at : {X : Type 0} (xs : List X) (k : ℕ) (d x : X) → k < length xs → get_or xs k d ≡ x → slice_get xs k ≡ Some x
full_at xs k d x lt is = slice_get-get_or xs k d lt ∙ ap Some is

-- a row that is written where a state was sent
pub set_is : (state : Row) (k : ℕ) (rows : List (Option Row)) (row : Option Row) → slice_get rows k ≡ Some row
    → slice_set rows k (Some (with_state state row)) ≡ sent_at state k rows
set_is state k [] row is = absurd (cc)
set_is state zero (x ∷ rows) row is = let same : row ≡ x = cc in ap (λ r. Some (with_state state r) ∷ rows) same
set_is state (suc k) (x ∷ rows) row is = ap (λ xs. x ∷ xs) (set_is state k rows row is)

-- a row that stays
pub stays_is : (state : Row) (k : ℕ) (rows : List (Option Row)) (row : Row) → slice_get rows k ≡ Some (Some row) → is_within state row
    ≡ true → rows ≡ sent_at state k rows
stays_is state k [] row is within = refl
stays_is state zero (x ∷ rows) row is within =
    let same : Some row ≡ x = cc in
    ap (λ r. r ∷ rows) (subst (λ o. o ≡ Some (with_state state o)) same (rw within refl))
stays_is state (suc k) (x ∷ rows) row is within = ap (λ xs. x ∷ xs) (stays_is state k rows row is within)

-- SEVERAL EDGES

pub followed_by_assoc : (a b c : Change) → followed_by (followed_by a b) c ≡ followed_by a (followed_by b c)
followed_by_assoc Same b c = refl
followed_by_assoc Less Same c = refl
followed_by_assoc Less Less Same = refl
followed_by_assoc Less Less Less = refl
followed_by_assoc Less Less More = refl
followed_by_assoc Less More c = refl
followed_by_assoc More b c = refl

-- some edges were sent, and these are left
pub record Sending (p : Parts) (all rest : List FlowEdge) (start now : TableRows) (change : Change) : Type 0 where
  pub rows : all_sent p rest now ≡ all_sent p all start
  pub changes : followed_by change (changes_of p rest now) ≡ changes_of p all start
  pub shape : HasShape p now

pub sending_more : (p : Parts) (all rest : List FlowEdge) (e : FlowEdge) (start now : TableRows) (change : Change) → Sending p all (e ∷ rest) start now change →
    Sending p all rest start (send_edge p e now) (followed_by change (change_of e.state (as_table p now e.target)))
sending_more p all rest e start now change h = record {
  rows = h.rows;
  changes = followed_by_assoc change (change_of e.state (as_table p now e.target)) (changes_of p rest (send_edge p e now)) ∙ h.changes;
  shape = shape_sent p e now h.shape;
}

pub same_after : (change : Change) → followed_by change Same ≡ change
same_after Same = refl
same_after Less = refl
same_after More = refl

pub sending_done : (p : Parts) (all : List FlowEdge) (start now : TableRows) (change : Change) → Sending p all [] start now change
    → (now ≡ all_sent p all start) × (change ≡ changes_of p all start)
sending_done p all start now change h = (h.rows, sym (same_after change) ∙ h.changes)
