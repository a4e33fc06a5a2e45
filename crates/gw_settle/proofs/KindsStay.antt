-- Kinds of an object with the assembler's table.
use Rattle.std.proofs.Common.{◌≡◌, ℕ, ◌+◌, ◌<◌, List, [], ◌∷◌, ◌++◌, map, length, Option, Some, None, Bool, true, false, nat_lt, if◌then◌else◌, refl, sym, ◌∙◌}
use Rattle.std.specs.Prelude.{All, IfSome, IsSomeAnd, IsTrue, slice_get, filter_map}
use Rattle.std.specs.List.{list_all, cons_option}
use Rattle.std.specs.Option.{option_map}
use Rattle.std.proofs.lemmas.Bool.{and_from, lt-ltb}
use Rattle.std.proofs.lemmas.Option.{slice_get_within}
use Rattle.std.proofs.lemmas.List.Elements.{All-head, All-tail, All-append, All-map}
use Rattle.gw_object.specs.declared.blocks.Units.{Units}
use Rattle.gw_object.specs.declared.fault.Fault.{Fault}
use Rattle.gw_object.specs.declared.fault.Place.{Place}
use Rattle.gw_object.specs.declared.fault.Place.TheVariants as places
use Rattle.gw_object.specs.declared.parts.Entity.{Entity}
use Rattle.gw_object.specs.declared.parts.Kind.{Kind}
use Rattle.gw_object.specs.declared.parts.TableParameter.{TableParameter}
use Rattle.gw_object.specs.declared.parts.TableState.{TableState}
use Rattle.gw_object.specs.declared.parts.ReturnRow.{ReturnRow}
use Rattle.gw_object.specs.declared.parts.Parts.{Parts}
use Rattle.gw_object.specs.Entities.{is_chain}
use Rattle.gw_rules.specs.declared.entities.Named.{Named}
use Rattle.gw_rules.specs.declared.entities.EntityKind.TheVariants.{Facility, StorageOrQueue}
use Rattle.gw_rules.specs.Checks.{Check, first_broken, checks_by_number}
use Rattle.gw_rules.specs.Sources.{kind_at}
use Rattle.gw_rules.specs.Kinds.{needs, serves_as, is_there, is_no_other_kind, names_no_other_kind, are_there, entities_of_row, return_row_of, has_return_rows, is_call_at, names_calls, chain_row, return_checks, row_checks, chain_checks, entity_checks, block_checks}
use Rattle.gw_rules.specs.KindsLaws.{IsEntity}
use Rattle.gw_rules.specs.Procedures.{procedure_checks}
use Rattle.gw_rules.specs.Pass.{kinds_checks, KindsPass}
use Rattle.gw_rules.proofs.Broken.{first, first_broken-append}
use Rattle.gw_rules.specs.Seen.{row_meaning}
use Rattle.gw_flow.proofs.Ascending.{All-from_map}
use Rattle.gw_settle.specs.Keeps.{IsNamed}
use Rattle.gw_settle.specs.Written.{NamesRows}
use Rattle.gw_settle.specs.Settles.{with_table}

abbrev pub Hold : List Check → Type 0
Hold cs = first_broken cs ≡ None

both_none : (a b : Option Fault) → first a b ≡ None → (a ≡ None) × (b ≡ None)
both_none None b h = (refl, h)
both_none (Some fault) b h = absurd (cc)

hold_parts : (cs ds : List Check) → Hold (cs ++ ds) → Hold cs × Hold ds
hold_parts cs ds h = both_none (first_broken cs) (first_broken ds) (sym (first_broken-append cs ds) ∙ h)

hold_both : (cs ds : List Check) → Hold cs → Hold ds → Hold (cs ++ ds)
hold_both cs ds h g = first_broken-append cs ds ∙ rw (h, g) refl

hold_each : {A : Type 0} (f : ℕ → A → List Check) (P : A → Type 0) → ((n : ℕ) (x : A) → P x → Hold (f n x)) → (n : ℕ) (xs : List A)
    → All P xs → Hold (checks_by_number f n xs)
hold_each f P h n [] each = refl
hold_each f P h n (x ∷ xs) each =
    hold_both (f n x) (checks_by_number f (n + 1) xs) (h n x (All-head P x xs each)) (hold_each f P h (n + 1) xs (All-tail P x xs each))

all_true : {A : Type 0} (f : A → Bool) (xs : List A) → All (λ x. f x ≡ true) xs → list_all f xs ≡ true
all_true f [] h = refl
all_true f (x ∷ xs) h = and_from (f x) (list_all f xs) (All-head (λ x. f x ≡ true) x xs h) (all_true f xs (All-tail (λ x. f x ≡ true) x xs h))

-- ONE ROW

-- a row of the state table whose entities are of the right kinds, and whose return rows are there
pub record IsRowWell (es : List Entity) (n : ℕ) (state : TableState) : Type 0 where
  pub entities : All (IsEntity es) (entities_of_row state)
  pub numbers : NamesRows n state

no_other : (named : Named) (o : Option Kind) → IsSomeAnd o (λ kind. IsTrue (serves_as named.needed kind)) → (kind : Kind) × (o ≡ Some kind)
    × (serves_as named.needed kind ≡ true)
no_other named None h = absurd h
no_other named (Some kind) h = (kind, refl, h)

is_other : (es : List Entity) (named : Named) → IsEntity es named → is_no_other_kind es named ≡ true
is_other es named h = let it = no_other named (kind_at es named.entity) h in rw it.1 it.2

there_at : (o : Option Entity) (kind : Kind) → option_map (λ (entity : Entity). entity.kind) o ≡ Some kind → (entity : Entity) × (o ≡ Some entity)
there_at None kind h = absurd (cc)
there_at (Some entity) kind h = (entity, refl)

is_here : (es : List Entity) (named : Named) → IsEntity es named → is_there es named ≡ true
is_here es named h =
    let it = no_other named (kind_at es named.entity) h in
    let entity = there_at (slice_get es named.entity) it.0 it.1 in
    lt-ltb named.entity (length es) (slice_get_within es named.entity entity.0 entity.1)

one_there : (n : ℕ) (o : Option ℕ) (rest : List ℕ) → IfSome o (λ r. r < n) → list_all (λ r. nat_lt r n) rest ≡ true
    → list_all (λ r. nat_lt r n) (cons_option o rest) ≡ true
one_there n None rest h g = g
one_there n (Some r) rest h g = and_from (nat_lt r n) (list_all (λ r. nat_lt r n) rest) (lt-ltb r n h) g

rows_there : (n : ℕ) (ps : List TableParameter) → All (λ (p : TableParameter). IfSome (return_row_of p.kind) (λ r. r < n)) ps
    → list_all (λ r. nat_lt r n) (filter_map (λ (p : TableParameter). return_row_of p.kind) ps) ≡ true
rows_there n [] h = refl
rows_there n (p ∷ ps) h =
    one_there n (return_row_of p.kind) (filter_map (λ (q : TableParameter). return_row_of q.kind) ps)
    (All-head (λ (p : TableParameter). IfSome (return_row_of p.kind) (λ r. r < n)) p ps h)
    (rows_there n ps (All-tail (λ (p : TableParameter). IfSome (return_row_of p.kind) (λ r. r < n)) p ps h))

row_holds : (p : Parts) (place : Place) (state : Option TableState) → IfSome state (IsRowWell p.entities (length p.returns)) → Hold (row_checks p place state)
row_holds p place None h = refl
row_holds p place (Some state) h =
    let kinds : names_no_other_kind p.entities (entities_of_row state) ≡ true =
    all_true (is_no_other_kind p.entities) (entities_of_row state) (λ k d within. is_other p.entities _ (h.entities k d within)) in
    let there : are_there p.entities (entities_of_row state) ≡ true =
    all_true (is_there p.entities) (entities_of_row state) (λ k d within. is_here p.entities _ (h.entities k d within)) in
    let numbers : has_return_rows p.returns state ≡ true = rows_there (length p.returns) state.parameters h.numbers in
    rw (kinds, there, numbers) refl

-- THE TABLE

return_holds : (p : Parts) (n : ℕ) (row : ReturnRow) → All (λ b. is_call_at p.blocks b ≡ true) row.blocks → Hold (return_checks p n row)
return_holds p n row h = let calls : names_calls p.blocks row ≡ true = all_true (is_call_at p.blocks) row.blocks h in rw calls refl

chain_if : (c : Bool) (cs : List Check) → Hold cs → Hold (if c then cs else [])
chain_if true cs h = h
chain_if false cs h = refl

chains_hold : (p : Parts) → ((e : ℕ) → IfSome (chain_row p e) (IsRowWell p.entities (length p.returns))) → (n : ℕ) (es : List Entity)
    → Hold (checks_by_number (chain_checks p) n es)
chains_hold p h n [] = refl
chains_hold p h n (e ∷ es) =
    hold_both (chain_checks p n e) (checks_by_number (chain_checks p) (n + 1) es)
    (chain_if (is_chain e.kind) (row_checks p (places.Chain n) (chain_row p n)) (row_holds p (places.Chain n) (chain_row p n) (h n)))
    (chains_hold p h (n + 1) es)

-- kinds pass with a table whose rows are well
pub kinds_with : (p : Parts) (returns : List ReturnRow) (states chain_states : List (Option TableState)) → KindsPass p →
    All (λ (row : ReturnRow). All (λ b. is_call_at p.blocks b ≡ true) row.blocks) returns →
    All (λ state. IfSome state (IsRowWell p.entities (length returns))) states →
    ((e : ℕ) → IfSome (chain_row (with_table p returns states chain_states) e) (IsRowWell p.entities (length returns))) →
    KindsPass (with_table p returns states chain_states)
unfolding kinds_checks
kinds_with p returns states chain_states passes calls rows chains =
    let q = with_table p returns states chain_states in
    let entities = checks_by_number (entity_checks p) 0 p.entities in
    let procedures = checks_by_number (procedure_checks p) 0 p.procedures in
    let old_returns = checks_by_number (return_checks p) 0 p.returns in
    let old_states = checks_by_number (λ b. row_checks p (places.Block b)) 1 p.states in
    let old_chains = checks_by_number (chain_checks p) 0 p.entities in
    let bs = checks_by_number (block_checks p) 1 p.blocks in
    let one = hold_parts entities (procedures ++ (old_returns ++ (old_states ++ (old_chains ++ bs)))) passes in
    let two = hold_parts procedures (old_returns ++ (old_states ++ (old_chains ++ bs))) one.1 in
    let three = hold_parts old_returns (old_states ++ (old_chains ++ bs)) two.1 in
    let four = hold_parts old_states (old_chains ++ bs) three.1 in
    let five = hold_parts old_chains bs four.1 in
    let new_returns = checks_by_number (return_checks q) 0 returns in
    let new_states = checks_by_number (λ b. row_checks q (places.Block b)) 1 states in
    let new_chains = checks_by_number (chain_checks q) 0 p.entities in
    hold_both entities (procedures ++ (new_returns ++ (new_states ++ (new_chains ++ bs)))) one.0
    (hold_both procedures (new_returns ++ (new_states ++ (new_chains ++ bs))) two.0
    (hold_both new_returns (new_states ++ (new_chains ++ bs))
    (hold_each (return_checks q) (λ (row : ReturnRow). All (λ b. is_call_at p.blocks b ≡ true) row.blocks) (return_holds q) 0 returns calls)
    (hold_both new_states (new_chains ++ bs)
    (hold_each (λ b. row_checks q (places.Block b)) (λ state. IfSome state (IsRowWell p.entities (length returns)))
    (λ n state h. row_holds q (places.Block n) state h) 1 states rows)
    (hold_both new_chains bs (chains_hold q chains 0 p.entities) five.1))))

-- a row that was written of one whose entities are of the right kinds is well
pub written_well : (es : List Entity) (returns : List ReturnRow) (n : ℕ) (state : TableState) → IsNamed es (row_meaning returns state)
    → NamesRows n state → IsRowWell es n state
written_well es returns n state h numbers = record {
  entities = All-append (IsEntity es) (map (needs Facility) state.facilities) (map (λ (u : Units). needs StorageOrQueue u.entity) state.units)
      (All-map (IsEntity es) (needs Facility) state.facilities h.facilities)
      (All-map (IsEntity es) (λ (u : Units). needs StorageOrQueue u.entity) state.units
      (All-from_map (λ (e : ℕ × ℕ). IsEntity es (needs StorageOrQueue e.0)) (λ (u : Units). (u.entity, u.number)) state.units h.units));
  numbers = numbers;
}
