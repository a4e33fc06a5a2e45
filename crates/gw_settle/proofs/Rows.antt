-- Rows of a table to which a state was sent.
use Rattle.std.proofs.Common.{◌≡◌, ◌≢◌, ◌⊎◌, inl, inr, ⊎_elim, ℕ, zero, suc, ◌<◌, ◌≤◌, List, [], ◌∷◌, length, Option, Some, None, Bool, true, false}
use Rattle.std.proofs.Common.{if◌then◌else◌, refl, ap, subst, ◌∙◌, arith}
use Rattle.std.specs.Prelude.{slice_get, IfSome, All}
use Rattle.std.proofs.lemmas.List.Elements.{All-cons, All-head, All-tail}
use Rattle.std.specs.Option.{option_flatten}
use Rattle.std.proofs.lemmas.Bool.{cases_eq, false≢true}
use Rattle.std.proofs.lemmas.Option.{slice_get_within}
use Rattle.gw_object.specs.declared.blocks.Block.{Block}
use Rattle.gw_object.specs.declared.parts.Parts.{Parts}
use Rattle.gw_rules.specs.Kinds.{block_at, chain_place}
use Rattle.gw_rules.specs.declared.edges.Target.{Target}
use Rattle.gw_rules.specs.declared.edges.Target.TheVariants as targets
use Rattle.gw_rules.specs.Blocks.{FlowEdge}
use Rattle.gw_rules.specs.Rows.{Row}
use Rattle.gw_settle.specs.Joins.{is_within, join_rows, with_state}
use Rattle.gw_settle.specs.Rounds.{TableRows, as_table, with_change_at, sent_at, sent_to, send_edge}
use Rattle.gw_settle.specs.Keeps.{IsOnePlace, IsByPlace, may_enter, MayEnter, absent_in, absent, HasShape}

-- ONE LIST

pub length-changed : {X : Type 0} (f : X → X) (k : ℕ) (xs : List X) → length (with_change_at f k xs) ≡ length xs
length-changed f k [] = refl
length-changed f zero (x ∷ xs) = refl
length-changed f (suc k) (x ∷ xs) = omega (arith, length-changed f k xs)

-- the row at the place to which a state was sent
pub at_place : (state : Row) (k : ℕ) (rows : List (Option Row)) → k < length rows → option_flatten (slice_get (sent_at state k rows) k)
    ≡ Some (with_state state (option_flatten (slice_get rows k)))
at_place state k [] lt = absurd (omega arith)
at_place state zero (row ∷ rows) lt = refl
at_place state (suc k) (row ∷ rows) lt = at_place state k rows (omega arith)

-- no other row is changed
pub at_other : (state : Row) (k j : ℕ) (rows : List (Option Row)) → k ≢ j → slice_get (sent_at state k rows) j ≡ slice_get rows j
at_other state k j [] ne = refl
at_other state zero zero (row ∷ rows) ne = absurd (ne refl)
at_other state zero (suc j) (row ∷ rows) ne = refl
at_other state (suc k) zero (row ∷ rows) ne = refl
at_other state (suc k) (suc j) (row ∷ rows) ne = at_other state k j rows (λ e. ne (ap suc e))

-- no row goes
pub absent_le : (state : Row) (k : ℕ) (rows : List (Option Row)) → absent_in (sent_at state k rows) ≤ absent_in rows
absent_le state k [] = omega arith
absent_le state zero (None ∷ rows) = omega arith
absent_le state zero (Some row ∷ rows) = omega arith
absent_le state (suc k) (None ∷ rows) = omega (arith, absent_le state k rows)
absent_le state (suc k) (Some row ∷ rows) = absent_le state k rows

-- one comes where there was none
pub absent_lt : (state : Row) (k : ℕ) (rows : List (Option Row)) → k < length rows → option_flatten (slice_get rows k) ≡ None
    → absent_in (sent_at state k rows) < absent_in rows
absent_lt state k [] lt none = absurd (omega arith)
absent_lt state zero (None ∷ rows) lt none = omega arith
absent_lt state zero (Some row ∷ rows) lt none = absurd (cc)
absent_lt state (suc k) (None ∷ rows) lt none = omega (arith, absent_lt state k rows (omega arith) none)
absent_lt state (suc k) (Some row ∷ rows) lt none = absent_lt state k rows (omega arith) none

-- none comes where there was one
pub absent_same : (state row : Row) (k : ℕ) (rows : List (Option Row)) → option_flatten (slice_get rows k) ≡ Some row
    → absent_in (sent_at state k rows) ≡ absent_in rows
absent_same state row k [] is = absurd (cc)
absent_same state row zero (None ∷ rows) is = absurd (cc)
absent_same state row zero (Some other ∷ rows) is = refl
absent_same state row (suc k) (None ∷ rows) is = omega (arith, absent_same state row k rows is)
absent_same state row (suc k) (Some other ∷ rows) is = absent_same state row k rows is

pub absent_length : (rows : List (Option Row)) → absent_in rows ≤ length rows
absent_length [] = omega arith
absent_length (None ∷ rows) = omega (arith, absent_length rows)
absent_length (Some row ∷ rows) = omega (arith, absent_length rows)

-- TABLES

there : (o : Option Block) → may_enter o ≡ true → (block : Block) × (o ≡ Some block)
there None h = absurd (false≢true h)
there (Some block) h = (block, refl)

pub block_within : (p : Parts) (k : ℕ) → MayEnter p (targets.Block (suc k)) → k < length p.blocks
block_within p k h = let it = there (block_at p.blocks (suc k)) h in slice_get_within p.blocks k it.0 it.1

pub lookup_to : (p : Parts) (state : Row) (to x : Target) (rows : TableRows) → MayEnter p to → HasShape p rows →
    (as_table p (sent_to p.entities state to rows) x ≡ as_table p rows x)
    ⊎ (IsOnePlace p.entities to x × (as_table p (sent_to p.entities state to rows) x ≡ Some (with_state state (as_table p rows x))))
lookup_to p state (targets.Block b) (targets.Chain e) rows m s = inl refl
lookup_to p state (targets.Chain c) (targets.Block b) rows m s = inl refl
lookup_to p state (targets.Block zero) (targets.Block c) rows m s = absurd (false≢true m)
lookup_to p state (targets.Block (suc k)) (targets.Block zero) rows m s = inl refl
lookup_to p state (targets.Block (suc k)) (targets.Block (suc j)) rows m s =
    ⊎_elim
    (λ (q : k ≡ j). inr (
      ap suc q,
      subst (λ i. option_flatten (slice_get (sent_at state k rows.blocks) i)
          ≡ Some (with_state state (option_flatten (slice_get rows.blocks i)))) q (at_place state k rows.blocks (omega (arith, s.blocks, block_within p k m))),
    ))
    (λ (ne : k ≢ j). inl (ap option_flatten (at_other state k j rows.blocks ne)))
    (cases_eq k j)
lookup_to p state (targets.Chain c) (targets.Chain e) rows m s =
    ⊎_elim
    (λ (q : chain_place p.entities c ≡ chain_place p.entities e).
    inr (
      q,
      subst (λ i. option_flatten (slice_get (sent_at state (chain_place p.entities c) rows.chains) i)
          ≡ Some (with_state state (option_flatten (slice_get rows.chains i)))) q
          (at_place state (chain_place p.entities c) rows.chains (omega (arith, s.chains, m))),
    ))
    (λ (ne : chain_place p.entities c ≢ chain_place p.entities e). inl
    (ap option_flatten (at_other state (chain_place p.entities c) (chain_place p.entities e) rows.chains ne)))
    (cases_eq (chain_place p.entities c) (chain_place p.entities e))

-- one row is changed, or none
pub lookup_sent : (p : Parts) (e : FlowEdge) (rows : TableRows) → MayEnter p e.target → HasShape p rows → (x : Target) →
    (as_table p (send_edge p e rows) x ≡ as_table p rows x)
    ⊎ (IsOnePlace p.entities e.target x × (as_table p (send_edge p e rows) x ≡ Some (with_state e.state (as_table p rows x))))
lookup_sent p e rows m s x = lookup_to p e.state e.target x rows m s

shape_to : (p : Parts) (state : Row) (to : Target) (rows : TableRows) → HasShape p rows → HasShape p (sent_to p.entities state to rows)
shape_to p state (targets.Block zero) rows s = s
shape_to p state (targets.Block (suc k)) rows s =
    record { blocks = length-changed (λ row. Some (with_state state row)) k rows.blocks ∙ s.blocks; chains = s.chains }
shape_to p state (targets.Chain e) rows s =
    record { blocks = s.blocks; chains = length-changed (λ row. Some (with_state state row)) (chain_place p.entities e) rows.chains ∙ s.chains }

pub shape_sent : (p : Parts) (e : FlowEdge) (rows : TableRows) → HasShape p rows → HasShape p (send_edge p e rows)
shape_sent p e rows s = shape_to p e.state e.target rows s

-- ABSENT ROWS

absent_to : (p : Parts) (state : Row) (to : Target) (rows : TableRows) → absent (sent_to p.entities state to rows) ≤ absent rows
absent_to p state (targets.Block zero) rows = omega arith
absent_to p state (targets.Block (suc k)) rows = omega (arith, absent_le state k rows.blocks)
absent_to p state (targets.Chain e) rows = omega (arith, absent_le state (chain_place p.entities e) rows.chains)

pub absent_sent : (p : Parts) (e : FlowEdge) (rows : TableRows) → absent (send_edge p e rows) ≤ absent rows
absent_sent p e rows = absent_to p e.state e.target rows

fewer_to : (p : Parts) (state : Row) (to : Target) (rows : TableRows) → MayEnter p to → HasShape p rows → as_table p rows to ≡ None
    → absent (sent_to p.entities state to rows) < absent rows
fewer_to p state (targets.Block zero) rows m s none = absurd (false≢true m)
fewer_to p state (targets.Block (suc k)) rows m s none = omega (arith, absent_lt state k rows.blocks (omega (arith, s.blocks, block_within p k m)) none)
fewer_to p state (targets.Chain e) rows m s none = omega (arith, absent_lt state (chain_place p.entities e) rows.chains (omega (arith, s.chains, m)) none)

pub fewer_sent : (p : Parts) (e : FlowEdge) (rows : TableRows) → MayEnter p e.target → HasShape p rows → as_table p rows e.target ≡ None
    → absent (send_edge p e rows) < absent rows
fewer_sent p e rows m s none = fewer_to p e.state e.target rows m s none

-- rows are a table by place
pub by_place : (p : Parts) (rows : TableRows) → IsByPlace p (as_table p rows)
by_place p rows (targets.Block b) (targets.Block c) e = ap (λ n. as_table p rows (targets.Block n)) e
by_place p rows (targets.Chain e) (targets.Chain f) q = ap (λ n. option_flatten (slice_get rows.chains n)) q
by_place p rows (targets.Block b) (targets.Chain e) q = absurd q
by_place p rows (targets.Chain e) (targets.Block b) q = absurd q

-- WHAT A ROW HAS

pub if_has : (P : Row → Type 0) (stays : Bool) (row other : Row) → P row → P other → P (if stays then row else other)
if_has P true row other h g = h
if_has P false row other h g = g

-- what holds of a row, of the state that came and of both joined holds of the row then
pub with_state_has : (P : Row → Type 0) (state : Row) (row : Option Row) → IfSome row P → P state
    → ((r : Row) → P r → P state → P (join_rows r state)) → P (with_state state row)
with_state_has P state None h g join = g
with_state_has P state (Some row) h g join = if_has P (is_within state row) row (join_rows row state) h (join row h g)

-- LISTS

-- what holds of each row of a list holds of the one at a place
pub all_at : {X : Type 0} (P : X → Type 0) (rows : List (Option X)) (k : ℕ) → All (λ row. IfSome row P) rows → IfSome (option_flatten (slice_get rows k)) P
all_at P [] k h = tt
all_at P (row ∷ rows) zero h = All-head (λ r. IfSome r P) row rows h
all_at P (row ∷ rows) (suc k) h = all_at P rows k (All-tail (λ r. IfSome r P) row rows h)

pub all_sent_at : (P : Row → Type 0) (state : Row) (k : ℕ) (rows : List (Option Row)) → All (λ row. IfSome row P) rows
    → P (with_state state (option_flatten (slice_get rows k))) → All (λ row. IfSome row P) (sent_at state k rows)
all_sent_at P state k [] h new = h
all_sent_at P state zero (row ∷ rows) h new = All-cons (λ r. IfSome r P) (Some (with_state state row)) rows new (All-tail (λ r. IfSome r P) row rows h)
all_sent_at P state (suc k) (row ∷ rows) h new =
    All-cons (λ r. IfSome r P) row (sent_at state k rows) (All-head (λ r. IfSome r P) row rows h)
    (all_sent_at P state k rows (All-tail (λ r. IfSome r P) row rows h) new)

-- and of each target's
pub at_target : (p : Parts) (P : Row → Type 0) (rows : TableRows) → All (λ row. IfSome row P) rows.blocks
    → All (λ row. IfSome row P) rows.chains → (x : Target) → IfSome (as_table p rows x) P
at_target p P rows h g (targets.Block zero) = tt
at_target p P rows h g (targets.Block (suc k)) = all_at P rows.blocks k h
at_target p P rows h g (targets.Chain e) = all_at P rows.chains (chain_place p.entities e) g

pub all_sent_to : (p : Parts) (P : Row → Type 0) (state : Row) (to : Target) (rows : TableRows) → All (λ row. IfSome row P) rows.blocks
    → All (λ row. IfSome row P) rows.chains → P (with_state state (as_table p rows to)) →
    All (λ row. IfSome row P) (sent_to p.entities state to rows).blocks × All (λ row. IfSome row P) (sent_to p.entities state to rows).chains
all_sent_to p P state (targets.Block zero) rows h g new = (h, g)
all_sent_to p P state (targets.Block (suc k)) rows h g new = (all_sent_at P state k rows.blocks h new, g)
all_sent_to p P state (targets.Chain e) rows h g new = (h, all_sent_at P state (chain_place p.entities e) rows.chains g new)
