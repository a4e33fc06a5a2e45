-- Visits take no row away, and raise no amount.
use Rattle.std.proofs.Common.{◌≡◌, ℕ, zero, suc, ◌+◌, ◌-◌, ◌≤◌, List, [], ◌∷◌, Option, Some, None, Bool, true, false, if◌then◌else◌, subst, arith}
use Rattle.gw_object.specs.declared.parts.Entity.{Entity}
use Rattle.gw_object.specs.declared.parts.Parts.{Parts}
use Rattle.gw_rules.specs.Kinds.{chain_place}
use Rattle.gw_rules.specs.declared.edges.Target.{Target}
use Rattle.gw_rules.specs.declared.edges.Target.TheVariants as targets
use Rattle.gw_rules.specs.Blocks.{FlowEdge}
use Rattle.gw_rules.specs.Rows.{Row, units_of}
use Rattle.gw_settle.specs.Joins.{is_within, join_rows, with_state}
use Rattle.gw_settle.specs.Rounds.{TableRows, as_table, sent_at, sent_to, send_edge, all_sent, sends, visit_block, visited_to}
use Rattle.gw_settle.specs.Jumps.{row_in}
use Rattle.gw_settle.proofs.Joining.{units_joined}

-- where there was a row there is one, with no greater amounts
abbrev pub IsLower : Option Row → Option Row → Type 0
IsLower new None = Unit {0}
IsLower None (Some old) = ⊥
IsLower (Some new) (Some old) = (e : ℕ) → units_of new e ≤ units_of old e

pub lower_itself : (row : Option Row) → IsLower row row
lower_itself None = tt
lower_itself (Some row) = λ e. omega arith

pub lower_on : (a b c : Option Row) → IsLower a b → IsLower b c → IsLower a c
lower_on a b None h g = tt
lower_on a None (Some c) h g = absurd g
lower_on None (Some b) (Some c) h g = absurd h
lower_on (Some a) (Some b) (Some c) h g = λ e. omega (arith, h e, g e)

-- the rows of a table, place by place
pub record AreLower (new old : TableRows) : Type 0 where
  pub blocks : (i : ℕ) → IsLower (row_in new.blocks i) (row_in old.blocks i)
  pub chains : (i : ℕ) → IsLower (row_in new.chains i) (row_in old.chains i)

all_itself : (rows : TableRows) → AreLower rows rows
all_itself rows = record { blocks = λ i. lower_itself (row_in rows.blocks i); chains = λ i. lower_itself (row_in rows.chains i) }

all_on : (a b c : TableRows) → AreLower a b → AreLower b c → AreLower a c
all_on a b c h g = record {
  blocks = λ i. lower_on (row_in a.blocks i) (row_in b.blocks i) (row_in c.blocks i) (h.blocks i) (g.blocks i);
  chains = λ i. lower_on (row_in a.chains i) (row_in b.chains i) (row_in c.chains i) (h.chains i) (g.chains i);
}

lower_if : (stays : Bool) (state row : Row) → IsLower (Some (if stays then row else join_rows row state)) (Some row)
lower_if true state row = λ e. omega arith
lower_if false state row = λ e. omega (arith, units_joined row state e)

lower_with : (state : Row) (row : Option Row) → IsLower (Some (with_state state row)) row
lower_with state None = tt
lower_with state (Some row) = lower_if (is_within state row) state row

lower_at : (state : Row) (k : ℕ) (rows : List (Option Row)) (i : ℕ) → IsLower (row_in (sent_at state k rows) i) (row_in rows i)
lower_at state k [] i = tt
lower_at state zero (row ∷ rows) zero = lower_with state row
lower_at state zero (row ∷ rows) (suc i) = lower_itself (row_in rows i)
lower_at state (suc k) (row ∷ rows) zero = lower_itself row
lower_at state (suc k) (row ∷ rows) (suc i) = lower_at state k rows i

lower_to : (es : List Entity) (state : Row) (to : Target) (rows : TableRows) → AreLower (sent_to es state to rows) rows
lower_to es state (targets.Block zero) rows = all_itself rows
lower_to es state (targets.Block (suc k)) rows = record { blocks = lower_at state k rows.blocks; chains = λ i. lower_itself (row_in rows.chains i) }
lower_to es state (targets.Chain e) rows = record { blocks = λ i. lower_itself (row_in rows.blocks i); chains = lower_at state (chain_place es e) rows.chains }

lower_all : (p : Parts) (es : List FlowEdge) (rows : TableRows) → AreLower (all_sent p es rows) rows
lower_all p [] rows = all_itself rows
lower_all p (e ∷ es) rows =
    all_on (all_sent p es (send_edge p e rows)) (send_edge p e rows) rows (lower_all p es (send_edge p e rows)) (lower_to p.entities e.state e.target rows)

-- visits lower a table's rows
pub lower_visited : (p : Parts) (k : ℕ) (rows : TableRows) → AreLower (visited_to p k rows) rows
lower_visited p zero rows = all_itself rows
lower_visited p (suc k) rows =
    let before = visited_to p k rows in
    all_on (visit_block p (suc k) before) before rows (lower_all p (sends p (as_table p before) (suc k)) before) (lower_visited p k rows)

lower_past : (p : Parts) (d k : ℕ) (rows : TableRows) (m : ℕ) → d + k ≡ m → AreLower (visited_to p m rows) (visited_to p k rows)
lower_past p zero k rows m is = let same : k ≡ m = omega (arith, is) in
    subst (λ n. AreLower (visited_to p n rows) (visited_to p k rows)) same (all_itself (visited_to p k rows))
lower_past p (suc d) k rows zero is = absurd (omega (arith, is))
lower_past p (suc d) k rows (suc m) is =
    let before = visited_to p m rows in
    all_on (visit_block p (suc m) before) before (visited_to p k rows) (lower_all p (sends p (as_table p before) (suc m)) before)
    (lower_past p d k rows m (omega (arith, is)))

-- also those that come later
pub lower_later : (p : Parts) (k m : ℕ) (rows : TableRows) → k ≤ m → AreLower (visited_to p m rows) (visited_to p k rows)
lower_later p k m rows le = lower_past p (m - k) k rows m (omega (arith, le))

-- a row of a block
pub lower_of : (p : Parts) (b : ℕ) (new old : TableRows) → AreLower new old → IsLower (as_table p new (targets.Block b)) (as_table p old (targets.Block b))
lower_of p zero new old h = tt
lower_of p (suc i) new old h = h.blocks i
