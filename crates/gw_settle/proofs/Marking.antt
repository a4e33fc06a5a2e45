-- What falls where states are sent, what a block sends while its row stays, and marks of the blocks whose rows changed.
use Rattle.std.proofs.Common.{◌≡◌, ◌≢◌, ◌⊎◌, inl, inr, ⊎_elim, ℕ, zero, suc, ◌+◌, ◌-◌, ◌<◌, ◌≤◌, List, [], ◌∷◌, ◌++◌, length, get_or, set, replicate}
use Rattle.std.proofs.Common.{Option, Some, None, Bool, true, false, if◌then◌else◌, refl, sym, ap, subst, ◌∙◌, arith}
use Rattle.std.specs.Prelude.{All, IfSome, IsSomeAnd, slice_get}
use Rattle.std.specs.Option.{option_flatten}
use Rattle.std.specs.List.{list_all}
use Rattle.std.specs.Cmp.Lexicographic.{pointwise}
use Rattle.std.specs.Prelude.{nat_eq, ◌&&◌}
use Rattle.std.proofs.Math.ListN.{length-replicate}
use Rattle.std.proofs.lemmas.Bool.{cases_eq, cases_lt, and_parts, and_from, false≢true}
use Rattle.std.proofs.lemmas.List.{get_or-set_same, get_or-set_other, get_or-replicate, length-set}
use Rattle.std.proofs.lemmas.Option.{slice_get_within, slice_get_past}
use Rattle.std.proofs.lemmas.List.Elements.{All-nil, All-cons, All-head, All-tail, All-weaker}
use Rattle.gw_object.specs.declared.blocks.Block.{Block}
use Rattle.gw_object.specs.declared.blocks.Block.TheVariants as blocks
use Rattle.gw_object.specs.declared.blocks.Unlink.{Unlink}
use Rattle.gw_object.specs.declared.parts.Parts.{Parts}
use Rattle.gw_rules.specs.Kinds.{block_at, chain_place}
use Rattle.gw_rules.specs.declared.edges.Target.{Target}
use Rattle.gw_rules.specs.declared.edges.Target.TheVariants as targets
use Rattle.gw_rules.specs.Blocks.{FlowEdge, Table, Rule, rules, edges_from, joins, members_move, members_edges, edges}
use Rattle.gw_rules.specs.Rows.{Row, Fits, params_fit, units_fit}
use Rattle.gw_rules.proofs.Fitting.{fits_is_decided, fits_itself, fits_on}
use Rattle.gw_settle.specs.declared.table.Change.{Change}
use Rattle.gw_settle.specs.declared.table.Change.TheVariants.{Same, Less, More}
use Rattle.gw_settle.specs.Joins.{is_within, Within, join_rows, with_state}
use Rattle.gw_settle.specs.Rounds.{TableRows, as_table, sent_to, send_edge, all_sent, sends_in, sends, visit_block, change_of, changes_of, change_at}
use Rattle.gw_settle.specs.Keeps.{MayEnter, HasShape, IsWell, AreSound, IsIdle, IsIdleAt}
use Rattle.gw_settle.specs.Marks.{is_marked, with_mark, MarksGrow, UnlinksMarked, MarksSuffice, MarksFollow}
use Rattle.gw_settle.proofs.Joining.{join_is_below_both}
use Rattle.gw_settle.proofs.Rows.{at_place, at_other, block_within, lookup_sent, shape_sent, if_has}
use Rattle.gw_settle.proofs.Kept.{sends_enter}
use Rattle.gw_settle.proofs.Falling.{within_true, same_to, idle_row, none_sent}

-- WHAT FALLS

pub within_on : (a b c : Row) → Within a b → Within b c → Within a c
within_on a b c h g =
    let x : Row = record a { facilities = c.facilities } in
    let y : Row = record b { facilities = c.facilities } in
    let first : Fits x y = record { params = h.params; facilities = refl; units = h.units } in
    let second : Fits y c = record { params = g.params; facilities = refl; units = g.units } in
    let both = fits_on x y c first second in
    record { params = both.params; units = both.units }

pub within_itself : (a : Row) → Within a a
within_itself a = let same = fits_itself a in record { params = same.params; units = same.units }

-- each row of a table is there in another one, and knows no more
abbrev pub IsFallen : Table → Table → Type 0
IsFallen s t = (x : Target) → IfSome (s x) (λ row. IsSomeAnd (t x) (Within row))

row_itself : (o : Option Row) → IfSome o (λ row. IsSomeAnd o (Within row))
row_itself None = tt
row_itself (Some row) = within_itself row

row_on : (a b c : Option Row) → IfSome a (λ row. IsSomeAnd b (Within row)) → IfSome b (λ row. IsSomeAnd c (Within row))
    → IfSome a (λ row. IsSomeAnd c (Within row))
row_on None b c h g = tt
row_on (Some x) None c h g = absurd h
row_on (Some x) (Some y) None h g = absurd g
row_on (Some x) (Some y) (Some z) h g = within_on x y z h g

pub fallen_itself : (s : Table) → IsFallen s s
fallen_itself s = λ x. row_itself (s x)

pub fallen_on : (r s t : Table) → IsFallen r s → IsFallen s t → IsFallen r t
fallen_on r s t h g = λ x. row_on (r x) (s x) (t x) (h x) (g x)

row_below : (state : Row) (o : Option Row) → IfSome o (λ row. Within row (with_state state o))
row_below state None = tt
row_below state (Some row) = if_has (Within row) (is_within state row) row (join_rows row state) (within_itself row) (join_is_below_both row state).0

idle_if_kept : (stays : Bool) (state row : Row) → is_within state row ≡ stays → Within state (if stays then row else join_rows row state)
idle_if_kept true state row is = within_true state row is
idle_if_kept false state row is = (join_is_below_both row state).1

row_idle : (state : Row) (o : Option Row) → Within state (with_state state o)
row_idle state None = within_itself state
row_idle state (Some row) = idle_if_kept (is_within state row) state row refl

pub fallen_sent : (p : Parts) (e : FlowEdge) (rows : TableRows) → MayEnter p e.target → HasShape p rows
    → IsFallen (as_table p rows) (as_table p (send_edge p e rows))
fallen_sent p e rows m s x =
    let before = as_table p rows x in
    ⊎_elim
    (λ (q : as_table p (send_edge p e rows) x ≡ before). subst (λ o. IfSome before (λ row. IsSomeAnd o (Within row))) (sym q) (row_itself before))
    (λ q. subst (λ o. IfSome before (λ row. IsSomeAnd o (Within row))) (sym q.1) (row_below e.state before))
    (lookup_sent p e rows m s x)

here_to : (p : Parts) (state : Row) (to : Target) (rows : TableRows) → MayEnter p to → HasShape p rows
    → as_table p (sent_to p.entities state to rows) to ≡ Some (with_state state (as_table p rows to))
here_to p state (targets.Block zero) rows m s = absurd (false≢true m)
here_to p state (targets.Block (suc k)) rows m s = at_place state k rows.blocks (omega (arith, s.blocks, block_within p k m))
here_to p state (targets.Chain e) rows m s = at_place state (chain_place p.entities e) rows.chains (omega (arith, s.chains, m))

idle_here : (p : Parts) (e : FlowEdge) (rows : TableRows) → MayEnter p e.target → HasShape p rows → IsIdle (as_table p (send_edge p e rows)) e
idle_here p e rows m s = subst (λ o. IsSomeAnd o (Within e.state)) (sym (here_to p e.state e.target rows m s)) (row_idle e.state (as_table p rows e.target))

row_idle_on : (state : Row) (a b : Option Row) → IfSome a (λ row. IsSomeAnd b (Within row)) → IsSomeAnd a (Within state) → IsSomeAnd b (Within state)
row_idle_on state None b h g = absurd g
row_idle_on state (Some x) None h g = absurd h
row_idle_on state (Some x) (Some y) h g = within_on state x y g h

-- what is idle stays so
pub idle_on : (s t : Table) (e : FlowEdge) → IsFallen s t → IsIdle s e → IsIdle t e
idle_on s t e h g = row_idle_on e.state (s e.target) (t e.target) (h e.target) g

idle_all_on : (s t : Table) (es : List FlowEdge) → IsFallen s t → All (IsIdle s) es → All (IsIdle t) es
idle_all_on s t es h g = All-weaker (IsIdle s) (IsIdle t) (λ e idle. idle_on s t e h idle) es g

abbrev Enters : Parts → FlowEdge → Type 0
Enters p e = MayEnter p e.target

pub fallen_all : (p : Parts) (es : List FlowEdge) (rows : TableRows) → All (Enters p) es → HasShape p rows
    → IsFallen (as_table p rows) (as_table p (all_sent p es rows))
fallen_all p [] rows m s = fallen_itself (as_table p rows)
fallen_all p (e ∷ es) rows m s =
    fallen_on (as_table p rows) (as_table p (send_edge p e rows)) (as_table p (all_sent p es (send_edge p e rows)))
    (fallen_sent p e rows (All-head (Enters p) e es m) s)
    (fallen_all p es (send_edge p e rows) (All-tail (Enters p) e es m) (shape_sent p e rows s))

-- once edges were sent they change nothing more
pub idle_all : (p : Parts) (es : List FlowEdge) (rows : TableRows) → All (Enters p) es → HasShape p rows → All (IsIdle (as_table p (all_sent p es rows))) es
idle_all p [] rows m s = All-nil (IsIdle (as_table p rows))
idle_all p (e ∷ es) rows m s =
    let next = send_edge p e rows in
    let later = all_sent p es next in
    let others = All-tail (Enters p) e es m in
    let shape = shape_sent p e rows s in
    All-cons (IsIdle (as_table p later)) e es
    (idle_on (as_table p next) (as_table p later) e (fallen_all p es next others shape) (idle_here p e rows (All-head (Enters p) e es m) s))
    (idle_all p es next others shape)

-- NOTHING CHANGES

within_is : (state row : Row) → Within state row → is_within state row ≡ true
within_is state row h =
    let here : Row = record state { facilities = row.facilities } in
    let all = (fits_is_decided here row).1 (record { params = h.params; facilities = refl; units = h.units }) in
    let first = and_parts (params_fit state.params row.params && pointwise nat_eq row.facilities row.facilities) (units_fit state.units row.units) all in
    let second = and_parts (params_fit state.params row.params) (pointwise nat_eq row.facilities row.facilities) first.0 in
    and_from (params_fit state.params row.params) (units_fit state.units row.units) second.0 first.1

none_changed_in : (p : Parts) (e : FlowEdge) (rows : TableRows) (o : Option Row) → as_table p rows e.target ≡ o
    → IsSomeAnd o (Within e.state) → (send_edge p e rows ≡ rows) × (change_of e.state o ≡ Same)
none_changed_in p e rows None is h = absurd h
none_changed_in p e rows (Some row) is h =
    let within = within_is e.state row h in
    (same_to p e.state row e.target rows is (rw within refl), rw within refl)

none_changed : (p : Parts) (e : FlowEdge) (rows : TableRows) → IsIdle (as_table p rows) e → (send_edge p e rows ≡ rows)
    × (change_of e.state (as_table p rows e.target) ≡ Same)
none_changed p e rows h = none_changed_in p e rows (as_table p rows e.target) refl h

-- edges that are idle change nothing
pub idle_changes_none : (p : Parts) (es : List FlowEdge) (rows : TableRows) → All (IsIdle (as_table p rows)) es
    → (all_sent p es rows ≡ rows) × (changes_of p es rows ≡ Same)
idle_changes_none p [] rows h = (refl, refl)
idle_changes_none p (e ∷ es) rows h =
    let one = none_changed p e rows (All-head (IsIdle (as_table p rows)) e es h) in
    let rest = idle_changes_none p es (send_edge p e rows)
    (subst (λ r. All (IsIdle (as_table p r)) es) (sym one.0) (All-tail (IsIdle (as_table p rows)) e es h)) in
    (rest.0 ∙ one.0, rw one.1 rest.1)

pub same_stays : (p : Parts) (e : FlowEdge) (rows : TableRows) → change_of e.state (as_table p rows e.target) ≡ Same → send_edge p e rows ≡ rows
same_stays p e rows h = (none_changed p e rows (idle_row e.state (as_table p rows e.target) h)).0

-- WHAT A BLOCK SENDS

members_same : (s t : Table) (block : Block)
    → ((u : Unlink) → block ≡ blocks.Unlink u → t (targets.Chain u.chain) ≡ s (targets.Chain u.chain)) → members_edges t block ≡ members_edges s block
members_same s t (blocks.Unlink u) h = ap (members_move u.target) (h u refl)
members_same s t block h = refl

edges_same : (p : Parts) (s t : Table) (b : ℕ) (block : Block) (row : Row) → members_edges t block ≡ members_edges s block
    → edges p t b block row ≡ edges p s b block row
edges_same p s t b block row is = ap (λ (es : List FlowEdge). edges_from b block row ++ (joins block row ++ es)) is

sends_same_in : (p : Parts) (s t : Table) (b : ℕ) (block : Option Block) (row : Option Row)
    → ((u : Unlink) → block ≡ Some (blocks.Unlink u) → t (targets.Chain u.chain) ≡ s (targets.Chain u.chain)) → sends_in p t b block row
    ≡ sends_in p s b block row
sends_same_in p s t b None row h = refl
sends_same_in p s t b (Some block) None h = refl
sends_same_in p s t b (Some block) (Some row) h =
    ap (λ (es : List FlowEdge). if list_all (λ (rule : Rule). rule.holds) (rules p block row) then es else [])
    (edges_same p s t b block row (members_same s t block (λ u is. h u (ap Some is))))

-- a block whose row stays, and of an UNLINK its chain's row, sends what it sent
pub sends_same : (p : Parts) (s t : Table) (b : ℕ) → t (targets.Block b) ≡ s (targets.Block b)
    → ((u : Unlink) → block_at p.blocks b ≡ Some (blocks.Unlink u) → t (targets.Chain u.chain) ≡ s (targets.Chain u.chain)) → sends p t b ≡ sends p s b
sends_same p s t b is h = ap (sends_in p t b (block_at p.blocks b)) is ∙ sends_same_in p s t b (block_at p.blocks b) (s (targets.Block b)) h

-- MARKS

mark_kept : (marks : List Bool) (i j : ℕ) → get_or marks j false ≡ true → get_or (set marks i true) j false ≡ true
mark_kept [] i j h = h
mark_kept (m ∷ marks) zero zero h = refl
mark_kept (m ∷ marks) zero (suc j) h = h
mark_kept (m ∷ marks) (suc i) zero h = h
mark_kept (m ∷ marks) (suc i) (suc j) h = mark_kept marks i j h

mark_stays : (marks : List Bool) (i b : ℕ) → is_marked marks b ≡ true → is_marked (set marks i true) b ≡ true
mark_stays marks i zero h = absurd (false≢true h)
mark_stays marks i (suc j) h = mark_kept marks i j h

pub grown_itself : (marks : List Bool) → MarksGrow marks marks
grown_itself marks = record { length = refl; stay = λ b h. h }

pub grown_one : (before marks : List Bool) (i : ℕ) → MarksGrow before marks → MarksGrow before (set marks i true)
grown_one before marks i h = record { length = length-set marks i true ∙ h.length; stay = λ b is. mark_stays marks i b (h.stay b is) }

pub unmarked_at : (marks : List Bool) (b : ℕ) → get_or marks (b - 1) false ≡ false → is_marked marks b ≡ false
unmarked_at marks zero is = refl
unmarked_at marks (suc k) is = let place : suc k - 1 ≡ k = omega arith in rw place at is

-- the marks of the blocks up to a number
pub record UnlinksSoFar (bs : List Block) (before marks : List Bool) (i : ℕ) : Type 0 where
  pub grow : MarksGrow before marks
  pub marked : (k : ℕ) (u : Unlink) → k < i → slice_get bs k ≡ Some (blocks.Unlink u) → get_or marks k false ≡ true

pub so_far_start : (bs : List Block) (marks : List Bool) → UnlinksSoFar bs marks marks 0
so_far_start bs marks = record { grow = grown_itself marks; marked = λ k u lt is. absurd (omega (arith, lt)) }

pub so_far_unlink : (bs : List Block) (before marks : List Bool) (i : ℕ) → i < length marks → UnlinksSoFar bs before marks i
    → UnlinksSoFar bs before (set marks i true) (i + 1)
so_far_unlink bs before marks i within h = record {
  grow = grown_one before marks i h.grow;
  marked = λ k u lt is. ⊎_elim
      (λ (q : k ≡ i). subst (λ n. get_or (set marks i true) n false ≡ true) (sym q) (get_or-set_same marks i true false within))
      (λ (ne : k ≢ i). mark_kept marks i k (h.marked k u (omega (arith, lt, ne)) is))
      (cases_eq k i);
}

pub so_far_other : (bs : List Block) (before marks : List Bool) (i : ℕ) → ((u : Unlink) → slice_get bs i ≡ Some (blocks.Unlink u) → ⊥)
    → UnlinksSoFar bs before marks i → UnlinksSoFar bs before marks (i + 1)
so_far_other bs before marks i none h = record {
  grow = h.grow;
  marked = λ k u lt is. ⊎_elim
      (λ (q : k ≡ i). absurd (none u (subst (λ n. slice_get bs n ≡ Some (blocks.Unlink u)) q is)))
      (λ (ne : k ≢ i). h.marked k u (omega (arith, lt, ne)) is)
      (cases_eq k i);
}

pub so_far_all : (bs : List Block) (before marks : List Bool) (i : ℕ) → length bs ≤ i → UnlinksSoFar bs before marks i → UnlinksMarked bs before marks
so_far_all bs before marks i le h = record { grow = h.grow; marked = all }
  where
    all : (b : ℕ) (u : Unlink) → block_at bs b ≡ Some (blocks.Unlink u) → is_marked marks b ≡ true
    all zero u is = absurd (cc)
    all (suc k) u is = h.marked k u (omega (arith, le, slice_get_within bs k (blocks.Unlink u) is)) is

-- FOLLOWING

module _ (p : Parts) where
  follow_if : (before marks : List Bool) (s t : Table) (b : ℕ) (m : Bool) → is_marked marks b ≡ m → MarksGrow before marks
      → (is_marked marks b ≡ false → sends p t b ≡ sends p s b) → (is_marked marks b ≡ true) ⊎ ((is_marked before b ≡ false) × (sends p t b ≡ sends p s b))
  follow_if before marks s t b true is grow h = inl is
  follow_if before marks s t b false is grow h = inr (unmarked (is_marked before b) refl, h is)
    where
      unmarked : (m : Bool) → is_marked before b ≡ m → m ≡ false
      unmarked true was = absurd (false≢true (sym is ∙ grow.stay b was))
      unmarked false was = refl

  pub follow_grown : (before marks : List Bool) (s t : Table) → MarksGrow before marks
      → ((b : ℕ) → is_marked marks b ≡ false → sends p t b ≡ sends p s b) → MarksFollow p before marks s t
  follow_grown before marks s t grow h = record { length = grow.length; each = λ b. follow_if before marks s t b (is_marked marks b) refl grow (h b) }

  pub follow_itself : (marks : List Bool) (s : Table) → MarksFollow p marks marks s s
  follow_itself marks s = follow_grown marks marks s s (grown_itself marks) (λ b is. refl)

  follow_each : (a b c : List Bool) (r s t : Table) (n : ℕ) → (is_marked b n ≡ true)
      ⊎ ((is_marked a n ≡ false) × (sends p s n ≡ sends p r n)) → (is_marked c n ≡ true)
      ⊎ ((is_marked b n ≡ false) × (sends p t n ≡ sends p s n)) → (is_marked c n ≡ true) ⊎ ((is_marked a n ≡ false) × (sends p t n ≡ sends p r n))
  follow_each a b c r s t n h (inl q) = inl q
  follow_each a b c r s t n (inl q) (inr g) = absurd (false≢true (sym g.0 ∙ q))
  follow_each a b c r s t n (inr h) (inr g) = inr (h.0, g.1 ∙ h.1)

  pub follow_on : (a b c : List Bool) (r s t : Table) → MarksFollow p a b r s → MarksFollow p b c s t → MarksFollow p a c r t
  follow_on a b c r s t h g = record { length = g.length ∙ h.length; each = λ n. follow_each a b c r s t n (h.each n) (g.each n) }

  -- the marks where the row of a block has changed
  unmarked_other : (marks : List Bool) (k j : ℕ) → k < length marks → get_or (set marks k true) j false ≡ false → k ≢ j
  unmarked_other marks k j lt is e = false≢true (sym is ∙ subst (λ n. get_or (set marks k true) n false ≡ true) e (get_or-set_same marks k true false lt))

  block_sends : (state : Row) (k : ℕ) (marks : List Bool) (rows : TableRows) → k < length marks → (b : ℕ) → is_marked (set marks k true) b ≡ false →
      sends p (as_table p (sent_to p.entities state (targets.Block (suc k)) rows)) b ≡ sends p (as_table p rows) b
  block_sends state k marks rows lt zero is =
      sends_same p (as_table p rows) (as_table p (sent_to p.entities state (targets.Block (suc k)) rows)) zero refl (λ u there. refl)
  block_sends state k marks rows lt (suc j) is =
      sends_same p (as_table p rows) (as_table p (sent_to p.entities state (targets.Block (suc k)) rows)) (suc j)
      (ap option_flatten (at_other state k j rows.blocks (unmarked_other marks k j lt is))) (λ u there. refl)

  pub follow_change : (state : Row) (k : ℕ) (marks : List Bool) (rows : TableRows) (c : Change) → k < length marks → c
      ≡ change_of state (as_table p rows (targets.Block (suc k))) →
      MarksFollow p marks (with_mark c k marks) (as_table p rows) (as_table p (sent_to p.entities state (targets.Block (suc k)) rows))
  follow_change state k marks rows Same lt is =
      subst (λ r. MarksFollow p marks marks (as_table p rows) (as_table p r))
      (sym (same_stays p (record { code = 0; target = targets.Block (suc k); state = state }) rows (sym is))) (follow_itself marks (as_table p rows))
  follow_change state k marks rows Less lt is =
      follow_grown marks (set marks k true) (as_table p rows) (as_table p (sent_to p.entities state (targets.Block (suc k)) rows))
      (grown_one marks marks k (grown_itself marks)) (block_sends state k marks rows lt)
  follow_change state k marks rows More lt is =
      follow_grown marks (set marks k true) (as_table p rows) (as_table p (sent_to p.entities state (targets.Block (suc k)) rows))
      (grown_one marks marks k (grown_itself marks)) (block_sends state k marks rows lt)

  -- and where that of a user chain has
  chain_sends : (state : Row) (e : ℕ) (marks after : List Bool) (rows : TableRows) → UnlinksMarked p.blocks marks after → (b : ℕ) → is_marked after b ≡ false →
      sends p (as_table p (sent_to p.entities state (targets.Chain e) rows)) b ≡ sends p (as_table p rows) b
  chain_sends state e marks after rows h b is =
      sends_same p (as_table p rows) (as_table p (sent_to p.entities state (targets.Chain e) rows)) b refl
      (λ u there. absurd (false≢true (sym is ∙ h.marked b u there)))

  pub follow_chain : (state : Row) (e : ℕ) (marks after : List Bool) (rows next : TableRows) (c : Change) → c
      ≡ change_of state (as_table p rows (targets.Chain e)) → ((c ≡ Same) × (after ≡ marks)) ⊎ UnlinksMarked p.blocks marks after → next
      ≡ sent_to p.entities state (targets.Chain e) rows →
      MarksFollow p marks after (as_table p rows) (as_table p next)
  follow_chain state e marks after rows next c is (inl same) new =
      let stays : next ≡ rows = new ∙ same_stays p (record { code = 0; target = targets.Chain e; state = state }) rows (sym is ∙ same.0) in
      rw (same.1, stays) (follow_itself marks (as_table p rows))
  follow_chain state e marks after rows next c is (inr grown) new =
      rw new (follow_grown marks after (as_table p rows) (as_table p (sent_to p.entities state (targets.Chain e) rows)) grown.grow
      (chain_sends state e marks after rows grown))

  -- SUFFICING

  pub suffice_start : (rows : TableRows) → MarksSuffice p (replicate (length p.blocks) true) rows
  suffice_start rows = record { length = length-replicate (length p.blocks) true; each = at }
    where
      at : (b : ℕ) → (is_marked (replicate (length p.blocks) true) b ≡ true) ⊎ IsIdleAt p (as_table p rows) b
      at zero = inr (none_sent p (as_table p rows) zero refl)
      at (suc i) = ⊎_elim
          (λ (lt : i < length p.blocks). inl (get_or-replicate (length p.blocks) i true false lt))
          (λ (le : length p.blocks ≤ i). inr (none_sent p (as_table p rows) (suc i) (slice_get_past p.blocks i le)))
          (cases_lt i (length p.blocks))

  pub idle_unmarked : (marks : List Bool) (rows : TableRows) (b : ℕ) → MarksSuffice p marks rows → is_marked marks b ≡ false → IsIdleAt p (as_table p rows) b
  idle_unmarked marks rows b h is = ⊎_elim
      (λ (q : is_marked marks b ≡ true). absurd (false≢true (sym is ∙ q)))
      (λ (idle : IsIdleAt p (as_table p rows) b). idle)
      (h.each b)

  -- a block that isn't marked changes nothing
  pub unmarked_changes_none : (marks : List Bool) (rows : TableRows) (b : ℕ) → MarksSuffice p marks rows → is_marked marks b ≡ false
      → (visit_block p b rows ≡ rows) × (change_at p b rows ≡ Same)
  unmarked_changes_none marks rows b h is = idle_changes_none p (sends p (as_table p rows) b) rows (idle_unmarked marks rows b h is)

  -- a block that would change nothing needs no mark
  pub suffice_without : (marks : List Bool) (k : ℕ) (rows : TableRows) → MarksSuffice p marks rows → IsIdleAt p (as_table p rows) (suc k)
      → MarksSuffice p (set marks k false) rows
  suffice_without marks k rows h idle = record { length = length-set marks k false ∙ h.length; each = at }
    where
      at : (b : ℕ) → (is_marked (set marks k false) b ≡ true) ⊎ IsIdleAt p (as_table p rows) b
      at zero = inr (none_sent p (as_table p rows) zero refl)
      at (suc j) = ⊎_elim
          (λ (q : j ≡ k). inr (subst (λ n. IsIdleAt p (as_table p rows) (suc n)) (sym q) idle))
          (λ (ne : j ≢ k). subst (λ m. (m ≡ true) ⊎ IsIdleAt p (as_table p rows) (suc j)) (sym (get_or-set_other marks k j false false ne)) (h.each (suc j)))
          (cases_eq j k)

  module _ (marks after : List Bool) (k : ℕ) (rows : TableRows) (well : IsWell p) (sound : AreSound p rows) (h : MarksSuffice p marks rows) where
    abbrev before : Table
    before = as_table p rows

    abbrev next : Table
    next = as_table p (visit_block p (suc k) rows)

    fallen : IsFallen before next
    fallen = fallen_all p (sends p before (suc k)) rows (sends_enter p (suc k) rows well sound) sound.shape

    still : (b : ℕ) → is_marked (set marks k false) b ≡ false → All (IsIdle next) (sends p before b)
    still zero is = idle_all_on before next (sends p before zero) fallen (none_sent p before zero refl)
    still (suc j) is = ⊎_elim
        (λ (q : j ≡ k). subst (λ n. All (IsIdle next) (sends p before (suc n))) (sym q)
        (idle_all p (sends p before (suc k)) rows (sends_enter p (suc k) rows well sound) sound.shape))
        (λ (ne : j ≢ k). idle_all_on before next (sends p before (suc j)) fallen
        (idle_unmarked marks rows (suc j) h (sym (get_or-set_other marks k j false false ne) ∙ is)))
        (cases_eq j k)

    each_after : (b : ℕ) → (is_marked after b ≡ true) ⊎ ((is_marked (set marks k false) b ≡ false) × (sends p next b ≡ sends p before b))
        → (is_marked after b ≡ true) ⊎ IsIdleAt p next b
    each_after b (inl q) = inl q
    each_after b (inr q) = inr (subst (All (IsIdle next)) (sym q.1) (still b q.0))

    suffice_after : MarksFollow p (set marks k false) after before next → MarksSuffice p after (visit_block p (suc k) rows)
    suffice_after g = record { length = g.length ∙ length-set marks k false ∙ h.length; each = λ b. each_after b (g.each b) }

  -- and once one that is marked was visited
  pub suffice_visited : (marks after : List Bool) (b : ℕ) (rows new : TableRows) → 1 ≤ b → IsWell p → AreSound p rows
      → MarksSuffice p marks rows → new ≡ visit_block p b rows
      → MarksFollow p (set marks (b - 1) false) after (as_table p rows) (as_table p new) → MarksSuffice p after new
  suffice_visited marks after zero rows new first well sound h is g = absurd (omega (arith, first))
  suffice_visited marks after (suc k) rows new first well sound h is g =
      let place : suc k - 1 ≡ k = omega arith in
      let follows : MarksFollow p (set marks k false) after (as_table p rows) (as_table p (visit_block p (suc k) rows)) = rw (place, is) at g in
      rw is (suffice_after marks after k rows well sound h follows)
