-- What falls in a round, but in the last, and where nothing changes nothing is left to be sent.
use Rattle.std.proofs.Common.{◌≡◌, ◌≢◌, ⊎_elim, ℕ, zero, suc, ◌+◌, ◌<◌, ◌≤◌, List, [], ◌∷◌, length, Option, Some, None, Bool, true, false, ◌&&◌}
use Rattle.std.proofs.Common.{if◌then◌else◌, refl, sym, ap, subst, ◌∙◌, arith}
use Rattle.std.specs.Prelude.{All, IsSomeAnd, slice_get, nat_eq}
use Rattle.std.specs.Option.{option_flatten}
use Rattle.std.specs.Cmp.Lexicographic.{pointwise, bytes_decides}
use Rattle.std.proofs.lemmas.Bool.{cases_eq, cases_lt, and_parts, and_from, false≢true}
use Rattle.std.proofs.lemmas.Option.{slice_get_within, slice_get_past}
use Rattle.std.proofs.lemmas.List.Elements.{All-nil, All-cons, All-head, All-tail}
use Rattle.gw_object.specs.declared.blocks.Block.{Block}
use Rattle.gw_object.specs.declared.parts.Parts.{Parts}
use Rattle.gw_rules.specs.Kinds.{block_at, chain_place}
use Rattle.gw_rules.specs.declared.edges.Target.{Target}
use Rattle.gw_rules.specs.declared.edges.Target.TheVariants as targets
use Rattle.gw_rules.specs.Blocks.{FlowEdge, Table}
use Rattle.gw_rules.specs.Rows.{Row, ParamKind, Num, Ret, kind_of, params_fit, units_fit}
use Rattle.gw_rules.proofs.Fitting.{fits_is_decided}
use Rattle.gw_settle.specs.declared.table.Change.{Change}
use Rattle.gw_settle.specs.declared.table.Change.TheVariants.{Same, Less, More}
use Rattle.gw_settle.specs.Joins.{is_within, Within, with_state}
use Rattle.gw_settle.specs.Rounds.{TableRows, as_table, sent_at, sent_to, send_edge, all_sent, sends_in, sends, visited_to, change_of, followed_by}
use Rattle.gw_settle.specs.Rounds.{changes_of, change_at, change_to}
use Rattle.gw_settle.specs.Keeps.{sets_return, IsKindGrounded, IsGrounded, absent, IsWell, AreSound, IsIdle, IsIdleAt, IsSettled}
use Rattle.gw_settle.proofs.Size.{BlocksBelow, row_size, join_smaller}
use Rattle.gw_settle.proofs.Rows.{absent_same, fewer_sent}
use Rattle.gw_settle.proofs.Kept.{MaySend, may_still, sound_sent, sends_may, visited_sound}

-- THE MEASURE

abbrev pub size_in : ℕ → List (Option Row) → ℕ
size_in n [] = 0
size_in n (None ∷ rows) = size_in n rows
size_in n (Some row ∷ rows) = row_size n row + size_in n rows

-- what the rows of a table may still lose
abbrev pub size : ℕ → TableRows → ℕ
size n rows = size_in n rows.blocks + size_in n rows.chains

-- what a change is
abbrev pub Falls : ℕ → Change → TableRows → TableRows → Type 0
Falls n Same s t = t ≡ s
Falls n Less s t = (absent t ≡ absent s) × (size n t < size n s)
Falls n More s t = absent t < absent s

falls_on : (n : ℕ) (c d : Change) (r s t : TableRows) → Falls n c r s → Falls n d s t → Falls n (followed_by c d) r t
falls_on n Same d r s t h g = subst (λ x. Falls n d x t) h g
falls_on n Less Same r s t h g = subst (Falls n Less r) (sym g) h
falls_on n Less Less r s t h g = (g.0 ∙ h.0, omega (arith, h.1, g.1))
falls_on n Less More r s t h g = omega (arith, h.0, g)
falls_on n More Same r s t h g = subst (Falls n More r) (sym g) h
falls_on n More Less r s t h g = omega (arith, h, g.0)
falls_on n More More r s t h g = omega (arith, h, g)

-- ONE EDGE

size_less : (n : ℕ) (state row : Row) (k : ℕ) (rows : List (Option Row)) → option_flatten (slice_get rows k) ≡ Some row
    → row_size n (with_state state (Some row)) < row_size n row → size_in n (sent_at state k rows) < size_in n rows
size_less n state row k [] is lt = absurd (let q : None ≡ Some row = is in cc)
size_less n state row zero (None ∷ rows) is lt = absurd (cc)
size_less n state row zero (Some other ∷ rows) is lt =
    let same : other ≡ row = cc in
    let less : row_size n (with_state state (Some other)) < row_size n other =
    subst (λ r. row_size n (with_state state (Some r)) < row_size n r) (sym same) lt in
    omega (arith, less)
size_less n state row (suc k) (None ∷ rows) is lt = size_less n state row k rows is lt
size_less n state row (suc k) (Some other ∷ rows) is lt = omega (arith, size_less n state row k rows is lt)

pub same_rows : (state row : Row) (k : ℕ) (rows : List (Option Row)) → option_flatten (slice_get rows k) ≡ Some row
    → with_state state (Some row) ≡ row → sent_at state k rows ≡ rows
same_rows state row k [] is stays = refl
same_rows state row zero (None ∷ rows) is stays = absurd (cc)
same_rows state row zero (Some other ∷ rows) is stays =
    let same : row ≡ other = cc in
    ap (λ r. Some r ∷ rows) (subst (λ r. with_state state (Some r) ≡ r) same stays)
same_rows state row (suc k) (x ∷ rows) is stays = ap (λ xs. x ∷ xs) (same_rows state row k rows is stays)

less_to : (p : Parts) (n : ℕ) (state row : Row) (to : Target) (rows : TableRows) → as_table p rows to ≡ Some row
    → row_size n (with_state state (Some row)) < row_size n row →
    (absent (sent_to p.entities state to rows) ≡ absent rows) × (size n (sent_to p.entities state to rows) < size n rows)
less_to p n state row (targets.Block zero) rows is lt = absurd (let q : None ≡ Some row = is in cc)
less_to p n state row (targets.Block (suc k)) rows is lt =
    (omega (arith, absent_same state row k rows.blocks is), omega (arith, size_less n state row k rows.blocks is lt))
less_to p n state row (targets.Chain e) rows is lt = (
  omega (arith, absent_same state row (chain_place p.entities e) rows.chains is),
  omega (arith, size_less n state row (chain_place p.entities e) rows.chains is lt),
)

pub same_to : (p : Parts) (state row : Row) (to : Target) (rows : TableRows) → as_table p rows to ≡ Some row → with_state state (Some row)
    ≡ row → sent_to p.entities state to rows ≡ rows
same_to p state row (targets.Block zero) rows is stays = refl
same_to p state row (targets.Block (suc k)) rows is stays = ap (λ xs. record rows { blocks = xs }) (same_rows state row k rows.blocks is stays)
same_to p state row (targets.Chain e) rows is stays =
    ap (λ xs. record rows { chains = xs }) (same_rows state row (chain_place p.entities e) rows.chains is stays)

-- the blocks of returns are those of the object
call_within : (p : Parts) (b q : ℕ) (o : Option Block) → block_at p.blocks b ≡ o → sets_return o q ≡ true → b < length p.blocks + 1
call_within p b q None is h = absurd (false≢true h)
call_within p zero q (Some block) is h = omega arith
call_within p (suc k) q (Some block) is h = omega (arith, slice_get_within p.blocks k block is)

kind_below : (p : Parts) (q : ℕ) (kind : Option ParamKind) → IsKindGrounded p q kind → BlocksBelow (length p.blocks + 1) kind
kind_below p q None h = tt
kind_below p q (Some Num) h = tt
kind_below p q (Some (Ret bs)) h = λ b has. call_within p b q (block_at p.blocks b) refl (h.each b has)

falls_if : (p : Parts) (stays : Bool) (e : FlowEdge) (row : Row) (rows : TableRows) → IsGrounded p e.state → as_table p rows e.target
    ≡ Some row → is_within e.state row ≡ stays → Falls (length p.blocks + 1) (if stays then Same else Less) rows (send_edge p e rows)
falls_if p true e row rows g is within = same_to p e.state row e.target rows is (rw within refl)
falls_if p false e row rows g is within =
    less_to p (length p.blocks + 1) e.state row e.target rows is
    (rw within (join_smaller (length p.blocks + 1) row e.state (λ q. kind_below p q (kind_of e.state q) (g q)) within))

falls_row : (p : Parts) (e : FlowEdge) (row : Option Row) (rows : TableRows) → AreSound p rows → MaySend p rows e
    → as_table p rows e.target ≡ row → Falls (length p.blocks + 1) (change_of e.state row) rows (send_edge p e rows)
falls_row p e None rows sound may is = fewer_sent p e rows may.enters sound.shape is
falls_row p e (Some row) rows sound may is = falls_if p (is_within e.state row) e row rows may.grounded is refl

falls_sent : (p : Parts) (e : FlowEdge) (rows : TableRows) → AreSound p rows → MaySend p rows e
    → Falls (length p.blocks + 1) (change_of e.state (as_table p rows e.target)) rows (send_edge p e rows)
falls_sent p e rows sound may = falls_row p e (as_table p rows e.target) rows sound may refl

-- SEVERAL

all_still : (p : Parts) (d : FlowEdge) (es : List FlowEdge) (rows : TableRows) → All (MaySend p rows) es → All (MaySend p (send_edge p d rows)) es
all_still p d es rows h = λ k e within. may_still p d _ rows (h k e within)

falls_all : (p : Parts) (es : List FlowEdge) (rows : TableRows) → AreSound p rows → All (MaySend p rows) es
    → Falls (length p.blocks + 1) (changes_of p es rows) rows (all_sent p es rows)
falls_all p [] rows sound h = refl
falls_all p (e ∷ es) rows sound h =
    let may = All-head (MaySend p rows) e es h in
    falls_on (length p.blocks + 1) (change_of e.state (as_table p rows e.target)) (changes_of p es (send_edge p e rows)) rows
    (send_edge p e rows) (all_sent p es (send_edge p e rows))
    (falls_sent p e rows sound may)
    (falls_all p es (send_edge p e rows) (sound_sent p e rows sound may) (all_still p e es rows (All-tail (MaySend p rows) e es h)))

-- what falls in visits of the blocks up to a number
pub falls_to : (p : Parts) (k : ℕ) (rows : TableRows) → IsWell p → AreSound p rows → Falls (length p.blocks + 1) (change_to p k rows) rows (visited_to p k rows)
falls_to p zero rows well sound = refl
falls_to p (suc k) rows well sound =
    let before = visited_sound p k rows well sound in
    falls_on (length p.blocks + 1) (change_to p k rows) (change_at p (suc k) (visited_to p k rows)) rows (visited_to p k rows) (visited_to p (suc k) rows)
    (falls_to p k rows well sound)
    (falls_all p (sends p (as_table p (visited_to p k rows)) (suc k)) (visited_to p k rows) before (sends_may p (suc k) (visited_to p k rows) well before))

-- NOTHING CHANGES

both_same : (c d : Change) → followed_by c d ≡ Same → (c ≡ Same) × (d ≡ Same)
both_same Same d h = (refl, h)
both_same Less Same h = absurd (cc)
both_same Less Less h = absurd (cc)
both_same Less More h = absurd (cc)
both_same More d h = absurd (cc)

-- what the test of knowing no more says
pub within_true : (state row : Row) → is_within state row ≡ true → Within state row
within_true state row h =
    let p = and_parts (params_fit state.params row.params) (units_fit state.units row.units) h in
    let here : Row = record state { facilities = row.facilities } in
    let fits = (fits_is_decided here row).0
    (and_from (params_fit state.params row.params && pointwise nat_eq row.facilities row.facilities) (units_fit state.units row.units)
    (and_from (params_fit state.params row.params) (pointwise nat_eq row.facilities row.facilities) p.0
    ((bytes_decides row.facilities row.facilities).1 refl)) p.1) in
    record { params = fits.params; units = fits.units }

idle_if : (stays : Bool) (state row : Row) → is_within state row ≡ stays → (if stays then Same else Less) ≡ Same → Within state row
idle_if true state row is h = within_true state row is
idle_if false state row is h = absurd (cc)

pub idle_row : (state : Row) (row : Option Row) → change_of state row ≡ Same → IsSomeAnd row (Within state)
idle_row state None h = absurd (cc)
idle_row state (Some row) h = idle_if (is_within state row) state row refl h

falls_same : (n : ℕ) (c : Change) (s t : TableRows) → c ≡ Same → Falls n c s t → t ≡ s
falls_same n c s t is h = subst (λ d. Falls n d s t) is h

idle_all : (p : Parts) (es : List FlowEdge) (rows : TableRows) → AreSound p rows → All (MaySend p rows) es → changes_of p es rows ≡ Same
    → All (IsIdle (as_table p rows)) es
idle_all p [] rows sound h is = All-nil (IsIdle (as_table p rows))
idle_all p (e ∷ es) rows sound h is =
    let both = both_same (change_of e.state (as_table p rows e.target)) (changes_of p es (send_edge p e rows)) is in
    let may = All-head (MaySend p rows) e es h in
    let stays = falls_same (length p.blocks + 1) (change_of e.state (as_table p rows e.target)) rows (send_edge p e rows) both.0
    (falls_sent p e rows sound may) in
    let later = idle_all p es (send_edge p e rows) (sound_sent p e rows sound may) (all_still p e es rows (All-tail (MaySend p rows) e es h)) both.1 in
    All-cons (IsIdle (as_table p rows)) e es (idle_row e.state (as_table p rows e.target) both.0) (subst (λ r. All (IsIdle (as_table p r)) es) stays later)

-- the blocks up to a number send nothing that changes the table
idle_to : (p : Parts) (k : ℕ) (rows : TableRows) → IsWell p → AreSound p rows → change_to p k rows ≡ Same → (b : ℕ) → b < k
    → IsIdleAt p (as_table p rows) (suc b)
idle_to p zero rows well sound is b lt = absurd (omega arith)
idle_to p (suc k) rows well sound is b lt =
    let both = both_same (change_to p k rows) (change_at p (suc k) (visited_to p k rows)) is in
    let stays = falls_same (length p.blocks + 1) (change_to p k rows) rows (visited_to p k rows) both.0 (falls_to p k rows well sound) in
    ⊎_elim
    (λ (q : b ≡ k).
    let before = visited_sound p k rows well sound in
    let here = idle_all p (sends p (as_table p (visited_to p k rows)) (suc k)) (visited_to p k rows) before
    (sends_may p (suc k) (visited_to p k rows) well before) both.1 in
    subst (λ n. IsIdleAt p (as_table p rows) (suc n)) (sym q) (subst (λ r. IsIdleAt p (as_table p r) (suc k)) stays here))
    (λ (ne : b ≢ k). idle_to p k rows well sound both.0 b (omega arith))
    (cases_eq b k)

pub none_sent : (p : Parts) (table : Table) (b : ℕ) → block_at p.blocks b ≡ None → IsIdleAt p table b
none_sent p table b is = subst (λ o. All (IsIdle table) (sends_in p table b o (table (targets.Block b)))) (sym is) (All-nil (IsIdle table))

idle_each : (p : Parts) (rows : TableRows) → IsWell p → AreSound p rows → change_to p (length p.blocks) rows ≡ Same → (b : ℕ) → IsIdleAt p (as_table p rows) b
idle_each p rows well sound is zero = none_sent p (as_table p rows) zero refl
idle_each p rows well sound is (suc b) =
    ⊎_elim
    (λ (lt : b < length p.blocks). idle_to p (length p.blocks) rows well sound is b lt)
    (λ (le : length p.blocks ≤ b). none_sent p (as_table p rows) (suc b) (slice_get_past p.blocks b le))
    (cases_lt b (length p.blocks))

-- where a round changes nothing the table is settled, and is what it was
pub same_settles : (p : Parts) (rows : TableRows) → IsWell p → AreSound p rows → change_to p (length p.blocks) rows ≡ Same → IsSettled p rows
same_settles p rows well sound is = record { each = idle_each p rows well sound is }

pub same_stays : (p : Parts) (rows : TableRows) → IsWell p → AreSound p rows → change_to p (length p.blocks) rows ≡ Same
    → visited_to p (length p.blocks) rows ≡ rows
same_stays p rows well sound is =
    falls_same (length p.blocks + 1) (change_to p (length p.blocks) rows) rows (visited_to p (length p.blocks) rows) is
    (falls_to p (length p.blocks) rows well sound)
