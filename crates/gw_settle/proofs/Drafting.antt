-- What is sent to the rows of a draft.
use Rattle.std.proofs.Common.{◌≡◌, ◌≢◌, ℕ, zero, suc, ◌+◌, ◌-◌, ◌<◌, ◌&&◌, List, [], ◌∷◌, length, get_or, set, slice_set, Option, Some, None, Bool}
use Rattle.std.proofs.Common.{true, false, refl, sym, ap, ap₂, subst, ◌∙◌, arith}
use Rattle.std.specs.Prelude.{IsSome, slice_get, Result, is_err, not}
use Rattle.std.specs.Option.{option_flatten}
use Rattle.std.proofs.lemmas.Bool.{false≢true, and_parts}
use Rattle.std.proofs.lemmas.Option.{slice_get_within}
use Rattle.gw_object.specs.declared.blocks.Block.{Block}
use Rattle.gw_object.specs.declared.fault.Fault.{Fault}
use Rattle.gw_object.specs.declared.parts.Parts.{Parts}
use Rattle.gw_rules.specs.Kinds.{block_at, chain_place}
use Rattle.gw_rules.specs.declared.edges.Target.TheVariants as targets
use Rattle.gw_rules.specs.Blocks.{FlowEdge, rules}
use Rattle.gw_rules.specs.Checks.{Finds}
use Rattle.gw_rules.specs.Flow.{rule_checks}
use Rattle.gw_rules.specs.Rows.{Row}
use Rattle.gw_settle.specs.declared.draft.Draft.{Draft}
use Rattle.gw_settle.specs.declared.passing.Like.{Like}
use Rattle.gw_settle.specs.declared.passing.Sent.{Sent}
use Rattle.gw_settle.specs.declared.table.Change.{Change}
use Rattle.gw_settle.specs.declared.table.Change.TheVariants.{Same, Less}
use Rattle.gw_settle.specs.Drafts.{rows_held, table_in, members_at, Sends, HasBlocks, IsWhole, Steps, IsVisit, IsSending, AreSendings, IsSentAt}
use Rattle.gw_settle.specs.Drafts.{IsSentBehind, IsRowSent, MarksGoOn, NotesGoOn, AreShared, IsMarkedAt, AreNoted}
use Rattle.gw_settle.specs.Jumps.{row_in}
use Rattle.gw_settle.specs.Keeps.{MayEnter, HasShape, IsIdleAt, sets_return}
use Rattle.gw_settle.specs.Marks.{MarksFollow, UnlinksFollow}
use Rattle.gw_settle.specs.Rounds.{TableRows, rows_of, as_table, with_blocks, sent_at, send_edge, all_sent, sent_to, sends, sends_in, visit_block}
use Rattle.gw_settle.specs.Rounds.{visited_to, change_of, changes_of, change_at, change_to, followed_by}
use Rattle.gw_settle.specs.Versions.{IsOneVersion, IsReturnAt, rules_hold, SendsBehind, IsSharing, without_version, sent_behind, change_behind}
use Rattle.gw_settle.proofs.Marking.{follow_itself, follow_on, follow_change, follow_chain, idle_changes_none, idle_unmarked}
use Rattle.gw_settle.proofs.Sent.{rules_hold as rules_are_held, rules_broken, broken_found, none_found, followed_by_assoc, same_after, sends_are}
use Rattle.gw_settle.proofs.Sent.{Sending, sending_more}
use Rattle.gw_settle.proofs.Sharing.{length_sent, versions_sent, entered_within, passed_visited, passed_none, idle_like, like_same, like_less}
use Rattle.gw_settle.proofs.Sharing.{like_set, like_shared, like_changes, quiet_follows}

-- NOTES

pub notes_stay : (p : Parts) (draft : Draft) → IsWhole p draft → NotesGoOn p draft draft
notes_stay p draft whole = record { marks = follow_itself p draft.marks.items (table_in p draft); versions = whole.versions }

pub marks_on : (p : Parts) (a b c : Draft) → MarksGoOn p a b → MarksGoOn p b c → MarksGoOn p a c
marks_on p a b c h g = follow_on p a.marks.items b.marks.items c.marks.items (table_in p a) (table_in p b) (table_in p c) h g

pub notes_on : (p : Parts) (a b c : Draft) → NotesGoOn p a b → NotesGoOn p b c → NotesGoOn p a c
notes_on p a b c h g = record { marks = marks_on p a b c h.marks g.marks; versions = g.versions }

pub whole_on : (p : Parts) (old new : Draft) → IsWhole p old → NotesGoOn p old new → HasShape p (rows_held new.rows) → IsWhole p new
whole_on p old new whole notes shape = record { shape = shape; marks = notes.marks.length ∙ whole.marks; versions = notes.versions }

pub whole_blocks : (p : Parts) (draft : Draft) → IsWhole p draft → HasBlocks p draft
whole_blocks p draft whole = record { rows = whole.shape.blocks; marks = whole.marks }

-- ONE EDGE

-- a row that is written is a state sent to it
pub is_sent_at : (state : Row) (k : ℕ) (old new : Draft) (c : Change) → new.rows.blocks.items ≡ sent_at state k old.rows.blocks.items
    → new.rows.chains.items ≡ old.rows.chains.items →
    c ≡ change_of state (row_in old.rows.blocks.items k) → IsSentAt state k old new c
is_sent_at state k old new c blocks chains is = record { rows = ap₂ rows_of blocks chains; is = is }

-- the marks where a state came to a block
pub at_marks : (p : Parts) (state : Row) (k : ℕ) (old new : Draft) (c : Change) → k < length p.blocks → HasBlocks p old
    → IsSentAt state k old new c → IsMarkedAt k old new c → MarksGoOn p old new
at_marks p state k old new c lt all h marked =
    subst (λ r. MarksFollow p old.marks.items new.marks.items (table_in p old) (as_table p r)) (sym h.rows)
    (subst (λ ms. MarksFollow p old.marks.items ms (table_in p old) (as_table p (with_blocks (sent_at state k) (rows_held old.rows)))) (sym marked)
    (follow_change p state k old.marks.items (rows_held old.rows) c (omega (arith, lt, all.marks)) h.is))

module _ (p : Parts) (edge : FlowEdge) (old new : Draft) (c : Change) where
  pub block_sent : (b : ℕ) → edge.target ≡ targets.Block b → MayEnter p (targets.Block b) → IsSentAt edge.state (b - 1) old new c → IsSending p edge old new c
  block_sent zero to enters h = absurd (false≢true enters)
  block_sent (suc k) to enters h =
      let place : suc k - 1 ≡ k = omega arith in
      let here : IsSentAt edge.state k old new c = subst (λ n. IsSentAt edge.state n old new c) place h in
      record {
        rows = here.rows ∙ ap (λ x. sent_to p.entities edge.state x (rows_held old.rows)) (sym to);
        is = here.is ∙ ap (λ x. change_of edge.state (table_in p old x)) (sym to);
      }

  pub block_noted : (b : ℕ) → MayEnter p (targets.Block b) → IsWhole p old → IsSentAt edge.state (b - 1) old new c → IsMarkedAt (b - 1) old new c →
      new.versions.items ≡ without_version c (b - 1) old.versions.items → new.newest ≡ old.newest → new.latest ≡ old.latest → NotesGoOn p old new
  block_noted b enters whole h marked without newest latest = record {
    marks = at_marks p edge.state (b - 1) old new c (entered_within p b enters) (whole_blocks p old whole) h marked;
    versions = rw (newest, latest)
        (versions_sent old.newest old.latest old.versions.items new.versions.items old.rows.blocks.items new.rows.blocks.items edge.state (b - 1) c
        (omega (arith, entered_within p b enters, whole.versions.length, whole.shape.blocks)) h.is without
        (ap (λ (r : TableRows). r.blocks) h.rows) whole.versions);
  }

  module _ (e : ℕ) (to : edge.target ≡ targets.Chain e) (blocks : new.rows.blocks.items ≡ old.rows.blocks.items)
      (chains : new.rows.chains.items ≡ sent_at edge.state (chain_place p.entities e) old.rows.chains.items)
      (is : c ≡ change_of edge.state (row_in old.rows.chains.items (chain_place p.entities e))) where
    pub chain_sent : IsSending p edge old new c
    chain_sent = record {
      rows = ap₂ rows_of blocks chains ∙ ap (λ x. sent_to p.entities edge.state x (rows_held old.rows)) (sym to);
      is = is ∙ ap (λ x. change_of edge.state (table_in p old x)) (sym to);
    }

    pub chain_noted : IsWhole p old → UnlinksFollow p.blocks old.marks.items new.marks.items c → new.versions.items ≡ old.versions.items
        → new.newest ≡ old.newest → new.latest ≡ old.latest → NotesGoOn p old new
    chain_noted whole unlinks same newest latest = record {
      marks = follow_chain p edge.state e old.marks.items new.marks.items (rows_held old.rows) (rows_held new.rows) c is unlinks (ap₂ rows_of blocks chains);
      versions = rw (newest, latest, same, blocks) whole.versions;
    }

-- one edge more was sent
pub sending_on : (p : Parts) (all rest : List FlowEdge) (e : FlowEdge) (start now next : Draft) (change d : Change)
    → Sending p all (e ∷ rest) (rows_held start.rows) (rows_held now.rows) change → IsSending p e now next d →
    Sending p all rest (rows_held start.rows) (rows_held next.rows) (followed_by change d)
sending_on p all rest e start now next change d h g =
    subst (λ r. Sending p all rest (rows_held start.rows) r (followed_by change d)) (sym g.rows)
    (subst (λ x. Sending p all rest (rows_held start.rows) (send_edge p e (rows_held now.rows)) (followed_by change x)) (sym g.is)
    (sending_more p all rest e (rows_held start.rows) (rows_held now.rows) change h))

-- VISITS

within_if : (o : Option Block) (bs : List Block) (k : ℕ) → slice_get bs k ≡ o → IsSome o → k < length bs
within_if None bs k is h = absurd (cc)
within_if (Some block) bs k is h = slice_get_within bs k block is

-- a block that is there has a mark
pub there_within : (p : Parts) (marks : List Bool) (b : ℕ) → length marks ≡ length p.blocks → IsSome (block_at p.blocks b) → b - 1 < length marks
there_within p marks zero all h = absurd (cc)
there_within p marks (suc k) all h = omega (arith, all, within_if (slice_get p.blocks k) p.blocks k refl h)

-- the edges that a visit sends are those of the block
pub sent_are : (p : Parts) (draft : Draft) (b : ℕ) (block : Block) (state row : Row) (members : Option Row) (es ds : List FlowEdge) → es
    ≡ ds → state ≡ row → Sends p b block state members ds → members ≡ members_at p draft block →
    block_at p.blocks b ≡ Some block → table_in p draft (targets.Block b) ≡ Some row → es ≡ sends p (table_in p draft) b
sent_are p draft b block state row members es ds same is are has there full =
    let all : ds ≡ sends_in p (table_in p draft) b (Some block) (Some row) = rw is at (are (table_in p draft) has) in
    same ∙ all ∙ sends_are p (table_in p draft) b block row there full

pub sent_is_visit : (p : Parts) (b : ℕ) (es : List FlowEdge) (old new : Draft) (c : Change) → es ≡ sends p (table_in p old) b
    → AreSendings p es old new c → IsVisit p b old new c
sent_is_visit p b es old new c are h = record {
  rows = h.rows ∙ ap (λ xs. all_sent p xs (rows_held old.rows)) are;
  is = h.is ∙ ap (λ xs. changes_of p xs (rows_held old.rows)) are;
}

-- the rules of a block hold where none is found broken
pub hold_where_found : (p : Parts) (b : ℕ) (block : Block) (row : Row) (result : Result (Unit {0}) Fault) (is : Bool) → is_err result ≡ is
    → Finds result (rule_checks p b block row) → not is ≡ rules_hold p block row
hold_where_found p b block row result true is found = let broken = broken_found result (rule_checks p b block row) is found in
    sym (rules_broken b (rules p block row) broken.0 broken.1)
hold_where_found p b block row result false is found = sym (rules_are_held b (rules p block row) (none_found result (rule_checks p b block row) is found))

-- the row of a block that has one
pub row_there : (p : Parts) (draft : Draft) (b : ℕ) (row : Row) → table_in p draft (targets.Block b) ≡ Some row
    → row_in draft.rows.blocks.items (b - 1) ≡ Some row
row_there p draft zero row is = absurd (cc)
row_there p draft (suc k) row is = let place : suc k - 1 ≡ k = omega arith in rw place is

row_within : (o : Option (Option Row)) (rows : List (Option Row)) (k : ℕ) (row : Row) → slice_get rows k ≡ o → option_flatten o ≡ Some row → k < length rows
row_within None rows k row is has = absurd (cc)
row_within (Some o) rows k row is has = slice_get_within rows k o is

pub place_within : (p : Parts) (draft : Draft) (b : ℕ) (row : Row) → IsWhole p draft → table_in p draft (targets.Block b) ≡ Some row → b
    - 1 < length draft.versions.items
place_within p draft b row whole is =
    let rows = draft.rows.blocks.items in
    omega (arith, whole.versions.length, row_within (slice_get rows (b - 1)) rows (b - 1) row refl (row_there p draft b row is))

-- a visit of a block that sends its row as it is
module _ (p : Parts) (b : ℕ) (block : Block) (row : Row) (bs : List ℕ) (old new : Draft) (c : Change)
    (is : block_at p.blocks b ≡ Some block) (has : table_in p old (targets.Block b) ≡ Some row) (behind : SendsBehind p b block row bs) where
  pub passed_is_visit : rules_hold p block row ≡ true → IsSentBehind row bs old new c → IsVisit p b old new c
  passed_is_visit holds h =
      let both = passed_visited p b block row bs old.rows.blocks.items old.rows.chains.items is has behind holds in
      record { rows = h.rows ∙ sym both.0; is = h.is ∙ sym both.1 }

pub none_is_visit : (p : Parts) (b : ℕ) (block : Block) (row : Row) (bs : List ℕ) (old : Draft) → block_at p.blocks b ≡ Some block
    → table_in p old (targets.Block b) ≡ Some row → SendsBehind p b block row bs →
    rules_hold p block row ≡ false → IsVisit p b old old Same
none_is_visit p b block row bs old is has behind holds =
    let both = passed_none p b block row bs old.rows.blocks.items old.rows.chains.items is has behind holds in
    record { rows = sym both.0; is = sym both.1 }

-- a visit of a block that would change nothing
pub idle_is_visit : (p : Parts) (b : ℕ) (old new : Draft) → rows_held new.rows ≡ rows_held old.rows → IsIdleAt p (table_in p old) b → IsVisit p b old new Same
idle_is_visit p b old new same idle =
    let none = idle_changes_none p (sends p (table_in p old) b) (rows_held old.rows) idle in
    record { rows = same ∙ sym none.0; is = sym none.1 }

-- a block whose row was sent already by another one
pub already_idle : (p : Parts) (draft : Draft) (k j q : ℕ) → AreNoted p draft → IsReturnAt p.blocks q k → IsReturnAt p.blocks q j
    → get_or draft.marks.items j false ≡ false → IsOneVersion draft.versions.items k j → IsIdleAt p (table_in p draft) (k + 1)
already_idle p draft k j q noted here other unmarked one =
    idle_like p draft.rows.blocks.items draft.rows.chains.items draft.newest draft.latest draft.versions.items k j q noted.versions here other one
    (idle_unmarked p draft.marks.items (rows_held draft.rows) (suc j) noted.marks unmarked)

pub visits_on : (p : Parts) (i : ℕ) (start now new : Draft) (c d : Change) → Steps (visited_to p i) (change_to p i) start now c → IsVisit p (i + 1) now new d →
    Steps (visited_to p (i + 1)) (change_to p (i + 1)) start new (followed_by c d)
visits_on p i start now new c d h g =
    let next : suc i ≡ i + 1 = omega arith in
    let r = rows_held start.rows in
    let last : IsVisit p (suc i) now new d = subst (λ n. IsVisit p n now new d) (sym next) g in
    subst (λ n. Steps (visited_to p n) (change_to p n) start new (followed_by c d)) next (record {
      rows = last.rows ∙ ap (visit_block p (suc i)) h.rows;
      is = ap₂ followed_by h.is (last.is ∙ ap (change_at p (suc i)) h.rows);
    })

-- A ROW BEHIND SEVERAL BLOCKS

-- a row was sent behind some blocks, and these are left
pub record Behind (p : Parts) (state : Row) (all rest : List ℕ) (start now : Draft) (change : Change) : Type 0 where
  pub rows : with_blocks (sent_behind state rest) (rows_held now.rows) ≡ with_blocks (sent_behind state all) (rows_held start.rows)
  pub changes : followed_by change (change_behind state rest now.rows.blocks.items) ≡ change_behind state all start.rows.blocks.items
  pub blocks : HasBlocks p now
  pub marks : MarksGoOn p start now

pub behind_start : (p : Parts) (state : Row) (all : List ℕ) (draft : Draft) → HasBlocks p draft → Behind p state all all draft draft Same
behind_start p state all draft blocks = record { rows = refl; changes = refl; blocks = blocks; marks = follow_itself p draft.marks.items (table_in p draft) }

pub behind_more : (p : Parts) (state : Row) (all rest : List ℕ) (b : ℕ) (start now next : Draft) (change d : Change)
    → Behind p state all (b ∷ rest) start now change → IsSentAt state b now next d → MarksGoOn p now next →
    Behind p state all rest start next (followed_by change d)
behind_more p state all rest b start now next change d h at marks =
    let blocks : next.rows.blocks.items ≡ sent_at state b now.rows.blocks.items = ap (λ (r : TableRows). r.blocks) at.rows in
    let later = change_behind state rest (sent_at state b now.rows.blocks.items) in
    record {
      rows = ap (with_blocks (sent_behind state rest)) at.rows ∙ h.rows;
      changes = ap (λ xs. followed_by (followed_by change d) (change_behind state rest xs)) blocks ∙ followed_by_assoc change d later
          ∙ ap (λ x. followed_by change (followed_by x later)) at.is ∙ h.changes;
      blocks = record { rows = ap length blocks ∙ length_sent state b now.rows.blocks.items ∙ h.blocks.rows; marks = marks.length ∙ h.blocks.marks };
      marks = marks_on p start now next h.marks marks;
    }

pub behind_done : (p : Parts) (state : Row) (all : List ℕ) (start now : Draft) (change : Change) → Behind p state all [] start now change
    → IsSentBehind state all start now change
behind_done p state all start now change h = record { rows = h.rows; is = sym (same_after change) ∙ h.changes }

-- A ROW LIKE ANOTHER ONE

module _ (p : Parts) (old : Draft) (sent : Sent) (like : Like) (k : ℕ) (lt : k < length p.blocks) (all : HasBlocks p old)
    (shared : AreShared sent like old) (is : get_or old.versions.items k 0 ≡ like.version) (known : like.version ≢ 0) where
  within : k < length old.versions.items
  within = omega (arith, lt, all.rows, shared.length)

  changes : like.change ≡ change_of sent.row.now (row_in old.rows.blocks.items k)
  changes = sym (like_changes sent.parameter sent.row.now sent.version old.newest like old.versions.items old.rows.blocks.items k within is known shared)

  pub like_stays : like.change ≡ Same → IsRowSent p sent k like old old Same
  like_stays same = record {
    at = is_sent_at sent.row.now k old old Same
        (sym (like_same sent.parameter sent.row.now sent.version old.newest like old.versions.items old.rows.blocks.items k within is known
        shared same)) refl (sym same ∙ changes);
    marks = follow_itself p old.marks.items (table_in p old);
    versions = shared;
  }

  module _ (new : Draft) (other : like.change ≢ Same)
      (rows : new.rows.blocks.items ≡ slice_set old.rows.blocks.items k (Some sent.row.now))
      (chains : new.rows.chains.items ≡ old.rows.chains.items) (versions : new.versions.items ≡ set old.versions.items k sent.version)
      (newest : new.newest ≡ old.newest) where
    there : IsSentAt sent.row.now k old new like.change
    there = is_sent_at sent.row.now k old new like.change
        (rows ∙ like_set sent.parameter sent.row.now sent.version old.newest like old.versions.items old.rows.blocks.items k within is
        known shared other) chains changes

    shared_then : AreShared sent like new
    shared_then =
        subst (λ n. IsSharing sent.parameter sent.row.now sent.version n like new.versions.items new.rows.blocks.items) (sym newest)
        (like_shared sent.parameter sent.row.now sent.version old.newest like old.versions.items old.rows.blocks.items k within is known
        shared new.versions.items new.rows.blocks.items other rows versions)

    pub like_marked : new.marks.items ≡ set old.marks.items k true → IsRowSent p sent k like old new like.change
    like_marked marks =
        let less : like.change ≡ Less =
        like_less sent.parameter sent.row.now sent.version old.newest like old.versions.items old.rows.blocks.items k within is known shared other in
        let marked : IsMarkedAt k old new like.change = rw less marks in
        record { at = there; marks = at_marks p sent.row.now k old new like.change lt all there marked; versions = shared_then }

    pub like_quiet : new.marks.items ≡ old.marks.items → (like.alone && sets_return (slice_get p.blocks k) sent.parameter) ≡ true
        → IsRowSent p sent k like old new like.change
    like_quiet marks quiet =
        let both = and_parts like.alone (sets_return (slice_get p.blocks k) sent.parameter) quiet in
        let same = quiet_follows sent.parameter sent.row.now sent.version old.newest like old.versions.items old.rows.blocks.items k within
        is known shared p old.marks.items new.rows.blocks.items other both.0 both.1 rows old.rows.chains.items in
        record { at = there; marks = rw (marks, chains) same; versions = shared_then }
