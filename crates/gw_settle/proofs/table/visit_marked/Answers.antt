use Rattle.std.proofs.Common.{rules, ◌≡◌, ◌-◌, ◌+◌, ◌≤◌, ℕ, suc, get_or, set, false, refl, sym, subst, arith}
use Rattle.gw_object.specs.declared.parts.Parts.{Parts}
use Rattle.gw_settle.specs.declared.draft.Draft.{Draft}
use Rattle.gw_settle.specs.Keeps.{IsIdleAt}
use Rattle.gw_settle.specs.Drafts.{rows_held, table_in}
use Rattle.gw_settle.specs.Marks.{MarksFollow}
use Rattle.gw_settle.proofs.Marking.{unmarked_at, unmarked_changes_none, suffice_visited, suffice_without}
use Rattle.gw_settle.proofs.Drafting.{there_within, idle_is_visit}
use Rattle.gw_settle.proofs.table.visit_marked.Goals as goal

pub returns-then-not-index-clause-visited : goal.returns-then-not-index-clause-visited
returns-then-not-index-clause-visited c =
    let unmarked : get_or c.args.draft.now.marks.items (c.args.number - 1) false ≡ false = search rules in
    let none = unmarked_changes_none c.args.parts.now c.args.draft.now.marks.items (rows_held c.args.draft.now.rows) c.args.number
    c.requires.noted.marks (unmarked_at c.args.draft.now.marks.items c.args.number unmarked) in
    record { rows = sym none.0; is = sym none.1 }

pub is_sent_already-is_sent-requires-clause-place : goal.is_sent_already-is_sent-requires-clause-place
is_sent_already-is_sent-requires-clause-place c =
    omega (
      arith,
      c.requires.noted.marks.length,
      there_within c.args.parts.now c.args.draft.now.marks.items c.args.number c.requires.noted.marks.length c.requires.there,
    )

pub is_sent_already-is_sent-requires-clause-rows : goal.is_sent_already-is_sent-requires-clause-rows
is_sent_already-is_sent-requires-clause-rows c = c.requires.sound.shape.blocks

suc_is : (k : ℕ) → suc k ≡ k + 1
suc_is k = omega arith

idle : (p : Parts) (draft : Draft) (b : ℕ) → 1 ≤ b → IsIdleAt p (table_in p draft) (b - 1 + 1) → IsIdleAt p (table_in p draft) b
idle p draft b first h = let again : b - 1 + 1 ≡ b = omega (arith, first) in subst (IsIdleAt p (table_in p draft)) again h

pub returns-then-is_sent-clause-visited : goal.returns-then-is_sent-clause-visited
returns-then-is_sent-clause-visited c =
    idle_is_visit c.args.parts.now c.args.number c.args.draft.now _ refl
    (idle c.args.parts.now c.args.draft.now c.args.number c.requires.first (c.is_sent_already-is_sent.ensures (search rules)))

pub returns-then-is_sent-clause-noted : goal.returns-then-is_sent-clause-noted
returns-then-is_sent-clause-noted c = record {
  marks = suffice_without c.args.parts.now c.args.draft.now.marks.items (c.args.number - 1) (rows_held c.args.draft.now.rows) c.requires.noted.marks
      (subst (IsIdleAt c.args.parts.now (table_in c.args.parts.now c.args.draft.now)) (sym (suc_is (c.args.number - 1)))
      (c.is_sent_already-is_sent.ensures (search rules)));
  versions = c.requires.noted.versions;
}

pub index_mut-requires : goal.index_mut-requires
index_mut-requires c = omega (
  arith,
  c.args.draft.now.marks.ok.0,
  there_within c.args.parts.now c.args.draft.now.marks.items c.args.number c.requires.noted.marks.length c.requires.there,
)

pub returns-clause-noted : goal.returns-clause-noted
returns-clause-noted c =
    let p = c.args.parts.now in
    let marks = c.args.draft.now.marks.items in
    let follows : MarksFollow p (set marks (c.args.number - 1) false) c.visit.new.draft.marks.items (table_in p c.args.draft.now)
    (table_in p c.visit.new.draft) = search rules in
    record {
      marks = suffice_visited p marks c.visit.new.draft.marks.items c.args.number (rows_held c.args.draft.now.rows)
          (rows_held c.visit.new.draft.rows) c.requires.first c.requires.well c.requires.sound c.requires.noted.marks
          (c.in_ok-change.ensures.visited.rows) follows;
      versions = c.in_ok-change.ensures.noted.versions;
    }
