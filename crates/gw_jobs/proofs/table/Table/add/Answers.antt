use Rattle.std.proofs.Common.{rules, ◌≡◌, ◌∷◌, ◌++◌, [], length, sym, ap, ◌∙◌, refl, arith, List, ℕ, None, Some}
use Rattle.std.specs.List.{slice_get}
use Rattle.gw_step.specs.Job.{Job}
use Rattle.gw_service.specs.Rows.{Row, new_row}
use Rattle.gw_service.specs.Journal.{with_event, Submit, slot_if_ready}
use Rattle.gw_service.specs.Calls.{submit_fault, Pass, new_pass}
use Rattle.gw_jobs.specs.declared.journal.StoredEvent.TheVariants as stored
use Rattle.gw_jobs.specs.Table.{service}
use Rattle.gw_jobs.proofs.Stored.{submit_service}
use Rattle.gw_jobs.proofs.Kept.{memory_refuses, submit_kept, get-last, few_out, from_ok}
use Rattle.gw_jobs.proofs.table.Table.add.Goals.{After-list_if_ready}
use Rattle.gw_jobs.proofs.table.Table.add.Goals as goal

-- the rows, the ready list and the journal behind an added job
record IsAdded (c : After-list_if_ready) : Type 0 where
  rows : c.add_row-spec.new.rows.items ≡ c.self.inside.rows.items ++ new_row c.args.user c.args.job ∷ []
  queue : c.list_if_ready.new.ready.items ≡ c.self.inside.ready.items ++ slot_if_ready (length c.self.inside.rows.items) (Some (new_row c.args.user c.args.job))
  log : c.push_reserved.new.self.items ≡ c.self.inside.journal.items ++ stored.Submit ∷ []

added : (c : After-list_if_ready) → IsAdded c
added c =
    let t = c.self.inside in
    let u = c.args.user in
    let j = c.args.job in
    let rows : c.add_row-spec.new.rows.items ≡ t.rows.items ++ new_row u j ∷ [] = c.add_row-spec.ensures.rows
    ∙ ap (λ (xs : List Row). xs ++ new_row u j ∷ []) c.make_room.ensures.rows in
    let slot_is : c.len-slot.result ≡ length t.rows.items = search rules in
    let last : slice_get c.deref.result.now c.len-slot.result ≡ Some (new_row u j) =
    rw (c.deref.ensures.value, rows, slot_is) (get-last t.rows.items (new_row u j)) in
    record {
      rows = rows;
      queue = rw (c.list_if_ready.ensures.items, last, slot_is, c.make_room.ensures.ready) refl;
      log = rw (c.push_reserved.ensures.items, c.make_room.ensures.journal) refl;
    }

-- nothing refuses the submit where the table was asked and told nothing
free : (c : After-list_if_ready) → submit_fault c.args.user (service c.self.inside.rows.items c.self.inside.ready.items c.self.inside.journal.items) ≡ None
free c =
    let none : c.refusal_of.result ≡ None = search rules in
    ap (submit_fault c.args.user) c.self.view_is ∙ sym c.refusal_of.ensures ∙ none

pub make_room-requires : goal.make_room-requires
make_room-requires c =
    let t = c.self.inside in
    omega (arith, c.self.invariant.kept.kept.within.jobs, few_out t.rows.items t.ready.items t.journal.items t.out t.steps c.self.invariant.kept)

pub returns-then-is_err-clause-refused : goal.returns-then-is_err-clause-refused
returns-then-is_err-clause-refused c =
    let none : c.refusal_of.result ≡ None = search rules in
    memory_refuses (submit_fault c.args.user c.args.self.now) (sym c.refusal_of.ensures ∙ none)

pub returns-then-is_err-clause-same : goal.returns-then-is_err-clause-same
returns-then-is_err-clause-same c =
    let t = c.self.inside in
    let same : service c.make_room.new.rows.items c.make_room.new.ready.items c.make_room.new.journal.items
    ≡ service t.rows.items t.ready.items t.journal.items = rw (c.make_room.ensures.rows, c.make_room.ensures.ready, c.make_room.ensures.journal) refl in
    same ∙ c.self.view_is

pub invariant_of-self : goal.invariant_of-self
invariant_of-self c =
    record {
      kept = rw (c.make_room.ensures.rows, c.make_room.ensures.ready, c.make_room.ensures.journal) c.self.invariant.kept;
      journal_room = omega (arith, c.make_room.ensures.journal_len, c.make_room.ensures.journal_kept, c.self.invariant.journal_room);
      ready_room = omega (arith, c.make_room.ensures.ready_len, c.make_room.ensures.ready_kept, c.self.invariant.ready_room);
    }

pub add_row-spec-requires : goal.add_row-spec-requires
add_row-spec-requires c =
    let ok = c.if-is_err.ensures.value in
    record { room = from_ok c.make_room.result ok c.make_room.ensures.rows_room }

pub push_reserved-requires : goal.push_reserved-requires
push_reserved-requires c =
    let ok = c.if-is_err.ensures.value in
    omega (arith, from_ok c.make_room.result ok c.make_room.ensures.journal_room)

pub list_if_ready-requires : goal.list_if_ready-requires
list_if_ready-requires c =
    let ok = c.if-is_err.ensures.value in
    omega (arith, from_ok c.make_room.result ok c.make_room.ensures.ready_room)

pub invariant_of-self-2 : goal.invariant_of-self-2
invariant_of-self-2 c =
    let t = c.self.inside in
    let u = c.args.user in
    let j = c.args.job in
    let after = added (goal.at.invariant_of-self-2 c).After-list_if_ready in
    let none = free (goal.at.invariant_of-self-2 c).After-list_if_ready in
    let ok = c.if-is_err.ensures.value in
    record {
      kept = rw (after.rows, after.queue, after.log)
          (submit_kept t.rows.items t.ready.items t.journal.items t.out t.steps u j c.self.invariant.kept none
          c.add_row-spec.ensures.starts c.add_row-spec.ensures.fits);
      journal_room = omega (
        arith,
        from_ok c.make_room.result ok c.make_room.ensures.journal_room,
        c.push_reserved.ensures.len,
        c.push_reserved.ensures.capacity,
      );
      ready_room = omega (arith, from_ok c.make_room.result ok c.make_room.ensures.ready_room, c.list_if_ready.ensures.len, c.list_if_ready.ensures.capacity);
    }

pub returns-clause-free : goal.returns-clause-free
returns-clause-free c =
    let none : c.refusal_of.result ≡ None = search rules in
    sym c.refusal_of.ensures ∙ none

pub returns-clause-event : goal.returns-clause-event
returns-clause-event c =
    let t = c.self.inside in
    let u = c.args.user in
    let j = c.args.job in
    let after = added (goal.at.returns-clause-event c).After-list_if_ready in
    rw (after.rows, after.queue, after.log) (submit_service t.rows.items t.ready.items t.journal.items u j c.self.invariant.kept.submits)
    ∙ ap (with_event (Submit u j)) c.self.view_is

pub returns-clause-pass : goal.returns-clause-pass
returns-clause-pass c =
    let t = c.self.inside in
    let u = c.args.user in
    let j = c.args.job in
    let slot_is : c.len-slot.result ≡ length t.rows.items = search rules in
    c.of.ensures ∙ ap (λ (k : ℕ). let x : Pass = record { user = u; slot = k; job = c.add_row-spec.result } in x) slot_is
    ∙ ap (λ (i : Job). let x : Pass = record { user = u; slot = length t.rows.items; job = i } in x) c.add_row-spec.ensures.spec
    ∙ ap (new_pass u j) c.self.view_is
