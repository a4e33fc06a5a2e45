use Rattle.std.proofs.Common.{rules, ℕ, List, ◌≡◌, ◌+◌, ◌-◌, ◌∷◌, ◌++◌, [], sym, ap, ◌∙◌, refl, arith, subst}
use Rattle.std.specs.Prelude.{Some, IsSome}
use Rattle.std.specs.List.{slice_get}
use Rattle.gw_service.specs.Rows.{Row, change_row, returned_row}
use Rattle.gw_service.specs.Journal.{Service, with_event, Return, slot_if_ready}
use Rattle.gw_service.specs.Calls.{Receipt, receipt_of, give_back_reply}
use Rattle.gw_jobs.specs.declared.journal.StoredEvent.TheVariants as stored
use Rattle.gw_jobs.specs.Table.{service}
use Rattle.gw_jobs.specs.Answers.{Fits, ComesBack}
use Rattle.gw_jobs.proofs.Stored.{return_service}
use Rattle.gw_jobs.proofs.Kept.{FitsRow, IsCounted, fits_at, fits_out, comes_back, return_kept, reply_is, here_after, receipt_is, books_back}
use Rattle.gw_jobs.proofs.table.Table.give_back.Goals.{In-Some, After-list_if_ready, After-deref-3}
use Rattle.gw_jobs.proofs.table.Table.give_back.Goals as goal

-- the row in the task's slot fits the task
fits : (c : In-Some) → FitsRow c.self.inside.rows.items c.args.task.slot c.args.task.sim.job c.args.task.sim.state.steps c.in-Some.before
fits c =
    let rows = c.self.inside.rows.items in
    let task = c.args.task in
    let has : Fits task.sim.job task.sim.state.steps c.in-Some.before (slice_get rows task.slot) = search rules in
    fits_at rows task.slot task.sim.job task.sim.state.steps c.in-Some.before has

-- it is counted among those that are out, and its steps among all
counts : (c : In-Some) → IsCounted c.in-Some.before c.self.inside.out c.self.inside.steps
counts c =
    let t = c.self.inside in
    let p = c.args.task.sim in
    comes_back t.rows.items t.ready.items t.journal.items t.out t.steps c.args.task.slot c.in-Some.before p.state.steps p.job c.self.invariant.kept (fits c)

-- the ready list has the slot too, if the row is ready again
listed : (c : After-list_if_ready) → c.list_if_ready.new.ready.items ≡ c.self.inside.ready.items
    ++ slot_if_ready c.args.task.slot
    (slice_get (change_row c.args.task.slot (returned_row c.args.task.sim.state.steps) c.self.inside.rows.items) c.args.task.slot)
listed c =
    let t = c.self.inside in
    let k = c.args.task.slot in
    let n = c.args.task.sim.state.steps in
    let rows : c.deref-2.result.now ≡ change_row k (returned_row n) t.rows.items = c.deref-2.ensures.value ∙ c.put_back_row.ensures.rows in
    c.list_if_ready.ensures.items ∙ ap (λ (rs : List Row). t.ready.items ++ slot_if_ready c.slot-slot.result (slice_get rs c.slot-slot.result)) rows
    ∙ ap (λ (m : ℕ). t.ready.items ++ slot_if_ready m (slice_get (change_row k (returned_row n) t.rows.items) m)) c.slot-slot.ensures

-- and the journal the event
logged : (c : After-list_if_ready) → c.push_reserved.new.self.items ≡ c.self.inside.journal.items
    ++ stored.Return c.args.task.slot c.args.task.sim.state.steps ∷ []
logged c = rw (sym c.slot-slot.ensures, sym c.steps-steps.ensures.steps) (search rules)

-- the row that came back
came_back : (c : After-deref-3)
    (f : FitsRow c.self.inside.rows.items c.args.task.slot c.args.task.sim.job c.args.task.sim.state.steps c.in-Some.before)
    → slice_get c.deref-3.result.now c.slot-slot.result ≡ Some (returned_row c.args.task.sim.state.steps f.row)
came_back c f =
    let t = c.self.inside in
    let k = c.args.task.slot in
    let p = c.args.task.sim in
    let n = p.state.steps in
    subst (λ (m : ℕ). slice_get c.deref-3.result.now m ≡ Some (returned_row n f.row)) (sym c.slot-slot.ensures)
    (ap (λ (rows : List Row). slice_get rows k) (c.deref-3.ensures.value ∙ c.put_back_row.ensures.rows)
    ∙ here_after t.rows.items k p.job n c.in-Some.before f)

pub put_back_row-requires : goal.put_back_row-requires
put_back_row-requires c =
    let p = c.args.task.sim in
    fits_out c.self.inside.rows.items c.args.task.slot p.job p.state.steps c.in-Some.before (fits (goal.at.put_back_row-requires c).In-Some)

pub recounted-self-inside-requires-clause-part : goal.recounted-self-inside-requires-clause-part
recounted-self-inside-requires-clause-part c = (counts (goal.at.recounted-self-inside-requires-clause-part c).In-Some).counted

pub recounted-self-inside-requires-clause-range : goal.recounted-self-inside-requires-clause-range
recounted-self-inside-requires-clause-range c = (counts (goal.at.recounted-self-inside-requires-clause-range c).In-Some).few_steps

pub overflow_sub-self : goal.overflow_sub-self
overflow_sub-self c = (counts (goal.at.overflow_sub-self c).In-Some).some_out

pub push_reserved-requires : goal.push_reserved-requires
push_reserved-requires c = omega (arith, (counts (goal.at.push_reserved-requires c).In-Some).some_out, c.self.invariant.journal_room)

pub list_if_ready-requires : goal.list_if_ready-requires
list_if_ready-requires c = omega (arith, (counts (goal.at.list_if_ready-requires c).In-Some).some_out, c.self.invariant.ready_room)

pub receipt-requires-clause-row : goal.receipt-requires-clause-row
receipt-requires-clause-row c =
    let f = fits (goal.at.receipt-requires-clause-row c).In-Some in
    subst IsSome (sym (came_back (goal.at.receipt-requires-clause-row c).After-deref-3 f)) refl

pub invariant_of-self : goal.invariant_of-self
invariant_of-self c =
    let t = c.self.inside in
    let k = c.args.task.slot in
    let p = c.args.task.sim in
    let f = fits (goal.at.invariant_of-self c).In-Some in
    let here = (goal.at.invariant_of-self c).After-list_if_ready in
    let one = (counts (goal.at.invariant_of-self c).In-Some).some_out in
    let left : t.out - 1 + 1 ≡ t.out = omega (arith, one) in
    let more : c.recounted-self-inside.result + c.in-Some.before ≡ t.steps + p.state.steps =
    omega (arith, c.recounted-self-inside.ensures, c.steps-steps.ensures.steps) in
    record {
      kept = rw (c.put_back_row.ensures.rows, listed here, logged here)
          (return_kept t.rows.items t.ready.items t.journal.items t.out (t.out - 1) t.steps c.recounted-self-inside.result k
          c.in-Some.before p c.self.invariant.kept f c.steps-steps.ensures.reached left more);
      journal_room = omega (arith, one, c.self.invariant.journal_room, c.push_reserved.ensures.len, c.push_reserved.ensures.capacity);
      ready_room = omega (arith, one, c.self.invariant.ready_room, c.list_if_ready.ensures.len, c.list_if_ready.ensures.capacity);
    }

pub returns-clause-told : goal.returns-clause-told
returns-clause-told c =
    let p = c.args.task.sim in
    let f = fits (goal.at.returns-clause-told c).In-Some in
    let row = returned_row p.state.steps f.row in
    let here = came_back (goal.at.returns-clause-told c).After-deref-3 f in
    let told = receipt_is c.slot-slot.result c.receipt.result (slice_get c.deref-3.result.now c.slot-slot.result) row here c.receipt.ensures in
    let same = told ∙ ap (λ (m : ℕ). receipt_of m row) c.slot-slot.ensures in
    ap (give_back_reply c.args.task.slot p.job p.state.steps) (sym c.self.view_is)
    ∙ reply_is c.self.inside.rows.items c.self.inside.ready.items c.self.inside.journal.items c.args.task.slot p.job p.state.steps c.in-Some.before f
    ∙ ap (λ (x : Receipt). Some x) (sym same)

-- the table afterwards is the service after the event
event : (c : After-list_if_ready) → service c.put_back_row.new.rows.items c.list_if_ready.new.ready.items c.push_reserved.new.self.items
    ≡ with_event (Return c.args.task.slot c.args.task.sim.state.steps) c.args.self.now
event c =
    let t = c.self.inside in
    let k = c.args.task.slot in
    let n = c.args.task.sim.state.steps in
    rw (c.put_back_row.ensures.rows, listed c, logged c) (return_service t.rows.items t.ready.items t.journal.items k n)
    ∙ ap (with_event (Return k n)) c.self.view_is

pub returns-clause-event : goal.returns-clause-event
returns-clause-event c = event (goal.at.returns-clause-event c).After-list_if_ready

pub returns-clause-books : goal.returns-clause-books
returns-clause-books c =
    let t = c.self.inside in
    let k = c.args.task.slot in
    let p = c.args.task.sim in
    let n = p.state.steps in
    let books = books_back t.rows.items t.ready.items t.journal.items k p.job n c.in-Some.before (fits (goal.at.returns-clause-books c).In-Some) in
    let back = subst (λ (s : Service). ComesBack k n s (with_event (Return k n) s)) c.self.view_is books in
    subst (ComesBack k n c.args.self.now) (sym (event (goal.at.returns-clause-books c).After-list_if_ready)) back
