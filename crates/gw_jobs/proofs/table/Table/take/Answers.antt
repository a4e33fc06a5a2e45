use Rattle.std.proofs.Common.{rules, ◌≡◌, ◌+◌, ◌∷◌, ◌++◌, [], length, sym, ap, ◌∙◌, subst, List}
use Rattle.std.specs.Prelude.{nat_lt, Some, Ok, Err}
use Rattle.std.specs.List.{slice_get}
use Rattle.gw_service.specs.Journal.{with_event, Take, Service}
use Rattle.gw_service.specs.Calls.{most_events, take_reply, take_from}
use Rattle.gw_jobs.specs.declared.journal.StoredEvent.{StoredEvent}
use Rattle.gw_jobs.specs.declared.journal.StoredEvent.TheVariants as stored
use Rattle.gw_jobs.specs.Table.{service}
use Rattle.gw_jobs.specs.Answers.{GoesOut}
use Rattle.gw_jobs.proofs.Stored.{take_service}
use Rattle.gw_jobs.proofs.Kept.{take_kept, take_reply_is, takes_row, state_in, refuses_take, memory_refuses_take, books_out}
use Rattle.gw_jobs.proofs.table.Table.take.Goals.{After-is_full-full, In-Some}
use Rattle.gw_jobs.proofs.table.Table.take.Goals as goal

-- what a take replies, by the ready list and whether the journal is full
asked : (c : After-is_full-full) → take_reply (service c.self.inside.rows.items c.self.inside.ready.items c.self.inside.journal.items)
    ≡ take_from c.self.inside.ready.items c.is_full-full.result
asked c =
    let t = c.self.inside in
    let full : c.is_full-full.result ≡ nat_lt most_events (length t.journal.items + t.out + 2) = search rules in
    sym (take_reply_is t.rows.items t.ready.items t.journal.items t.out t.steps c.is_full-full.result c.self.invariant.kept full)

-- the slot that is taken is the one that a take replies
takes : (c : In-Some) → take_reply (service c.self.inside.rows.items c.self.inside.ready.items c.self.inside.journal.items)
    ≡ take_from c.self.inside.ready.items c.is_full-full.result
    → take_reply (service c.self.inside.rows.items c.self.inside.ready.items c.self.inside.journal.items) ≡ Ok (Some c.in-Some.slot)
takes c is =
    let told : take_from c.self.inside.ready.items c.is_full-full.result ≡ Ok (Some c.in-Some.slot) = search rules in
    is ∙ told

pub returns-in-Err-clause-refused : goal.returns-in-Err-clause-refused
returns-in-Err-clause-refused c =
    let t = c.self.inside in
    let is = asked (goal.at.returns-in-Err-clause-refused c).After-is_full-full in
    let told : take_from t.ready.items c.is_full-full.result ≡ Err c.in-Err.fault = search rules in
    refuses_take (take_reply c.args.self.now) c.in-Err.fault (ap take_reply (sym c.self.view_is) ∙ is ∙ told)

pub returns-then-is_err-clause-refused : goal.returns-then-is_err-clause-refused
returns-then-is_err-clause-refused c =
    let t = c.self.inside in
    let told = takes (goal.at.returns-then-is_err-clause-refused c).In-Some (asked (goal.at.returns-then-is_err-clause-refused c).After-is_full-full) in
    memory_refuses_take (take_reply c.args.self.now) c.in-Some.slot (ap take_reply (sym c.self.view_is) ∙ told)

pub returns-then-is_err-clause-same : goal.returns-then-is_err-clause-same
returns-then-is_err-clause-same c =
    ap (λ (es : List StoredEvent). service c.self.inside.rows.items c.self.inside.ready.items es) c.reserve_more.ensures.same ∙ c.self.view_is

pub invariant_of-self-2 : goal.invariant_of-self-2
invariant_of-self-2 c =
    let t = c.self.inside in
    let k = c.in-Some.slot in
    let told = takes (goal.at.invariant_of-self-2 c).In-Some (asked (goal.at.invariant_of-self-2 c).After-is_full-full) in
    let log : c.push_reserved.new.self.items ≡ t.journal.items ++ stored.Take k ∷ [] = search rules in
    record {
      kept = rw (c.take_row-sim.ensures.rows, c.remove.ensures.items, log)
          (take_kept t.rows.items t.ready.items t.journal.items t.out t.steps k c.self.invariant.kept told);
      journal_room = search rules;
      ready_room = search rules;
    }

pub returns-clause-task : goal.returns-clause-task
returns-clause-task c =
    let t = c.self.inside in
    let told = takes (goal.at.returns-clause-task c).In-Some (asked (goal.at.returns-clause-task c).After-is_full-full) in
    let row = takes_row t.rows.items t.ready.items t.journal.items t.out t.steps c.in-Some.slot c.self.invariant.kept told in
    let state = state_in c.take_row-sim.result (slice_get t.rows.items c.in-Some.slot) row.row row.here c.take_row-sim.ensures.sim in
    record {
      takes = ap take_reply (sym c.self.view_is) ∙ told;
      row = row.row;
      here = ap (λ (s : Service). slice_get s.now.rows c.in-Some.slot) (sym c.self.view_is) ∙ row.here;
      job = state.0;
      steps = state.1;
    }

-- the table afterwards is the service after the event
event : (c : goal.After-push_reserved) → service c.take_row-sim.new.rows.items c.remove.new.self.items c.push_reserved.new.self.items
    ≡ with_event (Take c.in-Some.slot) c.args.self.now
event c =
    let t = c.self.inside in
    let log : c.push_reserved.new.self.items ≡ t.journal.items ++ stored.Take c.in-Some.slot ∷ [] = search rules in
    rw (c.take_row-sim.ensures.rows, c.remove.ensures.items, log) (take_service t.rows.items t.ready.items t.journal.items c.in-Some.slot)
    ∙ ap (with_event (Take c.in-Some.slot)) c.self.view_is

pub returns-clause-event : goal.returns-clause-event
returns-clause-event c = event c

pub returns-clause-books : goal.returns-clause-books
returns-clause-books c =
    let t = c.self.inside in
    let k = c.in-Some.slot in
    let told = takes (goal.at.returns-clause-books c).In-Some (asked (goal.at.returns-clause-books c).After-is_full-full) in
    let books = books_out t.rows.items t.ready.items t.journal.items t.out t.steps k c.self.invariant.kept told in
    let gone = subst (λ (s : Service). GoesOut s (with_event (Take k) s)) c.self.view_is books in
    subst (GoesOut c.args.self.now) (sym (event c)) gone
