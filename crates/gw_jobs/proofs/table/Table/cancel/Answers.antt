use Rattle.std.proofs.Common.{rules, ◌≡◌, ◌+◌, ◌∷◌, ◌++◌, [], length, sym, ap, ◌∙◌, arith, List, None, Some}
use Rattle.std.specs.Prelude.{nat_lt}
use Rattle.gw_service.specs.Journal.{with_event, Cancel}
use Rattle.gw_service.specs.Calls.{most_events, cancel_fault, cancel_refusal}
use Rattle.gw_jobs.specs.declared.journal.StoredEvent.{StoredEvent}
use Rattle.gw_jobs.specs.declared.journal.StoredEvent.TheVariants as stored
use Rattle.gw_jobs.specs.Table.{service}
use Rattle.gw_jobs.proofs.Stored.{cancel_service}
use Rattle.gw_jobs.proofs.Kept.{refuses, memory_refuses, cancel_fault_is, cancels_some, cancel_kept}
use Rattle.gw_jobs.proofs.table.Table.cancel.Goals as goal

pub returns-in-Some-clause-refused : goal.returns-in-Some-clause-refused
returns-in-Some-clause-refused c =
    let t = c.self.inside in
    let full : c.is_full-full.result ≡ nat_lt most_events (length t.journal.items + t.out + 1) = search rules in
    let is = cancel_fault_is t.rows.items t.ready.items t.journal.items t.out t.steps c.is_full-full.result c.args.pass.now c.self.invariant.kept full in
    let told : cancel_refusal c.args.pass.now t.rows.items c.is_full-full.result ≡ Some c.in-Some.fault = search rules in
    refuses (cancel_fault c.args.pass.now c.args.self.now) c.in-Some.fault (ap (cancel_fault c.args.pass.now) (sym c.self.view_is) ∙ sym is ∙ told)

pub returns-then-is_err-clause-refused : goal.returns-then-is_err-clause-refused
returns-then-is_err-clause-refused c =
    let t = c.self.inside in
    let full : c.is_full-full.result ≡ nat_lt most_events (length t.journal.items + t.out + 1) = search rules in
    let is = cancel_fault_is t.rows.items t.ready.items t.journal.items t.out t.steps c.is_full-full.result c.args.pass.now c.self.invariant.kept full in
    let told : cancel_refusal c.args.pass.now t.rows.items c.is_full-full.result ≡ None = search rules in
    memory_refuses (cancel_fault c.args.pass.now c.args.self.now) (ap (cancel_fault c.args.pass.now) (sym c.self.view_is) ∙ sym is ∙ told)

pub returns-then-is_err-clause-same : goal.returns-then-is_err-clause-same
returns-then-is_err-clause-same c =
    ap (λ (es : List StoredEvent). service c.self.inside.rows.items c.self.inside.ready.items es) c.reserve_more.ensures.same ∙ c.self.view_is

pub cancel_row-requires : goal.cancel_row-requires
cancel_row-requires c =
    let t = c.self.inside in
    let full : c.is_full-full.result ≡ nat_lt most_events (length t.journal.items + t.out + 1) = search rules in
    let is = cancel_fault_is t.rows.items t.ready.items t.journal.items t.out t.steps c.is_full-full.result c.args.pass.now c.self.invariant.kept full in
    let told : cancel_refusal c.args.pass.now t.rows.items c.is_full-full.result ≡ None = search rules in
    rw c.slot-slot.ensures (cancels_some t.rows.items t.ready.items t.journal.items c.args.pass.now (sym is ∙ told))

pub invariant_of-self-2 : goal.invariant_of-self-2
invariant_of-self-2 c =
    let t = c.self.inside in
    let k = c.args.pass.now.slot in
    let full : c.is_full-full.result ≡ nat_lt most_events (length t.journal.items + t.out + 1) = search rules in
    let is = cancel_fault_is t.rows.items t.ready.items t.journal.items t.out t.steps c.is_full-full.result c.args.pass.now c.self.invariant.kept full in
    let told : cancel_refusal c.args.pass.now t.rows.items c.is_full-full.result ≡ None = search rules in
    let log : c.push_reserved.new.self.items ≡ t.journal.items ++ stored.Cancel k ∷ [] = search rules in
    record {
      kept = rw (c.cancel_row.ensures.rows, c.remove_slot.ensures.items, log, c.slot-slot.ensures)
          (cancel_kept t.rows.items t.ready.items t.journal.items t.out t.steps c.args.pass.now c.self.invariant.kept (sym is ∙ told));
      journal_room = search rules;
      ready_room = omega (arith, c.self.invariant.ready_room, c.remove_slot.ensures.len, c.remove_slot.ensures.capacity);
    }

pub returns-clause-free : goal.returns-clause-free
returns-clause-free c =
    let t = c.self.inside in
    let full : c.is_full-full.result ≡ nat_lt most_events (length t.journal.items + t.out + 1) = search rules in
    let is = cancel_fault_is t.rows.items t.ready.items t.journal.items t.out t.steps c.is_full-full.result c.args.pass.now c.self.invariant.kept full in
    let told : cancel_refusal c.args.pass.now t.rows.items c.is_full-full.result ≡ None = search rules in
    ap (cancel_fault c.args.pass.now) (sym c.self.view_is) ∙ sym is ∙ told

pub returns-clause-event : goal.returns-clause-event
returns-clause-event c =
    let t = c.self.inside in
    let k = c.args.pass.now.slot in
    let log : c.push_reserved.new.self.items ≡ t.journal.items ++ stored.Cancel k ∷ [] = search rules in
    rw (c.cancel_row.ensures.rows, c.remove_slot.ensures.items, log, c.slot-slot.ensures)
    (cancel_service t.rows.items t.ready.items t.journal.items k) ∙ ap (with_event (Cancel k)) c.self.view_is
