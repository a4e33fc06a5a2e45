use Rattle.std.proofs.Common.{rules, ◌≡◌, ◌+◌, length, ap, ◌∙◌}
use Rattle.std.specs.Prelude.{nat_lt}
use Rattle.gw_service.specs.Calls.{most_events, submit_fault}
use Rattle.gw_jobs.proofs.Kept.{submit_fault_is}
use Rattle.gw_jobs.proofs.table.Table.refusal_of.Goals as goal

pub returns : goal.returns
returns c =
    let t = c.self.inside in
    let full : c.is_full-full.result ≡ nat_lt most_events (length t.journal.items + t.out + 1) = search rules in
    let told = submit_fault_is t.rows.items t.ready.items t.journal.items t.out t.steps c.args.user c.is_full-full.result c.self.invariant.kept full in
    search rules ∙ told ∙ ap (submit_fault c.args.user) c.self.view_is
