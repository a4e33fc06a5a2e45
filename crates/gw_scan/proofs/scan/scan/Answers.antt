use Rattle.std.proofs.Common.{rules, ◌∙◌, sym}
use Rattle.gw_transactions.specs.Transactions.{Holds}
use Rattle.gw_scan.specs.declared.visit.Visit.{Visit}
use Rattle.gw_scan.proofs.Ready.{is_visit}
use Rattle.gw_scan.proofs.scan.scan.Goals as goal

pub turn_if_two-requires-clause-visit : goal.turn_if_two-requires-clause-visit
turn_if_two-requires-clause-visit c =
    let v : Visit = record { verified = c.args.verified; tx = c.in-Some.tx; transaction = c.transaction-transaction.result } in
    let held : Holds c.args.machine.now.transactions c.in-Some.tx = search rules in
    is_visit v c.args.machine.now c.requires.ready (sym c.active.ensures.value ∙ c.in-Some.is) held c.transaction-transaction.ensures
