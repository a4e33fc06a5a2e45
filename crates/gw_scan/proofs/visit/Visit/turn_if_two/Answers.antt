use Rattle.std.proofs.Common.{rules, ◌≢◌}
use Rattle.gw_scan.proofs.Ready.{one_apart, one_next}
use Rattle.gw_scan.proofs.visit.Visit.turn_if_two.Goals as goal

pub returns-then-self-clause-goes : goal.returns-then-self-clause-goes
returns-then-self-clause-goes c =
    let v = c.args.self.now in
    let apart : v.transaction.current ≢ v.transaction.next = search rules in (
      v.transaction.next,
      one_next v c.args.machine.now c.requires.ready c.requires.visit c.args.before.now
          (one_apart v.verified.now v.transaction apart) c.requires.before,
    )

pub returns-clause-goes : goal.returns-clause-goes
returns-clause-goes c = c.turn_at_block.ensures c.args.self.now.transaction c.requires.visit.found
