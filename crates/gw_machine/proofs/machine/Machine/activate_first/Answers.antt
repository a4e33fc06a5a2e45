use Rattle.std.proofs.Common.{List, Some, map, sym, ap}
use Rattle.gw_members.specs.Chain.{rest}
use Rattle.gw_members.specs.declared.tx.Member.{Member}
use Rattle.gw_machine.specs.Shown.{configuration_of}
use Rattle.gw_machine.specs.View.{state_of, lists_of, member_number}
use Rattle.gw_machine.proofs.Activating.{first-number}
use Rattle.gw_machine.proofs.machine.Machine.activate_first.Goals as goal

pub returns-in-Some-clause-first : goal.returns-in-Some-clause-first
returns-in-Some-clause-first c =
    let m = configuration_of c.self.inside in
    let n = c.in-Some.tx.number in
    rw (← c.self.view_is) (λ _. (
      n,
      map member_number (rest m.current_events.items),
      first-number m.current_events.items c.in-Some.tx (sym c.in-Some.ensures.first),
      ap (λ (xs : List Member). record (state_of m)
          { lists = record (lists_of m) { active = Some n; current_events = map member_number xs } }) c.in-Some.ensures.rest,
    ))
