use Rattle.std.proofs.Common.{◌≡◌, map}
use Rattle.std.specs.List.{AllByRecursion}
use Rattle.gw_step.specs.Blocks.{admission}
use Rattle.gw_machine.specs.Coherence.{IsRanked}
use Rattle.gw_machine.specs.View.{state_of, member_number}
use Rattle.gw_machine.specs.Admission.{AsksInVain, AdmitsNobody}
use Rattle.gw_machine.proofs.machine.Machine.can_admit.Given as goal

-- nobody enters where none of those still to come does
abbrev pub invariant-loop-waiter : goal.invariant-loop-waiter
invariant-loop-waiter l = record {
  ranked : AllByRecursion (IsRanked l.self.transactions) l.waiter-iterator;
  rest : admission l.blocks l.e (map member_number l.waiter-iterator) (state_of l.self) ≡ state_of l.self → AdmitsNobody l.blocks l.e (state_of l.self);
  refused : AsksInVain l.blocks l.e l.refused (state_of l.self);
}
