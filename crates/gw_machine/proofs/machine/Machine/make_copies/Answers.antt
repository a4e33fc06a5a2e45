use Rattle.std.proofs.Common.{rules, ◌≡◌, ◌∙◌, ℕ, suc, List, [], ◌∷◌, ◌++◌, length, replicate, ap, sym, subst, arith}
use Rattle.gw_transactions.specs.Transactions.{kept_of}
use Rattle.gw_transactions.specs.Parameters.{Numbered}
use Rattle.gw_step.specs.Changes.{copies_made}
use Rattle.gw_machine.specs.View.{state_of}
use Rattle.gw_machine.proofs.AtCopies.{copies-next, copies-none, popped-same, popped-length}
use Rattle.gw_machine.proofs.machine.Machine.make_copies.Goals as goal

pub loop-for_copy-preserved : goal.loop-for_copy-preserved
loop-for_copy-preserved c =
    let old = c.loop-for_copy.invariant in
    let e = c.copy_once.ensures in
    let n = c.args.tx.number in
    let t = c.args.transaction in
    let was = state_of c.loop-for_copy.self in
    let front = c.pop.new.self.items in
    let popped : c.loop-for_copy.parameters.items ≡ front ++ c.in-Some.for_copy ∷ [] = c.in-Some.ensures.items in
    let one_more : length c.loop-for_copy.parameters.items ≡ suc (length front) = ap length popped ∙ popped-length front c.in-Some.for_copy in
    record {
      state = ap (copies_made (length front) n t c.args.target) e.state ∙ sym (copies-next (length front) n t c.args.target was)
          ∙ ap (λ (k : ℕ). copies_made k n t c.args.target was) (sym one_more) ∙ old.state;
      same = popped-same front c.in-Some.for_copy (kept_of n c.loop-for_copy.self.transactions)
          (subst (λ (all : List Numbered). all ≡ replicate (length all) (kept_of n c.loop-for_copy.self.transactions)) popped old.same)
          ∙ ap (replicate (length front)) (sym e.same);
      frame = search (rules, e.frame, old.frame);
      held = e.held;
      few = omega (arith, one_more, e.made, old.few);
      transactions = omega (arith, one_more, e.room.0, old.transactions);
      current_events = omega (arith, one_more, e.room.1, old.current_events);
    }

pub returns-clause-state : goal.returns-clause-state
returns-clause-state c =
    let none : length c.loop-for_copy.parameters.items ≡ 0 = search rules in
    let was = state_of c.loop-for_copy.self in
    sym (copies-none c.args.tx.number c.args.transaction c.args.target was)
    ∙ ap (λ (k : ℕ). copies_made k c.args.tx.number c.args.transaction c.args.target was) (sym none) ∙ c.loop-for_copy.invariant.state
