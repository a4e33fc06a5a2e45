use Rattle.std.proofs.Common.{rules, ◌≡◌, ◌∙◌, ◌+◌, ◌-◌, ℕ, suc, ap, sym, arith}
use Rattle.gw_step.specs.Blocks.{unlink_members}
use Rattle.gw_machine.specs.Configuration.{Configuration}
use Rattle.gw_machine.specs.View.{state_of}
use Rattle.gw_machine.proofs.AtChains.{unlinked-next, unlinked-none}
use Rattle.gw_machine.proofs.machine.Machine.unlink.Goals as goal

pub unlink_first-requires-clause-chain : goal.unlink_first-requires-clause-chain
unlink_first-requires-clause-chain c = rw (ap (λ (x : Configuration). x.entities.facilities) c.loop.invariant.frame) c.requires.chain

pub loop-preserved : goal.loop-preserved
loop-preserved c =
    let old = c.loop.invariant in
    let e = c.unlink_first.ensures in
    let was = state_of c.loop.self in
    let left = c.args.count - (c.loop.counter + 1) in
    let one_more : c.args.count - c.loop.counter ≡ suc left = omega arith in
    record {
      state = ap (unlink_members left c.args.chain c.args.target) e.state ∙ sym (unlinked-next left c.args.chain c.args.target was)
          ∙ ap (λ (k : ℕ). unlink_members k c.args.chain c.args.target was) (sym one_more) ∙ old.state;
      frame = search (rules, e.frame, old.frame);
      room = omega (arith, e.room, old.room);
      left = omega (arith, e.room, old.left);
    }

pub returns-clause-state : goal.returns-clause-state
returns-clause-state c =
    let none : c.args.count - c.loop.counter ≡ 0 = omega arith in
    let was = state_of c.loop.self in
    sym (unlinked-none c.args.chain c.args.target was)
    ∙ ap (λ (k : ℕ). unlink_members k c.args.chain c.args.target was) (sym none) ∙ c.loop.invariant.state
