use Rattle.std.proofs.Common.{◌<◌, ◌∙◌, [], length, refl, arith, ap, Global}
use Rattle.std.specs.VecDeque.{deque_items}
use Rattle.gw_members.specs.declared.tx.Tx.{Tx}
use Rattle.gw_members.proofs.Each.{many, err_with, each_more}
use Rattle.gw_user_chains.proofs.user_chains.UserChains.reserve.Goals as goal

pub loop-c-init : goal.loop-c-init
loop-c-init c = record {
  lists = refl;
  kept = λ k. omega arith;
  room = λ k below. absurd (omega arith);
}

pub reserve_at-requires : goal.reserve_at-requires
reserve_at-requires c = omega
    (arith, ap length c.loop-c.invariant.lists, many (deque_items {X = Tx} {Z = Global}) [] c.self.inside.chains.items, ap (λ w. length w.lists) c.self.view_is)

pub returns-in_err-reserve_at-clause-lists : goal.returns-in_err-reserve_at-clause-lists
returns-in_err-reserve_at-clause-lists c = c.reserve_at.ensures.lists ∙ c.loop-c.invariant.lists

pub returns-in_err-reserve_at-clause-kept : goal.returns-in_err-reserve_at-clause-kept
returns-in_err-reserve_at-clause-kept c = λ k. omega (arith, c.loop-c.invariant.kept k, c.reserve_at.ensures.kept k)

pub returns-in_err-reserve_at-clause-refused : goal.returns-in_err-reserve_at-clause-refused
returns-in_err-reserve_at-clause-refused c =
    let within : c.loop-c.c < length c.args.self.now.lists =
    omega (arith, many (deque_items {X = Tx} {Z = Global}) [] c.self.inside.chains.items, ap (λ w. length w.lists) c.self.view_is) in
    err_with c.from_residual.result (c.loop-c.c, within, omega (arith, c.loop-c.invariant.kept c.loop-c.c, c.in_err-reserve_at.ensures.refused))

pub loop-c-preserved : goal.loop-c-preserved
loop-c-preserved c = record {
  lists = c.reserve_at.ensures.lists ∙ c.loop-c.invariant.lists;
  kept = λ k. omega (arith, c.loop-c.invariant.kept k, c.reserve_at.ensures.kept k);
  room = each_more c.loop-c.c c.args.more c.loop-c.self.rooms c.reserve_at.new.self.rooms c.loop-c.invariant.room c.reserve_at.ensures.kept
      c.in_ok-reserve_at.ensures.room;
}

pub returns-clause-lists : goal.returns-clause-lists
returns-clause-lists c = c.loop-c.invariant.lists

pub returns-clause-room : goal.returns-clause-room
returns-clause-room c = λ k within. c.loop-c.invariant.room k
    (omega (
      arith,
      ap length c.loop-c.invariant.lists,
      many (deque_items {X = Tx} {Z = Global}) [] c.self.inside.chains.items,
      ap (λ w. length w.lists) c.self.view_is,
    ))

pub returns-clause-kept : goal.returns-clause-kept
returns-clause-kept c = c.loop-c.invariant.kept
