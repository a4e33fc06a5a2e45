use Rattle.std.proofs.Common.{◌<◌, ◌∙◌, length, [], ap, inr, arith}
use Rattle.gw_num.specs.Table.{at}
use Rattle.gw_chains.specs.Waiting.{Walked}
use Rattle.gw_members.proofs.Each.{many, err_with, each_more}
use Rattle.gw_chains.proofs.waits.Waits.reserve.Goals as goal

pub loop-e-init : goal.loop-e-init
loop-e-init c = record {
  lists = ap (λ w. w.lists) c.self.view_is;
  retry = c.in_ok-reserve.ensures.items ∙ ap (λ w. w.retry) c.self.view_is;
  kept = λ k. omega (arith, ap (λ w. at 0 w.rooms k) c.self.view_is);
  retry_kept = omega (arith, ap (λ w. w.retry_room) c.self.view_is);
  retry_room = omega (arith, c.in_ok-reserve.ensures.ok);
  room = λ k below. absurd (omega arith);
}

pub reserve_at-requires : goal.reserve_at-requires
reserve_at-requires c =
    omega (
      arith,
      ap length c.loop-e.invariant.lists,
      many (λ (l : Walked). l.members) [] c.self.inside.delay_lists.items,
      ap (λ w. length w.lists) c.self.view_is,
    )

pub returns-in_err-reserve_at-clause-lists : goal.returns-in_err-reserve_at-clause-lists
returns-in_err-reserve_at-clause-lists c = c.reserve_at.ensures.lists ∙ c.loop-e.invariant.lists

pub returns-in_err-reserve_at-clause-retry : goal.returns-in_err-reserve_at-clause-retry
returns-in_err-reserve_at-clause-retry c = c.reserve_at.ensures.retry ∙ c.loop-e.invariant.retry

pub returns-in_err-reserve_at-clause-kept : goal.returns-in_err-reserve_at-clause-kept
returns-in_err-reserve_at-clause-kept c = λ k. omega (arith, c.loop-e.invariant.kept k, c.reserve_at.ensures.kept k)

pub returns-in_err-reserve_at-clause-retry_kept : goal.returns-in_err-reserve_at-clause-retry_kept
returns-in_err-reserve_at-clause-retry_kept c = omega (arith, c.loop-e.invariant.retry_kept, c.reserve_at.ensures.retry_room)

pub returns-in_err-reserve_at-clause-refused : goal.returns-in_err-reserve_at-clause-refused
returns-in_err-reserve_at-clause-refused c =
    let within : c.loop-e.e < length c.args.self.now.lists =
    omega (arith, many (λ (l : Walked). l.members) [] c.self.inside.delay_lists.items, ap (λ w. length w.lists) c.self.view_is) in
    err_with c.from_residual-in_err-reserve_at.result
    (inr (c.loop-e.e, within, omega (arith, c.loop-e.invariant.kept c.loop-e.e, c.in_err-reserve_at.ensures.refused)))

pub loop-e-preserved : goal.loop-e-preserved
loop-e-preserved c = record {
  lists = c.reserve_at.ensures.lists ∙ c.loop-e.invariant.lists;
  retry = c.reserve_at.ensures.retry ∙ c.loop-e.invariant.retry;
  kept = λ k. omega (arith, c.loop-e.invariant.kept k, c.reserve_at.ensures.kept k);
  retry_kept = omega (arith, c.loop-e.invariant.retry_kept, c.reserve_at.ensures.retry_room);
  retry_room = omega (arith, c.loop-e.invariant.retry_room, c.reserve_at.ensures.retry_room);
  room = each_more c.loop-e.e c.args.more c.loop-e.self.rooms c.reserve_at.new.self.rooms c.loop-e.invariant.room c.reserve_at.ensures.kept
      c.in_ok-reserve_at.ensures.room;
}

pub returns-clause-lists : goal.returns-clause-lists
returns-clause-lists c = c.loop-e.invariant.lists

pub returns-clause-retry : goal.returns-clause-retry
returns-clause-retry c = c.loop-e.invariant.retry

pub returns-clause-room : goal.returns-clause-room
returns-clause-room c =
    λ k within. c.loop-e.invariant.room k
    (omega (
      arith,
      ap length c.loop-e.invariant.lists,
      many (λ (l : Walked). l.members) [] c.self.inside.delay_lists.items,
      ap (λ w. length w.lists) c.self.view_is,
    ))

pub returns-clause-retry_room : goal.returns-clause-retry_room
returns-clause-retry_room c = c.loop-e.invariant.retry_room

pub returns-clause-kept : goal.returns-clause-kept
returns-clause-kept c = c.loop-e.invariant.kept

pub returns-clause-retry_kept : goal.returns-clause-retry_kept
returns-clause-retry_kept c = c.loop-e.invariant.retry_kept
