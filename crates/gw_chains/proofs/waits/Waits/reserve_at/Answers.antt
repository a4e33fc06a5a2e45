use Rattle.std.proofs.Common.{[], length, arith, ap}
use Rattle.gw_chains.specs.Waiting.{Walked}
use Rattle.gw_members.specs.Lists.{room_of}
use Rattle.gw_members.proofs.Each.{here, after, many, at_most, on_ok, on_err}
use Rattle.gw_chains.proofs.Waiting.{list_of, lists_kept, waiting_kept, rooms_kept}
use Rattle.gw_chains.proofs.waits.Waits.reserve_at.Goals as goal

pub invariant_of-self : goal.invariant_of-self
invariant_of-self c = (
  omega arith,
  waiting_kept _ _ _ _ _ (ap (λ w. w.lists) c.self.view_is) c.requires c.index_mut.ensures.value c.reserve.ensures.members _ c.self.invariant.1,
)

pub returns-clause-lists : goal.returns-clause-lists
returns-clause-lists c = lists_kept _ _ _ _ _ (ap (λ w. w.lists) c.self.view_is) c.requires c.index_mut.ensures.value c.reserve.ensures.members

pub returns-clause-kept : goal.returns-clause-kept
returns-clause-kept c = rooms_kept _ _ _ _ _ (ap (λ w. w.lists) c.self.view_is) c.requires c.index_mut.ensures.value _ _
    (ap (λ w. w.rooms) c.self.view_is) c.reserve.ensures.kept

pub returns-clause-room : goal.returns-clause-room
returns-clause-room c =
    on_ok c.reserve.result c.reserve.ensures.room
    (λ enough. omega (
      arith,
      after (λ (l : Walked). room_of c.self.inside.waiting l.room) 0 c.self.inside.delay_lists.items c.args.e c.reserve.new.self
          (list_of _ _ _ _ (ap (λ w. w.lists) c.self.view_is) c.requires c.index_mut.ensures.value).below,
      enough,
    ))

pub returns-clause-refused : goal.returns-clause-refused
returns-clause-refused c =
    rw (← c.self.view_is) (on_err c.reserve.result c.reserve.ensures.refused
    (λ less. omega (
      arith,
      here (λ (l : Walked). room_of c.self.inside.waiting l.room) 0 _ _ _
          (list_of _ _ _ _ (ap (λ w. w.lists) c.self.view_is) c.requires c.index_mut.ensures.value),
      less,
    )))

pub returns-then-self-more-clause-refused : goal.returns-then-self-more-clause-refused
returns-then-self-more-clause-refused c =
    rw (← c.self.view_is) (at_most (λ (l : Walked). room_of c.self.inside.waiting l.room) c.args.more (λ y. omega arith)
    c.self.inside.delay_lists.items c.args.e
    (omega (arith, many (λ (l : Walked). l.members) [] c.self.inside.delay_lists.items, ap (λ w. length w.lists) c.self.view_is, c.requires)))
