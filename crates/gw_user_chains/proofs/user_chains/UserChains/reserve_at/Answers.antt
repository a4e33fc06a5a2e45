use Rattle.std.proofs.Common.{◌-◌, [], length, arith, ap, Global}
use Rattle.std.specs.VecDeque.{deque_items, deque_len, deque_capacity}
use Rattle.std.specs.declared.collections.VecDeque.{VecDeque}
use Rattle.gw_members.specs.Lists.{room_of}
use Rattle.gw_members.specs.declared.tx.Tx.{Tx}
use Rattle.gw_members.proofs.Each.{here, after, loses, many, at_most, on_ok, on_err}
use Rattle.gw_user_chains.proofs.Linked.{chain_of, chains_kept, linked_kept}
use Rattle.gw_user_chains.proofs.user_chains.UserChains.reserve_at.Goals as goal

pub invariant_of-self : goal.invariant_of-self
invariant_of-self c = (
  omega arith,
  linked_kept _ _ _ _ _ (ap (λ w. w.lists) c.self.view_is) c.requires c.index_mut.ensures.value c.reserve.ensures.items _ c.self.invariant.1,
)

pub returns-clause-lists : goal.returns-clause-lists
returns-clause-lists c = chains_kept _ _ _ _ _ (ap (λ w. w.lists) c.self.view_is) c.requires c.index_mut.ensures.value c.reserve.ensures.items

pub returns-clause-kept : goal.returns-clause-kept
returns-clause-kept c =
    rw (← c.self.view_is)
    (loses (λ (q : VecDeque Tx Global). room_of c.self.inside.linked (deque_capacity q - deque_len q))
    (λ (q : VecDeque Tx Global). room_of c.self.inside.linked (deque_capacity q - deque_len q)) 0 (λ y. omega arith) _ _ _
    c.reserve.new.self (chain_of _ _ _ _ (ap (λ w. w.lists) c.self.view_is) c.requires c.index_mut.ensures.value) (omega arith))

pub returns-clause-room : goal.returns-clause-room
returns-clause-room c =
    on_ok c.reserve.result c.reserve.ensures.ok
    (λ enough. omega (
      arith,
      after (λ (q : VecDeque Tx Global). room_of c.self.inside.linked (deque_capacity q - deque_len q)) 0 c.self.inside.chains.items
          c.args.c c.reserve.new.self (chain_of _ _ _ _ (ap (λ w. w.lists) c.self.view_is) c.requires c.index_mut.ensures.value).below,
      enough,
    ))

pub returns-clause-refused : goal.returns-clause-refused
returns-clause-refused c =
    rw (← c.self.view_is) (on_err c.reserve.result c.reserve.ensures.full
    (λ less. omega (
      arith,
      here (λ (q : VecDeque Tx Global). room_of c.self.inside.linked (deque_capacity q - deque_len q)) 0 _ _ _
          (chain_of _ _ _ _ (ap (λ w. w.lists) c.self.view_is) c.requires c.index_mut.ensures.value),
      less,
    )))

pub returns-then-self-more-clause-refused : goal.returns-then-self-more-clause-refused
returns-then-self-more-clause-refused c =
    rw (← c.self.view_is) (at_most (λ (q : VecDeque Tx Global). room_of c.self.inside.linked (deque_capacity q - deque_len q)) c.args.more
    (λ y. omega arith) c.self.inside.chains.items c.args.c
    (omega (arith, many (deque_items {X = Tx} {Z = Global}) [] c.self.inside.chains.items, ap (λ w. length w.lists) c.self.view_is, c.requires)))
