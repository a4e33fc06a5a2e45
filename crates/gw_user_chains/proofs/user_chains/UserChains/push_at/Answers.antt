use Rattle.std.proofs.Common.{◌≡◌, ◌+◌, ◌-◌, length, arith, ap, Global}
use Rattle.std.specs.VecDeque.{deque_items, deque_len, deque_capacity}
use Rattle.std.specs.declared.collections.VecDeque.{VecDeque}
use Rattle.gw_user_chains.specs.Ends.{with_one_at}
use Rattle.gw_members.specs.Lists.{room_of}
use Rattle.gw_members.specs.declared.tx.Tx.{Tx}
use Rattle.gw_members.proofs.Each.{here, total, loses}
use Rattle.gw_user_chains.proofs.Linked.{chain_of, chain_changed}
use Rattle.gw_user_chains.proofs.user_chains.UserChains.push_at.Goals as goal

pub put_at-requires : goal.put_at-requires
put_at-requires c =
    omega (
      arith,
      rw (← c.self.view_is) at c.requires.room,
      here (λ (q : VecDeque Tx Global). room_of c.self.inside.linked (deque_capacity q - deque_len q)) 0 _ _ _
          (chain_of _ _ _ _ (ap (λ w. w.lists) c.self.view_is) c.requires.there c.index_mut.ensures.value),
    )

pub overflow_add-self : goal.overflow_add-self
overflow_add-self c =
    omega (
      arith,
      rw (← c.self.view_is) at c.requires.room,
      here (λ (q : VecDeque Tx Global). room_of c.self.inside.linked (deque_capacity q - deque_len q)) 0 _ _ _
          (chain_of _ _ _ _ (ap (λ w. w.lists) c.self.view_is) c.requires.there c.index_mut.ensures.value),
    )

pub invariant_of-self : goal.invariant_of-self
invariant_of-self c =
    let s = chain_of _ _ _ _ (ap (λ w. w.lists) c.self.view_is) c.requires.there c.index_mut.ensures.value in
    let more : length c.put_at.new.queue.items ≡ length c.index_mut.result.now.items + 1 =
    omega (arith, c.put_at.new.queue.ok.0, c.index_mut.result.now.ok.0) in (
      omega (
        arith,
        rw (← c.self.view_is) at c.requires.room,
        here (λ (q : VecDeque Tx Global). room_of c.self.inside.linked (deque_capacity q - deque_len q)) 0 _ _ _ s,
      ),
      omega (arith, more, total (deque_items {X = Tx} {Z = Global}) _ _ _ c.put_at.new.queue s),
    )

pub returns-clause-lists : goal.returns-clause-lists
returns-clause-lists c =
    chain_changed _ _ _ _ _ (ap (λ w. w.lists) c.self.view_is) c.requires.there c.index_mut.ensures.value
    (with_one_at c.args.end c.args.tx) c.put_at.ensures.items

pub returns-clause-room : goal.returns-clause-room
returns-clause-room c =
    rw (← c.self.view_is)
    (loses (λ (q : VecDeque Tx Global). room_of c.self.inside.linked (deque_capacity q - deque_len q))
    (λ (q : VecDeque Tx Global). room_of (c.self.inside.linked + 1) (deque_capacity q - deque_len q)) 1 (λ y. omega arith) _ _ _
    c.put_at.new.queue (chain_of _ _ _ _ (ap (λ w. w.lists) c.self.view_is) c.requires.there c.index_mut.ensures.value) (omega arith))
