use Rattle.std.proofs.Common.{◌≡◌, ◌≤◌, ◌+◌, ◌-◌, ◌∙◌, [], length, arith, ap, sym, Global}
use Rattle.std.specs.VecDeque.{deque_items, deque_len, deque_capacity}
use Rattle.std.specs.declared.collections.VecDeque.{VecDeque}
use Rattle.gw_members.specs.Chain.{first, rest}
use Rattle.gw_members.specs.Lists.{room_of}
use Rattle.gw_members.specs.declared.tx.Tx.{Tx}
use Rattle.gw_members.proofs.Each.{here, total, at_most_total, loses, popped}
use Rattle.gw_user_chains.proofs.Linked.{chain_of, chain_changed}
use Rattle.gw_user_chains.proofs.user_chains.UserChains.unlink.Goals as goal

pub invariant_of-self : goal.invariant_of-self
invariant_of-self c =
    let same : length c.pop_front.new.self.items ≡ length c.index_mut.result.now.items =
    omega (arith, c.pop_front.new.self.ok.0, c.index_mut.result.now.ok.0, c.in_err-tx.ensures.len) in (
      omega arith,
      omega (
        arith,
        same,
        total (deque_items {X = Tx} {Z = Global}) _ _ _ c.pop_front.new.self
            (chain_of _ _ _ _ (ap (λ w. w.lists) c.self.view_is) c.requires c.index_mut.ensures.value),
      ),
    )

pub returns-in_err-tx-clause-first : goal.returns-in_err-tx-clause-first
returns-in_err-tx-clause-first c =
    let p = popped c.index_mut.result.now.items c.pop_front.new.self.items c.pop_front.result c.pop_front.ensures.items c.pop_front.ensures.rest in
    rw (← c.self.view_is)
    (let none : c.from_residual.result ≡ c.pop_front.result = cc in none ∙ p.0
    ∙ ap first (sym (here (deque_items {X = Tx} {Z = Global}) [] _ _ _
    (chain_of _ _ _ _ (ap (λ w. w.lists) c.self.view_is) c.requires c.index_mut.ensures.value))))

pub returns-in_err-tx-clause-lists : goal.returns-in_err-tx-clause-lists
returns-in_err-tx-clause-lists c =
    let p = popped c.index_mut.result.now.items c.pop_front.new.self.items c.pop_front.result c.pop_front.ensures.items c.pop_front.ensures.rest in
    chain_changed _ _ _ _ _ (ap (λ w. w.lists) c.self.view_is) c.requires c.index_mut.ensures.value rest p.1

pub returns-in_err-tx-clause-room : goal.returns-in_err-tx-clause-room
returns-in_err-tx-clause-room c =
    rw (← c.self.view_is)
    (loses (λ (q : VecDeque Tx Global). room_of c.self.inside.linked (deque_capacity q - deque_len q))
    (λ (q : VecDeque Tx Global). room_of c.self.inside.linked (deque_capacity q - deque_len q)) 0 (λ y. omega arith) _ _ _
    c.pop_front.new.self (chain_of _ _ _ _ (ap (λ w. w.lists) c.self.view_is) c.requires c.index_mut.ensures.value) (omega arith))

pub overflow_sub-self : goal.overflow_sub-self
overflow_sub-self c =
    let some : 1 ≤ length c.index_mut.result.now.items = omega (arith, c.index_mut.result.now.ok.0, c.in_ok-tx.ensures.len) in
    omega (
      arith,
      some,
      at_most_total (deque_items {X = Tx} {Z = Global}) _ _ _
          (chain_of _ _ _ _ (ap (λ w. w.lists) c.self.view_is) c.requires c.index_mut.ensures.value),
    )

pub invariant_of-self-2 : goal.invariant_of-self-2
invariant_of-self-2 c =
    let fewer : length c.pop_front.new.self.items + 1 ≡ length c.index_mut.result.now.items =
    omega (arith, c.pop_front.new.self.ok.0, c.index_mut.result.now.ok.0, c.in_ok-tx.ensures.len) in (
      omega arith,
      omega (
        arith,
        fewer,
        total (deque_items {X = Tx} {Z = Global}) _ _ _ c.pop_front.new.self
            (chain_of _ _ _ _ (ap (λ w. w.lists) c.self.view_is) c.requires c.index_mut.ensures.value),
      ),
    )

pub returns-clause-first : goal.returns-clause-first
returns-clause-first c =
    let p = popped c.index_mut.result.now.items c.pop_front.new.self.items c.pop_front.result c.pop_front.ensures.items c.pop_front.ensures.rest in
    rw (← c.self.view_is)
    (sym c.in_ok-tx.was ∙ p.0
    ∙ ap first (sym (here (deque_items {X = Tx} {Z = Global}) [] _ _ _
    (chain_of _ _ _ _ (ap (λ w. w.lists) c.self.view_is) c.requires c.index_mut.ensures.value))))

pub returns-clause-lists : goal.returns-clause-lists
returns-clause-lists c =
    let p = popped c.index_mut.result.now.items c.pop_front.new.self.items c.pop_front.result c.pop_front.ensures.items c.pop_front.ensures.rest in
    chain_changed _ _ _ _ _ (ap (λ w. w.lists) c.self.view_is) c.requires c.index_mut.ensures.value rest p.1

pub returns-clause-room : goal.returns-clause-room
returns-clause-room c =
    rw (← c.self.view_is)
    (loses (λ (q : VecDeque Tx Global). room_of c.self.inside.linked (deque_capacity q - deque_len q))
    (λ (q : VecDeque Tx Global). room_of (c.self.inside.linked - 1) (deque_capacity q - deque_len q)) 0 (λ y. omega arith) _ _ _
    c.pop_front.new.self (chain_of _ _ _ _ (ap (λ w. w.lists) c.self.view_is) c.requires c.index_mut.ensures.value) (omega arith))
