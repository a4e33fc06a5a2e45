-- The user chains: what a call on one of them makes of all that are shown.
use Rattle.std.proofs.Common.{◌≡◌, ℕ, ◌<◌, List, [], map, length, get_or, set, sum_by, Global}
use Rattle.std.specs.VecDeque.{deque_items}
use Rattle.std.specs.declared.collections.VecDeque.{VecDeque}
use Rattle.gw_members.specs.Lists.{apply_at}
use Rattle.gw_members.specs.declared.tx.Tx.{Tx}
use Rattle.gw_members.proofs.Each.{Stands, stands, all_kept, many_kept, one_changed}

-- the chain to which the call goes
pub chain_of : (chains : List (VecDeque Tx Global)) (shown : List (List Tx)) (e : ℕ) (q : VecDeque Tx Global) → map deque_items chains
    ≡ shown → e < length shown → q ≡ get_or chains e q → Stands chains e q
chain_of = stands deque_items []

module _ (chains : List (VecDeque Tx Global)) (shown : List (List Tx)) (e : ℕ) (q v : VecDeque Tx Global)
    (is : map deque_items chains ≡ shown) (within : e < length shown) (here : q ≡ get_or chains e q) where
  pub chains_kept : v.items ≡ q.items → map deque_items (set chains e v) ≡ shown
  chains_kept = all_kept deque_items chains shown e q v is within here

  pub linked_kept : v.items ≡ q.items → (n : ℕ) → n ≡ sum_by length (map (deque_items {X = Tx} {Z = Global}) chains) → n
      ≡ sum_by length (map deque_items (set chains e v))
  linked_kept = many_kept deque_items chains shown e q v is within here

  pub chain_changed : (g : List Tx → List Tx) → v.items ≡ g q.items → map deque_items (set chains e v) ≡ apply_at e g shown
  chain_changed = one_changed deque_items chains shown e q v is within here
