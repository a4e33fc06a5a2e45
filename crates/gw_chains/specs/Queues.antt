-- Queues of the standard library: how many elements they have, and how many more fit.
use Rattle.std.specs.Prelude.{◌≡◌, ◌≤◌, ℕ, ◌+◌, ◌-◌}
use Rattle.std.specs.VecDeque.{deque_len, deque_capacity}
use Rattle.std.specs.declared.collections.VecDeque.{VecDeque}

module _ {X Z : Type 0} where
  -- how many more fit into a queue with no allocation
  abbrev pub space_in : VecDeque X Z → ℕ
  space_in q = deque_capacity q - deque_len q

  -- a queue has as many elements as before, and the same capacity
  abbrev pub IsAsLarge : VecDeque X Z → VecDeque X Z → Type 0
  IsAsLarge old new = (deque_len new ≡ deque_len old) × (deque_capacity new ≡ deque_capacity old)

  -- a queue has as many elements as before, or one more
  abbrev pub GainsOneAtMost : VecDeque X Z → VecDeque X Z → Type 0
  GainsOneAtMost old new = (deque_len old ≤ deque_len new) × (deque_len new ≤ deque_len old + 1)

  -- a queue has at most one element more than before, and no smaller capacity
  abbrev pub GrowsByOneAtMost : VecDeque X Z → VecDeque X Z → Type 0
  GrowsByOneAtMost old new =
      (deque_len new ≤ deque_len old + 1) × (deque_capacity old ≤ deque_capacity new)

  -- a queue has no more elements than before, and the same capacity
  abbrev pub DoesNotGrow : VecDeque X Z → VecDeque X Z → Type 0
  DoesNotGrow old new = (deque_len new ≤ deque_len old) × (deque_capacity new ≡ deque_capacity old)
