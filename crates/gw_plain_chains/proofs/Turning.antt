-- A list over which a walk goes: what it has passed lies behind the rest in memory.
use Rattle.std.proofs.Common.{◌≡◌, ℕ, suc, ◌+◌, ◌-◌, ◌<◌, ◌≤◌, List, [], ◌∷◌, ◌++◌, length, take, drop, refl, sym, ap, ◌∙◌, append_assoc, length-drop}
use Rattle.std.proofs.Common.{length-take, length-append, arith}
use Rattle.std.specs.Prelude.{remove}
use Rattle.std.proofs.lemmas.List.{take-append-le, drop-append-le}
use Rattle.std.specs.declared.collections.VecDeque.{VecDeque}
use Rattle.gw_plain_chains.specs.Rings.{rotation}
use Rattle.gw_chains.proofs.Taking.{remove-middle}

module _ {T : Type 0} where
  -- the first of the rest goes behind those that are passed
  passed : (old left new : List T) (x : T) (n m place : ℕ) → old ≡ x ∷ left → new ≡ left ++ x ∷ [] → length old ≡ n → m ≡ n → place < n
      → rotation (m - (place + 1)) new ≡ rotation (n - place) old
  passed old left new x n m place is made long same within =
      let rest : ℕ = m - (place + 1) in
      let one : n - place ≡ suc rest = omega arith in
      let fits : rest ≤ length left = omega (arith, ap length is) in
      rw (one, is, made) (rw (drop-append-le rest left (x ∷ []) fits, take-append-le rest left (x ∷ []) fits)
      (append_assoc (drop rest left) (x ∷ []) (take rest left)))

  -- the first of the rest is taken out
  taken : (old left : List T) (n m place : ℕ) → left ≡ drop 1 old → length old ≡ n → m + 1 ≡ n → place < n → rotation (m - place) left
      ≡ remove (rotation (n - place) old) place
  taken [] left n m place is long fewer within = absurd (omega arith)
  taken (x ∷ xs) left n m place is long fewer within =
      let rest : ℕ = m - place in
      let one : n - place ≡ suc rest = omega arith in
      let front : length (drop rest xs) ≡ place = omega (arith, length-drop rest xs) in
      rw (one, is) (sym (ap (remove (drop rest xs ++ x ∷ take rest xs)) (sym front) ∙ remove-middle (drop rest xs) x (take rest xs)))

  pub length-turned : (n : ℕ) (xs : List T) → length (rotation n xs) ≡ length xs
  length-turned n xs = omega (arith, length-append (drop n xs) (take n xs), length-drop n xs, length-take n xs)

  module _ {Z : Type 0} (ring popped : VecDeque T Z) (place : ℕ) (before : place < length (rotation (ring.len - place) ring.items)) where
    within : place < ring.len
    within = omega (arith, before, length-turned (ring.len - place) ring.items, ring.ok.0)

    -- a walk that goes on past a member leaves the list as it was
    pub walk_passes : (x : T) (pushed : VecDeque T Z) → ring.items ≡ x ∷ popped.items → pushed.items ≡ popped.items ++ x ∷ []
        → (place + 1 ≤ pushed.len) × (rotation (pushed.len - (place + 1)) pushed.items ≡ rotation (ring.len - place) ring.items)
    walk_passes x pushed front back =
        let same : pushed.len ≡ ring.len = omega (arith, ring.ok.0, pushed.ok.0, ap length front, ap length back, length-append popped.items (x ∷ [])) in
        (omega (arith, same, within), passed ring.items popped.items pushed.items x ring.len pushed.len place front back (sym ring.ok.0) same within)

    -- a walk that takes a member out leaves the list without it
    pub walk_takes : popped.items ≡ drop 1 ring.items → (place ≤ popped.len)
        × (rotation (popped.len - place) popped.items ≡ remove (rotation (ring.len - place) ring.items) place)
    walk_takes rest =
        let fewer : popped.len + 1 ≡ ring.len = omega (arith, ring.ok.0, popped.ok.0, ap length rest, length-drop 1 ring.items, within) in
        (omega (arith, fewer, within), taken ring.items popped.items ring.len popped.len place rest (sym ring.ok.0) fewer within)
