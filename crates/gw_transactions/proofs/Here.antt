-- The counts of the transactions at each block, as transactions come, change and go.
use Rattle.std.proofs.Common.{◌≡◌, ℕ, ◌+◌, ◌^◌, ◌<◌, ◌≤◌, ◌==◌, if◌then◌else◌, List, [], length, replicate, Option, Some, None, false, cond, refl}
use Rattle.std.proofs.Common.{sym, ap, ◌∙◌, arith}
use Rattle.std.specs.Option.{option_map_or}
use Rattle.std.proofs.lemmas.Bool.{eq-eqb}
use Rattle.std.proofs.lemmas.List.Sums.{count_by-le-length}
use Rattle.gw_num.specs.Table.{at, put}
use Rattle.gw_num.proofs.Tables.{at_past, at-replicate, count_by-put}
use Rattle.slab.specs.Slab.{Slab}
use Rattle.gw_transactions.specs.declared.Kept.{Kept}
use Rattle.gw_transactions.specs.Parameters.{Numbered}
use Rattle.gw_transactions.specs.Transactions.{LiveTransaction, here_count}
use Rattle.gw_transactions.specs.Slots.{live_as, by_number, AreCounted}

-- one at a block
abbrev one_at : ℕ → LiveTransaction → ℕ
one_at block t = if t.attributes.current == block then 1 else 0

-- the same for a number that may have none
abbrev at_most_one : ℕ → Option LiveTransaction → ℕ
at_most_one block o = cond (option_map_or (λ (t : LiveTransaction). t.attributes.current == block) o false) 1 0

module _ (counts : List ℕ) (txs : List (Option LiveTransaction)) (counted : AreCounted counts txs) where
  here-put : (number : ℕ) (was now : Option LiveTransaction) → at None txs number ≡ was → (block : ℕ)
      → here_count block (put None txs number now) + at_most_one block was ≡ here_count block txs + at_most_one block now
  here-put number was now there block =
      ap (λ o. here_count block (put None txs number now) + at_most_one block o) (sym there)
      ∙ count_by-put None (λ o. option_map_or (λ (t : LiveTransaction). t.attributes.current == block) o false) txs number now refl

  -- whoever is there is counted
  pub counted-one : (number : ℕ) (t : LiveTransaction) → at None txs number ≡ Some t → 0 < at 0 counts t.attributes.current
  counted-one number t there =
      let one : one_at t.attributes.current t ≡ 1 = ap (λ b. if b then 1 else 0) (eq-eqb t.attributes.current t.attributes.current refl) in
      omega (arith, one, counted t.attributes.current, here-put number (Some t) None there t.attributes.current)

  pub counted-few : length txs ≤ 2 ^ 62 → (block : ℕ) → at 0 counts block ≤ 2 ^ 62
  counted-few few block =
      omega (arith, few, counted block, count_by-le-length (λ o. option_map_or (λ (t : LiveTransaction). t.attributes.current == block) o false) txs)

  -- one comes
  pub counted-insert : (new : List ℕ) (t : LiveTransaction) → ((block : ℕ) → at 0 new block ≡ at 0 counts block + one_at block t)
      → AreCounted new (put None txs (length txs) (Some t))
  counted-insert new t risen =
      λ block. omega (arith, risen block, counted block, here-put (length txs) None (Some t) (at_past None txs (length txs) (omega arith)) block)

  -- one changes
  pub counted-set : (less new : List ℕ) (number : ℕ) (was t : LiveTransaction) → at None txs number ≡ Some was
      → ((block : ℕ) → at 0 less block + one_at block was ≡ at 0 counts block)
      → ((block : ℕ) → at 0 new block ≡ at 0 less block + one_at block t) → AreCounted new (put None txs number (Some t))
  counted-set less new number was t there fallen risen =
      λ block. omega (arith, fallen block, risen block, counted block, here-put number (Some was) (Some t) there block)

  -- one changes, and goes to its block
  pub counted-go : (new : List ℕ) (number : ℕ) (was t : LiveTransaction) → at None txs number ≡ Some was
      → ((block : ℕ) → at 0 new block + one_at block was ≡ at 0 counts block + one_at block t) → AreCounted new (put None txs number (Some t))
  counted-go new number was t there gone =
      λ block. omega (arith, gone block, counted block, here-put number (Some was) (Some t) there block)

  -- one changes, and stays at its block
  pub counted-kept : (number : ℕ) (was t : LiveTransaction) → at None txs number ≡ Some was → was.attributes.current ≡ t.attributes.current
      → AreCounted counts (put None txs number (Some t))
  counted-kept number was t there same =
      λ block. omega (arith, counted block, here-put number (Some was) (Some t) there block, ap {B = ℕ} (λ current. if current == block then 1 else 0) same)

  -- one goes
  pub counted-remove : (new : List ℕ) (number : ℕ) (was : LiveTransaction) → at None txs number ≡ Some was
      → ((block : ℕ) → at 0 new block + one_at block was ≡ at 0 counts block) → AreCounted new (put None txs number None)
  counted-remove new number was there fallen =
      λ block. omega (arith, fallen block, counted block, here-put number (Some was) None there block)

-- nobody is anywhere
pub none_counted : (counts : List ℕ) (n : ℕ) (beside : Slab Numbered) (slots : List (Option (ℕ × Kept))) → counts ≡ replicate n 0 → slots
    ≡ [] → AreCounted counts (by_number (λ place kept. live_as beside kept) 1 0 slots)
none_counted counts n beside slots zeros empty =
    λ block. ap (λ xs. at 0 xs block) zeros ∙ at-replicate 0 n block
    ∙ ap (λ xs. here_count block (by_number (λ place kept. live_as beside kept) 1 0 xs)) (sym empty)
