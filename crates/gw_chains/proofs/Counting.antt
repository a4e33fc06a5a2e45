-- Members in buckets, and how many they are.
use Rattle.std.proofs.Common.{◌≡◌, ℕ, ℤ, ◌+◌, ◌-◌, ◌^◌, ◌<◌, List, Option, None, Bool, length, ap, sym, subst, arith, slice_index_or}
use Rattle.std.specs.Prelude.{remove}
use Rattle.std.proofs.lemmas.List.Edits.{length-remove}
use Rattle.gw_chains.specs.Buckets.{Links, members_of, total, AreBuckets, AreCounted, GainMember}
use Rattle.gw_chains.specs.declared.bucket.Bucket.{Bucket}
use Rattle.gw_chains.specs.declared.bucket.Link.{Link}
use Rattle.gw_chains.proofs.Places.{length-placed}

module _ {X : Type 0} where
  -- links by their keys, in the slots of a slab
  abbrev by_key : List (Option (Link X)) → Links X
  by_key slots key = slice_index_or slots key None

  -- what holds of links and buckets holds of links in the same slots, and of the same buckets
  pub in_slots : (P : Links X → List Bucket → Type 0) (old new : List (Option (Link X))) (bs ws : List Bucket) → new ≡ old → ws ≡ bs
      → P (by_key old) bs → P (by_key new) ws
  in_slots P old new bs ws same as_before holds =
      subst (λ slots. P (by_key slots) ws) (sym same) (subst (P (by_key old)) (sym as_before) holds)

module _ {X : Type 0} (rank : X → ℤ) where
  -- one more
  pub counted_more : (passes : X → Bool) (e : X) (S T : Links X) (bs ws : List Bucket) (n : ℕ) → AreCounted rank S bs n
      → GainMember rank passes e S bs T ws → n < 2 ^ 62 → AreCounted rank T ws (n + 1)
  counted_more passes e S T bs ws n are gain less = (
    gain.1,
    omega (arith, ap length gain.0, length-placed passes e (members_of S bs), are.1),
    omega (arith, gain.2, are.2),
    omega (arith, less),
  )

  -- one fewer
  pub counted_fewer : (S T : Links X) (bs ws : List Bucket) (n place : ℕ) → AreCounted rank S bs n → place < length (members_of S bs)
      → members_of T ws ≡ remove (members_of S bs) place → AreBuckets rank T ws → total ws + 1 ≡ total bs → AreCounted rank T ws (n - 1)
  counted_fewer S T bs ws n place are within members buckets many = (
    buckets,
    omega (arith, ap length members, length-remove (members_of S bs) place within, are.1),
    omega (arith, many, are.2),
    omega (arith, are.3),
  )
