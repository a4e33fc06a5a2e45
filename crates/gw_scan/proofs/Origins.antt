-- Decoded blocks are found where the blocks are of which they are made.
use Rattle.std.proofs.Common.{◌≡◌, ◌∙◌, ℕ, zero, suc, ◌+◌, ◌≤◌, List, length, map, Option, Some, None, option_map, sym, ap, arith, inl, inr}
use Rattle.std.proofs.lemmas.Bool.{cases_lt}
use Rattle.std.proofs.lemmas.List.{length-map}
use Rattle.gw_object.specs.declared.blocks.Block.{Block}
use Rattle.std.specs.Prelude.{IsSome}
use Rattle.std.specs.List.{slice_get}
use Rattle.std.proofs.lemmas.Option.{slice_get-map, slice_get_past}
use Rattle.gw_rules.specs.Kinds.{block_at}
use Rattle.gw_machine.specs.Configuration.{Configuration}
use Rattle.gw_scan.proofs.Visits.{next_there}
use Rattle.gw_scan.specs.Origins.{origin}
use Rattle.gw_scan.specs.Visiting.{MayMake}
use Rattle.gw_scan.specs.declared.decoding.Decoded.{Decoded}
use Rattle.gw_scan.specs.declared.visit.Visit.{Visit}

pub origin_at : (ds : List Decoded) (n i : ℕ) → n ≡ i + 1 → option_map origin (slice_get ds i) ≡ block_at (map origin ds) n
origin_at ds zero i e = absurd (none e)
  where
    none : 0 ≡ i + 1 → ⊥
    none e = omega (arith, e)
origin_at ds (suc k) i e = sym (slice_get-map origin ds i) ∙ ap (slice_get (map origin ds)) same
  where
    same : i ≡ k
    same = omega (arith, e)

not_none : (o : Option Block) → IsSome o → o ≡ None → ⊥
not_none None is none = absurd (cc)
not_none (Some block) is none = absurd (cc)

-- where a block is, its number is from 1 on, and no more than they are
block_within : (bs : List Block) (b : ℕ) → IsSome (block_at bs b) → (1 ≤ b) × (b ≤ length bs)
block_within bs zero is = absurd (cc)
block_within bs (suc i) is = elim (cases_lt i (length bs)) [
  | inl within ↦ (omega arith, omega (arith, within))
  | inr past ↦ absurd (not_none (slice_get bs i) is (slice_get_past bs i past))
]

-- the next block of a visit is there decoded
pub decoded_there : (v : Visit) (m : Configuration) (table : List Decoded) → MayMake v m → map origin table ≡ v.verified.now.blocks
    → (1 ≤ v.transaction.next) × (v.transaction.next ≤ length table)
decoded_there v m table may same =
    let within = block_within v.verified.now.blocks v.transaction.next (next_there v m may) in
    (within.0, omega (arith, within.1, ap length same, length-map table origin))
