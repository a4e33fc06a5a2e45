-- Slots for parameters.
use Rattle.std.proofs.Common.{◌≡◌, ℕ, zero, suc, ◌≤◌, List, [], ◌∷◌, Option, Some, None, ap, refl, arith}
use Rattle.std.specs.Prelude.{slice_get, unwrap_or, IfSome}
use Rattle.gw_object.specs.declared.blocks.Block.{Block}
use Rattle.gw_rules.specs.Kinds.{block_at}
use Rattle.gw_object.specs.declared.blocks.Block.TheVariants as blocks
use Rattle.gw_step.specs.Operands.{IsParameter, OperandsFit, BlocksFit}
use Rattle.gw_machine.specs.Slots.{set_by, greatest_set}

-- a block sets none that is greater
set-within : (bs : List Block) (i : ℕ) (block : Block) → slice_get bs i ≡ Some block → set_by block ≤ greatest_set bs
set-within [] i block h = absurd cc
set-within (b ∷ bs) zero block h = let is : b ≡ block = cc in omega (arith, ap set_by is)
set-within (b ∷ bs) (suc i) block h = omega (arith, set-within bs i block h)

pub slot-within : (bs : List Block) (b : ℕ) (block : Block) → block_at bs b ≡ Some block → set_by block ≤ greatest_set bs
slot-within bs zero block h = absurd cc
slot-within bs (suc i) block h = set-within bs i block h

-- where each sets none above a bound, the greatest is none above it
pub greatest-most : (bs : List Block) (most : ℕ) → ((b : ℕ) (block : Block) → block_at bs b ≡ Some block → set_by block ≤ most) → greatest_set bs ≤ most
greatest-most [] most h = omega arith
greatest-most (b ∷ bs) most h = omega (arith, h 1 b refl, greatest-most bs most (λ k block there. later k block there))
  where
    later : (k : ℕ) (block : Block) → block_at bs k ≡ Some block → set_by block ≤ most
    later zero block there = absurd cc
    later (suc k) block there = h (suc (suc k)) block there

-- a parameter that may be given is none above 64
given-few : (o : Option ℕ) → IfSome o IsParameter → unwrap_or o 0 ≤ 64
given-few None h = omega arith
given-few (Some p) h = h.1

set-few : (n : ℕ) (block : Block) → OperandsFit n block → set_by block ≤ 64
set-few n (blocks.Assign a) h = h.1
set-few n (blocks.Loop l) h = h.1
set-few n (blocks.Mark p) h = given-few p h
set-few n (blocks.Plus a) h = given-few a.parameter h
set-few n (blocks.TransferToSubroutine c) h = h.1
set-few n block h = omega arith

-- blocks whose operands fit set none above 64
pub greatest-few : (n : ℕ) (bs : List Block) → BlocksFit n bs → greatest_set bs ≤ 64
greatest-few n bs f = greatest-most bs 64 (λ b block there. set-few n block (f.operands b block there))
