-- From which streams of random numbers a model draws, and how often.
use Rattle.std.specs.Prelude.{ℕ, ◌+◌, pos, Bool, false, ◌&&◌, not, nat_eq, nat_lt, List, Option, None, Some, if◌then◌else◌}
use Rattle.std.specs.List.{list_any}
use Rattle.std.specs.Ordering.{int_eq}
use Rattle.gw_object.specs.declared.blocks.Operand.{Operand}
use Rattle.gw_object.specs.declared.blocks.Operand.TheVariants.{Constant, Random}
use Rattle.gw_object.specs.declared.blocks.Spread.{Spread}
use Rattle.gw_object.specs.declared.blocks.Block.{Block}
use Rattle.gw_object.specs.declared.blocks.Block.TheVariants.{Generate, Advance, TransferByFraction, Terminate, Assign, Savevalue, Test, Priority, Plus, Tabulate}
use Rattle.gw_object.specs.declared.parts.Entity.{Entity}
use Rattle.gw_object.specs.declared.parts.Parts.{Parts}
use Rattle.gw_rules.specs.Sources.{source_of, operand_at}

-- an operand is RN of this stream
abbrev pub is_random : ℕ → Operand → Bool
is_random stream (Random number) = nat_eq number stream
is_random stream operand = false

-- an operand is the number 0
abbrev pub is_zero : Operand → Bool
is_zero (Constant number) = int_eq number (pos 0)
is_zero operand = false

-- how often an operand draws from a stream: once where it is RN, or a function of that
abbrev pub draws_of : List Entity → ℕ → Operand → ℕ
draws_of es stream operand = if is_random stream (source_of es operand) then 1 else 0

-- the same of an operand that may not be there
abbrev pub drawn_if : List Entity → ℕ → Option Operand → ℕ
drawn_if es stream None = 0
drawn_if es stream (Some operand) = draws_of es stream operand

-- how often a random time draws itself: from the first stream, but where its half is the number 0
abbrev pub own_draws : ℕ → Spread → ℕ
own_draws stream time = if nat_eq stream 1 && not (is_zero time.half) then 1 else 0

-- how often a random time draws at most
abbrev pub time_draws : List Entity → ℕ → Spread → ℕ
time_draws es stream time = draws_of es stream time.mean + draws_of es stream time.half + own_draws stream time

-- how often a block draws at most where it is met once: for its operands, for a random time, or to
-- choose a way
unfoldable pub draws_at : List Entity → ℕ → Block → ℕ
draws_at es stream (Generate g) = time_draws es stream g.interval
draws_at es stream (Advance time) = time_draws es stream time
draws_at es stream (TransferByFraction fraction) = if nat_eq stream 1 then 1 else 0
draws_at es stream (Terminate by) = draws_of es stream by
draws_at es stream (Assign assign) = draws_of es stream assign.value
draws_at es stream (Savevalue save) = draws_of es stream save.value
draws_at es stream (Test test) = draws_of es stream test.left + draws_of es stream test.right
draws_at es stream (Priority change) = draws_of es stream change.value
draws_at es stream (Plus plus) = draws_of es stream plus.value
draws_at es stream (Tabulate table) = drawn_if es stream (operand_at es table)
draws_at es stream block = 0

-- a block draws from a stream
abbrev pub block_draws : List Entity → ℕ → Block → Bool
block_draws es stream block = nat_lt 0 (draws_at es stream block)

-- a model draws from a stream
abbrev pub draws : Parts → ℕ → Bool
draws parts stream = list_any (block_draws parts.entities stream) parts.blocks
