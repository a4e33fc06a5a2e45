-- Words of 64 bits, one for each block.
use Rattle.std.specs.Prelude.{ℕ, List, get_or, set, ◌^◌, ◌-◌, ◌*◌, ◌%◌, Bool, true, false}
use Rattle.std.specs.Int.Bits.{bit_and, bit_or}
use Rattle.std.specs.List.{fold}

-- a truth as a bit
abbrev pub bit_of : Bool → ℕ
bit_of true = 1
bit_of false = 0

-- the word of a block, among those of the blocks from 0
abbrev pub word_at : List ℕ → ℕ → ℕ
word_at words b = get_or words b 0

-- words with the bit of a place set in that of a block
abbrev pub with_bit : ℕ → List ℕ → ℕ → List ℕ
with_bit place words b = set words b (bit_or (word_at words b) (1 * 2 ^ place % 2 ^ 64))

-- words with the bit of a place set in those of these blocks
abbrev pub with_bits : ℕ → List ℕ → List ℕ → List ℕ
with_bits place words bs = fold (with_bit place) words bs

-- what the words of these blocks have in common
abbrev pub common : List ℕ → List ℕ → ℕ
common words bs = fold (λ all b. bit_and all (word_at words b)) (2 ^ 64 - 1) bs
