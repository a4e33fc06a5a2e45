-- What START, RMULT and INITIAL set.
use Rattle.std.specs.Prelude.{◌≡◌, ◌++◌, Vec, ℕ, zero, suc, ◌+◌, ◌^◌, nat_lt, take, ℤ, pos, negsuc, List, [], ◌∷◌, Option, Some, None, ◌==◌}
use Rattle.std.specs.Prelude.{if◌then◌else◌, slice_get}
use Rattle.std.specs.Global.{Global}
use Rattle.gw_text_statements.specs.declared.model.Operand.{Operand}
use Rattle.gw_text_statements.specs.declared.model.Operand.TheVariants as texts
use Rattle.gw_text_tokens.specs.declared.words.Word.{Word}
use Rattle.gw_text_tokens.specs.declared.words.Word.TheVariants as words
use Rattle.gw_text.specs.declared.model.Statement.{Statement}
use Rattle.gw_pieces.specs.declared.settings.TheConstants.{SEEDS}

-- the number that is written, or 0
abbrev pub number_in : Option Operand → ℤ
number_in (Some (texts.Whole z)) = z
number_in (Some texts.Missing) = pos 0
number_in (Some (texts.Name name)) = pos 0
number_in (Some (texts.Fraction thousandths)) = pos 0
number_in (Some texts.Both) = pos 0
number_in (Some (texts.Sna sna)) = pos 0
number_in (Some (texts.Expression e)) = pos 0
number_in None = pos 0

-- a number without a sign, or 0
abbrev pub natural : ℤ → ℕ
natural (pos n) = n
natural (negsuc n) = 0

-- START

-- the count of a statement, if it is a START, or else this
abbrev pub count_by : Word → Statement → ℕ → ℕ
count_by words.Start s otherwise = natural (number_in (slice_get s.operands.items 0))
count_by word s otherwise = otherwise

-- the termination count: that of the first START, or 1
abbrev pub count_in : List Statement → ℕ
count_in [] = 1
count_in (s ∷ ss) = count_by s.word s (count_in ss)

-- RMULT

-- a number that 32 bits hold without a sign, or 0
abbrev pub natural_32 : ℤ → ℕ
natural_32 z = if nat_lt (natural z) (2 ^ 32) then natural z else 0

-- the seed that a statement gives to a stream, from 0; 0 for none
abbrev pub seed_by_word : Word → Statement → ℕ → ℕ
seed_by_word words.Rmult s stream = natural_32 (number_in (slice_get s.operands.items stream))
seed_by_word word s stream = 0

abbrev pub seed_by : Statement → ℕ → ℕ
seed_by s stream = seed_by_word s.word s stream

-- the later of two seeds, where it is one
abbrev pub later : ℕ → ℕ → ℕ
later earlier seed = if seed == 0 then earlier else seed

-- the seed of a stream by these statements, where it was this before
abbrev pub seed_from : ℕ → List Statement → ℕ → ℕ
seed_from seed [] stream = seed
seed_from seed (s ∷ ss) stream = seed_from (later seed (seed_by s stream)) ss stream

-- the seeds of so many streams, from this one on
abbrev pub seeds_from : List Statement → ℕ → ℕ → List ℕ
seeds_from ss stream zero = []
seeds_from ss stream (suc n) = seed_from 0 ss stream ∷ seeds_from ss (stream + 1) n

-- the seed of a stream stands behind others
abbrev pub AddsSeed : List Statement → ℕ → Vec ℕ Global → Vec ℕ Global → Type 0
AddsSeed ss stream old new = new.items ≡ old.items ++ seed_from 0 ss stream ∷ []

-- how many of these come up to the last that isn't 0, where those from this place on are left
abbrev pub used_from : ℕ → ℕ → List ℕ → ℕ
used_from place used [] = used
used_from place used (seed ∷ seeds) = used_from (place + 1) (if seed == 0 then used else place + 1) seeds

-- seeds without those of 0 at the end
abbrev pub without_zeros : List ℕ → List ℕ
without_zeros seeds = take (used_from 0 0 seeds) seeds

-- the seeds of a text: of each stream that of the last RMULT that gives one
abbrev pub seeds_in : List Statement → List ℕ
seeds_in ss = without_zeros (seeds_from ss 0 SEEDS)
