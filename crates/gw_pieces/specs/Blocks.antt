-- The blocks of a model text.
use Rattle.std.specs.Prelude.{◌≡◌, ℕ, ◌+◌, List, [], ◌∷◌, ◌++◌, Option, IsSome, true, option_to_list, if◌then◌else◌}
use Rattle.gw_object.specs.declared.blocks.Block.{Block}
use Rattle.gw_text.specs.declared.model.Statement.{Statement}
use Rattle.gw_compile.specs.Numbers.{Numbers}
use Rattle.gw_object_records.specs.Records.{record_of}
use Rattle.gw_pieces.specs.declared.origins.Origin.{Origin}
use Rattle.gw_pieces.specs.Origins.{numbers_for}
use Rattle.gw_text_tokens.specs.Words.{is_block}

module _ (n : Numbers) (order : List Origin) where
  -- the record of a block statement, by its number, where the procedures have these origins, in order
  abbrev pub record_at : Statement → ℕ → Option Block
  record_at s i = record_of n (numbers_for n order s i) s

  -- the record of a statement, if it is a block
  abbrev pub block_at : Statement → ℕ → List Block
  block_at s i = if is_block s.word then option_to_list (record_at s i) else []

  -- the blocks of statements that have numbers from this one on
  abbrev pub blocks_from : ℕ → List Statement → List Block
  blocks_from i [] = []
  blocks_from i (s ∷ ss) = block_at s i ++ blocks_from (i + 1) ss

  -- a statement has a record, if it is a block
  abbrev pub IsRecorded : Statement → ℕ → Type 0
  IsRecorded s i = is_block s.word ≡ true → IsSome (record_at s i)

  -- so has each of statements that have numbers from this one on
  abbrev pub AllRecorded : ℕ → List Statement → Type 0
  AllRecorded i [] = Unit {0}
  AllRecorded i (s ∷ ss) = IsRecorded s i × AllRecorded (i + 1) ss
