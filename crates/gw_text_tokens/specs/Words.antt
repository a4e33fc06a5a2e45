-- What kinds of statements there are, by their words.
use Rattle.std.specs.Prelude.{Bool, true, false, Option, Some, None}
use Rattle.gw_text_tokens.specs.declared.words.Known.{Known}
use Rattle.gw_text_tokens.specs.declared.words.Known.TheVariants as known
use Rattle.gw_text_tokens.specs.declared.words.Word.{Word}
use Rattle.gw_text_tokens.specs.declared.words.Word.TheVariants as words

-- whether a statement of this word is a block
unfoldable pub is_block : Word → Bool
is_block words.Storage = false
is_block words.Variable = false
is_block words.BVariable = false
is_block words.Equ = false
is_block words.Function = false
is_block words.Table = false
is_block words.Initial = false
is_block words.Rmult = false
is_block words.Start = false
is_block words.Simulate = false
is_block words.Procedure = false
is_block word = true

-- whether it is START
abbrev pub is_start : Word → Bool
is_start words.Start = true
is_start word = false

-- whether a statement of this word declares an entity, whose name may be a whole number
abbrev pub names_entity : Word → Bool
names_entity words.Storage = true
names_entity words.Variable = true
names_entity words.BVariable = true
names_entity words.Function = true
names_entity words.Table = true
names_entity word = false

-- the word of a statement, if that is what is known of a spelling
abbrev pub word_if_known : Known → Option Word
word_if_known (known.Word word) = Some word
word_if_known known.LeftOut = None
word_if_known known.Other = None
