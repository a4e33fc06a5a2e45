-- How a model's statements stand on the lines of its text, and where a text is refused.
use Rattle.std.specs.Prelude.{◌≡◌, ℕ, ◌+◌, ◌-◌, ◌<◌, ◌≤◌, List, [], ◌∷◌, ◌++◌, length, slice_index_or, Bool, true, false, ◌&&◌, nat_le, ◌⊎◌, Option}
use Rattle.std.specs.Prelude.{Some, None, Result, MatchResult, AllPairs, count_by, option_map, string_bytes, bytes_eq}
use Rattle.std.specs.List.{All, list_any}
use Rattle.gw_object.specs.declared.fault.Fault.{Fault}
use Rattle.gw_object.specs.declared.fault.Place.{Place}
use Rattle.gw_object.specs.declared.fault.Place.TheVariants.{Byte, Entity, Code, Row, Block, Edge, Chain, Line, Nowhere}
use Rattle.gw_text_tokens.specs.declared.words.Word.{Word}
use Rattle.gw_text_tokens.specs.declared.words.Word.TheVariants as words
use Rattle.gw_text_tokens.specs.Codes as codes
use Rattle.gw_text_tokens.specs.Heads.{head_word}
use Rattle.gw_text_tokens.specs.Lines.{is_skipped, IsShort, AreShort}
use Rattle.gw_text_tokens.specs.Words.{is_block, is_start}
use Rattle.gw_text.specs.declared.model.Statement.{Statement}
use Rattle.gw_text.specs.declared.reader.Read.{Read}

-- STATEMENTS ON LINES

-- a statement stands on the line of this number, from 1
abbrev pub stands_on : ℕ → Statement → Bool
stands_on n s = nat_le s.line n && nat_le n s.last_line

-- what has this word and begins and ends on these lines is on one line, or a FUNCTION or a PROCEDURE
abbrev pub IsSingle : Word → ℕ → ℕ → Type 0
IsSingle word line last = (last ≡ line) ⊎ (word ≡ words.Function) ⊎ (word ≡ words.Procedure)

-- a statement ends on its first line, or is a FUNCTION or a PROCEDURE
abbrev pub GoesOnAsItMay : Statement → Type 0
GoesOnAsItMay s = IsSingle s.word s.line s.last_line

-- its word is the one that the head of its first line spells
abbrev pub HasItsWord : List (List ℕ) → Statement → Type 0
HasItsWord lines s = head_word (slice_index_or lines (s.line - 1) []) ≡ Some s.word

-- a statement begins on the line of this number, from 0
pub record BeginsAt (lines : List (List ℕ)) (i : ℕ) (s : Statement) : Type 0 where
  pub line : s.line ≡ i + 1
  pub order : s.line ≤ s.last_line
  pub within : s.last_line ≤ length lines
  pub single : GoesOnAsItMay s
  pub word : HasItsWord lines s
  pub short : AreShort lines i (s.last_line - 1)

-- what is found on the line of this number, from 0: nothing where it is skipped, or a statement that begins there
abbrev pub IsFoundAt : List (List ℕ) → ℕ → Option Statement → Type 0
IsFoundAt lines i None = (is_skipped (slice_index_or lines i []) ≡ true) × IsShort (slice_index_or lines i [])
IsFoundAt lines i (Some s) = BeginsAt lines i s

-- the statements with the one that was found, if there is one
abbrev pub with_found : Option Statement → List Statement → List Statement
with_found None statements = statements
with_found (Some s) statements = statements ++ s ∷ []

-- the number of the last line that is read then
abbrev pub last_with_found : Option Statement → ℕ → ℕ
last_with_found None last = last
last_with_found (Some s) last = s.last_line

-- a statement that begins on the line of this number, from 0, ends on one of so many lines, or it is refused at one of them
abbrev pub StaysWithin : {B : Type 0} → ℕ → ℕ → Result Read (ℕ × B) → Type 0
StaysWithin i count result = MatchResult result (λ read. (i ≤ read.last) × (read.last < count)) (λ place. place.0 < count)

-- and it ends or is refused on that line, unless its word is FUNCTION or PROCEDURE
abbrev pub StaysSingle : {B : Type 0} → Word → ℕ → Result Read (ℕ × B) → Type 0
StaysSingle word i result = MatchResult result (λ read. IsSingle word i read.last) (λ place. IsSingle word i place.0)

-- the lines of the statements ascend: each begins behind the last line of the one before, and the first behind this line
abbrev pub IsInOrder : ℕ → List Statement → Type 0
IsInOrder before [] = Unit {0}
IsInOrder before (s ∷ statements) = (before < s.line) × (s.line ≤ s.last_line) × IsInOrder s.last_line statements

-- LABELS, BLOCKS, START

-- the label of a statement, if it has one
abbrev pub label_of : Statement → Option (List ℕ)
label_of s = option_map string_bytes s.label

-- whether a label is this one
abbrev pub is_label : List ℕ → Option (List ℕ) → Bool
is_label label None = false
is_label label (Some other) = bytes_eq other label

abbrev pub has_label : List ℕ → Statement → Bool
has_label label s = is_label label (label_of s)

-- two statements don't have one label
abbrev pub LabelsDiffer : Statement → Statement → Type 0
LabelsDiffer s t = (label : List ℕ) → label_of t ≡ Some label → has_label label s ≡ false

abbrev pub is_block_statement : Statement → Bool
is_block_statement s = is_block s.word

abbrev pub is_start_statement : Statement → Bool
is_start_statement s = is_start s.word

-- a statement of this word may stand behind a START: it is neither a block nor another START
abbrev pub MayFollowStart : Word → Type 0
MayFollowStart word = (is_block word ≡ false) × (is_start word ≡ false)

-- a statement may stand behind another
abbrev pub MayFollow : Statement → Statement → Type 0
MayFollow s t = is_start_statement s ≡ true → MayFollowStart t.word

-- how the statements of a model stand on the lines of its text: in order, on lines of the text, on one line each but for
-- FUNCTION and PROCEDURE, each of the word that its line spells; on each line that holds a statement there is one; lines are short,
-- labels differ, there are at most 4,096 blocks, and no block and no other START stands behind a START
pub record StandOn (lines : List (List ℕ)) (statements : List Statement) : Type 0 where
  pub order : IsInOrder 0 statements
  pub within : All (λ (s : Statement). s.last_line ≤ length lines) statements
  pub single : All GoesOnAsItMay statements
  pub none_skipped : (i : ℕ) → i < length lines → is_skipped (slice_index_or lines i []) ≡ false
      → list_any (stands_on (i + 1)) statements ≡ true
  pub words : All (HasItsWord lines) statements
  pub short : All IsShort lines
  pub labels : AllPairs LabelsDiffer statements
  pub few : count_by is_block_statement statements ≤ 4096
  pub started : AllPairs MayFollow statements

-- REFUSALS

-- a text of this many lines is refused at one of them, with a code from 70 to 77, or with 8 for want of memory
abbrev pub IsRefusedAt : ℕ → ℕ → Place → Type 0
IsRefusedAt count code (Line n) = (1 ≤ n) × (n ≤ count) × (codes.length_fault ≤ code) × (code ≤ codes.order_fault)
IsRefusedAt count code Nowhere = code ≡ 8
IsRefusedAt count code (Byte n) = ⊥
IsRefusedAt count code (Entity n) = ⊥
IsRefusedAt count code (Code p n) = ⊥
IsRefusedAt count code (Row n) = ⊥
IsRefusedAt count code (Block n) = ⊥
IsRefusedAt count code (Edge b n) = ⊥
IsRefusedAt count code (Chain n) = ⊥

abbrev pub IsRefused : ℕ → Fault → Type 0
IsRefused count fault = IsRefusedAt count fault.code fault.place

-- the refusal of a text that is too long
abbrev pub too_long : Fault
too_long = record { code = codes.length_fault; place = Line 1 }
