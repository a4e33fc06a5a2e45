-- The word at the head of a line: that of its statement.
use Rattle.std.specs.Prelude.{ℕ, List, [], ◌∷◌, take, drop, Bool, ◌==◌, ◌||◌, if◌then◌else◌, is_some, Option, Some, None, codes, option_and_then}
use Rattle.std.specs.List.{prefix_len}
use Rattle.std.specs.Char.{is_ascii_alphabetic, is_ascii_alphanumeric, is_ascii_digit}
use Rattle.std.specs.Str.{str_eq_ignore_ascii_case}
use Rattle.gw_text_tokens.specs.declared.words.Word.{Word}
use Rattle.gw_text_tokens.specs.declared.words.Word.TheVariants as words
use Rattle.gw_text_tokens.specs.Lines.{after_blanks}
use Rattle.gw_text_tokens.specs.Words.{names_entity}

-- NAMES AND WORDS

-- a letter, a digit or _
abbrev pub is_in_name : ℕ → Bool
is_in_name byte = is_ascii_alphanumeric byte || byte == 95

-- how many bytes at the front may be of a name
abbrev pub name_length : List ℕ → ℕ
name_length bytes = prefix_len is_in_name bytes

-- how many digits stand at the front
abbrev pub digits_length : List ℕ → ℕ
digits_length bytes = prefix_len is_ascii_digit bytes

-- the name at the front, if one begins there: with a letter
abbrev pub front_name : List ℕ → Option (List ℕ)
front_name [] = None
front_name (byte ∷ rest) = if is_ascii_alphabetic byte then Some (take (name_length (byte ∷ rest)) (byte ∷ rest)) else None

-- the words of statements, as they are spelled
abbrev pub spellings : List (List ℕ × Word)
spellings =
    (codes "GENERATE", words.Generate) ∷ (codes "TERMINATE", words.Terminate) ∷ (codes "ADVANCE", words.Advance)
    ∷ (codes "SEIZE", words.Seize) ∷ (codes "RELEASE", words.Release) ∷ (codes "ENTER", words.Enter) ∷ (codes "LEAVE", words.Leave)
    ∷ (codes "QUEUE", words.Queue) ∷ (codes "DEPART", words.Depart) ∷ (codes "ASSIGN", words.Assign) ∷ (codes "TEST", words.Test)
    ∷ (codes "GATE", words.Gate) ∷ (codes "TRANSFER", words.Transfer) ∷ (codes "LOOP", words.Loop) ∷ (codes "SPLIT", words.Split)
    ∷ (codes "ASSEMBLE", words.Assemble) ∷ (codes "LINK", words.Link) ∷ (codes "UNLINK", words.Unlink) ∷ (codes "LOGIC", words.Logic)
    ∷ (codes "SAVEVALUE", words.Savevalue) ∷ (codes "MARK", words.Mark) ∷ (codes "PRIORITY", words.Priority)
    ∷ (codes "BUFFER", words.Buffer) ∷ (codes "PLUS", words.Plus) ∷ (codes "TABULATE", words.Tabulate)
    ∷ (codes "STORAGE", words.Storage) ∷ (codes "VARIABLE", words.Variable) ∷ (codes "BVARIABLE", words.BVariable)
    ∷ (codes "EQU", words.Equ) ∷ (codes "FUNCTION", words.Function) ∷ (codes "TABLE", words.Table)
    ∷ (codes "INITIAL", words.Initial) ∷ (codes "RMULT", words.Rmult) ∷ (codes "START", words.Start)
    ∷ (codes "SIMULATE", words.Simulate) ∷ (codes "PROCEDURE", words.Procedure) ∷ []

-- the word of the first row with this spelling, in upper or lower case
abbrev pub word_in : List (List ℕ × Word) → List ℕ → Option Word
word_in [] spelling = None
word_in (row ∷ rows) spelling = if str_eq_ignore_ascii_case spelling row.0 then Some row.1 else word_in rows spelling

-- the word of a statement that has this spelling
abbrev pub word_spelled : List ℕ → Option Word
word_spelled spelling = word_in spellings spelling

-- LABELS

-- what follows the digits of a whole number: a number with a point is none
abbrev pub behind_digits : List ℕ → Option (List ℕ)
behind_digits [] = Some []
behind_digits (byte ∷ rest) = if byte == 46 then None else Some (byte ∷ rest)

-- what follows the label at the front, if one begins there: a name or a whole number
abbrev pub behind_label : List ℕ → Option (List ℕ)
behind_label [] = None
behind_label (byte ∷ rest) =
    if is_ascii_alphabetic byte then Some (drop (name_length (byte ∷ rest)) (byte ∷ rest))
    else if is_ascii_digit byte then behind_digits (drop (digits_length (byte ∷ rest)) (byte ∷ rest)) else None

-- a word that may stand behind a label: behind a number one that declares an entity
abbrev pub behind : Option (List ℕ) → Word → Option Word
behind (Some name) word = Some word
behind None word = if names_entity word then Some word else None

-- HEADS

-- the word that the name at the front spells, if it is one
abbrev pub word_at : List ℕ → Option Word
word_at bytes = option_and_then word_spelled (front_name bytes)

-- the word that follows a label, behind blanks, if it may: the label is this name, or a number
abbrev pub word_behind : Option (List ℕ) → List ℕ → Option Word
word_behind label rest = option_and_then (behind label) (word_at (after_blanks rest))

-- the word behind the label at the front, if there are both
abbrev pub word_behind_label : List ℕ → Option Word
word_behind_label bytes = option_and_then (word_behind (front_name bytes)) (behind_label bytes)

-- the first, or else the second
abbrev pub or_else : Option Word → Option Word → Option Word
or_else (Some word) other = Some word
or_else None other = other

-- the word that the head of a line spells, behind blanks: its first name, or else the name behind a label
abbrev pub head_word : List ℕ → Option Word
head_word line = or_else (word_at (after_blanks line)) (word_behind_label (after_blanks line))
