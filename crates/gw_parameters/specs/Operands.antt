-- Where the number of a name stands on a line.
use Rattle.std.specs.Prelude.{ℕ, ◌-◌, List, [], ◌∷◌, ◌++◌, length, take, ℤ, codes, Bool, false, ◌==◌, if◌then◌else◌, Option, Some, None, is_none}
use Rattle.std.specs.Prelude.{option_and_then, option_map}
use Rattle.std.specs.Fmt.{signed_decimal}
use Rattle.std.specs.Str.{str_eq_ignore_ascii_case}
use Rattle.gw_text_tokens.specs.Heads.{front_name, behind_label}
use Rattle.gw_text_tokens.specs.Lines.{after_blanks, holds_nothing}

-- WORDS AND SIGNS

-- a name is this word, in upper or lower case
abbrev pub is_word : List ℕ → Option (List ℕ) → Bool
is_word word None = false
is_word word (Some name) = str_eq_ignore_ascii_case name word

-- what is left where a name is this word
abbrev pub rest_if_word : List ℕ → List ℕ → List ℕ → Option (List ℕ)
rest_if_word name word rest = if str_eq_ignore_ascii_case name word then Some rest else None

-- what follows a word at the front, behind blanks
abbrev pub after_word : List ℕ → List ℕ → Option (List ℕ)
after_word word bytes = if is_word word (front_name (after_blanks bytes)) then behind_label (after_blanks bytes) else None

-- what follows a sign at the front
abbrev pub after_byte : ℕ → List ℕ → Option (List ℕ)
after_byte sign [] = None
after_byte sign (byte ∷ bytes) = if byte == sign then Some bytes else None

-- the same behind blanks
abbrev pub after_sign : ℕ → List ℕ → Option (List ℕ)
after_sign sign bytes = after_byte sign (after_blanks bytes)

-- THE LINE OF A NAME

-- what follows a name and a word behind it
abbrev pub after_words : List ℕ → List ℕ → List ℕ → Option (List ℕ)
after_words name word line = option_and_then (after_word word) (after_word name line)

-- what follows `INITIAL X$`
abbrev pub after_savevalue : List ℕ → Option (List ℕ)
after_savevalue line = option_and_then (after_sign 36) (after_words (codes "INITIAL") (codes "X") line)

-- what follows a name and a comma
abbrev pub after_name : List ℕ → List ℕ → Option (List ℕ)
after_name name rest = option_and_then (after_sign 44) (after_word name rest)

-- what follows all of these
abbrev pub after_initial : List ℕ → List ℕ → Option (List ℕ)
after_initial name line = option_and_then (after_name name) (after_savevalue line)

-- the first, or else the second
abbrev pub or_else : Option (List ℕ) → Option (List ℕ) → Option (List ℕ)
or_else (Some rest) other = Some rest
or_else None other = other

-- what follows the front of the line of a name: `NAME STORAGE`, `NAME EQU` or `INITIAL X$NAME,`
unfoldable pub operand_of : List ℕ → List ℕ → Option (List ℕ)
operand_of name line =
    or_else (after_words name (codes "STORAGE") line) (or_else (after_words name (codes "EQU") line) (after_initial name line))

-- THE NUMBER THERE

-- what follows digits at the front, behind blanks; a number with a point is none
abbrev pub after_digits : List ℕ → Option (List ℕ)
after_digits bytes = if is_none (front_name (after_blanks bytes)) then behind_label (after_blanks bytes) else None

-- what follows digits, where a `-` stands before them
abbrev pub after_minus : List ℕ → Option (List ℕ) → Option (List ℕ)
after_minus bytes None = after_digits bytes
after_minus bytes (Some rest) = after_digits rest

-- what follows a whole number, with a `-` or none
abbrev pub after_number : List ℕ → Option (List ℕ)
after_number bytes = after_minus bytes (after_sign 45 bytes)

-- nothing but a comment may follow
abbrev pub if_last : List ℕ → Option (List ℕ)
if_last rest = if holds_nothing rest then Some rest else None

-- what follows the number behind these, where nothing else stands there
unfoldable pub after_plain_number : List ℕ → Option (List ℕ)
after_plain_number bytes = option_and_then if_last (after_number bytes)

-- A LINE WITH ANOTHER NUMBER

-- what stands on a line before the number that an operand at its end begins with
abbrev pub front_of : List ℕ → List ℕ → List ℕ
front_of line operand = take (length line - length (after_blanks operand)) line

-- that, and what follows the number, if all that the operand has is a number
abbrev pub cut_operand : List ℕ → List ℕ → Option (List ℕ × List ℕ)
cut_operand line operand = option_map (λ rest. (front_of line operand, rest)) (after_plain_number operand)

-- what stands before the number on the line of a name, and what follows it
unfoldable pub cut_of : List ℕ → List ℕ → Option (List ℕ × List ℕ)
cut_of name line = option_and_then (cut_operand line) (operand_of name line)

-- what stands before a number and what follows it, with a number between
abbrev pub with_number_between : ℤ → List ℕ × List ℕ → List ℕ
with_number_between value cut = cut.0 ++ signed_decimal value ++ cut.1
