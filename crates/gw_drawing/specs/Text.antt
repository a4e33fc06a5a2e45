-- Text of an SVG document.
use Rattle.std.specs.Prelude.{ℕ, zero, suc, ◌%◌, List, [], ◌∷◌, ◌++◌, length, ℤ, pos, unsigned_abs, int_lt, codes, nat_lt, ◌==◌, ◌&&◌, if◌then◌else◌}
use Rattle.std.specs.Fmt.{decimal}
use Rattle.gw_writing.specs.Decimals.{sign_of, with_point}

-- the first n of these texts, one after the other
unfoldable pub upto : (ℕ → List ℕ) → ℕ → List ℕ
upto f zero = []
upto f (suc n) = upto f n ++ f n

-- a byte as it stands in XML
abbrev pub escaped_byte : ℕ → List ℕ
escaped_byte b =
    if b == 38 then codes "&amp;"
    else if b == 60 then codes "&lt;"
    else if b == 62 then codes "&gt;"
    else if b == 34 then codes "&quot;"
    else b ∷ []

-- a text as it stands in XML
unfoldable pub xml_text : List ℕ → List ℕ
xml_text [] = []
xml_text (b ∷ bs) = escaped_byte b ++ xml_text bs

-- tenths, with a point before the last digit
abbrev pub tenths : ℕ → List ℕ
tenths t = with_point 1 t

-- a digit that so many follow, with a comma before each three of them
abbrev pub digit : ℕ → ℕ → List ℕ
digit d left = d ∷ (if nat_lt 0 left && (left % 3 == 0) then codes "," else [])

-- digits, with a comma before each three of them
unfoldable pub digits_in_threes : List ℕ → List ℕ
digits_in_threes [] = []
digits_in_threes (d ∷ ds) = digit d (length ds) ++ digits_in_threes ds

-- a number, with a comma before each three of its digits
abbrev pub signed_grouped : ℤ → List ℕ
signed_grouped number = sign_of (int_lt number (pos 0)) ++ digits_in_threes (decimal (unsigned_abs number))

-- where a text begins, and how it lies there
abbrev pub text_at : ℕ → ℕ → List ℕ → List ℕ
text_at x y how = codes "<text x=\"" ++ tenths x ++ codes "\" y=\"" ++ tenths y ++ codes "\"" ++ how ++ codes ">"

-- a level line from the left end of a plot to its right end
unfoldable pub level_line : ℕ → List ℕ
level_line y = codes "<path d=\"M80.0 " ++ tenths y ++ codes "H700.0\" stroke=\"#ddd\"/>\n"

-- a number as a text
abbrev pub label : ℕ → ℕ → List ℕ → ℕ → List ℕ
label x y how number = text_at x y how ++ digits_in_threes (decimal number) ++ codes "</text>\n"
