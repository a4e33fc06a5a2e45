-- What follows the blanks before a place is what follows those of the line.
use Rattle.std.proofs.Common.{◌≡◌, ℕ, ◌<◌, List, length, drop, get_or, false}
use Rattle.gw_text_tokens.specs.Lines.{is_blank, after_blanks}
use Rattle.gw_text_tokens.proofs.Blanks as tokens

pub at_place : (line : List ℕ) (i : ℕ) → i < length line → is_blank (get_or line i 0) ≡ false → after_blanks (drop i line) ≡ drop i line
at_place line i h other = tokens.at_place line i h other
