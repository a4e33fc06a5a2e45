-- What follows the blanks before a place is what follows those of the line.
use Rattle.std.proofs.Common.{◌≡◌, ℕ, ◌<◌, List, ◌∷◌, length, drop, get_or, false, drop-cons, ap, ◌∙◌, refl, suc, sym}
use Rattle.gw_text_tokens.specs.Lines.{is_blank, after_blanks}

-- a byte that is no blank stays
at_byte : (byte : ℕ) (line : List ℕ) → is_blank byte ≡ false → after_blanks (byte ∷ line) ≡ byte ∷ line
at_byte byte line h = rw h refl

pub at_place : (line : List ℕ) (i : ℕ) → i < length line → is_blank (get_or line i 0) ≡ false → after_blanks (drop i line) ≡ drop i line
at_place line i h other =
    ap after_blanks (drop-cons line i 0 h) ∙ at_byte (get_or line i 0) (drop (suc i) line) other ∙ sym (drop-cons line i 0 h)
