-- Hexadecimal digits need no quotes.
use Rattle.std.proofs.Common.{◌≡◌, ◌/◌, ◌%◌, ℕ, zero, suc, List, [], ◌∷◌, false, refl, slice_index}
use Rattle.std.proofs.lemmas.Bool.{or_from, or_parts}
use Rattle.csv.specs.Writing.{default_writer, needs_byte, needs_quotes}
use Rattle.hex.specs.Hex.{encode_lower, encode_with, lower_digits}
use Rattle.sha2.specs.Sha256.{sha256}
use Rattle.gw_rows.specs.Laws.{DigestsArePlain}
use Rattle.gw_rows.specs.Reading.{IsPlain}

-- a byte of a text that needs none
plain_at : (text : List ℕ) (place : ℕ) → IsPlain text → needs_byte default_writer (slice_index text place) ≡ false
plain_at [] place h = refl
plain_at (b ∷ text) zero h = (or_parts (needs_byte default_writer b) (needs_quotes default_writer text) h).0
plain_at (b ∷ text) (suc place) h = plain_at text place (or_parts (needs_byte default_writer b) (needs_quotes default_writer text) h).1

plain_digits : (bytes : List ℕ) → IsPlain (encode_lower bytes)
unfolding encode_with
plain_digits [] = refl
plain_digits (b ∷ rest) =
    or_from _ _ (plain_at lower_digits (b / 16) refl) (or_from _ _ (plain_at lower_digits (b % 16) refl) (plain_digits rest))

pub digests_are_plain : DigestsArePlain
digests_are_plain text = plain_digits (sha256 text)
