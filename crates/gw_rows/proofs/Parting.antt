-- Records none of whose fields needs quotes.
use Rattle.std.proofs.Common.{◌≡◌, ◌∙◌, ℕ, List, [], ◌∷◌, ◌++◌, refl, sym, ap, Bool, false, ◌==◌}
use Rattle.std.specs.List.{list_any, slice_split, onto_first}
use Rattle.std.proofs.lemmas.Bool.{or_from, or_parts}
use Rattle.std.proofs.lemmas.List.{append-nil, same_from_push}
use Rattle.gw_rows.specs.Reading.{IsPlain}
use Rattle.csv.specs.Writing.{row_text, fields_text, field_text, default_writer, needs_byte, is_blank}

abbrev pub is_comma : ℕ → Bool
is_comma b = b == 44

-- a field that needs no quotes has no comma
pub no_comma : (field : List ℕ) → IsPlain field → list_any is_comma field ≡ false
no_comma [] plain = refl
no_comma (b ∷ rest) plain =
    let parts = or_parts (needs_byte default_writer b) (list_any (needs_byte default_writer) rest) plain in
    let byte = or_parts _ _ (or_parts _ _ (or_parts _ _ (or_parts _ _ parts.0).0).0).0 in
    or_from (b == 44) (list_any is_comma rest) byte.0 (no_comma rest parts.1)

-- fields, each behind a comma
abbrev pub behind_commas : List (List ℕ) → List ℕ
behind_commas [] = []
behind_commas (field ∷ rest) = 44 ∷ (field ++ behind_commas rest)

abbrev pub ArePlain : List (List ℕ) → Type 0
ArePlain [] = Unit {0}
ArePlain (field ∷ rest) = IsPlain field × ArePlain rest

plain_text : (fields : List (List ℕ)) → ArePlain fields → fields_text default_writer fields ≡ behind_commas fields
unfolding fields_text
plain_text [] plain = refl
plain_text (field ∷ rest) (here, more) = rw here (ap (λ t. 44 ∷ (field ++ t)) (plain_text rest more))

pub plain_row : (x y : List ℕ) (rest : List (List ℕ)) → ArePlain (x ∷ y ∷ rest) → row_text default_writer (x ∷ y ∷ rest)
    ≡ (x ++ behind_commas (y ∷ rest)) ++ 10 ∷ []
unfolding is_blank
plain_row x y rest (here, more) =
    ap (λ t. (field_text default_writer x ++ t) ++ 10 ∷ []) (plain_text (y ∷ rest) more) ∙ rw here refl

split_front : (x : List ℕ) (text : List ℕ) → list_any is_comma x ≡ false → slice_split is_comma (x ++ 44 ∷ text) ≡ x ∷ slice_split is_comma text
split_front [] text none = refl
split_front (b ∷ x) text none =
    let parts = or_parts (is_comma b) (list_any is_comma x) none in rw parts.0 (ap (onto_first b) (split_front x text parts.1))

split_last : (x : List ℕ) → list_any is_comma x ≡ false → slice_split is_comma x ≡ x ∷ []
split_last [] none = refl
split_last (b ∷ x) none =
    let parts = or_parts (is_comma b) (list_any is_comma x) none in rw parts.0 (ap (onto_first b) (split_last x parts.1))

split_all : (x : List ℕ) (rest : List (List ℕ)) → ArePlain (x ∷ rest) → slice_split is_comma (x ++ behind_commas rest) ≡ x ∷ rest
split_all x [] (here, more) = ap (slice_split is_comma) (append-nil x) ∙ split_last x (no_comma x here)
split_all x (y ∷ rest) (here, more) = split_front x (y ++ behind_commas rest) (no_comma x here) ∙ ap (λ parts. x ∷ parts) (split_all y rest more)

-- the parts of a line are the fields of the record that it is
pub parts_are_fields : (line : List ℕ) (x y : List ℕ) (rest : List (List ℕ)) → ArePlain (x ∷ y ∷ rest)
    → row_text default_writer (x ∷ y ∷ rest) ≡ line ++ 10 ∷ [] → slice_split is_comma line ≡ x ∷ y ∷ rest
parts_are_fields line x y rest plain is =
    let same = same_from_push (x ++ behind_commas (y ∷ rest)) line 10 10 (sym (plain_row x y rest plain) ∙ is) in
    ap (slice_split is_comma) (sym same.0) ∙ split_all x (y ∷ rest) plain
