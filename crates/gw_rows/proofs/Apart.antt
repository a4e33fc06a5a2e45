-- Rows are apart from other lines.
use Rattle.std.proofs.Common.{◌≡◌, ◌∙◌, ◌+◌, ℕ, List, [], ◌∷◌, Bool, false, ◌==◌, drop, get_or, refl, sym, ap, arith}
use Rattle.std.specs.Prelude.{codes}
use Rattle.std.specs.Fmt.{decimal}
use Rattle.std.specs.List.{list_any}
use Rattle.std.proofs.lemmas.Bool.{true≢false}
use Rattle.csv.specs.Writing.{default_writer, fields_text, is_blank, row_text}
use Rattle.gw_rows.specs.Laws.{RowsAreNoHeaders, RowsAreNoRefusalHeaders, RowsAreNoRefusals}
use Rattle.gw_rows.specs.Names.{header}
use Rattle.gw_rows.specs.Refusals.{refusal_header}
use Rattle.gw_rows.specs.Rows.{row}
use Rattle.gw_rows.proofs.Decimals.{FailsAtDigits, each_digit, none_in_decimal}
use Rattle.gw_rows.proofs.Telling.{fields_are_one}

-- the first letter of the name of counts
abbrev is_c : ℕ → Bool
is_c b = b == 99

no_c : FailsAtDigits is_c
no_c = each_digit (λ d. is_c (48 + d) ≡ false) refl refl refl refl refl refl refl refl refl refl

pub rows_are_no_headers : RowsAreNoHeaders
unfolding row header
rows_are_no_headers labels others s number run few is =
    let one = fields_are_one s.model _ _ (codes "model") _ _ is in
    let count : decimal s.count ≡ codes "count" = ap (λ (fields : List (List ℕ)). get_or fields 3 []) one in
    true≢false (sym (ap (list_any is_c) count) ∙ none_in_decimal is_c no_c s.count (omega (arith, few.0)))

-- more than two fields are no two
no_third : (x : List ℕ) (xs : List (List ℕ)) → ¬ (x ∷ xs ≡ [])
no_third x xs is = absurd (cc is)

pub rows_are_no_refusals : RowsAreNoRefusals
unfolding row
rows_are_no_refusals labels s number run model why is =
    let one = fields_are_one s.model _ _ model _ _ is in
    no_third s.point _ (ap (drop 2) one)

refusal_names : refusal_header ≡ row_text default_writer (codes "model" ∷ codes "refusal" ∷ [])
unfolding fields_text is_blank
refusal_names = refl

pub rows_are_no_refusal_headers : RowsAreNoRefusalHeaders
unfolding row
rows_are_no_refusal_headers labels s number run is =
    let one = fields_are_one s.model _ _ (codes "model") _ _ (is ∙ refusal_names) in
    no_third s.point _ (ap (drop 2) one)
