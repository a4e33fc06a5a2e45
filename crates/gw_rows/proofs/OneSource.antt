-- Rows with one text are of one source.
use Rattle.std.proofs.Common.{◌≡◌, ◌∙◌, ◌<◌, ◌^◌, ◌==◌, ℕ, List, [], Bool, true, false, cond, length, get_or, arith, sym, ap, inl, inr}
use Rattle.std.specs.Fmt.{decimal}
use Rattle.std.proofs.lemmas.Bool.{cases_Bool, eqb-true}
use Rattle.std.proofs.lemmas.Fmt.{decimal_injective, decimal_nonempty}
use Rattle.gw_rows.specs.Laws.{RowsAreOfOneSource}
use Rattle.gw_rows.specs.Rows.{Source, row, rows_field}
use Rattle.gw_rows.proofs.Telling.{fields_are_one, rows_are_of_one_run}

field_of : (n : ℕ) (b : Bool) → (n == 0) ≡ b → rows_field n ≡ cond b [] (decimal n)
field_of n b is = ap (λ c. cond c [] (decimal n)) is

-- a number of rows has its own field
same_rows : (a b : ℕ) → a < 2 ^ 64 → b < 2 ^ 64 → rows_field a ≡ rows_field b → a ≡ b
same_rows a b few less is = elim (cases_Bool (a == 0)) [
  | inl none ↦ elim (cases_Bool (b == 0)) [
    | inl nil ↦ eqb-true a 0 none ∙ sym (eqb-true b 0 nil)
    | inr some ↦
        let empty : [] ≡ decimal b = sym (field_of a true none) ∙ is ∙ field_of b false some in
        absurd (omega (arith, ap length empty, decimal_nonempty b less))
  ]
  | inr some ↦ elim (cases_Bool (b == 0)) [
    | inl nil ↦
        let empty : decimal a ≡ [] = sym (field_of a false some) ∙ is ∙ field_of b true nil in
        absurd (omega (arith, ap length empty, decimal_nonempty a few))
    | inr more ↦ decimal_injective a b few less (sym (field_of a false some) ∙ is ∙ field_of b false more)
  ]
]

same_source : (s t : Source) → s.model ≡ t.model → s.rows ≡ t.rows → s.point ≡ t.point → s.count ≡ t.count → s.from ≡ t.from → s ≡ t
same_source s t model rows point count from =
    ap (λ x. record s { model = x }) model ∙ ap (λ x. record s { model = t.model; rows = x }) rows
    ∙ ap (λ x. record s { model = t.model; rows = t.rows; point = x }) point
    ∙ ap (λ x. record t { count = x; from = s.from }) count ∙ ap (λ x. record t { from = x }) from

pub rows_are_of_one_source : RowsAreOfOneSource
unfolding row
rows_are_of_one_source labels others s t number other run it few less rows more is =
    let one = fields_are_one s.model _ _ t.model _ _ is in
    let run_is = rows_are_of_one_run labels others s t number other run it few less is in
    let field : rows_field s.rows ≡ rows_field t.rows = ap (λ (fields : List (List ℕ)). get_or fields 1 []) one in
    (same_source s t run_is.0 (same_rows s.rows t.rows rows more field) run_is.1 run_is.2 run_is.3, run_is.4)
