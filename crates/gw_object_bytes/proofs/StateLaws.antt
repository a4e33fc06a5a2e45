-- States and return rows are exact.
use Rattle.std.proofs.Common.{ℕ, ◌≤◌, List, [], length, get_or, Option, Some, None, refl, arith}
use Rattle.std.specs.Prelude.{IfSome, nat_lt}
use Rattle.std.specs.List.{All}
use Rattle.std.specs.Int.{w16, w32}
use Rattle.gw_object.specs.Limits.{most_entities, most_blocks, most_return_rows, greatest_units, most_parameters}
use Rattle.gw_object.specs.declared.blocks.Units.{Units}
use Rattle.gw_object.specs.declared.parts.TableKind.{TableKind}
use Rattle.gw_object.specs.declared.parts.TableKind.TheVariants.{Num, Ret}
use Rattle.gw_object.specs.declared.parts.TableParameter.{TableParameter}
use Rattle.gw_object.specs.declared.parts.TableState.{TableState}
use Rattle.gw_object.specs.declared.parts.ReturnRow.{ReturnRow}
use Rattle.gw_fields.specs.Fields.{Field, number, number_between, nothing, optional, plain, list_of, ElementsFit}
use Rattle.gw_object.specs.Grammar.{row_number, return_block, ReturnRowFits, AreAscending, return_row, TableKindFits, table_kind_spelling, table_kind_forms, table_kind_read, table_kind, ParameterFits, parameter, owned_facility, held_units, HeldFits, StateFits, IsAscending, state}
use Rattle.gw_object.specs.BlockGrammar.{entity_number, block_number, parameter_number}
use Rattle.gw_block_bytes.proofs.BlockLaws.{entity_number_exact, block_number_exact, parameter_number_exact}
use Rattle.gw_field_bytes.proofs.AboveLast.{above_last_exact, above_last_fit, above_last_ascends}
use Rattle.gw_field_bytes.proofs.Ascending.{ascending_exact, nat_order, ascends, ascending_fit}
use Rattle.gw_field_bytes.proofs.Exact.{ReadsBack, ◌also◌, tag_reads_back, AreExactForms, behind_exact, by_tag_exact, IsExact}
use Rattle.gw_field_bytes.proofs.ExactLists.{IsExactElement}
use Rattle.gw_field_bytes.proofs.Exact.{wide16, wide32, number_exact, made_exact, both_exact, fitting_exact, ranged_exact, nothing_exact}
use Rattle.gw_field_bytes.proofs.ExactLists.{plain_exact}
use Rattle.gw_field_bytes.proofs.ExactLists.{listed_exact, All-from_fit, fit-from_All}

-- ---- states

row_number_exact : IsExact row_number
row_number_exact = number_exact w16 wide16

table_kind_forms_exact : AreExactForms table_kind_spelling TableKindFits table_kind_forms
table_kind_forms_exact =
    behind_exact table_kind_spelling TableKindFits 0 (λ _. Num) nothing (λ x. refl) (λ x h. tt) nothing_exact
    also behind_exact table_kind_spelling TableKindFits 1 (λ row. Ret row) row_number (λ row. refl) (λ row h. h) row_number_exact
    also tt

table_kind_reads_back : (x : TableKind) → TableKindFits x → ReadsBack table_kind_read (table_kind_spelling x) x
unfolding table_kind_read
table_kind_reads_back Num fits = tag_reads_back table_kind_forms 0 (λ _. Num) nothing (λ _ _. refl) nothing_exact tt tt
table_kind_reads_back (Ret row) fits = tag_reads_back table_kind_forms 1 (λ row. Ret row) row_number (λ _ _. refl) row_number_exact row fits

table_kind_exact : IsExact table_kind
unfolding table_kind_read
table_kind_exact = by_tag_exact table_kind_spelling TableKindFits table_kind_forms table_kind_forms_exact table_kind_reads_back

abbrev parameter_of : ℕ × TableKind → TableParameter
parameter_of x = record { number = x.0; kind = x.1 }

abbrev number_and_kind : TableParameter → ℕ × TableKind
number_and_kind p = (p.number, p.kind)

abbrev units_of : ℕ × ℕ → Units
units_of x = record { entity = x.0; number = x.1 }

abbrev entity_and_number : Units → ℕ × ℕ
entity_and_number u = (u.entity, u.number)

abbrev held_number : Field ℕ
held_number = number_between 1 greatest_units (number w32)

parameter_exact : IsExactElement parameter
parameter_exact = ascending_exact nat_lt parameter_of number_and_kind parameter_number table_kind (λ x. refl) (λ p. refl)
    parameter_number_exact table_kind_exact

held_exact : IsExactElement held_units
held_exact = ascending_exact nat_lt units_of entity_and_number entity_number held_number (λ x. refl) (λ u. refl) entity_number_exact
    (ranged_exact 1 greatest_units (number w32) (λ n h. omega arith) (number_exact w32 wide32))

-- the lists of a state
abbrev StateLists : TableState → Type 0
StateLists s =
    ((0 ≤ length s.parameters) × (length s.parameters ≤ most_parameters) × ElementsFit parameter.Fits [] s.parameters)
    × (((0 ≤ length s.facilities) × (length s.facilities ≤ most_entities) × ElementsFit owned_facility.Fits [] s.facilities)
    × ((0 ≤ length s.units) × (length s.units ≤ most_entities) × ElementsFit held_units.Fits [] s.units))

state_lists : (s : TableState) → StateFits s × IsAscending s → StateLists s
state_lists s h = (
  (
    omega arith,
    h.0.parameters,
    ascending_fit nat_order parameter_of number_and_kind parameter_number table_kind s.parameters []
        (λ k d lt. (h.0.each_parameter k d lt).number) (λ k d lt. (h.0.each_parameter k d lt).kind) h.1.parameters,
  ),
  (
    (omega arith, h.0.facilities, above_last_fit entity_number s.facilities h.0.each_facility h.1.facilities),
    (
      omega arith,
      h.0.units,
      ascending_fit nat_order units_of entity_and_number entity_number held_number s.units [] (λ k d lt. (h.0.each_unit k d lt).entity)
          (λ k d lt. ((h.0.each_unit k d lt).least, (h.0.each_unit k d lt).most)) h.1.units,
    ),
  ),
)

state_keeps : (s : TableState) → StateLists s → StateFits s × IsAscending s
state_keeps s (parameters, (facilities, units)) = (
  record {
    parameters = parameters.1;
    each_parameter = All-from_fit parameter.Fits ParameterFits (λ front left p fit. record { number = fit.0.0; kind = fit.1 }) s.parameters [] parameters.2;
    facilities = facilities.1;
    each_facility = All-from_fit owned_facility.Fits entity_number.Fits (λ front left x fit. fit.0.0) s.facilities [] facilities.2;
    units = units.1;
    each_unit = All-from_fit held_units.Fits HeldFits (λ front left u fit. record { entity = fit.0.0; least = fit.1.0; most = fit.1.1 }) s.units [] units.2;
  },
  record {
    parameters = ascends nat_order parameter_of number_and_kind parameter_number table_kind s.parameters []
        (λ i j d lt in_none. absurd (omega arith)) parameters.2;
    facilities = above_last_ascends entity_number s.facilities facilities.2;
    units = ascends nat_order units_of entity_and_number entity_number held_number s.units [] (λ i j d lt in_none. absurd (omega arith)) units.2;
  },
)

pub state_exact : IsExact state
unfolding state
state_exact = fitting_exact (λ s. StateFits s × IsAscending s) _ state_keeps state_lists
    (made_exact _ _ _ (λ x h. refl) (λ s h. refl)
    (both_exact _ _ (listed_exact 0 most_parameters parameter (omega arith) parameter_exact)
    (both_exact _ _ (listed_exact 0 most_entities owned_facility (omega arith) (above_last_exact entity_number entity_number_exact))
    (listed_exact 0 most_entities held_units (omega arith) held_exact))))

-- ---- return rows

-- the blocks of a return row
abbrev RowBlocks : ReturnRow → Type 0
RowBlocks row = (1 ≤ length row.blocks) × (length row.blocks ≤ most_blocks) × ElementsFit return_block.Fits [] row.blocks

row_blocks : (row : ReturnRow) → ReturnRowFits row × AreAscending row → RowBlocks row
row_blocks row h = (h.0.least, h.0.most, above_last_fit block_number row.blocks h.0.each h.1)

row_keeps : (row : ReturnRow) → RowBlocks row → ReturnRowFits row × AreAscending row
row_keeps row blocks = (
  record { least = blocks.0; most = blocks.1; each = All-from_fit return_block.Fits block_number.Fits (λ front left x fit. fit.0.0) row.blocks [] blocks.2 },
  above_last_ascends block_number row.blocks blocks.2,
)

return_row_exact : IsExact return_row
unfolding return_row
return_row_exact = fitting_exact (λ row. ReturnRowFits row × AreAscending row) _ row_keeps row_blocks
    (made_exact _ _ _ (λ x h. refl) (λ row h. refl) (listed_exact 1 most_blocks return_block (omega arith) (above_last_exact block_number block_number_exact)))

pub return_rows_exact : IsExact (list_of 0 most_return_rows (plain return_row))
return_rows_exact = listed_exact 0 most_return_rows (plain return_row) (omega arith) (plain_exact return_row return_row_exact)

pub return_rows_fit : (rows : List ReturnRow) → All ReturnRowFits rows → All AreAscending rows → ElementsFit (plain return_row).Fits [] rows
unfolding return_row
return_rows_fit rows limits up = fit-from_All (λ row. ReturnRowFits row × AreAscending row) rows [] (λ k d lt. (limits k d lt, up k d lt))

pub return_rows_keep : (rows : List ReturnRow) → ElementsFit (plain return_row).Fits [] rows → All (λ row. ReturnRowFits row × AreAscending row) rows
unfolding return_row
return_rows_keep rows h =
    All-from_fit (λ front left row. ReturnRowFits row × AreAscending row) (λ row. ReturnRowFits row × AreAscending row) (λ front left row fit. fit) rows [] h

-- ---- the rows of the state table

table_row_fits : (row : Option TableState) → IfSome row StateFits → IfSome row IsAscending → (optional state).Fits row
unfolding state
table_row_fits None limits up = tt
table_row_fits (Some s) limits up = (limits, up)

table_row_keeps : (row : Option TableState) → (optional state).Fits row → IfSome row StateFits × IfSome row IsAscending
unfolding state
table_row_keeps None h = (tt, tt)
table_row_keeps (Some s) h = h

pub rows_fit : (rows : List (Option TableState)) → All (λ row. IfSome row StateFits) rows → All (λ row. IfSome row IsAscending) rows
    → ElementsFit (plain (optional state)).Fits [] rows
rows_fit rows limits up = fit-from_All (optional state).Fits rows [] (λ k d lt. table_row_fits (get_or rows k d) (limits k d lt) (up k d lt))

pub rows_keep : (rows : List (Option TableState)) → ElementsFit (plain (optional state)).Fits [] rows
    → All (λ row. IfSome row StateFits × IfSome row IsAscending) rows
rows_keep rows h = All-from_fit (λ front left. (optional state).Fits) (λ row. IfSome row StateFits × IfSome row IsAscending)
    (λ front left. table_row_keeps) rows [] h
