-- The return rows of a state table: its sets of blocks, in order of first sight.
use Rattle.std.specs.Prelude.{◌≡◌, ℕ, ◌≤◌, Bool, true, List, [], ◌∷◌, ◌++◌, length, map, All, Option, Some, None, if◌then◌else◌, nat_eq}
use Rattle.std.specs.List.{list_any, fold}
use Rattle.std.specs.Cmp.Lexicographic.{pointwise}
use Rattle.gw_object.specs.Limits.{most_return_rows}
use Rattle.gw_object.specs.declared.parts.ReturnRow.{ReturnRow}
use Rattle.gw_rules.specs.Rows.{ParamKind, Num, Ret, Row}
use Rattle.gw_settle.specs.declared.known.KnownKind.{KnownKind}
use Rattle.gw_settle.specs.declared.known.KnownParam.{KnownParam}
use Rattle.gw_settle.specs.Known.{kind_known, params_known}
use Rattle.gw_settle.specs.Rounds.{TableRows}

-- the sets of return rows
abbrev pub sets_of : List ReturnRow → List (List ℕ)
sets_of returns = map (λ (row : ReturnRow). row.blocks) returns

-- whether a set is among these
abbrev pub has_set : List (List ℕ) → List ℕ → Bool
has_set sets bs = list_any (λ cs. pointwise nat_eq cs bs) sets

-- sets with one more, unless it is among them
abbrev pub with_set : List (List ℕ) → List ℕ → List (List ℕ)
with_set sets bs = if has_set sets bs then sets else sets ++ bs ∷ []

-- with that of what a parameter holds, if it holds a return
abbrev pub with_kind : List (List ℕ) → ParamKind → List (List ℕ)
with_kind sets Num = sets
with_kind sets (Ret bs) = with_set sets bs

-- with those of parameters, ascending
abbrev pub with_params : List (List ℕ) → List (ℕ × ParamKind) → List (List ℕ)
with_params sets ps = fold (λ so_far p. with_kind so_far p.1) sets ps

-- with those of a row, if there is one
abbrev pub with_row : List (List ℕ) → Option Row → List (List ℕ)
with_row sets None = sets
with_row sets (Some row) = with_params sets row.params

-- with those of rows, in order
abbrev pub with_rows : List (List ℕ) → List (Option Row) → List (List ℕ)
with_rows sets rows = fold with_row sets rows

-- the sets of a table: of the blocks' rows, and then of the user chains'
abbrev pub sets_in : TableRows → List (List ℕ)
sets_in rows = with_rows (with_rows [] rows.blocks) rows.chains

-- an object may have a return row for each of these sets
abbrev pub AreFew : List (List ℕ) → Type 0
AreFew sets = length sets ≤ most_return_rows

-- a return, if it is one, is to the blocks of one of these sets
abbrev pub HasKind : List (List ℕ) → ParamKind → Type 0
HasKind sets Num = Unit {0}
HasKind sets (Ret bs) = has_set sets bs ≡ true

-- those of parameters are
abbrev pub HasParams : List (List ℕ) → List (ℕ × ParamKind) → Type 0
HasParams sets ps = All (λ e. HasKind sets e.1) ps

-- RETURN ROWS

-- return rows become others, with one of these blocks
abbrev pub AddsSet : List ℕ → List ReturnRow → List ReturnRow → Type 0
AddsSet bs old new = sets_of new ≡ with_set (sets_of old) bs

-- with that of what a parameter holds
abbrev pub AddsKind : KnownKind → List ReturnRow → List ReturnRow → Type 0
AddsKind kind old new = sets_of new ≡ with_kind (sets_of old) (kind_known kind)

-- with those of parameters
abbrev pub AddsParams : List KnownParam → List ReturnRow → List ReturnRow → Type 0
AddsParams params old new = sets_of new ≡ with_params (sets_of old) (params_known params)

-- with those of a row, if there is one
abbrev pub AddsRow : Option Row → List ReturnRow → List ReturnRow → Type 0
AddsRow row old new = sets_of new ≡ with_row (sets_of old) row

-- with those of rows
abbrev pub AddsRows : List (Option Row) → List ReturnRow → List ReturnRow → Type 0
AddsRows rows old new = sets_of new ≡ with_rows (sets_of old) rows

-- an object may have return rows with one of these blocks
abbrev pub MayAddSet : List ℕ → List ReturnRow → Type 0
MayAddSet bs old = AreFew (with_set (sets_of old) bs)

-- with that of what a parameter holds
abbrev pub MayAddKind : KnownKind → List ReturnRow → Type 0
MayAddKind kind old = AreFew (with_kind (sets_of old) (kind_known kind))

-- with those of parameters
abbrev pub MayAddParams : List KnownParam → List ReturnRow → Type 0
MayAddParams params old = AreFew (with_params (sets_of old) (params_known params))

-- with those of a row, if there is one
abbrev pub MayAddRow : Option Row → List ReturnRow → Type 0
MayAddRow row old = AreFew (with_row (sets_of old) row)

-- with those of rows
abbrev pub MayAddRows : List (Option Row) → List ReturnRow → Type 0
MayAddRows rows old = AreFew (with_rows (sets_of old) rows)

-- return rows can name what a parameter holds
abbrev pub MayNameKind : KnownKind → List ReturnRow → Type 0
MayNameKind kind returns = HasKind (sets_of returns) (kind_known kind)

-- and what parameters hold
abbrev pub MayNameParams : List KnownParam → List ReturnRow → Type 0
MayNameParams params returns = HasParams (sets_of returns) (params_known params)
