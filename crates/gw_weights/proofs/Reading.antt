-- What rows of the state table say of parameters, and which block has which row.
use Rattle.std.proofs.Common.{Bor, ◌≡◌, ◌≢◌, ℕ, zero, suc, ◌-◌, map, Option, Some, None, refl, sym, ap, ◌∙◌, arith}
use Rattle.std.specs.Prelude.{◌==◌, List, option_map, slice_get}
use Rattle.std.specs.List.{find}
use Rattle.std.specs.Option.{option_flatten}
use Rattle.std.proofs.lemmas.Option.{slice_get-map}
use Rattle.gw_object.specs.declared.parts.TableParameter.{TableParameter}
use Rattle.gw_object.specs.declared.parts.TableState.{TableState}
use Rattle.gw_object.specs.declared.parts.ReturnRow.{ReturnRow}
use Rattle.gw_rules.specs.Rows.{Row, kind_of}
use Rattle.gw_rules.specs.Seen.{row_meaning, kind_said}
use Rattle.gw_rules.specs.Flow.{row_at}
use Rattle.gw_rules.proofs.Entries.{entry-of_key}

-- what a row says of a parameter is what the first of its parameters of that number says
pub kind_read : (rows : List ReturnRow) (row : TableState) (q : ℕ) → kind_of (row_meaning rows row) q
    ≡ option_map (λ (set : TableParameter). kind_said rows set.kind) (find (λ (set : TableParameter). set.number == q) row.parameters)
kind_read rows row q = sym (entry-of_key (λ (set : TableParameter). set.number) (λ (set : TableParameter). kind_said rows set.kind) q row.parameters)

flat_seen : (see : TableState → Row) (row : Option (Option TableState)) → option_flatten (option_map (option_map see) row) ≡ option_map see (option_flatten row)
flat_seen see None = refl
flat_seen see (Some None) = refl
flat_seen see (Some (Some x)) = refl

-- the row of a block is the one that stands for it, seen
pub row_seen : (see : TableState → Row) (rows : List (Option TableState)) (b : ℕ) → b ≢ 0 → row_at (map (option_map see) rows) b
    ≡ option_map see (option_flatten (slice_get rows (b - 1)))
row_seen see rows zero some = absurd (some refl)
row_seen see rows (suc i) some =
    let before : suc i - 1 ≡ i = omega arith in
    rw before (ap option_flatten (slice_get-map (option_map see) rows i) ∙ flat_seen see (slice_get rows i))

-- what is behind a reference, seen
pub seen_behind : (see : TableState → Row) (row : Option (Bor TableState)) → option_map (λ (r : Bor TableState). see r.now) row
    ≡ option_map see (option_map (λ (r : Bor TableState). r.now) row)
seen_behind see None = refl
seen_behind see (Some r) = refl
