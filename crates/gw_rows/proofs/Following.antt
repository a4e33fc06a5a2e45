-- Rows that follow one another.
use Rattle.std.proofs.Common.{arith, ◌≡◌, ◌∙◌, suc, ◌+◌, [], ◌∷◌, ◌++◌, length, sym, ap}
use Rattle.std.proofs.lemmas.List.{append_assoc}
use Rattle.gw_rows.specs.Laws.{RowsFollow}
use Rattle.gw_rows.specs.Rows.{row, rows_from}

pub rows_follow : RowsFollow
rows_follow labels s number [] more = let there : number + 0 ≡ number = omega arith in ap (λ n. rows_from labels s n more) (sym there)
rows_follow labels s number (run ∷ runs) more =
    let there : number + 1 + length runs ≡ number + suc (length runs) = omega arith in
    ap (λ xs. row labels s number run ++ xs) (rows_follow labels s (number + 1) runs more)
    ∙ ap (λ n. row labels s number run ++ (rows_from labels s (number + 1) runs ++ rows_from labels s n more)) there
    ∙ sym (append_assoc (row labels s number run) (rows_from labels s (number + 1) runs) _)
