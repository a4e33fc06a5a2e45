-- A call that is whole, by its arguments as they lie in memory.
use Rattle.std.proofs.Common.{◌≡◌, length, ap, ◌∙◌, Some, None, Vec, Global}
use Rattle.std.specs.Prelude.{string_bytes, if◌then◌else◌, ◌==◌}
use Rattle.std.specs.declared.string.String.{String}
use Rattle.gw_text_expressions.specs.declared.model.Expression.{Expression, Call, items_hidden-the_row-Expression-0}
use Rattle.gw_compile.proofs.Rows.{count_is, row_of}
use Rattle.gw_pieces.specs.Origins.{whole_call}

pub whole_of_call : (name : String Global) (arguments : Vec Expression Global) → whole_call (Call name arguments)
    ≡ (if length arguments.items == 0 then Some (string_bytes name) else None)
whole_of_call name arguments =
    let row = row_of (Call name arguments) in
    ap (λ k. if k == 0 then Some (string_bytes name) else None) (count_is row.0 row.1 ∙ ap length (items_hidden-the_row-Expression-0 arguments))
