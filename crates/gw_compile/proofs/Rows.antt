-- The arguments of a call, as a list.
use Rattle.std.proofs.Common.{◌≡◌, suc, ◌++◌, length, refl, ap, ◌∙◌, Vec, Global}
use Rattle.std.specs.Prelude.{string_bytes}
use Rattle.std.specs.declared.string.String.{String}
use Rattle.std.specs.List.{flat_map}
use mathlib.Core.Former.{Count}
use Rattle.gw_text_expressions.specs.declared.model.Expression.{Expression, Call, Call', Row_of-Expression, end_of-Expression, more_of-Expression}
use Rattle.gw_text_expressions.specs.declared.model.Expression.{items-the_row-Expression, items_hidden-the_row-Expression-0}
use Rattle.gw_compile.specs.Numbers.{Numbers, Scope}
use Rattle.gw_compile.specs.Code.{call_code, expression_code, expressions_code}
use Rattle.gw_compile.specs.Unknown.{count, first_of, if_misfit, first_blame, first_among, first_in}

-- their code is that of the list
expressions_code_is : (n : Numbers) (scope : Scope) (m : _) (es : Row_of-Expression m) → expressions_code n scope es
    ≡ flat_map (expression_code n scope) (items-the_row-Expression m es)
expressions_code_is n scope m end_of-Expression = refl
expressions_code_is n scope m (more_of-Expression e es) = ap (λ c. expression_code n scope e ++ c) (expressions_code_is n scope _ es)

-- there are as many as in the list
pub count_is : (m : _) (es : Row_of-Expression m) → count es ≡ length (items-the_row-Expression m es)
count_is m end_of-Expression = refl
count_is m (more_of-Expression e es) = ap suc (count_is _ es)

-- and the first to blame is that of the list
first_is : (n : Numbers) (scope : Scope) (m : _) (es : Row_of-Expression m) → first_among n scope es ≡ first_in n scope (items-the_row-Expression m es)
first_is n scope m end_of-Expression = refl
first_is n scope m (more_of-Expression e es) = ap (λ b. first_of (first_blame n scope e) b) (first_is n scope _ es)

-- the arguments of a call, as a row
abbrev pub row_of : Expression → (m : Count) × Row_of-Expression m
row_of (Call' name m es) = (_, es)
row_of _ = (_, end_of-Expression)

-- the code of a call, by its arguments as they lie in memory
pub code_of_call : (n : Numbers) (scope : Scope) (name : String Global) (arguments : Vec Expression Global)
    → expression_code n scope (Call name arguments) ≡ flat_map (expression_code n scope) arguments.items ++ call_code (n.procedure (string_bytes name))
code_of_call n scope name arguments =
    let row = row_of (Call name arguments) in
    ap (λ c. c ++ call_code (n.procedure (string_bytes name)))
    (expressions_code_is n scope row.0 row.1 ∙ ap (flat_map (expression_code n scope)) (items_hidden-the_row-Expression-0 arguments))

-- and the first to blame in it
pub blame_in_call : (n : Numbers) (scope : Scope) (name : String Global) (arguments : Vec Expression Global)
    → first_blame n scope (Call name arguments)
    ≡ first_of (first_in n scope arguments.items) (if_misfit (n.procedure (string_bytes name)) (length arguments.items) (Call name arguments))
blame_in_call n scope name arguments =
    let row = row_of (Call name arguments) in
    let same = items_hidden-the_row-Expression-0 arguments in
    ap (λ b. first_of b (if_misfit (n.procedure (string_bytes name)) (count row.1) (Call name arguments)))
    (first_is n scope row.0 row.1 ∙ ap (first_in n scope) same)
    ∙ ap (λ k. first_of (first_in n scope arguments.items) (if_misfit (n.procedure (string_bytes name)) k (Call name arguments)))
    (count_is row.0 row.1 ∙ ap length same)
