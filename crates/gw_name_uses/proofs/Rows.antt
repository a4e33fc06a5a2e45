-- The arguments of a call and the statements of a block, as lists.
use Rattle.std.proofs.Common.{◌≡◌, [], ◌∷◌, ◌++◌, length, refl, ap, ◌∙◌, Vec, Global}
use Rattle.std.specs.Prelude.{string_bytes}
use Rattle.std.specs.declared.string.String.{String}
use Rattle.std.specs.List.{flat_map}
use mathlib.Core.Former.{Count}
use Rattle.gw_text_expressions.specs.declared.model.Expression.{Expression, Call, Row_of-Expression, end_of-Expression, more_of-Expression}
use Rattle.gw_text_expressions.specs.declared.model.Expression.{items-the_row-Expression, items_hidden-the_row-Expression-0}
use Rattle.gw_text_plus.specs.declared.model.PlusStatement.{PlusStatement, Block, Block', Row_of-PlusStatement, end_of-PlusStatement}
use Rattle.gw_text_plus.specs.declared.model.PlusStatement.{more_of-PlusStatement, items-the_row-PlusStatement, items_hidden-the_row-PlusStatement-0}
use Rattle.gw_compile.specs.Numbers.{Scope}
use Rattle.gw_compile.specs.Unknown.{count}
use Rattle.gw_compile.proofs.Rows.{count_is, row_of}
use Rattle.gw_name_uses.specs.Mentions.{Call as Calls, in_expression, in_arguments, in_plus, in_block, in_sequence, scope_after, scope_after_block}
use Rattle.gw_name_uses.specs.Mentions.{scope_after_sequence}

-- ARGUMENTS

arguments_are : (scope : Scope) (m : _) (es : Row_of-Expression m) → in_arguments scope es ≡ flat_map (in_expression scope) (items-the_row-Expression m es)
arguments_are scope m end_of-Expression = refl
arguments_are scope m (more_of-Expression e es) = ap (λ l. in_expression scope e ++ l) (arguments_are scope _ es)

-- what a call uses, by its arguments as they lie in memory
pub in_call : (scope : Scope) (name : String Global) (arguments : Vec Expression Global) → in_expression scope (Call name arguments)
    ≡ flat_map (in_expression scope) arguments.items ++ Calls (string_bytes name) (length arguments.items) ∷ []
in_call scope name arguments =
    let row = row_of (Call name arguments) in
    let same = items_hidden-the_row-Expression-0 arguments in
    ap (λ l. l ++ Calls (string_bytes name) (count row.1) ∷ []) (arguments_are scope row.0 row.1 ∙ ap (flat_map (in_expression scope)) same)
    ∙ ap (λ k. flat_map (in_expression scope) arguments.items ++ Calls (string_bytes name) k ∷ []) (count_is row.0 row.1 ∙ ap length same)

-- BLOCKS

block_row : (scope : Scope) (m : _) (ss : Row_of-PlusStatement m) → in_block scope ss ≡ in_sequence scope (items-the_row-PlusStatement m ss)
block_row scope m end_of-PlusStatement = refl
block_row scope m (more_of-PlusStatement s ss) = ap (λ l. in_plus scope s ++ l) (block_row (scope_after scope s) _ ss)

scope_row : (scope : Scope) (m : _) (ss : Row_of-PlusStatement m) → scope_after_block scope ss ≡ scope_after_sequence scope (items-the_row-PlusStatement m ss)
scope_row scope m end_of-PlusStatement = refl
scope_row scope m (more_of-PlusStatement s ss) = scope_row (scope_after scope s) _ ss

abbrev statements_of : PlusStatement → (m : Count) × Row_of-PlusStatement m
statements_of (Block' m ss) = (_, ss)
statements_of _ = (_, end_of-PlusStatement)

-- what a block uses, by its statements as they lie in memory
pub in_block_of : (scope : Scope) (statements : Vec PlusStatement Global) → in_plus scope (Block statements) ≡ in_sequence scope statements.items
in_block_of scope statements =
    let row = statements_of (Block statements) in
    block_row scope row.0 row.1 ∙ ap (in_sequence scope) (items_hidden-the_row-PlusStatement-0 statements)

-- and the locals behind it
pub scope_behind : (scope : Scope) (statements : Vec PlusStatement Global) → scope_after scope (Block statements) ≡ scope_after_sequence scope statements.items
scope_behind scope statements =
    let row = statements_of (Block statements) in
    scope_row scope row.0 row.1 ∙ ap (scope_after_sequence scope) (items_hidden-the_row-PlusStatement-0 statements)
