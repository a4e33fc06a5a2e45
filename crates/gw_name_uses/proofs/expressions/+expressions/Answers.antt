use Rattle.std.proofs.Common.{rules, ◌≡◌, ◌++◌, ◌∷◌, [], List, Result, Ok, Err, OnOk, length, sym, ap, ◌∙◌, append_assoc}
use Rattle.std.specs.Prelude.{string_bytes}
use Rattle.std.specs.List.{flat_map}
use Rattle.std.proofs.lemmas.List.{map-append}
use Rattle.gw_name_uses.specs.declared.uses.Use.{Use}
use Rattle.gw_name_uses.specs.Locals.{names_of}
use Rattle.gw_name_uses.specs.Mentions.{Mention, Call, mention, mentions, in_expression}
use Rattle.gw_name_uses.proofs.Rows.{in_call}
use Rattle.gw_name_uses.proofs.expressions.+expressions.Goals as goal

-- what a longer list says
said_longer : {A E : Type 0} (answer : Result A E) (after longer : List Use) (whole : List Mention) → OnOk answer (after ≡ longer)
    → mentions longer ≡ whole → OnOk answer (mentions after ≡ whole)
said_longer (Ok x) after longer whole is same = ap mentions is ∙ same
said_longer (Err e) after longer whole is same = tt

pub put_expression-returns-in-Ok : goal.put_expression-returns-in-Ok
put_expression-returns-in-Ok t c =
    let scope = names_of c.args.locals.now in
    let before = mentions c.args.uses.now.items in
    let arguments = c.in-Call.arguments.items in
    let call : List Mention = Call (string_bytes c.in-Call.name) (length arguments) ∷ [] in
    let whole : in_expression scope c.args.expression.now ≡ flat_map (in_expression scope) arguments ++ call =
    ap (in_expression scope) c.in-Call.is ∙ in_call scope c.in-Call.name c.in-Call.arguments in
    let first : mentions c.put_all.new.uses.items ≡ before ++ flat_map (in_expression scope) arguments = c.in-Ok.ensures
    ∙ ap (λ es. before ++ flat_map (in_expression scope) es) c.deref-in-Call.ensures.value in
    let many : c.len.result ≡ length arguments = search rules in
    let name = string_bytes c.in-Call.name in
    let same =
    map-append mention c.put_all.new.uses.items _
    ∙ ap (λ l. l ++ Call name c.len.result ∷ []) first
    ∙ ap (λ k. (before ++ flat_map (in_expression scope) arguments) ++ Call name k ∷ []) many
    ∙ append_assoc before (flat_map (in_expression scope) arguments) call
    ∙ ap (λ l. before ++ l) (sym whole) in
    said_longer c.put.result c.put.new.uses.items _ (before ++ in_expression scope c.args.expression.now) c.put.ensures same
