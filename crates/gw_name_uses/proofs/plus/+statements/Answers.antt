use Rattle.std.proofs.Common.{◌≡◌, ◌++◌, OnOk, sym, ap, ◌∙◌, subst}
use Rattle.gw_name_uses.specs.Locals.{names_of}
use Rattle.gw_name_uses.specs.Mentions.{mentions, in_plus, in_sequence, scope_after, scope_after_sequence}
use Rattle.gw_name_uses.proofs.Rows.{in_block_of, scope_behind}
use Rattle.gw_name_uses.proofs.plus.+statements.Goals as goal

pub put_statement-returns-in-Block-clause-uses : goal.put_statement-returns-in-Block-clause-uses
put_statement-returns-in-Block-clause-uses t c =
    let scope = names_of c.args.locals.now in
    let whole : in_plus scope c.args.statement.now ≡ in_sequence scope c.deref.result.now =
    ap (in_plus scope) c.in-Block.is ∙ in_block_of scope c.in-Block.statements ∙ ap (in_sequence scope) (sym c.deref.ensures.value) in
    subst (λ l. OnOk c.put_block.result (mentions c.put_block.new.uses.items ≡ mentions c.args.uses.now.items ++ l)) (sym whole) c.put_block.ensures.uses

pub put_statement-returns-in-Block-clause-locals : goal.put_statement-returns-in-Block-clause-locals
put_statement-returns-in-Block-clause-locals t c =
    let scope = names_of c.args.locals.now in
    let whole : scope_after scope c.args.statement.now ≡ scope_after_sequence scope c.deref.result.now =
    ap (scope_after scope) c.in-Block.is ∙ scope_behind scope c.in-Block.statements ∙ ap (scope_after_sequence scope) (sym c.deref.ensures.value) in
    subst (λ after. OnOk c.put_block.result (names_of c.put_block.new.locals ≡ after)) (sym whole) c.put_block.ensures.locals
