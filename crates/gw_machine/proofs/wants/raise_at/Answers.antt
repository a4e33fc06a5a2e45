use Rattle.std.proofs.Common.{rules, ◌≡◌, ◌∙◌, refl, sym, ap, subst}
use Rattle.gw_num.specs.Table.{at}
use Rattle.gw_num.proofs.Tables.{at-get_or_any, set-put}
use Rattle.gw_machine.specs.declared.wants.Want.{Want}
use Rattle.gw_machine.specs.Wants.{CountsEntry, nobody}
use Rattle.gw_machine.proofs.Wanting.{entry-told, entry-untold}
use Rattle.gw_machine.proofs.wants.raise_at.Goals as goal

pub returns-then-index-entries : goal.returns-then-index-entries
returns-then-index-entries c =
    let ws = c.args.wants.now.items in
    let there = c.requires.there in
    let read : at nobody ws c.args.i ≡ c.index.result.now = at-get_or_any nobody _ ws c.args.i there.within ∙ sym c.index.ensures in
    let again : at nobody ws c.args.i ≡ c.index_mut.result.now = at-get_or_any nobody _ ws c.args.i there.within ∙ sym c.index_mut.ensures.value in
    let told : c.index.result.now.entries ≡ c.args.entries = search rules in
    subst (CountsEntry c.args.block c.args.entries ws) (sym (set-put nobody ws c.args.i _ there.within))
    (entry-told ws c.args.i _ c.args.block c.args.entries there (ap (λ (w : Want). w.entries) read ∙ told)
    (sym (ap (λ (w : Want). w.block) again)) (sym (ap (λ (w : Want). w.waiting) again)) refl)

pub returns-else-index-entries : goal.returns-else-index-entries
returns-else-index-entries c = entry-untold c.args.wants.now.items c.args.block c.args.entries
