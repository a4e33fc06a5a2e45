use Rattle.std.proofs.Common.{rules, ◌≡◌, ◌∙◌, sym, ap, subst, inr, arith}
use Rattle.gw_num.specs.Table.{at}
use Rattle.gw_num.proofs.Tables.{at-get_or_any, set-put}
use Rattle.gw_machine.specs.declared.wants.Want.{Want}
use Rattle.gw_machine.specs.Wants.{CountsLeaver, nobody}
use Rattle.gw_machine.proofs.Wanting.{leaver-counted}
use Rattle.gw_machine.proofs.wants.lower_at.Goals as goal

pub overflow_sub-index_mut : goal.overflow_sub-index_mut
overflow_sub-index_mut c =
    let again : at nobody c.args.wants.now.items c.args.i ≡ c.index_mut.result.now =
    at-get_or_any nobody _ c.args.wants.now.items c.args.i c.requires.within ∙ sym c.index_mut.ensures.value in
    omega (arith, c.requires.waiting, ap (λ (w : Want). w.waiting) again)

pub returns-then-index-entries : goal.returns-then-index-entries
returns-then-index-entries c =
    let ws = c.args.wants.now.items in
    let there = c.requires in
    let read : at nobody ws c.args.i ≡ c.index.result.now = at-get_or_any nobody _ ws c.args.i there.within ∙ sym c.index.ensures in
    let again : at nobody ws c.args.i ≡ c.index_mut.result.now = at-get_or_any nobody _ ws c.args.i there.within ∙ sym c.index_mut.ensures.value in
    let told : c.index.result.now.entries ≡ c.args.entries = search rules in
    inr (subst (CountsLeaver c.args.block c.args.entries ws) (sym (set-put nobody ws c.args.i _ there.within))
    (leaver-counted ws c.args.i _ c.args.block c.args.entries there (ap (λ (w : Want). w.entries) read ∙ told)
    (sym (ap (λ (w : Want). w.block) again)) (sym (ap (λ (w : Want). w.entries) again)) (omega (arith, there.waiting, ap (λ (w : Want). w.waiting) again))))
