use Rattle.std.proofs.Common.{rules, ◌≡◌, ◌∙◌, ◌++◌, ◌∷◌, [], length, inl, inr, refl, sym, ap, subst, arith}
use Rattle.gw_num.specs.Table.{at}
use Rattle.gw_num.proofs.Tables.{at-get_or_any, set-put, at_past}
use Rattle.gw_machine.specs.declared.wants.Want.{Want}
use Rattle.gw_machine.specs.Wants.{CountsNewcomer, IsAt, nobody}
use Rattle.gw_machine.proofs.Wanting.{newcomer-counted, appended-put, counted-within}
use Rattle.gw_machine.proofs.wants.count_newcomer.Goals as goal

pub one_more-requires : goal.one_more-requires
one_more-requires c =
    let ws = c.args.wants.now.items in
    let at_i : IsAt c.args.block 0 c.in-Some.i ws = search rules in
    let read : at nobody ws c.in-Some.i ≡ c.index.result.now = at-get_or_any nobody _ ws c.in-Some.i at_i.within ∙ sym c.index.ensures in
    record { few = omega (arith, counted-within c.args.block 0 c.in-Some.i ws at_i, ap (λ (w : Want). w.waiting) read, c.requires.few) }

pub returns-in-Some : goal.returns-in-Some
returns-in-Some c =
    let ws = c.args.wants.now.items in
    let at_i : IsAt c.args.block 0 c.in-Some.i ws = search rules in
    let read : at nobody ws c.in-Some.i ≡ c.index.result.now = at-get_or_any nobody _ ws c.in-Some.i at_i.within ∙ sym c.index.ensures in
    let more = c.one_more.ensures in
    subst (CountsNewcomer c.args.block c.args.entries ws) (sym (set-put nobody ws c.in-Some.i c.one_more.result at_i.within))
    (newcomer-counted ws c.in-Some.i c.one_more.result c.args.block c.args.entries
    (more.block ∙ sym (ap (λ (w : Want). w.block) read) ∙ at_i.block)
    (omega (arith, more.waiting, ap (λ (w : Want). w.waiting) read))
    (elim more.entries.1 [
      | inl kept ↦ inr (kept ∙ sym (ap (λ (w : Want). w.entries) read), at_i.block)
      | inr now ↦ inl now
    ])
    (λ some. (at_i.block, more.entries.0 (omega (arith, some, ap (λ (w : Want). w.waiting) read)) ∙ sym (ap (λ (w : Want). w.entries) read))))

pub returns-in_ok-push-in-None : goal.returns-in_ok-push-in-None
returns-in_ok-push-in-None c =
    let ws = c.args.wants.now.items in
    let newcomer : Want = record { block = c.args.block; waiting = 1; entries = c.args.entries } in
    let is : c.push.new.self.items ≡ ws ++ newcomer ∷ [] = search rules in
    let past : at nobody ws (length ws) ≡ nobody = at_past nobody ws (length ws) (omega arith) in
    subst (CountsNewcomer c.args.block c.args.entries ws) (sym (is ∙ appended-put nobody ws newcomer))
    (newcomer-counted ws (length ws) newcomer c.args.block c.args.entries refl
    (omega (arith, ap (λ (w : Want). w.waiting) past))
    (inl refl)
    (λ some. absurd (omega (arith, some, ap (λ (w : Want). w.waiting) past))))
