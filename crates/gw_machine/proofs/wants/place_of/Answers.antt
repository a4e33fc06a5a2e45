use Rattle.std.proofs.Common.{◌≡◌, ◌∙◌, sym, ap, inl, inr, arith}
use Rattle.std.proofs.lemmas.Bool.{cases_lt}
use Rattle.gw_num.specs.Table.{at}
use Rattle.gw_num.proofs.Tables.{at-get_or}
use Rattle.gw_machine.specs.declared.wants.Want.{Want}
use Rattle.gw_machine.specs.Wants.{nobody}
use Rattle.gw_machine.proofs.wants.place_of.Goals as goal

pub returns-then-least-want : goal.returns-then-least-want
returns-then-least-want c =
    let read = at-get_or nobody c.args.wants.now c.loop-i.i in
    record {
      within = c.loop-i-test.true;
      block = ap (λ (w : Want). w.block) read ∙ c.if-want-block.true;
      waiting = omega (arith, ap (λ (w : Want). w.waiting) read, c.if-least-want.true);
    }

pub loop-i-preserved : goal.loop-i-preserved
loop-i-preserved c j less same =
    let ws = c.args.wants.now in
    let read = at-get_or nobody ws c.loop-i.i in
    elim (cases_lt j c.loop-i.i) [
      | inl before ↦ c.loop-i.invariant j before same
      | inr past ↦
          let here : j ≡ c.loop-i.i = omega (arith, less, past) in
          let block = sym (ap (λ (w : Want). w.block) read) ∙ sym (ap (λ k. (at nobody ws k).block) here) ∙ same in
          elim c.else-want-block.either [
            | inl both ↦ omega (arith, both.1, ap (λ k. (at nobody ws k).waiting) here, ap (λ (w : Want). w.waiting) read)
            | inr other ↦ absurd (other block)
          ]
    ]
