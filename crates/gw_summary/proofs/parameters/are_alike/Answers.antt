use Rattle.std.proofs.Common.{◌∙◌, ◌<◌, ℕ, Vec, length, refl, sym, ap, arith}
use Rattle.std.specs.Prelude.{not}
use Rattle.std.specs.Global.{Global}
use Rattle.std.proofs.lemmas.Bool.{true≢false}
use Rattle.std.proofs.lemmas.Slice.Eq.{bytes_eq-Decides}
use Rattle.gw_summary.proofs.Names.{name_at, same_names}
use Rattle.gw_summary.proofs.parameters.are_alike.Goals as goal

pub returns-then-ne : goal.returns-then-ne
returns-then-ne c =
    let xs = c.args.first.now in
    let ys = c.args.second.now in
    let i = c.loop-i.i in
    let less : i < length xs = omega (arith, c.loop-i-test.true) in
    let few : i < length ys = omega (arith, less, c.if-first-second.false) in (
      λ holds. absurd (true≢false (sym holds)),
      λ same.
          let x = c.index-first-i in
          let y = c.index-second-i in
          let name =
          c.as_slice.ensures.value ∙ ap (λ (v : Vec ℕ Global). v.items) x.is ∙ name_at xs ys i x.result y.result less few same
          ∙ ap (λ (v : Vec ℕ Global). v.items) (sym y.is) ∙ sym c.as_slice-in-loop-i.ensures.value in
          absurd (true≢false (c.if-ne.ensures ∙ ap not ((bytes_eq-Decides c.as_slice.result.now c.as_slice-in-loop-i.result.now).1 name))),
    )

pub returns : goal.returns
returns c = (
  λ holds. same_names c.args.first.now c.args.second.now (omega (arith, c.if-first-second.false))
      (λ k d e less. c.loop-i.invariant k d e (omega (arith, less, c.loop-i-test.false))),
  λ same. refl,
)
