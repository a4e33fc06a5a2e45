use Rattle.std.proofs.Common.{◌≡◌, ◌-◌, sym, ◌∙◌, get_or, arith}
use Rattle.std.proofs.lemmas.List.{get_or_default}
use Rattle.gw_field_bytes.proofs.Ascending.{ascend_more, nat_order}
use Rattle.gw_field_bytes.proofs.keys.keys_ascend.Goals as goal

pub loop-i-preserved : goal.loop-i-preserved
loop-i-preserved g c =
    let xs = c.args.elements.now in
    let i = c.loop-i.i in
    let key = g.T.Keyed.key_of in
    ascend_more nat_order key xs i (λ d.
    let here : get_or xs i d ≡ c.index-elements-i.result = get_or_default xs i d _ c.loop-i-test.true ∙ sym c.index-elements-i.is in
    let before : get_or xs (i - 1) d ≡ c.index-elements-i-in-loop-i.result =
    get_or_default xs (i - 1) d _ (omega (arith, c.loop-i-test.true)) ∙ sym c.index-elements-i-in-loop-i.is in
    rw (here, before) (omega (arith, c.if-key.false, c.key.ensures, c.key-in-loop-i.ensures)))
    c.loop-i.invariant
