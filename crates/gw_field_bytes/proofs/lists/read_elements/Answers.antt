use Rattle.std.proofs.Common.{[]}
use Rattle.std.proofs.lemmas.Result.{err_from_is_err_and}
use Rattle.gw_fields.specs.Fields.{elements_read}
use Rattle.gw_field_bytes.proofs.Loop.{goes_on, ends, is_done}
use Rattle.gw_field_bytes.proofs.lists.read_elements.Goals as goal

pub returns-in_err-item : goal.returns-in_err-item
returns-in_err-item g c =
    let read = g.L.Elements.reading in
    let failed = rw c.as_slice.ensures.value at c.in_err-item.ensures in
    let p = err_from_is_err_and c.from_residual.result c.from_residual.ensures.1 in
    rw (p.1, p.2) (ends read c.in_err-item.field-0.0 c.loop-i.items.items c.args.n c.loop-i.i c.loop-i.rest.now
    (elements_read read c.args.n [] c.args.bytes.now) c.loop-i-test.true failed c.loop-i.invariant)

pub loop-i-preserved : goal.loop-i-preserved
loop-i-preserved g c =
    let read = g.L.Elements.reading in
    let one = rw c.as_slice.ensures.value at c.in_ok-item.ensures in
    rw c.in_ok-push.ensures.items
    (goes_on read c.args.n c.loop-i.i c.loop-i.items.items c.loop-i.rest.now c.in_ok-item.item c.in_ok-item.after.now
    (elements_read read c.args.n [] c.args.bytes.now) c.loop-i-test.true one c.loop-i.invariant)

pub returns : goal.returns
returns g c =
    let read = g.L.Elements.reading in
    is_done read c.loop-i.items.items c.args.n c.loop-i.i c.loop-i.rest.now (elements_read read c.args.n [] c.args.bytes.now)
    c.loop-i-test.false c.loop-i.invariant
