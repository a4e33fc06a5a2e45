use Rattle.std.proofs.Common.{rules, ◌≡◌, true, Some, get_or, sym}
use Rattle.std.specs.Prelude.{slice_get, nat_eq}
use Rattle.std.specs.Cmp.Lexicographic.{pointwise, bytes_decides}
use Rattle.std.proofs.lemmas.Option.{slice_get-get_or}
use Rattle.gw_settle.proofs.Writing.{any_set}
use Rattle.gw_settle.proofs.written.row_number.Goals as goal

pub returns-then-eq-clause-found : goal.returns-then-eq-clause-found
returns-then-eq-clause-found c =
    let row = get_or c.args.returns.now c.loop-i.i c.index-returns-i.result in
    let full : slice_get c.args.returns.now c.loop-i.i ≡ Some row =
    slice_get-get_or c.args.returns.now c.loop-i.i c.index-returns-i.result c.loop-i-test.true in
    let same : pointwise nat_eq row.blocks c.args.blocks.now ≡ true = search rules in
    rw full ((bytes_decides row.blocks c.args.blocks.now).0 same)

pub returns-then-eq-clause-exactly : goal.returns-then-eq-clause-exactly
returns-then-eq-clause-exactly c =
    let row = get_or c.args.returns.now c.loop-i.i c.index-returns-i.result in
    let full : slice_get c.args.returns.now c.loop-i.i ≡ Some row =
    slice_get-get_or c.args.returns.now c.loop-i.i c.index-returns-i.result c.loop-i-test.true in
    let same : pointwise nat_eq row.blocks c.args.blocks.now ≡ true = search rules in
    sym (any_set c.args.returns.now c.args.blocks.now c.loop-i.i row full same)
