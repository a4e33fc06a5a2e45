use Rattle.std.proofs.Common.{◌≡◌, set, arith, ap, ◌∙◌}
use Rattle.std.specs.Prelude.{remove}
use Rattle.gw_chains.proofs.Spotting.{is_number, count-here, set-shorter, remove-emptied, on_some}
use Rattle.gw_chains.proofs.row.shorten_at.Goals as goal

pub index-bucket-requires : goal.index-bucket-requires
index-bucket-requires c = omega (arith, c.args.row.now.ok.0, is_number c.args.row.now.items c.args.spot.bucket c.args.spot.passed c.requires)

pub without_one-requires : goal.without_one-requires
without_one-requires c =
    omega (
      arith,
      c.requires,
      count-here c.args.row.now.items c.args.spot.bucket c.index-bucket.result.now
          (is_number c.args.row.now.items c.args.spot.bucket c.args.spot.passed c.requires) c.index-bucket.ensures,
    )

pub index_mut-requires : goal.index_mut-requires
index_mut-requires c = omega (arith, c.args.row.now.ok.0, is_number c.args.row.now.items c.args.spot.bucket c.args.spot.passed c.requires)

pub returns-then-bucket-gt1-clause-items : goal.returns-then-bucket-gt1-clause-items
returns-then-bucket-gt1-clause-items c =
    ap (set c.args.row.now.items c.args.spot.bucket) c.without_one.ensures
    ∙ set-shorter c.args.spot c.args.next c.args.row.now.items c.args.spot.bucket c.index-bucket.result.now
    (is_number c.args.row.now.items c.args.spot.bucket c.args.spot.passed c.requires) c.index-bucket.ensures (omega arith)

pub returns-else-bucket-gt1-clause-items : goal.returns-else-bucket-gt1-clause-items
returns-else-bucket-gt1-clause-items c =
    let within = is_number c.args.row.now.items c.args.spot.bucket c.args.spot.passed c.requires in
    on_some (c.remove.new.self.items ≡ remove c.args.row.now.items c.args.spot.bucket) c.remove.result
    (c.remove.ensures.variant.1 (omega (arith, c.args.row.now.ok.0, within))) c.remove.ensures.items
    ∙ remove-emptied c.args.spot c.args.next c.args.row.now.items c.args.spot.bucket c.index-bucket.result.now within c.index-bucket.ensures (omega arith)
