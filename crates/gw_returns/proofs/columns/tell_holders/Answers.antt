use Rattle.std.proofs.Common.{rules, ◌≡◌, ◌<◌, ◌+◌, length, ◌∙◌}
use Rattle.std.specs.Prelude.{All}
use Rattle.gw_object.specs.Returns.{row_blocks}
use Rattle.gw_returns.specs.Words.{with_bits}
use Rattle.gw_returns.proofs.Bits.{length_with}
use Rattle.gw_returns.proofs.Telling.{blocks_below, more_holders}
use Rattle.gw_returns.proofs.columns.tell_holders.Goals as goal

pub loop-place-preserved : goal.loop-place-preserved
loop-place-preserved c =
    let bs = row_blocks c.args.rows.now (c.args.first + c.loop-place.place) in
    let new : c.set_bits.new.words ≡ with_bits c.loop-place.place c.loop-place.words bs = search rules in
    let within : All (λ b. b < length c.loop-place.words) bs =
    rw c.loop-place.invariant.length (blocks_below (length c.args.words.now) c.args.rows.now c.requires.blocks (c.args.first + c.loop-place.place)) in
    record {
      tell = rw new (more_holders c.args.rows.now c.args.first c.loop-place.place c.loop-place.words c.loop-place-test.true within c.loop-place.invariant.tell);
      length = rw new (length_with c.loop-place.place bs c.loop-place.words ∙ c.loop-place.invariant.length);
    }
