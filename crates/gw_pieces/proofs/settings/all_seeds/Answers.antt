use Rattle.gw_pieces.proofs.Seeding.{next_seed}
use Rattle.gw_pieces.proofs.settings.all_seeds.Goals as goal

pub loop-stream-preserved : goal.loop-stream-preserved
loop-stream-preserved c =
    next_seed c.args.statements.now c.loop-stream.stream 7 c.loop-stream.seeds.items c.put_seed.new.seeds.items _ c.loop-stream-test.true
    c.in_ok-put_seed.ensures c.loop-stream.invariant
