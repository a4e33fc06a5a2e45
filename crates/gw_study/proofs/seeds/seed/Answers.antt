use Rattle.std.proofs.Common.{◌∙◌, sym, ap, arith}
use Rattle.gw_study.specs.Seeds.{after_jump}
use Rattle.gw_study.proofs.Jumping.{first_seed, seed_more}
use Rattle.gw_study.proofs.seeds.seed.Goals as goal

pub loop-init : goal.loop-init
loop-init c = (sym first_seed, (omega arith, omega arith))

pub loop-preserved : goal.loop-preserved
loop-preserved c = (c.jump-seed.ensures.value ∙ ap after_jump c.loop.invariant.0 ∙ sym (seed_more c.loop.counter), c.jump-seed.ensures.seed)
