use Rattle.std.proofs.Common.{◌≡◌, ◌-◌, ◌++◌}
use Rattle.gw_pieces.specs.declared.settings.TheConstants.{SEEDS}
use Rattle.gw_pieces.specs.Settings.{seeds_from}
use Rattle.gw_pieces.proofs.settings.all_seeds.Given as goal

-- the seeds of the streams that are left are still to come
abbrev pub invariant-loop-stream : goal.invariant-loop-stream
invariant-loop-stream l = l.seeds.items ++ seeds_from l.statements l.stream (SEEDS - l.stream) ≡ seeds_from l.statements 0 SEEDS
