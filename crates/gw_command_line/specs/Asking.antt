-- What may be asked of many runs.
use Rattle.std.specs.Prelude.{ℕ, ◌*◌, ◌<◌, ◌≤◌}
use Rattle.std.specs.Option.{unwrap_or}
use Rattle.gw_command_line.specs.declared.words.Command.{Command}
use Rattle.gw_command_line.specs.declared.words.Command.TheVariants.{Ask, Chart, Code, Help, Version, Study as Studies, Compare}
use Rattle.gw_command_line.specs.declared.words.Command.TheVariants as commands
use Rattle.gw_command_line.specs.declared.words.Study.{Study}
use Rattle.gw_command_line.specs.declared.rows.LoneRun.{LoneRun}
use Rattle.gw_command_line.specs.declared.rows.Runs.{Runs}
use Rattle.gw_command_line.specs.declared.rows.Shard.{Shard}
use Rattle.gw_command_line.specs.declared.rows.Summing.{Summing}

-- runs have seeds of their own, and there are 1 to 16 workers
pub record MayBeMade (study : Study) : Type 0 where
  pub some : 0 < study.runs
  pub first : 1 ≤ unwrap_or study.options.seeds 1
  pub few : study.runs * unwrap_or study.options.seeds 1 ≤ 512
  pub workers : unwrap_or study.options.workers 1 ≤ 16

-- the runs have seeds of their own, and there are 1 to 16 workers
pub record AreRunsFit (runs : Runs) : Type 0 where
  pub order : runs.first ≤ runs.end
  pub few : runs.end ≤ 512
  pub workers : unwrap_or runs.options.workers 0 ≤ 16

-- the run has seeds of its own
abbrev pub IsRunFit : LoneRun → Type 0
IsRunFit run = run.run < 512

-- there is such a share, and there are at most 16 workers
abbrev pub IsShardFit : Shard → Type 0
IsShardFit shard = (shard.number < shard.shares) × (shard.workers ≤ 16)

-- there are as many studies
abbrev pub IsSummingFit : Summing → Type 0
IsSummingFit summing = (1 ≤ summing.seeds) × (summing.seeds ≤ 512)

abbrev pub MayBeCarriedOut : Command → Type 0
MayBeCarriedOut (Ask question) = Unit {0}
MayBeCarriedOut (Chart chart) = Unit {0}
MayBeCarriedOut (Code code) = Unit {0}
MayBeCarriedOut Help = Unit {0}
MayBeCarriedOut Version = Unit {0}
MayBeCarriedOut (Studies study) = MayBeMade study
MayBeCarriedOut (Compare study) = MayBeMade study
MayBeCarriedOut (commands.Runs runs) = AreRunsFit runs
MayBeCarriedOut (commands.Summary summing) = IsSummingFit summing
MayBeCarriedOut (commands.Object run) = IsRunFit run
MayBeCarriedOut (commands.Shard shard) = IsShardFit shard
