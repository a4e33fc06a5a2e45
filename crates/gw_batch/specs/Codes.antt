-- The codes of refusals that the workers of a batch answer.
use Rattle.std.specs.Prelude.{ℕ, Option}
use Rattle.std.specs.Option.{option_map}
use Rattle.gw_object.specs.declared.fault.Fault.{Fault}
use Rattle.gw_object.specs.Codes.{memory}
use Rattle.gw_answers.specs.declared.codes.TheConstants.{WORKERS, SLICE, SPAWN}
use Rattle.gw_answers.specs.Service.{nowhere}
use Rattle.gw_pool.specs.declared.faults.PoolFault.{PoolFault}
use Rattle.gw_pool.specs.declared.faults.PoolFault.TheVariants as pools
use Rattle.gw_pool.specs.Workers.{range_fault}

-- the code with which workers are refused
abbrev pub pool_code : PoolFault → ℕ
pool_code pools.Workers = WORKERS
pool_code pools.Slice = SLICE
pool_code pools.Spawn = SPAWN
pool_code pools.Memory = memory

abbrev pub pool_refusal : PoolFault → Fault
pool_refusal fault = nowhere (pool_code fault)

-- the refusal of a batch whose workers or slices are as many as there may not be
abbrev pub words_fault : ℕ → ℕ → Option Fault
words_fault workers slice = option_map pool_refusal (range_fault workers slice)
