-- What was found of a job.
use Rattle.std.specs.Prelude.{◌≡◌, Result, Ok, Err}
use Rattle.gw_object.specs.declared.fault.Fault.{Fault}
use Rattle.gw_answers.specs.declared.answer.NoJob.{NoJob}
use Rattle.gw_answers.specs.declared.answer.NoJob.TheVariants.{Refused, OutOfMemory}

-- the refusal is what is wanted; where memory ran out, anything may be
abbrev pub FindsNoJob : {X : Type 0} → NoJob → Result X Fault → Type 0
FindsNoJob (Refused refusal) wanted = wanted ≡ Err refusal.0
FindsNoJob OutOfMemory wanted = Unit {0}

-- what was found, or refused, is what is wanted, unless memory ran out
abbrev pub FindsJob : {X : Type 0} → Result X NoJob → Result X Fault → Type 0
FindsJob (Ok x) wanted = wanted ≡ Ok x
FindsJob (Err none) wanted = FindsNoJob none wanted
