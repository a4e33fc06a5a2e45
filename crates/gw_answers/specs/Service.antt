-- The refusals of a service.
use Rattle.std.specs.Prelude.{ℕ}
use Rattle.gw_object.specs.declared.fault.Fault.{Fault}
use Rattle.gw_object.specs.declared.fault.Place.TheVariants.{Nowhere}
use Rattle.gw_object.specs.Codes.{memory}
use Rattle.gw_answers.specs.declared.codes.TheConstants.{USER_FULL, SERVICE_FULL, JOURNAL_FULL, NOT_YOURS, NOT_ENDED, CANCELLED, STRANGER, ALREADY_ENDED}
use Rattle.gw_service.specs.declared.faults.JobFault.{JobFault}
use Rattle.gw_service.specs.declared.faults.JobFault.TheVariants as jobs

-- a refusal that has no place
abbrev pub nowhere : ℕ → Fault
nowhere code = record { code = code; place = Nowhere }

-- a service takes no more jobs
abbrev pub service_full : ℕ
service_full = SERVICE_FULL

-- the code with which a call of the service is refused; want of memory has the code that it has everywhere
abbrev pub job_code : JobFault → ℕ
job_code jobs.UserFull = USER_FULL
job_code jobs.ServiceFull = service_full
job_code jobs.JournalFull = JOURNAL_FULL
job_code jobs.Memory = memory
job_code jobs.NotYours = NOT_YOURS
job_code jobs.NotEnded = NOT_ENDED
job_code jobs.Cancelled = CANCELLED
job_code jobs.Stranger = STRANGER
job_code jobs.AlreadyEnded = ALREADY_ENDED

-- a refusal by the service has no place
abbrev pub job_refusal : JobFault → Fault
job_refusal fault = nowhere (job_code fault)
