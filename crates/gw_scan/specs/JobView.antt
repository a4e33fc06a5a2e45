-- The job that a spec stands for.
use Rattle.std.specs.Prelude.{◌≡◌, map}
use Rattle.std.specs.Arc.{arc_value}
use Rattle.gw_scan.specs.Origins.{origin}
use Rattle.gw_scan.specs.declared.spec.Spec.TheInside.{Inside}
use Rattle.gw_step.specs.Job.{Job, JobFits}

-- its object, seeds, count and budget
abbrev pub job_of : Inside → Job
job_of s = record { parts = arc_value s.verified; streams = s.streams; count = s.count; budget = s.budget }

-- the job is one that may be made, and its blocks are decoded
pub record IsJob (s : Inside) : Type 0 where
  pub fits : JobFits (job_of s)
  pub decoded : map origin (arc_value s.decoded).items ≡ (arc_value s.verified).blocks
