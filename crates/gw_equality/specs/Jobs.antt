-- What `==` answers of two jobs.
use Rattle.std.specs.Prelude.{Bool, ◌&&◌, nat_eq}
use Rattle.std.specs.Cmp.Lexicographic.{pointwise}
use Rattle.gw_step.specs.Job.{Job}
use Rattle.gw_equality.specs.Same.{same_parts}

-- the same budget and count, the same seeds, and equal parts of the object
abbrev pub same_job : Job → Job → Bool
same_job a b =
    nat_eq a.budget b.budget && (nat_eq a.count b.count && (pointwise nat_eq a.streams b.streams && same_parts a.parts b.parts))
