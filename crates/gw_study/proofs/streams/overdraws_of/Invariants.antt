use Rattle.std.proofs.Common.{◌≡◌, ◌-◌, ◌++◌}
use Rattle.gw_study.specs.Streams.{overdraws_from}
use Rattle.gw_study.proofs.streams.overdraws_of.Given as goal

-- those that are there, and those of the streams that are left, are all
abbrev pub invariant-loop-stream : goal.invariant-loop-stream
invariant-loop-stream l =
    l.all.items ++ overdraws_from l.parts l.steps l.values l.stream (17 - l.stream) ≡ overdraws_from l.parts l.steps l.values 1 16
