use Rattle.std.proofs.Common.{◌≡◌, ◌-◌, ◌++◌}
use Rattle.gw_study.specs.Streams.{streams_from}
use Rattle.gw_study.proofs.streams.put_streams.Given as goal

-- what is there, and the lines that are left, are what was there and all
abbrev pub invariant-loop-stream : goal.invariant-loop-stream
invariant-loop-stream l = l.out.items ++ streams_from l.runs l.stream (17 - l.stream) ≡ l.fn.out.items ++ streams_from l.runs 1 16
