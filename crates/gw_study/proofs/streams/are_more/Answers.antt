use Rattle.std.proofs.Common.{arith, sym}
use Rattle.std.proofs.lemmas.Bool.{le-ltb}
use Rattle.gw_study.specs.Streams.{own_numbers}
use Rattle.gw_study.proofs.Looking.{has_own}
use Rattle.gw_study.proofs.streams.are_more.Goals as goal

pub returns-then-most-from : goal.returns-then-most-from
returns-then-most-from c =
    let least = has_own c.args.parts.now c.args.stream in
    sym (le-ltb (own_numbers c.args.parts.now c.args.stream) c.args.most (omega (arith, least)))
