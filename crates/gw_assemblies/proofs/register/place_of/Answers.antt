use Rattle.std.proofs.Common.{arith}
use Rattle.gw_assemblies.specs.Register.{is_entry_of}
use Rattle.gw_assemblies.proofs.Filing.{begin_walk, go_on, fewer, placed_from}
use Rattle.gw_assemblies.proofs.register.place_of.Goals as goal

pub loop-at-init : goal.loop-at-init
loop-at-init c =
    let walk = begin_walk c.args.entries.now c.args.buckets.now c.args.key.block c.args.key.set c.requires.filed c.bucket_of.result _
    c.bucket_of.ensures.value (omega (arith, c.bucket_of.ensures.value, c.bucket_of.ensures.within)) in
    record { at = walk.0; found = walk.1 }

pub loop-at-smaller : goal.loop-at-smaller
loop-at-smaller c = fewer c.args.entries.now c.args.buckets.now c.args.key.block c.args.key.set c.requires.filed c.loop-at.at
    c.loop-at.invariant.at c.in-Some.place c.in-Some.is _

pub loop-at-preserved : goal.loop-at-preserved
loop-at-preserved c =
    let walk = go_on c.args.entries.now c.args.buckets.now c.args.key.block c.args.key.set c.requires.filed c.loop-at.at
    c.loop-at.invariant.at c.in-Some.place c.in-Some.is _ c.loop-at.found c.older_found-found.result c.loop-at.invariant.found
    c.older_found-found.ensures in
    record { at = walk.0; found = walk.1 }

pub returns : goal.returns
returns c = placed_from (is_entry_of c.args.key.block c.args.key.set) c.args.entries.now c.loop-at.at c.loop-at.found c.in_default.is c.loop-at.invariant.found
