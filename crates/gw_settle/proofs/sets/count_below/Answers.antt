use Rattle.std.proofs.Common.{◌≡◌, length, arith, add-one}
use Rattle.gw_settle.proofs.Uniting.{split_at, under_more, over_from, over_end}
use Rattle.gw_settle.proofs.sets.count_below.Goals as goal

pub returns-then-bound-numbers-clause-below : goal.returns-then-bound-numbers-clause-below
returns-then-bound-numbers-clause-below c =
    let over = over_from c.args.bound c.loop-i.i c.args.numbers.now 0 c.requires c.loop-i-test.true (omega (arith, c.if-bound-numbers.true)) in
    (split_at c.args.bound c.loop-i.i c.args.numbers.now c.loop-i.invariant over).below

pub returns-then-bound-numbers-clause-others : goal.returns-then-bound-numbers-clause-others
returns-then-bound-numbers-clause-others c =
    let over = over_from c.args.bound c.loop-i.i c.args.numbers.now 0 c.requires c.loop-i-test.true (omega (arith, c.if-bound-numbers.true)) in
    (split_at c.args.bound c.loop-i.i c.args.numbers.now c.loop-i.invariant over).others

pub loop-i-preserved : goal.loop-i-preserved
loop-i-preserved c = rw add-one
    (under_more c.args.bound c.loop-i.i c.args.numbers.now 0 c.loop-i-test.true (omega (arith, c.if-bound-numbers.false)) c.loop-i.invariant)

pub returns-clause-below : goal.returns-clause-below
returns-clause-below c =
    let end : c.loop-i.i ≡ length c.args.numbers.now = omega (arith, c.loop-i-test.false, c.loop-i.auto.i-end) in
    (split_at c.args.bound (length c.args.numbers.now) c.args.numbers.now (rw end at c.loop-i.invariant) (over_end c.args.bound c.args.numbers.now)).below

pub returns-clause-others : goal.returns-clause-others
returns-clause-others c =
    let end : c.loop-i.i ≡ length c.args.numbers.now = omega (arith, c.loop-i-test.false, c.loop-i.auto.i-end) in
    (split_at c.args.bound (length c.args.numbers.now) c.args.numbers.now (rw end at c.loop-i.invariant) (over_end c.args.bound c.args.numbers.now)).others
