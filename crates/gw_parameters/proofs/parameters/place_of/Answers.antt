-- the place is the first at which the byte stands, or the length
use Rattle.std.proofs.Common.{arith, sym, eq-eqb, get_or, length, ◌==◌}
use Rattle.std.proofs.lemmas.List.Sums.{position_or_len_is}
use Rattle.gw_parameters.proofs.parameters.place_of.Goals as goal

pub returns-then-bytes-place-clause-place : goal.returns-then-bytes-place-clause-place
returns-then-bytes-place-clause-place c =
    sym (position_or_len_is (λ b. b == c.args.byte) c.args.bytes.now c.loop-place.place 0 (omega (arith, c.loop-place-test.true)) c.loop-place.invariant
    (λ _. eq-eqb (get_or c.args.bytes.now c.loop-place.place 0) c.args.byte c.if-bytes-place.true))

pub returns-clause-place : goal.returns-clause-place
returns-clause-place c =
    sym (position_or_len_is (λ b. b == c.args.byte) c.args.bytes.now (length c.args.bytes.now) 0 (omega arith)
    (λ k below. c.loop-place.invariant k (omega (arith, below, c.loop-place-test.false))) (λ h. absurd (omega (arith, h))))
