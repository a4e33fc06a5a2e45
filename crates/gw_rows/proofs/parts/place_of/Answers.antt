use Rattle.std.proofs.Common.{◌==◌, arith, below_more, sym}
use Rattle.std.proofs.lemmas.Bool.{eq-eqb, ne_eqb}
use Rattle.std.proofs.lemmas.List.Sums.{position_or_len_is}
use Rattle.gw_rows.proofs.parts.place_of.Goals as goal

pub loop-place-preserved : goal.loop-place-preserved
loop-place-preserved c = below_more _ _ c.loop-place.invariant (ne_eqb _ c.args.byte c.if-text-place.false)

pub returns-then-text-place : goal.returns-then-text-place
returns-then-text-place c =
    sym (position_or_len_is (λ b. b == c.args.byte) c.args.text.now c.loop-place.place 0 (omega arith) c.loop-place.invariant
    (λ h. eq-eqb _ c.args.byte c.if-text-place.true))

pub returns : goal.returns
returns c =
    sym (position_or_len_is (λ b. b == c.args.byte) c.args.text.now _ 0 (omega arith) (λ k h. c.loop-place.invariant k (omega arith))
    (λ h. absurd (omega arith)))
