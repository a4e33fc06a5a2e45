-- the place is the first whose byte isn't counted, or the length
use Rattle.std.proofs.Common.{◌∙◌, arith, sym, length}
use Rattle.std.proofs.lemmas.List.Sums.{prefix_len_is}
use Rattle.gw_text_tokens.specs.Heads.{is_in_name}
use Rattle.gw_text_tokens.proofs.tokens.name_length.Goals as goal

pub returns-then-not-is_in_name-clause-length : goal.returns-then-not-is_in_name-clause-length
returns-then-not-is_in_name-clause-length c =
    sym (prefix_len_is is_in_name c.args.bytes.now c.loop-length.length 0 (omega (arith, c.loop-length-test.true)) c.loop-length.invariant
    (λ _. sym c.if-not-is_in_name.ensures))

pub returns-clause-length : goal.returns-clause-length
returns-clause-length c =
    sym (prefix_len_is is_in_name c.args.bytes.now (length c.args.bytes.now) 0 (omega arith)
    (λ k below. c.loop-length.invariant k (omega (arith, below, c.loop-length-test.false))) (λ h. absurd (omega (arith, h))))
