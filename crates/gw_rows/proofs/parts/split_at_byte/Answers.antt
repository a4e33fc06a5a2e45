use Rattle.std.proofs.Common.{◌∙◌, ◌==◌, not, take, drop, ap, arith}
use Rattle.std.specs.List.{position_or_len}
use Rattle.std.proofs.lemmas.List.{drop-drop}
use Rattle.std.proofs.lemmas.List.Sums.{prefix_len-le-length}
use Rattle.gw_rows.proofs.parts.split_at_byte.Goals as goal

pub split_at-requires : goal.split_at-requires
split_at-requires c = omega (arith, prefix_len-le-length (λ b. not (b == c.args.byte)) c.args.text.now)

pub returns-clause-front : goal.returns-clause-front
returns-clause-front c = c.split_at.ensures.front ∙ ap (λ k. take k c.args.text.now) c.place_of.ensures

pub returns-clause-back : goal.returns-clause-back
returns-clause-back c =
    c.behind_first.ensures ∙ ap (drop 1) (c.split_at.ensures.back ∙ ap (λ k. drop k c.args.text.now) c.place_of.ensures)
    ∙ drop-drop 1 (position_or_len (λ b. b == c.args.byte) c.args.text.now) c.args.text.now
