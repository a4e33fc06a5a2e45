use Rattle.std.proofs.Common.{◌∙◌, drop, ap, arith}
use Rattle.std.specs.List.{before_first, after_first}
use Rattle.gw_rows.proofs.StreamFields.{is_equals, is_slash, made_of, stream_digits, most_digits, own_digits}
use Rattle.gw_rows.proofs.overdraws.overdraw_in.Goals as goal

pub returns : goal.returns
returns c = λ o h is.
    let stream = c.number_in.ensures o.stream (omega (arith, h.stream))
    (c.behind_first-2.ensures
    ∙ ap (drop 1) (c.behind_first.ensures ∙ ap (drop 1) (c.split_at_byte.ensures.front ∙ ap (before_first is_equals) is)) ∙ stream_digits o h) in
    let rest = c.split_at_byte.ensures.back ∙ ap (after_first is_equals) is in
    made_of c.min.result c.whole_in.result c.number_in-2.result o
    (omega (arith, stream, h.stream, c.min.ensures, c.from.ensures))
    (c.whole_in.ensures o.most h.most (c.split_at_byte-2.ensures.front ∙ ap (before_first is_slash) rest ∙ most_digits o h))
    (c.number_in-2.ensures o.own h.own (c.split_at_byte-2.ensures.back ∙ ap (after_first is_slash) rest ∙ own_digits o h))
