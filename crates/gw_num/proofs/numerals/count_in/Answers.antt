use Rattle.std.proofs.Common.{◌∙◌, sym}
use Rattle.gw_num.proofs.Numbers.{parsed}
use Rattle.gw_num.proofs.numerals.count_in.Goals as goal

pub returns-then-is_number : goal.returns-then-is_number
returns-then-is_number c = c.ok.ensures.value ∙ parsed 64 c.args.word.now c.parse.result c.parse.ensures.value.0 (sym c.is_number.ensures ∙ c.if-is_number.true)
