use Rattle.std.proofs.Common.{arith}
use Rattle.gw_rows.proofs.HeaderTexts.{none_named}
use Rattle.gw_rows.proofs.header.named_in.Goals as goal

pub returns-then-len-lt-FIXED : goal.returns-then-len-lt-FIXED
returns-then-len-lt-FIXED c =
    none_named c.new.result.items c.args.line.now c.in_ok-parts.parts.items c.new.ensures.items c.in_ok-parts.ensures
    (omega (arith, c.len.ensures, c.if-len-lt-FIXED.true))
