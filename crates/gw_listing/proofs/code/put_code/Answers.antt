use Rattle.std.proofs.Common.{length}
use Rattle.gw_listing.specs.Lines.{openings_below}
use Rattle.gw_listing.specs.Shape.{takes_opening, instruction_opening}
use Rattle.gw_listing.proofs.Growing.{joined_where}
use Rattle.gw_listing.proofs.code.put_code.Goals as goal

pub returns : goal.returns
returns c =
    let takes = takes_opening c.args.procedure.now.arguments in
    let code = c.args.procedure.now.code in
    joined_where takes (openings_below instruction_opening (length code)) _ _ _ c.put_section.result c.in_ok-put_takes.ensures
    (rw c.as_slice.ensures at c.put_section.ensures)
