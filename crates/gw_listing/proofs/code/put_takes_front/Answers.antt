use Rattle.std.proofs.Common.{codes}
use Rattle.std.specs.Fmt.{decimal}
use Rattle.gw_listing.proofs.Growing.{grown}
use Rattle.gw_listing.proofs.code.put_takes_front.Goals as goal

pub returns : goal.returns
returns c =
    grown _ (codes "    arguments ") (decimal c.args.arguments) (codes " ") _ _ c.put.result c.in_ok-put_number.ensures c.put.ensures
