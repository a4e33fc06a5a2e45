use Rattle.gw_machine.proofs.Wanting.{entry-untold}
use Rattle.gw_machine.proofs.wants.count_entry.Goals as goal

pub returns-in_default : goal.returns-in_default
returns-in_default c = entry-untold c.args.wants.now.items c.args.block c.args.entries
