use Rattle.std.proofs.Common.{rules}
use Rattle.gw_object.proofs.Backs.{backs_counted}
use Rattle.gw_compile.proofs.procedures.count_backs.Goals as goal

pub returns : goal.returns
returns c = search (rules, backs_counted)
