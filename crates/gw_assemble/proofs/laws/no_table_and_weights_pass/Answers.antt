use Rattle.gw_assemble.proofs.Tables.{no_table_and_weights_pass}
use Rattle.gw_assemble.proofs.laws.no_table_and_weights_pass.Goals as goal

pub returns : goal.returns
returns c = no_table_and_weights_pass
