use Rattle.gw_names.proofs.Owning.{parameters_free}
use Rattle.gw_names.proofs.laws.parameters_are_free.Goals as goal

pub returns : goal.returns
returns c = parameters_free
