use Rattle.gw_rows.proofs.ModelFigures as model_figures
use Rattle.gw_rows.proofs.laws.models_are_readable.Goals as goal

pub returns : goal.returns
returns c = model_figures.models_are_readable
