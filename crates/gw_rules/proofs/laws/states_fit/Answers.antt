use Rattle.gw_rules.proofs.Fitting.{fits_itself, fits_on}
use Rattle.gw_rules.proofs.laws.states_fit.Goals as goal

pub returns : goal.returns
returns c = record { itself = fits_itself; on = fits_on }
