use Rattle.gw_rules.proofs.Fitting.{fits_is_decided}
use Rattle.gw_rules.proofs.laws.fits_is_decided.Goals as goal

pub returns : goal.returns
returns c = fits_is_decided
