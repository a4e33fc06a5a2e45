use Rattle.gw_rows.proofs.Telling as telling
use Rattle.gw_rows.proofs.laws.headers_tell_their_figures.Goals as goal

pub returns : goal.returns
returns c = telling.headers_tell_their_figures
