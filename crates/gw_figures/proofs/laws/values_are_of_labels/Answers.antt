use Rattle.gw_figures.proofs.OfLabels as of_labels
use Rattle.gw_figures.proofs.laws.values_are_of_labels.Goals as goal

pub returns : goal.returns
returns c = of_labels.values_are_of_labels
