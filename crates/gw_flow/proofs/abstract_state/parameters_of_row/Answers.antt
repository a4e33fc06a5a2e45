use Rattle.std.proofs.Common.{rules}
use Rattle.std.proofs.lemmas.Iterator.{items_from_collect, YieldsList-from_slice, YieldsList-from_map_by}
use Rattle.gw_rules.specs.declared.set_parameters.Parameter.{Parameter}
use Rattle.gw_flow.specs.Known.{parameter_carried}
use Rattle.gw_flow.proofs.abstract_state.parameters_of_row.Goals as goal

pub returns : goal.returns
returns c = items_from_collect _ c.collect.ensures.ran
    (YieldsList-from_map_by _ (λ (p : Parameter). p) parameter_carried (YieldsList-from_slice c.args.parameters.now cc)
    c.map.ensures.closure (λ x r q k. search rules))
