use Rattle.std.proofs.Common.{rules}
use Rattle.std.proofs.lemmas.Iterator.{YieldsList-from_slice, YieldsList-from_map_by}
use Rattle.std.proofs.lemmas.Iterator.Consumers.{map_from_collect}
use Rattle.gw_rules.specs.declared.set_parameters.Parameter.{Parameter}
use Rattle.gw_flow.specs.declared.state.Param.{Param}
use Rattle.gw_rules.specs.Seen.{kind_seen}
use Rattle.gw_flow.specs.Viewed.{kind_viewed}
use Rattle.gw_flow.proofs.state.params_seen.Goals as goal

pub returns : goal.returns
returns c = map_from_collect _ c.collect.ensures.ran
    (YieldsList-from_map_by _ (λ (p : Param). (p.number, kind_viewed p.kind))
    (λ (p : Parameter). (p.number, kind_seen c.args.returns.now p.kind)) (YieldsList-from_slice c.args.parameters.now cc)
    c.map.ensures.closure (λ x r q k. search rules))
