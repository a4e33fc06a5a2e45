use Rattle.std.proofs.Common.{[], sym, subst}
use Rattle.std.proofs.lemmas.List.Elements.{All-nil}
use Rattle.gw_object.specs.Grammar.{AreAscending}
use Rattle.gw_rules.specs.Rows.{KindAscends}
use Rattle.gw_flow.proofs.Ordered.{seen_ascends}
use Rattle.gw_flow.proofs.edges.with_setting.Goals as goal

pub with_parameter-requires : goal.with_parameter-requires
with_parameter-requires c = subst KindAscends (sym c.param_seen-param.ensures.kind) (seen_ascends [] (All-nil AreAscending) c.in-Some.parameter.kind)
