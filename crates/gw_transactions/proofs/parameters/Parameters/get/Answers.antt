use Rattle.std.proofs.Common.{◌∙◌, ap, sym, subst, rules, arith}
use Rattle.std.specs.Prelude.{None}
use Rattle.std.specs.Option.{IsSome}
use Rattle.gw_num.specs.Table.{at}
use Rattle.gw_transactions.specs.Parameters.{Numbered}
use Rattle.gw_transactions.proofs.Shown.{is_there, value_is}
use Rattle.gw_transactions.proofs.parameters.Parameters.get.Goals as goal

pub index-requires : goal.index-requires
index-requires c =
    let set = subst (λ (v : Numbered). IsSome (at None v.values c.args.number)) (sym c.self.view_is) c.requires in
    omega (arith, (is_there c.self.inside.mask c.args.number c.self.inside.slots.items set).1, c.self.inside.slots.ok.0)

pub returns : goal.returns
returns c =
    let set = subst (λ (v : Numbered). IsSome (at None v.values c.args.number)) (sym c.self.view_is) c.requires in
    ap (λ (v : Numbered). at None v.values c.args.number) (sym c.self.view_is)
    ∙ value_is c.self.inside.mask c.args.number c.self.inside.slots.items _ set (search rules)
