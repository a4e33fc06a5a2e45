use Rattle.std.proofs.Common.{◌∙◌, ap, rules, pos, arith}
use Rattle.std.specs.Prelude.{None, unwrap_or}
use Rattle.gw_num.specs.Table.{at}
use Rattle.gw_transactions.specs.Parameters.{Numbered}
use Rattle.gw_transactions.proofs.Shown.{zero_or_value}
use Rattle.gw_transactions.proofs.parameters.Parameters.get_or_zero.Goals as goal

pub returns : goal.returns
returns c =
    let few = ap (λ (v : Numbered). v.last) c.self.view_is in
    zero_or_value c.self.inside.mask c.args.number c.self.inside.slots.items _ c.requires.0 (omega (arith, few, c.requires.1))
    c.self.invariant.unset (search rules)
    ∙ ap (λ (v : Numbered). unwrap_or (at None v.values c.args.number) (pos 0)) c.self.view_is
