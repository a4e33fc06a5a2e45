use Rattle.std.proofs.Common.{◌+◌, ◌∙◌, ap, map}
use Rattle.gw_entities.specs.Numbered.{ByNumber}
use Rattle.gw_entities.proofs.Passing.{passes}
use Rattle.gw_entities.proofs.numbered.Numbered.pass_time.Goals as goal

pub returns : goal.returns
returns g c =
    ap (λ vs. record { values = vs; passed = c.self.inside.passed + c.args.dt })
    (passes g.T.Timed.after g.T.Timed.Fits c.self.inside.passed c.args.dt g.met.T.Timed.in_parts c.self.inside.kept.items c.self.invariant.0)
    ∙ ap (λ (n : ByNumber _). record { values = map (g.T.Timed.after c.args.dt) n.values; passed = n.passed + c.args.dt }) c.self.view_is
