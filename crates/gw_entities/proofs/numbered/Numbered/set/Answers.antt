use Rattle.std.proofs.Common.{◌∙◌, ap}
use Rattle.gw_num.specs.Table.{at, put}
use Rattle.gw_num.proofs.Tables.{at-put, put-at}
use Rattle.gw_entities.specs.Numbered.{ByNumber}
use Rattle.gw_entities.proofs.Passing.{written}
use Rattle.gw_entities.proofs.numbered.Numbered.set.Goals as goal

pub returns-clause-written : goal.returns-clause-written
returns-clause-written g c =
    let d = g.T.Timed.none in
    ap (λ vs. record { values = vs; passed = c.self.inside.passed })
    (written g.T.Timed.after c.self.inside.passed c.self.inside.kept.items _ c.self.view_is c.args.number c.requires.there
    g.met.T.Timed.at_once d c.args.value)
    ∙ ap (λ (n : ByNumber _). record { values = put d c.args.self.now.values c.args.number c.args.value; passed = n.passed }) c.self.view_is

pub returns-clause-left : goal.returns-clause-left
returns-clause-left g c =
    let d = g.T.Timed.none in
    ap (λ (n : ByNumber _). at d n.values c.args.number) (returns-clause-written g c) ∙ at-put d c.args.self.now.values c.args.number c.args.value

pub returns-clause-same : goal.returns-clause-same
returns-clause-same g c =
    let d = g.T.Timed.none in
    λ same. returns-clause-written g c
    ∙ ap (λ vs. record { values = vs; passed = c.args.self.now.passed })
    (ap (put d c.args.self.now.values c.args.number) same ∙ put-at d c.args.self.now.values c.args.number c.requires.there)
