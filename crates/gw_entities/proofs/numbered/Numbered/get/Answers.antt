use Rattle.std.proofs.Common.{◌∙◌, ap}
use Rattle.gw_entities.specs.Numbered.{today}
use Rattle.gw_entities.proofs.Passing.{read}
use Rattle.gw_entities.proofs.numbered.Numbered.get.Goals as goal

pub returns-clause-value : goal.returns-clause-value
returns-clause-value g c =
    c.today.ensures.value ∙ ap (today g.T.Timed.after c.self.inside.passed) c.index.ensures
    ∙ read g.T.Timed.after c.self.inside.passed c.self.inside.kept.items _ c.self.view_is c.args.number c.requires g.T.Timed.none _
