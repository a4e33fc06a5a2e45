use Rattle.std.proofs.Common.{◌∙◌, sym, ap}
use Rattle.gw_names.specs.Sights.{limits_in}
use Rattle.gw_names.specs.Ledger.{with_notes}
use Rattle.gw_pieces.specs.Making.{noted_of_names}
use Rattle.gw_pieces.proofs.Succeeding.{on_ok}
use Rattle.gw_pieces.proofs.Noted.{none_noted}
use Rattle.gw_pieces.proofs.planning.plan_of.Goals as goal

pub returns-in-Ok-clause-few : goal.returns-in-Ok-clause-few
returns-in-Ok-clause-few c =
    on_ok c.plan_with.result (λ h none.
    let g = h none in
    ((none_noted c.args.ledger.now.least (limits_in c.as_slice.result.now) (sym c.in-Ok.ensures.ledger ∙ g.0)).0, g.1)) c.plan_with.ensures.few

pub returns-in-Ok-clause-named : goal.returns-in-Ok-clause-named
returns-in-Ok-clause-named c =
    let same = ap limits_in c.as_slice.ensures.value in
    on_ok c.plan_with.result (λ h none.
    let g = h none in
    let l = none_noted c.args.ledger.now.least (limits_in c.as_slice.result.now) (sym c.in-Ok.ensures.ledger ∙ g.0) in
    (l.0, record { limits = sym same ∙ l.1; refusals = g.1 })) c.plan_with.ensures.named

pub returns-in-Ok-clause-notes : goal.returns-in-Ok-clause-notes
returns-in-Ok-clause-notes c =
    let ss = c.args.text.now.statements.items in
    let limits = c.in-Ok.ensures.ledger ∙ ap (λ xs. with_notes c.args.ledger.now.least (limits_in xs)) c.as_slice.ensures.value in
    on_ok c.plan_with.result (λ is. is ∙ ap (noted_of_names ss) limits) c.plan_with.ensures.notes
