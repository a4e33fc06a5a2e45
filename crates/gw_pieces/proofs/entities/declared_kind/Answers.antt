use Rattle.std.proofs.Common.{◌∙◌, sym, ap}
use Rattle.gw_object_records.specs.Entities.{entity_kind}
use Rattle.gw_pieces.specs.Notes.{unless_piece}
use Rattle.gw_names.specs.Numbers.{numbers_of}
use Rattle.gw_pieces.proofs.entities.declared_kind.Goals as goal

pub returns-in-Some-clause-kind : goal.returns-in-Some-clause-kind
returns-in-Some-clause-kind c none = (
  none,
  sym (ap (λ numbers. entity_kind (numbers_of c.args.plan.now.names) numbers c.args.statement.now) c.numbers_for-first.ensures)
      ∙ sym c.in_ok-kind.ensures ∙ c.in-Some.is,
)

pub returns-in-Some-clause-notes : goal.returns-in-Some-clause-notes
returns-in-Some-clause-notes c =
    let is = sym (ap (λ numbers. entity_kind (numbers_of c.args.plan.now.names) numbers c.args.statement.now) c.numbers_for-first.ensures)
    ∙ sym c.in_ok-kind.ensures ∙ c.in-Some.is in
    sym (ap (λ kind. unless_piece kind c.args.ledger.now.least c.args.statement.now.line) is)
