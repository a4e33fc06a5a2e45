use Rattle.std.proofs.Common.{subst, sym, refl, inl, inr, string_bytes}
use Rattle.gw_object_records.specs.Entities.{entity_kind}
use Rattle.gw_pieces.specs.Notes.{or_missing}
use Rattle.gw_names.specs.Numbers.{numbers_of}
use Rattle.gw_pieces.specs.Origins.{numbers_for}
use Rattle.gw_pieces.specs.Entities.{IsKindBy}
use Rattle.gw_pieces.proofs.Noting.{ends_with, one_missing, unless}
use Rattle.gw_pieces.proofs.Succeeding.{on_ok, on_every_ok}
use Rattle.gw_pieces.proofs.Walks.{read_at, none_at}
use Rattle.gw_pieces.proofs.entities.kind_of_sighted.Goals as goal

pub returns-in-Some-get-clause-kind : goal.returns-in-Some-get-clause-kind
returns-in-Some-get-clause-kind c =
    let ss = c.args.plan.now.text.now.statements.items in
    let read = c.in-Some-get.ensures.lookup.3 in
    let there = read_at ss c.deref.result.now c.in-Some.number c.in-Some-get.statement.now c.deref.ensures.value read.0 read.1 in
    on_every_ok c.declared_kind.result
    (λ kind h none. (
      (h none).0,
      subst (λ d. IsKindBy (numbers_of c.args.plan.now.names) c.args.plan.now.order.items ss d c.args.sighted.now.kind
          (string_bytes c.args.sighted.now.name) kind) (sym c.in-Some.is)
          (c.in-Some-get.statement.now, there, ((numbers_of c.args.plan.now.names).source, (h none).1)),
    )) c.declared_kind.ensures.kind

pub returns-in-Some-get-clause-notes : goal.returns-in-Some-get-clause-notes
returns-in-Some-get-clause-notes c =
    let ss = c.args.plan.now.text.now.statements.items in
    let n = numbers_of c.args.plan.now.names in
    let s = c.in-Some-get.statement.now in
    let i = c.in-Some.number in
    let read = c.in-Some-get.ensures.lookup.3 in
    let there = read_at ss c.deref.result.now i s c.deref.ensures.value read.0 read.1 in
    let kind = entity_kind n (numbers_for n c.args.plan.now.order.items s i) s in
    let least = c.args.ledger.now.least in
    on_ok c.declared_kind.result
    (λ is. ends_with least _ _ is
    (unless kind least s.line
    (λ none. inl (i, c.in-Some.is, record { statement = s; there = there; reason = (n.source, none); noted = refl })))) c.declared_kind.ensures.notes

pub returns-in-None-get-clause-notes : goal.returns-in-None-get-clause-notes
returns-in-None-get-clause-notes c =
    let ss = c.args.plan.now.text.now.statements.items in
    let i = c.in-Some.number in
    let none = none_at ss c.deref.result.now i c.deref.ensures.value c.in-None-get.ensures.lookup.3 in
    let least = c.args.ledger.now.least in
    ends_with least (or_missing least 0) _ c.note_none.ensures.notes
    (one_missing least 0 (inr (record { place = i; needed = c.in-Some.is; missing = none; noted = refl })) (λ note d. d))
