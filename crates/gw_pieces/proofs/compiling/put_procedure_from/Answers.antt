use Rattle.gw_names.specs.Numbers.{numbers_of}
use Rattle.gw_pieces.specs.Notes.{or_missing}
use Rattle.gw_pieces.proofs.Noting.{ends_with, one_missing}
use Rattle.gw_pieces.proofs.Reasoning.{at_statement, astray_origin, none_due}
use Rattle.gw_pieces.proofs.Succeeding.{on_ok}
use Rattle.gw_pieces.proofs.Walks.{read_at, none_at}
use Rattle.gw_pieces.proofs.Compiled.{comes_from}
use Rattle.gw_pieces.proofs.compiling.put_procedure_from.Goals as goal

pub returns-in-Some-clause-grown : goal.returns-in-Some-clause-grown
returns-in-Some-clause-grown c =
    let ss = c.args.plan.now.text.now.statements.items in
    let read = c.in-Some.ensures.lookup.3 in
    let there = read_at ss c.deref.result.now c.args.origin.statement c.in-Some.statement.now c.deref.ensures.value read.0 read.1 in
    on_ok c.put_procedure.result (λ f none. ((f none).0, comes_from _ ss c.args.origin c.in-Some.statement.now there _ _ (f none).1))
    c.put_procedure.ensures.grown

pub returns-in-Some-clause-notes : goal.returns-in-Some-clause-notes
returns-in-Some-clause-notes c =
    let ss = c.args.plan.now.text.now.statements.items in
    let read = c.in-Some.ensures.lookup.3 in
    let there = read_at ss c.deref.result.now c.args.origin.statement c.in-Some.statement.now c.deref.ensures.value read.0 read.1 in
    on_ok c.put_procedure.result (at_statement (numbers_of c.args.plan.now.names) ss c.args.origin c.in-Some.statement.now there _ _)
    c.put_procedure.ensures.notes

pub returns-in-None-clause-notes : goal.returns-in-None-clause-notes
returns-in-None-clause-notes c =
    let ss = c.args.plan.now.text.now.statements.items in
    let none = none_at ss c.deref.result.now c.args.origin.statement c.deref.ensures.value c.in-None.ensures.lookup.3 in
    let least = c.args.ledger.now.least in
    let n = numbers_of c.args.plan.now.names in
    on_ok c.note_blamed.result
    (λ is. ends_with least (or_missing least 0) _ is
    (one_missing least 0 (astray_origin n ss c.args.origin none) (none_due n ss c.args.origin none))) c.note_blamed.ensures.notes
