-- Each line is skipped, or a statement begins there and is added to the others.
use Rattle.std.proofs.Common.{◌≡◌, length, map, arith, sym, subst}
use Rattle.std.proofs.lemmas.List.{length-map}
use Rattle.std.proofs.lemmas.Result.{err_from_is_err_and}
use Rattle.gw_text.specs.Knowing.{Knows}
use Rattle.gw_text.proofs.Known.{knows_next}
use Rattle.gw_text.proofs.ReadLines.{Reads, reads_none, reads_next, reads_all}
use Rattle.gw_text.proofs.parsing.read_lines.Goals as goal

pub loop-i-init : goal.loop-i-init
loop-i-init c =
    let lines = map (λ x. x.now) c.args.lines.now in
    (subst (Knows c.args.reader.now) (sym c.requires.none) c.requires.known, subst (Reads lines 0 0) (sym c.requires.none) (reads_none lines))

pub loop-i-preserved : goal.loop-i-preserved
loop-i-preserved c =
    let reader = c.loop-i.reader in
    let after = c.found_at.new.reader in
    let statements = c.loop-i.statements.items in
    let more = c.add.new.statements.items in
    let found = c.in_ok-found.found in
    let grown = c.in_ok-add.ensures.added in
    let known = c.loop-i.invariant.0 in
    let seen = c.in_ok-found.ensures.known in (
      knows_next reader after statements more found grown known seen,
      reads_next (map (λ x. x.now) c.args.lines.now) c.loop-i.i c.loop-i.next statements found c.add.new.next more reader after
          (omega (arith, c.if-i-next.false)) c.in_ok-found.ensures.found c.in_ok-add.ensures.next grown known seen c.loop-i.invariant.1,
    )

pub returns-clause-read : goal.returns-clause-read
returns-clause-read c =
    let count : length (map (λ x. x.now) c.args.lines.now) ≡ length c.args.lines.now = length-map c.args.lines.now (λ x. x.now) in
    reads_all (map (λ x. x.now) c.args.lines.now) c.loop-i.i c.loop-i.next c.loop-i.statements.items c.loop-i.reader
    (omega (arith, count, c.loop-i-test.false)) c.loop-i.invariant.0 c.loop-i.invariant.1

pub returns-in_err-add-clause-refused : goal.returns-in_err-add-clause-refused
returns-in_err-add-clause-refused c =
    let p = err_from_is_err_and c.from_residual-in_err-add.result c.from_residual-in_err-add.ensures.1 in
    rw (p.1, p.2) (c.in_err-add.ensures.refused (length c.args.lines.now))
