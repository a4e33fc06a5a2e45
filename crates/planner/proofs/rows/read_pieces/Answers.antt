use Rattle.std.proofs.Common.{rules, ℕ, ◌++◌, [], Err}
use Rattle.planner.specs.Reading.{RefusesNoLine}
use Rattle.planner.proofs.Summing.{consumed_on, all_consumed, none_refused, nothing_consumed, studies_on}
use Rattle.planner.proofs.rows.read_pieces.Goals as goal

pub returns-then-branch-eq0-clause-read : goal.returns-then-branch-eq0-clause-read
returns-then-branch-eq0-clause-read g c =
    let so_far = c.loop.invariant.1 in
    let read = c.in_ok-read_piece.ensures.read in
    let left = c.read_piece.new.reader.left in
    let known = consumed_on c.args.reader.now.left c.loop.reader.left left so_far.0 read.0 so_far.1 read.1 in (
      so_far.0 ++ read.0,
      all_consumed c.args.reader.now.left left _ known (read.3 c.if-branch-eq0.true),
      read.2 so_far.0 so_far.2,
      studies_on so_far.0 read.0 c.loop.pieces c.read_piece.new.pieces so_far.3 read.4,
    )

pub loop-preserved : goal.loop-preserved
loop-preserved g c =
    let so_far = c.loop.invariant.1 in
    let read = c.in_ok-read_piece.ensures.read in
    let known = consumed_on c.args.reader.now.left c.loop.reader.left c.read_piece.new.reader.left so_far.0 read.0 so_far.1 read.1 in (
      c.in_ok-read_piece.ensures.told,
      (
        so_far.0 ++ read.0,
        known,
        read.2 so_far.0 so_far.2,
        studies_on so_far.0 read.0 c.loop.pieces c.read_piece.new.pieces so_far.3 read.4,
      ),
    )

pub loop-init : goal.loop-init
loop-init g c =
    (c.requires.reader, ([], nothing_consumed c.args.reader.now.left, c.requires.none, λ s readable front. c.requires.nothing s))

pub returns-in_err-read_piece-clause-study : goal.returns-in_err-read_piece-clause-study
returns-in_err-read_piece-clause-study g c = λ s readable on.
    let so_far = c.loop.invariant.1 in
    let none = none_refused c.read_piece.result c.args.reader.now.left c.loop.reader.left so_far.0 c.loop.pieces so_far.1 so_far.3
    c.read_piece.ensures.study s readable on in
    let here : RefusesNoLine {X = ℕ} (Err c.in_err-read_piece.field-0.0) = rw c.in_err-read_piece.was at none in
    search (rules, here)
