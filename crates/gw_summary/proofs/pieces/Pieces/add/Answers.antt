use Rattle.std.proofs.Common.{◌++◌, take}
use Rattle.std.specs.List.{between}
use Rattle.std.proofs.lemmas.List.{take_rest}
use Rattle.std.proofs.lemmas.Result.{err_from_is_err_and}
use Rattle.gw_summary.proofs.Reading.{at_feed, at_other}
use Rattle.gw_summary.proofs.StudyReading.{front_between, front_feed, study_at_end, study_at_feed, study_at_other}
use Rattle.gw_summary.proofs.pieces.Pieces.add.Goals as goal
use Rattle.gw_summary.proofs.pieces.Pieces.add.Goals.{then-piece-i-eq10+in_ok-put+in_ok-end_line, else-piece-i-eq10}

pub loop-i-preserved : goal.loop-i-preserved
loop-i-preserved c =
    let piece = c.args.piece.now in
    elim c.if-piece-i-eq10.branch [
      | then-piece-i-eq10+in_ok-put+in_ok-end_line w ↦ record {
        read = at_feed piece c.loop-i.start c.loop-i.i c.if-piece-i-eq10.start c.args.self.now
            c.loop-i.self w.put.new.self w.end_line.new.self c.if-piece-i-eq10.self c.loop-i-test.true w.if-piece-i-eq10.true
            c.loop-i.invariant.read w.in_ok-put.ensures.read w.in_ok-end_line.ensures.read w.self-is w.start-is;
        study = study_at_feed piece c.loop-i.start c.loop-i.i c.if-piece-i-eq10.start c.args.self.now
            c.loop-i.self w.put.new.self w.end_line.new.self c.if-piece-i-eq10.self c.loop-i.invariant.read.0 c.loop-i-test.true w.if-piece-i-eq10.true
            c.loop-i.invariant.study w.in_ok-put.ensures.study w.in_ok-end_line.ensures.study w.self-is w.start-is;
      }
      | else-piece-i-eq10 w ↦ record {
        read = at_other piece c.loop-i.start c.loop-i.i c.if-piece-i-eq10.start c.args.self.now
            c.loop-i.self c.if-piece-i-eq10.self c.loop-i-test.true w.if-piece-i-eq10.false
            c.loop-i.invariant.read w.self-is w.start-is;
        study = study_at_other piece c.loop-i.start c.if-piece-i-eq10.start c.args.self.now c.loop-i.self c.if-piece-i-eq10.self
            c.loop-i.invariant.study w.self-is w.start-is;
      }
    ]

pub returns-in_err-put-clause-study : goal.returns-in_err-put-clause-study
returns-in_err-put-clause-study c = λ s before readable front was.
    let piece = c.args.piece.now in
    let part = front_between s before piece c.loop-i.start c.loop-i.i c.loop-i.invariant.read.0 front in
    let so_far = c.loop-i.invariant.study s before readable front was in
    let same = err_from_is_err_and c.from_residual.result c.from_residual.ensures.1 in
    rw (same.1, same.2) (c.in_err-put.ensures.study s (before ++ take c.loop-i.start piece) readable part so_far)

pub returns-in_err-end_line-clause-study : goal.returns-in_err-end_line-clause-study
returns-in_err-end_line-clause-study c = λ s before readable front was.
    let piece = c.args.piece.now in
    let start = c.loop-i.start in
    let i = c.loop-i.i in
    let part = front_between s before piece start i c.loop-i.invariant.read.0 front in
    let feed = front_feed s before piece start i c.loop-i.invariant.read.0 c.loop-i-test.true c.if-piece-i-eq10.true front in
    let so_far = c.loop-i.invariant.study s before readable front was in
    let put = c.in_ok-put.ensures.study s (before ++ take start piece) readable part so_far in
    let same = err_from_is_err_and c.from_residual-in_err-end_line.result c.from_residual-in_err-end_line.ensures.1 in
    rw (same.1, same.2) (c.in_err-end_line.ensures.study s ((before ++ take start piece) ++ between start i piece) readable feed put.1)

pub returns-clause-study : goal.returns-clause-study
returns-clause-study c = λ s before readable front was.
    let put = rw (take_rest c.args.piece.now c.loop-i.start) at (c.put-2.ensures.study s) in
    study_at_end s before c.args.piece.now c.loop-i.start c.put-2.result c.args.self.now c.loop-i.self c.put-2.new.self readable front was
    c.loop-i.invariant.study put
