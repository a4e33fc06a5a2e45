use Rattle.std.proofs.lemmas.Result.{err_from_is_err_and}
use Rattle.gw_summary.proofs.Reading.{line_ended}
use Rattle.gw_summary.proofs.StudyReading.{end_read, line_is}
use Rattle.gw_summary.proofs.pieces.Pieces.end_line.Goals as goal

pub returns-in_err-add_line-clause-study : goal.returns-in_err-add_line-clause-study
returns-in_err-add_line-clause-study c = λ s before readable front was.
    let line = line_is s before c.args.self.now.rest.items was.read.lines was.read.split front in
    let study = rw c.deref.ensures.value at (c.in_err-add_line.ensures.study s) in
    let same = err_from_is_err_and c.from_residual.result c.from_residual.ensures.1 in
    rw (same.1, same.2) (study readable line was.held)

pub returns-clause-read : goal.returns-clause-read
returns-clause-read c = λ before read. line_ended before c.args.self.now _ c.clear.ensures.items
    (rw c.deref.ensures.value at c.in_ok-add_line.ensures.takes) read

pub returns-clause-study : goal.returns-clause-study
returns-clause-study c = λ s before readable front was.
    let line = line_is s before c.args.self.now.rest.items was.read.lines was.read.split front in
    let takes = rw c.deref.ensures.value at c.in_ok-add_line.ensures.takes in
    let study = rw c.deref.ensures.value at (c.in_ok-add_line.ensures.study s) in
    (tt, end_read s before c.args.self.now _ c.clear.ensures.items takes (study readable line was.held).1 was)
