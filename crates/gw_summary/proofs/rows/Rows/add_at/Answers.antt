use Rattle.std.proofs.Common.{◌<◌, arith, refl, subst, length}
use Rattle.gw_summary.specs.Keeping.{AddsLine, lines_at, waiting_lines}
use Rattle.gw_summary.specs.declared.point.Adding.{Adding}
use Rattle.gw_summary.specs.declared.point.Adding.TheVariants.{New, Again}
use Rattle.gw_summary.proofs.Keeping.{add_behind, point_set}
use Rattle.gw_summary.proofs.Taking.{takes_more, takes_again}
use Rattle.gw_summary.proofs.rows.Rows.add_at.Goals as goal

pub returns-in-New-clause-takes : goal.returns-in-New-clause-takes
returns-in-New-clause-takes c =
    let old = c.args.self.now in
    let line = c.args.line.now in
    let x = c.index_mut.result.now in
    let within : c.args.place < length old.points.items = omega (arith, c.requires.0, old.points.ok.0) in
    let adds = subst (λ (a : Adding). AddsLine a line (lines_at x.lines.items) (lines_at c.add.new.self.lines.items)) c.in-New.is c.in_ok-add.ensures.lines in
    let all = point_set old.points.items c.args.place x c.add.new.self New line within c.index_mut.ensures.value adds in
    takes_more line old _ (add_behind (waiting_lines old.waiting.items) New line _ _ all) refl

pub returns-in-Again-clause-takes : goal.returns-in-Again-clause-takes
returns-in-Again-clause-takes c =
    let old = c.args.self.now in
    let line = c.args.line.now in
    let x = c.index_mut.result.now in
    let within : c.args.place < length old.points.items = omega (arith, c.requires.0, old.points.ok.0) in
    let adds = subst (λ (a : Adding). AddsLine a line (lines_at x.lines.items) (lines_at c.add.new.self.lines.items)) c.in-Again.is c.in_ok-add.ensures.lines in
    let all = point_set old.points.items c.args.place x c.add.new.self Again line within c.index_mut.ensures.value adds in
    let behind = add_behind (waiting_lines old.waiting.items) Again line _ _ all in
    takes_again line old _ behind.0 behind.1 refl
