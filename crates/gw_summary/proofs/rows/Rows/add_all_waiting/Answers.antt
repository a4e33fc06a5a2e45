use Rattle.std.proofs.Common.{◌∙◌, ◌++◌, List, Vec, refl, ap, subst, sym}
use Rattle.std.specs.Global.{Global}
use Rattle.std.specs.List.{All}
use Rattle.std.proofs.lemmas.List.{append-nil}
use Rattle.gw_summary.specs.Holding.{AwaitRows}
use Rattle.gw_summary.specs.Keeping.{Takes, lines_of, waiting_lines}
use Rattle.gw_summary.specs.StudyRows.{IsSomeRow}
use Rattle.gw_summary.specs.declared.rows.Rows.{Rows}
use Rattle.gw_summary.specs.declared.rows.Waiting.{Waiting}
use Rattle.gw_summary.proofs.HoldingRows.{then_well, waiting_taken}
use Rattle.gw_summary.proofs.Taking.{then_ok, waited}
use Rattle.gw_summary.proofs.rows.Rows.add_all_waiting.Goals as goal

pub returns-clause-takes : goal.returns-clause-takes
returns-clause-takes c =
    let old = c.args.self.now in
    let middle : Rows = record old { waiting = c.replace-waiting.new.dest } in
    let new = c.add_waiting.new.self in
    let none = ap (λ (v : Vec Waiting Global). v.items) c.replace-waiting.ensures.after ∙ c.new.ensures.items in
    let front = lines_of old.points.items in
    let same = ap (λ (ls : List Waiting). front ++ waiting_lines ls) none ∙ append-nil front in
    let those = c.deref.ensures.value ∙ ap (λ (v : Vec Waiting Global). v.items) c.replace-waiting.ensures.value in
    then_ok c.add_waiting.result (λ t. waited old middle new same refl (subst (λ (ls : List Waiting). Takes (waiting_lines ls) middle new) those t))
    c.add_waiting.ensures.takes

pub returns-clause-study : goal.returns-clause-study
returns-clause-study c =
    let old = c.args.self.now in
    let middle : Rows = record old { waiting = c.replace-waiting.new.dest } in
    let none = ap (λ (v : Vec Waiting Global). v.items) c.replace-waiting.ensures.after ∙ c.new.ensures.items in
    let those = c.deref.ensures.value ∙ ap (λ (v : Vec Waiting Global). v.items) c.replace-waiting.ensures.value in
    λ s readable holds begun some.
    let await : AwaitRows s c.deref.result.now middle = record {
      rows_are = subst (λ ws. All (λ (w : Waiting). IsSomeRow s w.line.items) ws) (sym those) holds.waiting;
      header = some;
      held = waiting_taken s old middle none refl begun holds;
    } in
    then_well c.add_waiting.result _ _ (λ done stays. record { held = stays.held; header = stays.header })
    (c.add_waiting.ensures.study s readable await)
