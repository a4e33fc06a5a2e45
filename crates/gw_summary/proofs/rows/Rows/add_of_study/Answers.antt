use Rattle.std.proofs.Common.{◌≡◌, ◌∙◌, ◌∷◌, [], ap, sym, subst}
use Rattle.gw_rows.specs.Rows.{Source}
use Rattle.gw_summary.specs.Holding.{HoldsAtPoints, IsFrom}
use Rattle.gw_summary.specs.Keeping.{HaveSame}
use Rattle.gw_summary.specs.declared.rows.Rows.{Rows}
use Rattle.gw_summary.proofs.HoldingRows.{row_added, study_begun, then_well}
use Rattle.gw_summary.proofs.Taking.{then_ok, same_then}
use Rattle.gw_summary.proofs.rows.Rows.add_of_study.Goals as goal

pub returns-clause-takes : goal.returns-clause-takes
returns-clause-takes c =
    let old = c.args.self.now in
    let same = subst (λ (r : Rows). HaveSame old r) (sym c.begin_study.ensures.others) c.in_ok-place.ensures.same in
    then_ok c.add_at.result (λ t. same_then (c.args.line.now ∷ []) old c.begin_study.new.self c.add_at.new.self same t) c.add_at.ensures.takes

pub returns-clause-study : goal.returns-clause-study
returns-clause-study c =
    let old = c.args.self.now in
    let placed = c.place_with.new.self in
    let begun = c.begin_study.new.self in
    λ s unnamed readable is held.
    let empty : c.deref.result.now ≡ [] = c.deref.ensures.value ∙ ap (λ (x : Source). x.point) is.source ∙ readable.point in
    let first : HoldsAtPoints s old placed = c.in_ok-place.ensures.study s empty held.holds in
    let from : IsFrom s c.args.row.origin c.args.numbers.names.items = record { source = is.source; names_are = unnamed } in
    let second = c.begin_study.ensures.study s from first.holds.study in
    let holds = study_begun s placed begun c.begin_study.ensures.others second.0 first.holds in
    then_well c.add_at.result _ _
    (λ done third. row_added s old placed begun c.add_at.new.self first.others c.begin_study.ensures.others second.1 third held)
    (c.add_at.ensures.study s is.line_is holds)
