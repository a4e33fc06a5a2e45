use Rattle.std.proofs.Common.{◌≡◌, ◌∙◌, ◌++◌, ℕ, ℤ, List, Option, length, vec_len, arith, ap, sym, subst}
use Rattle.std.proofs.lemmas.List.{length-map}
use Rattle.gw_figures.specs.declared.figure.Figure.{Figure}
use Rattle.gw_figures.specs.declared.run.Run.{Run}
use Rattle.gw_figures.specs.Labels.{labels}
use Rattle.gw_study.specs.Text.{head_line}
use Rattle.gw_study.specs.Table.{Adds, ArePieces, IsRowOf, IsTrendOf, IsGrowthOf, rows, values_of_done, trends_of_done, suggestion, first_line}
use Rattle.gw_study.specs.Table.{ends_line, more_line}
use Rattle.gw_study.proofs.Joining.{joined}
use Rattle.gw_study.proofs.telling.table.Goals as goal

pub returns : goal.returns
returns c =
    let runs = c.args.results.now.runs.items in
    let figures = c.args.results.now.figures.items in
    let request = c.args.request.now in
    let a = c.put_first.new.out.items in
    let b = c.put_ends.new.out.items in
    let d = c.put_head.new.out.items in
    let e = c.put_rows.new.out.items in
    let f = c.put_more.new.out.items in
    let g = c.put_trends.new.out.items in
    let h = c.put_growths.new.out.items in
    let values_are : rows c.deref-6.result.now ≡ values_of_done runs =
    ap rows c.deref-6.ensures.value ∙ c.in_ok-values.ensures.rows ∙ ap values_of_done c.deref.ensures.value in
    let trends_are : rows c.deref-8.result.now ≡ trends_of_done runs =
    ap rows c.deref-8.ensures.value ∙ c.in_ok-trends.ensures.rows ∙ ap trends_of_done c.deref-2.ensures.value in
    let is_first : a ≡ first_line runs request.from =
    c.in_ok-put_first.ensures ∙ ap (λ (xs : List ℕ). xs ++ first_line c.deref-3.result.now request.from) c.new-out.ensures.items
    ∙ ap (λ (rs : List Run). first_line rs request.from) c.deref-3.ensures.value in
    let is_ends : b ≡ a ++ ends_line runs = c.in_ok-put_ends.ensures ∙ ap (λ (rs : List Run). a ++ ends_line rs) c.deref-4.ensures.value in
    let by_values = subst (λ (vs : List (List (Option ℤ))). Adds (ArePieces (IsRowOf vs request.all) 0 (labels c.deref-5.result.now)) d e)
    values_are c.in_ok-put_rows.ensures in
    let is_rows = subst (λ (fs : List Figure). Adds (ArePieces (IsRowOf (values_of_done runs) request.all) 0 (labels fs)) d e)
    c.deref-5.ensures.value by_values in
    let counted : vec_len c.in_ok-values.values ≡ length c.in_ok-values.values.items = omega (arith, c.in_ok-values.values.ok.0) in
    let so_many : c.len.result ≡ length (values_of_done runs) =
    c.len.ensures ∙ counted ∙ sym (length-map c.in_ok-values.values.items (λ row. row.now))
    ∙ ap length (c.in_ok-values.ensures.rows ∙ ap values_of_done c.deref.ensures.value) in
    let is_more : f ≡ e ++ more_line (length (values_of_done runs)) = c.in_ok-put_more.ensures ∙ ap (λ (n : ℕ). e ++ more_line n) so_many in
    let by_trends = subst (λ (ts : List (List (Option ℤ))). Adds
    (ArePieces (IsTrendOf ts c.suggestion-suggested.result) 0 (labels c.deref-7.result.now)) f g) trends_are c.in_ok-put_trends.ensures in
    let by_start = subst (λ (n : ℕ). Adds (ArePieces (IsTrendOf (trends_of_done runs) n) 0 (labels c.deref-7.result.now)) f g)
    c.suggestion-suggested.ensures by_trends in
    let is_trends = subst (λ (fs : List Figure). Adds
    (ArePieces (IsTrendOf (trends_of_done runs) (suggestion c.args.count request.from)) 0 (labels fs)) f g) c.deref-7.ensures.value by_start in
    let values_too : rows c.deref-10.result.now ≡ values_of_done runs =
    ap rows c.deref-10.ensures.value ∙ c.in_ok-values.ensures.rows ∙ ap values_of_done c.deref.ensures.value in
    let trends_too : rows c.deref-11.result.now ≡ trends_of_done runs =
    ap rows c.deref-11.ensures.value ∙ c.in_ok-trends.ensures.rows ∙ ap trends_of_done c.deref-2.ensures.value in
    let by_lasts = subst (λ (vs : List (List (Option ℤ))). Adds
    (ArePieces (IsGrowthOf vs (rows c.deref-11.result.now)) 0 (labels c.deref-9.result.now)) g h) values_too c.in_ok-put_growths.ensures in
    let by_changes = subst (λ (ts : List (List (Option ℤ))). Adds
    (ArePieces (IsGrowthOf (values_of_done runs) ts) 0 (labels c.deref-9.result.now)) g h) trends_too by_lasts in
    let is_growths = subst (λ (fs : List Figure). Adds (ArePieces (IsGrowthOf (values_of_done runs) (trends_of_done runs)) 0 (labels fs)) g
    h) c.deref-9.ensures.value by_changes in
    joined (ArePieces (IsRowOf (values_of_done runs) request.all) 0 (labels figures))
    (ArePieces (IsTrendOf (trends_of_done runs) (suggestion c.args.count request.from)) 0 (labels figures))
    (ArePieces (IsGrowthOf (values_of_done runs) (trends_of_done runs)) 0 (labels figures))
    (first_line runs request.from) (ends_line runs) head_line (more_line (length (values_of_done runs))) a b d e f g h
    is_first is_ends c.in_ok-put_head.ensures is_rows is_more is_trends is_growths
