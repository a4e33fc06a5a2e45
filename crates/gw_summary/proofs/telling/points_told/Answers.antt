use Rattle.std.proofs.Common.{◌++◌, sym, subst}
use Rattle.std.proofs.lemmas.List.{append-nil}
use Rattle.gw_alternatives.specs.Told.{AddsAllDifferences}
use Rattle.gw_summary.proofs.Fronts.{all_behind}
use Rattle.gw_summary.proofs.telling.points_told.Goals as goal

pub returns : goal.returns
returns c =
    let all = c.args.request.all in
    let tables = c.put_tables.new.out.items in
    let told = rw (c.points.ensures, c.new-out.ensures.items) at c.in_ok-put_tables.ensures in
    let behind = all_behind tables all told.0 _ _ told.2 in
    let start = subst (λ bs. AddsAllDifferences all told.0 bs (tables ++ c.put_tables.new.behind.items)) (append-nil tables) behind in
    let whole = (rw c.deref.ensures.value at c.in_ok-extend_from_slice.ensures).items in
    (told.0, tables, told.1, subst (λ bs. AddsAllDifferences all told.0 tables bs) (sym whole) start)
