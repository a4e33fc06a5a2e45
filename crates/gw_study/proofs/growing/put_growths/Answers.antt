use Rattle.std.proofs.Common.{◌≡◌, ◌∙◌, ◌<◌, ◌+◌, ◌++◌, ◌∷◌, [], length, take, sym, ap, subst, arith}
use Rattle.std.proofs.lemmas.List.{map_more}
use Rattle.gw_figures.specs.declared.figure.Figure.{Figure}
use Rattle.gw_figures.specs.Labels.{label_of, labels}
use Rattle.gw_study.specs.Table.{rows, Adds, ArePieces, IsGrowthOf}
use Rattle.gw_study.proofs.Pieces.{no_pieces, piece_more, so_many}
use Rattle.gw_study.proofs.growing.put_growths.Goals as goal

pub loop-i-init : goal.loop-i-init
loop-i-init c = no_pieces (IsGrowthOf (rows c.args.rows.now) (rows c.args.trends.now)) c.args.out.now.items

pub loop-i-preserved : goal.loop-i-preserved
loop-i-preserved c =
    let figures = c.args.figures.now in
    let i = c.loop-i.i in
    let figure = c.index-figures-i.result in
    let below : i < length figures = omega arith in
    let grown = piece_more (IsGrowthOf (rows c.args.rows.now) (rows c.args.trends.now)) i (labels (take i figures)) (label_of figure)
    c.args.out.now.items c.loop-i.out.items c.put_growth.new.out.items
    c.loop-i.invariant (so_many i figures below) c.in_ok-put_growth.ensures in
    let same : labels (take (i + 1) figures) ≡ labels (take i figures) ++ label_of figure ∷ [] =
    map_more label_of figures i figure below ∙ ap (λ (f : Figure). labels (take i figures) ++ label_of f ∷ []) (sym c.index-figures-i.is) in
    subst (λ xs. Adds (ArePieces (IsGrowthOf (rows c.args.rows.now) (rows c.args.trends.now)) 0 xs) c.args.out.now.items
    c.put_growth.new.out.items) (sym same) grown
