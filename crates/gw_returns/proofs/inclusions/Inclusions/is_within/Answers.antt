use Rattle.std.proofs.Common.{◌≡◌, List, length, ◌==◌, sym, ap, subst, ◌∙◌}
use Rattle.gw_object.specs.declared.parts.ReturnRow.{ReturnRow}
use Rattle.gw_object.specs.Returns.{are_among, row_blocks}
use Rattle.gw_returns.proofs.Telling.{no_row, among_none}
use Rattle.gw_returns.proofs.inclusions.Inclusions.is_within.Goals.{else-at-self-via-then-at-self+else-place-self, else-at-self-via-else-at-self}
use Rattle.gw_returns.proofs.inclusions.Inclusions.is_within.Goals as goal

pub returns-else-at-self : goal.returns-else-at-self
returns-else-at-self c =
    let rows = c.self.inside.rows.now in
    let bs = row_blocks rows c.args.row in
    let empty : c.is_empty.result ≡ (length bs == 0) = c.is_empty.ensures ∙ ap (λ xs. length xs == 0) c.blocks_of.ensures in
    let among : c.is_empty.result ≡ are_among bs (row_blocks rows c.args.other) =
    elim c.else-at-self.branch [
      | else-at-self-via-then-at-self+else-place-self w ↦
          empty ∙ sym (among_none bs) ∙ ap (are_among bs) (sym (no_row rows c.args.other w.if-place-self.false))
      | else-at-self-via-else-at-self w ↦
          let none = no_row rows c.args.row w.if-at-self.false in
          empty ∙ ap (λ xs. length xs == 0) none ∙ ap (λ xs. are_among xs (row_blocks rows c.args.other)) (sym none)
    ] in
    subst (λ (all : List ReturnRow). c.is_empty.result ≡ are_among (row_blocks all c.args.row) (row_blocks all c.args.other)) c.self.view_is among
