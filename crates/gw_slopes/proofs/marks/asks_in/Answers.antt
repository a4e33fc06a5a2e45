use Rattle.std.proofs.Common.{◌≡◌, ℕ, List, false, refl, sym, ap, ◌∙◌, get_or}
use Rattle.std.specs.List.{list_any}
use Rattle.gw_rules.specs.Rows.{kind_of, return_blocks}
use Rattle.gw_rules.specs.Seen.{row_meaning}
use Rattle.gw_slopes.proofs.Returning.{any_behind}
use Rattle.gw_slopes.proofs.marks.asks_in.Goals as goal

pub returns-in-TransferByParameter : goal.returns-in-TransferByParameter
returns-in-TransferByParameter c =
    let held = c.in-TransferByParameter.held in
    let callers : List ℕ = return_blocks (kind_of (row_meaning c.args.parts.now.returns c.args.row.now) held) in
    let read : c.blocks_read-callers.result.now ≡ callers = rw (c.blocks_read-callers.ensures, c.as_slice.ensures) refl in
    let is = sym (any_behind c.args.marks.now c.args.number held c.args.parameter callers) in
    rw (c.in-TransferByParameter.is)
    (c.is_one_marked_behind.ensures ∙ ap (λ (cs : List ℕ). list_any (λ caller. get_or c.args.marks.now caller false) cs) read ∙ is)
