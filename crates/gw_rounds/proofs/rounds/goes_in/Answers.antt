use Rattle.std.proofs.Common.{◌≡◌, ℕ, List, refl, sym, ap, ◌∙◌}
use Rattle.std.specs.List.{list_any}
use Rattle.gw_rules.specs.Rows.{kind_of, return_blocks}
use Rattle.gw_rules.specs.Seen.{row_meaning}
use Rattle.gw_rounds.specs.Rounds as model
use Rattle.gw_rounds.proofs.Returning.{any_behind}
use Rattle.gw_rounds.proofs.rounds.goes_in.Goals as goal

pub returns-in-TransferByParameter : goal.returns-in-TransferByParameter
returns-in-TransferByParameter c =
    let held = c.in-TransferByParameter.held in
    let next = c.args.next in
    let callers : List ℕ = return_blocks (kind_of (row_meaning c.args.parts.now.returns c.args.row.now) held) in
    let read : c.blocks_read.result.now ≡ callers = rw (c.blocks_read.ensures, c.as_slice.ensures) refl in
    let is = sym (any_behind c.args.number next callers) in
    rw (c.in-TransferByParameter.is) (c.is_behind.ensures ∙ ap (λ (cs : List ℕ). list_any (λ caller. model.is_behind caller next) cs) read ∙ is)
