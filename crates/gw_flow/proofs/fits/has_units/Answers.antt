use Rattle.std.proofs.Common.{◌≢◌, ◌≡◌, ◌∙◌, false, List, get_or, nat_le, arith}
use Rattle.std.specs.Prelude.{All, unwrap_or}
use Rattle.std.proofs.lemmas.Bool.{lt-leb}
use Rattle.gw_flow.specs.declared.abstract_state.Amount.{Amount}
use Rattle.gw_flow.proofs.Holding.{each_by_entry}
use Rattle.gw_flow.proofs.fits.has_units.Goals as goal

-- where none is held, none of them suffices
none_held : (asked : List Amount) → All (λ (a : Amount). a.number ≢ 0) asked → All (λ (a : Amount). nat_le a.number 0 ≡ false) asked
none_held asked h i d within = let some : (get_or asked i d).number ≢ 0 = h i d within in lt-leb (get_or asked i d).number 0 (omega arith)

pub returns : goal.returns
returns c =
    c.has_each.ensures
    ∙ each_by_entry (λ (a : Amount). a.entity) (λ (a : Amount). a.number) (λ h a. nat_le (unwrap_or a 0) (unwrap_or h 0)) c.args.held.now c.args.asked.now
    c.requires.held c.requires.asked (none_held c.args.asked.now c.requires.amounts)
