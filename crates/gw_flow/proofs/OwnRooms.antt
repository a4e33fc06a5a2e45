-- Amounts that have room for what a block adds, and return rows whose blocks are there.
use Rattle.std.proofs.Common.{ℕ, ◌+◌, ◌≤◌, length, get_or, ◌^◌, List, arith}
use Rattle.std.specs.Prelude.{All}
use Rattle.gw_object.specs.declared.parts.Parts.{Parts}
use Rattle.gw_rules.specs.KindsLaws.{ReturnsHold}
use Rattle.gw_returns.specs.Columns.{AreBelow}
use Rattle.gw_flow.specs.declared.abstract_state.Amount.{Amount}
use Rattle.gw_rules.specs.Entries.{amount_of}
use Rattle.gw_flow.specs.Known.{amounts_of}
use Rattle.gw_rules.proofs.Rooms.{entries_have_room, call_below}

-- where each amount has room, so does what is read for any entity
pub amounts_have_room : (us : List Amount) → All (λ (a : Amount). a.number ≤ 2 ^ 62) us → (e : ℕ) → amount_of (amounts_of us) e ≤ 2 ^ 62
amounts_have_room us h e = entries_have_room (λ (a : Amount). a.entity) (λ (a : Amount). a.number) us h e

-- the blocks of return rows, which kinds find to be calls, are those of the object
pub calls_are_below : (p : Parts) → All (ReturnsHold p) p.returns → AreBelow (length p.blocks + 1) p.returns
calls_are_below p calls i d within j e inside =
    let below = call_below p.blocks (get_or (get_or p.returns i d).blocks j e) (calls i d within j e inside) in
    omega (arith, below)
