use Rattle.std.proofs.Common.{◌≡◌, ◌++◌, drop}
use Rattle.gw_names.specs.Known.{found_in}
use Rattle.gw_pieces.specs.Order.{origins_from}
use Rattle.gw_pieces.proofs.origins.origins_of.Given as goal

-- the origins in the statements that are left are still to come
abbrev pub invariant-loop-number : goal.invariant-loop-number
invariant-loop-number l = l.origins.items ++ origins_from (found_in l.known.equ_numbers) l.number (drop l.number l.model.statements.items)
    ≡ origins_from (found_in l.known.equ_numbers) 0 l.model.statements.items
