use Rattle.std.proofs.Common.{◌≡◌, ◌++◌, drop}
use Rattle.std.specs.List.{flat_map}
use Rattle.gw_name_uses.specs.Mentions.{mentions}
use Rattle.gw_pieces.specs.Order.{lookup_of, place_called}
use Rattle.gw_pieces.proofs.order.put_callees.Given as goal

-- the places of those that are left are still to come
abbrev pub invariant-loop-i : goal.invariant-loop-i
invariant-loop-i l = l.fn.callees.items ++ flat_map (place_called (lookup_of l.text)) (mentions l.uses) ≡ l.callees.items
    ++ flat_map (place_called (lookup_of l.text)) (mentions (drop l.i l.uses))
