use Rattle.std.proofs.Common.{◌≡◌, ◌==◌, drop}
use Rattle.std.specs.List.{find}
use Rattle.gw_flow.proofs.lists.of_key.Given as goal

-- the first of the elements that are left is that of all
abbrev pub invariant-loop-item : goal.invariant-loop-item
invariant-loop-item g l = find (λ item. g.T.Keyed.key item == l.key) l.items ≡ find (λ item. g.T.Keyed.key item == l.key) (drop l.item-index l.items)
