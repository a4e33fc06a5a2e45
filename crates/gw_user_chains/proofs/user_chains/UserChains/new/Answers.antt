use Rattle.std.proofs.Common.{◌∙◌, [], length, map, replicate, refl, arith, ap, sym, Global}
use Rattle.std.specs.Prelude.{sum_by}
use Rattle.std.specs.VecDeque.{deque_items}
use Rattle.gw_num.proofs.Tables.{sum_by-replicate}
use Rattle.gw_members.specs.declared.tx.Tx.{Tx}
use Rattle.gw_members.proofs.Each.{one_more}
use Rattle.gw_user_chains.proofs.user_chains.UserChains.new.Goals as goal

pub loop-init : goal.loop-init
loop-init c = ap (map (deque_items {X = Tx} {Z = Global})) c.new-chains.ensures.items

pub loop-preserved : goal.loop-preserved
loop-preserved c =
    ap (map (deque_items {X = Tx} {Z = Global})) c.in_ok-push.ensures.items
    ∙ one_more (deque_items {X = Tx} {Z = Global}) [] c.loop.chains.items c.new.result c.loop.counter c.loop.invariant c.new.ensures.items

pub invariant_of-result : goal.invariant_of-result
invariant_of-result c = (omega arith, sym (ap (sum_by length) c.loop.invariant ∙ sum_by-replicate [] length c.loop.counter refl))

pub returns : goal.returns
returns c = c.loop.invariant ∙ ap (λ n. replicate n []) (omega arith)
