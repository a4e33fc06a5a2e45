use Rattle.std.proofs.Common.{◌∙◌, [], length, map, replicate, ap, sym, refl, arith}
use Rattle.std.specs.Prelude.{sum_by}
use Rattle.gw_num.proofs.Tables.{sum_by-replicate}
use Rattle.gw_chains.specs.Waiting.{Walked}
use Rattle.gw_members.proofs.Each.{one_more}
use Rattle.gw_chains.proofs.waits.Waits.new.Goals as goal

pub loop-init : goal.loop-init
loop-init c = ap (map (λ (w : Walked). w.members)) c.new-delay_lists.ensures.items

pub loop-preserved : goal.loop-preserved
loop-preserved c =
    ap (map (λ (w : Walked). w.members)) c.in_ok-push.ensures.items
    ∙ one_more (λ (w : Walked). w.members) [] c.loop.delay_lists.items c.new.result c.loop.counter c.loop.invariant c.new.ensures.members

pub invariant_of-result : goal.invariant_of-result
invariant_of-result c = (omega arith, sym (ap (sum_by length) c.loop.invariant ∙ sum_by-replicate [] length c.loop.counter refl))

pub returns-clause-lists : goal.returns-clause-lists
returns-clause-lists c = c.loop.invariant ∙ ap (λ n. replicate n []) (omega arith)
