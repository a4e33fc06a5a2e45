use Rattle.std.proofs.Common.{◌<◌, ap, sym, subst}
use Rattle.gw_members.specs.Chain.{Chain}
use Rattle.gw_members.specs.declared.tx.Member.{Member}
use Rattle.gw_chains.proofs.Heads.{headed_more, passes_ahead}
use Rattle.gw_chains.proofs.cec.Cec.insert_ahead.Goals as goal

pub invariant_of-self-2 : goal.invariant_of-self-2
invariant_of-self-2 c =
    let room = subst (λ n. 0 < n) (sym (ap (λ (v : Chain Member). v.room) c.self.view_is)) c.requires in
    headed_more _ _ c.self.inside.head _ _ _ _ c.self.inside.others _ c.self.invariant c.insert_ahead-2.ensures.gain
    (passes_ahead c.self.inside.head _ c.in_default.ensures) room
