use Rattle.std.proofs.Common.{◌<◌, ap, sym, subst}
use Rattle.gw_members.specs.Chain.{Chain}
use Rattle.gw_members.specs.declared.tx.Member.{Member}
use Rattle.gw_chains.proofs.Heads.{headed_more, passes_behind}
use Rattle.gw_chains.proofs.cec.Cec.insert_behind_others.Goals as goal

pub invariant_of-self-2 : goal.invariant_of-self-2
invariant_of-self-2 c =
    let room = subst (λ n. 0 < n) (sym (ap (λ (v : Chain Member). v.room) c.self.view_is)) c.requires.room in
    headed_more _ _ c.self.inside.head _ _ _ _ c.self.inside.others _ c.self.invariant c.insert_behind.ensures.gain
    (passes_behind c.self.inside.head _ c.in_default.ensures) room
