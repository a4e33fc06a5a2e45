use Rattle.std.proofs.Common.{[], length, ap, sym, ◌∙◌}
use Rattle.gw_chains.specs.Waiting.{Walked}
use Rattle.gw_members.proofs.Each.{here}
use Rattle.gw_chains.proofs.Waiting.{list_of}
use Rattle.gw_chains.proofs.waits.Waits.waiting_len.Goals as goal

pub returns : goal.returns
returns c =
    rw (← c.self.view_is)
    (c.len.ensures ∙ ap length
    (sym (here (λ (l : Walked). l.members) [] _ _ _ (list_of _ _ _ _ (ap (λ w. w.lists) c.self.view_is) c.requires c.index.ensures))))
