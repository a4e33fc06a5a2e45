use Rattle.std.proofs.Common.{[], ap, sym, ◌∙◌}
use Rattle.std.specs.Prelude.{slice_get, option_map}
use Rattle.gw_chains.specs.Waiting.{Walked}
use Rattle.gw_members.specs.declared.tx.Member.{Member}
use Rattle.gw_members.proofs.Each.{here}
use Rattle.gw_chains.proofs.Waiting.{list_of}
use Rattle.gw_chains.proofs.waits.Waits.waiter.Goals as goal

pub returns : goal.returns
returns c =
    rw (← c.self.view_is)
    (c.get.ensures ∙ ap (λ ms. option_map (λ (m : Member). m.tx) (slice_get ms c.args.place))
    (sym (here (λ (l : Walked). l.members) [] _ _ _ (list_of _ _ _ _ (ap (λ w. w.lists) c.self.view_is) c.requires c.index.ensures))))
