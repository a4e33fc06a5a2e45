use Rattle.std.proofs.Common.{[], map, ap, sym, ◌∙◌}
use Rattle.std.specs.Prelude.{slice_get, option_map}
use Rattle.gw_num.specs.Table.{at}
use Rattle.gw_chains.specs.Waiting.{Walked}
use Rattle.gw_members.specs.declared.tx.Member.{Member}
use Rattle.gw_members.proofs.Each.{here}
use Rattle.gw_chains.proofs.Waiting.{list_of}
use Rattle.gw_chains.proofs.waits.Waits.current.Goals as goal

pub returns-clause-value : goal.returns-clause-value
returns-clause-value c =
    let s = list_of _ _ _ _ (ap (λ w. w.lists) c.self.view_is) c.requires c.index.ensures in
    rw (← c.self.view_is)
    (c.current.ensures.value
    ∙ ap (λ ms. option_map (λ (m : Member). m.tx) (slice_get ms c.index.result.now.place))
    (sym (here (λ (l : Walked). l.members) [] _ _ _ s))
    ∙ ap (λ n. option_map (λ (m : Member). m.tx)
    (slice_get (at [] (map (λ (l : Walked). l.members) c.self.inside.delay_lists.items) c.args.entity) n)) (sym (here (λ (l : Walked). l.place) 0 _ _ _ s)))

pub returns-clause-there : goal.returns-clause-there
returns-clause-there c =
    let s = list_of _ _ _ _ (ap (λ w. w.lists) c.self.view_is) c.requires c.index.ensures in
    rw (← c.self.view_is)
    (rw (here (λ (l : Walked). l.members) [] _ _ _ s, here (λ (l : Walked). l.place) 0 _ _ _ s) c.current.ensures.there)
