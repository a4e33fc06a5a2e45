use Rattle.std.proofs.Common.{◌∙◌, [], length, ap, sym, arith, Global}
use Rattle.std.specs.VecDeque.{deque_items}
use Rattle.gw_members.specs.declared.tx.Tx.{Tx}
use Rattle.gw_members.proofs.Each.{here, at_most_total}
use Rattle.gw_user_chains.proofs.Linked.{chain_of}
use Rattle.gw_user_chains.proofs.user_chains.UserChains.members.Goals as goal

pub returns-clause-value : goal.returns-clause-value
returns-clause-value c =
    rw (← c.self.view_is) (c.len.ensures ∙ c.index.result.now.ok.0
    ∙ ap length (sym (here (deque_items {X = Tx} {Z = Global}) [] _ _ _ (chain_of _ _ _ _ (ap (λ w. w.lists) c.self.view_is) c.requires c.index.ensures))))

pub returns-clause-few : goal.returns-clause-few
returns-clause-few c =
    omega (
      arith,
      c.len.ensures,
      c.index.result.now.ok.0,
      at_most_total (deque_items {X = Tx} {Z = Global}) _ _ _
          (chain_of _ _ _ _ (ap (λ w. w.lists) c.self.view_is) c.requires c.index.ensures),
      c.self.invariant,
    )
