use Rattle.std.proofs.Common.{refl, rules, ap, ◌∙◌}
use Rattle.gw_transactions.specs.Transactions.{here_count}
use Rattle.gw_machine.specs.Configuration.{Configuration}
use Rattle.gw_machine.proofs.Lending.{lends}
use Rattle.gw_machine.proofs.machine.Machine.env.Goals as goal

pub returns : goal.returns
returns c =
    let is = c.self.view_is in
    let lent = lends c.args.self.now c.args.subject _ (record {
      number = refl;
      priority = search rules;
      mark = search rules;
      parameters = c.parameters_for.ensures;
      clock = search rules;
      count = search rules;
      facilities = ap (λ (m : Configuration). m.entities.facilities) is;
      storages = ap (λ (m : Configuration). m.entities.storages) is;
      queues = ap (λ (m : Configuration). m.entities.queues) is;
      switches = ap (λ (m : Configuration). m.entities.switches) is;
      savevalues = ap (λ (m : Configuration). m.entities.savevalues) is;
      tables = ap (λ (m : Configuration). m.entities.tables) is;
      chains = ap (λ (m : Configuration). m.chains) is;
      entries = c.deref.ensures.value ∙ ap (λ (m : Configuration). m.entries) is;
      here = λ b. c.here_by_block.ensures b ∙ ap (λ (m : Configuration). here_count b m.transactions.txs) is;
    }) (rw c.self.view_is at c.self.invariant.0) c.requires in
    record { same = lent.0; own = lent.1 }
