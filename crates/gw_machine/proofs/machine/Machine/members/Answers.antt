use Rattle.std.proofs.Common.{[], length, ap, sym, ◌∙◌}
use Rattle.std.proofs.lemmas.List.{length-map}
use Rattle.gw_num.specs.Table.{at}
use Rattle.gw_machine.specs.View.{handle_number}
use Rattle.gw_machine.proofs.Changes.{user_chain-at}
use Rattle.gw_machine.specs.Shown.{configuration_of}
use Rattle.gw_machine.proofs.machine.Machine.members.Goals as goal

pub returns-clause-value : goal.returns-clause-value
returns-clause-value c =
    rw (← c.self.view_is) (
    c.members.ensures.value ∙ sym
    (ap length (user_chain-at (configuration_of c.self.inside) c.args.chain)
    ∙ length-map (at [] (configuration_of c.self.inside).chains.lists c.args.chain) handle_number))
