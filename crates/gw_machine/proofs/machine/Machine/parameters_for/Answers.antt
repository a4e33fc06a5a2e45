use Rattle.std.proofs.Common.{ap, sym, ◌∙◌}
use Rattle.gw_transactions.specs.Parameters.{Numbered}
use Rattle.gw_machine.specs.View.{state_of}
use Rattle.gw_machine.specs.Evaluating.{parameters_for}
use Rattle.gw_machine.specs.Shown.{configuration_of}
use Rattle.gw_machine.proofs.machine.Machine.parameters_for.Goals as goal

pub returns-in-None : goal.returns-in-None
returns-in-None c = rw (← c.self.view_is)
    (ap (λ (n : Numbered). n.values) c.no_parameters.ensures ∙ sym (ap (λ tx. parameters_for tx (state_of (configuration_of c.self.inside))) c.in-None.is))

pub returns-in-Some : goal.returns-in-Some
returns-in-Some c = rw (← c.self.view_is)
    (ap (λ (n : Numbered). n.values) c.parameters.ensures ∙ sym (ap (λ tx. parameters_for tx (state_of (configuration_of c.self.inside))) c.in-Some.is))
