use Rattle.std.proofs.Common.{ap, ◌∙◌, option_map}
use Rattle.gw_machine.specs.View.{assembly_of}
use Rattle.gw_machine.proofs.AtSets.{assembly-found, own-found}
use Rattle.gw_machine.specs.Shown.{configuration_of}
use Rattle.gw_machine.proofs.machine.Machine.assembly.Goals as goal

pub returns-clause-value : goal.returns-clause-value
returns-clause-value c =
    rw (← c.self.view_is) (ap (option_map assembly_of) c.find.ensures ∙ assembly-found (configuration_of c.self.inside) c.args.block c.args.set)

pub returns-clause-own : goal.returns-clause-own
returns-clause-own c =
    own-found c.args.block c.args.set (configuration_of c.self.inside).assemblies.items c.find.result c.find.ensures
