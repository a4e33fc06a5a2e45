use Rattle.std.proofs.Common.{ap, ◌-ℤ◌, to_z, of_z, w64}
use Rattle.gw_machine.specs.Configuration.{Configuration}
use Rattle.gw_machine.proofs.machine.Machine.count_down.Goals as goal

pub returns-clause-frame : goal.returns-clause-frame
returns-clause-frame c =
    let count = to_z w64 (of_z w64 (to_z w64 (of_z w64 c.self.inside.count) -ℤ to_z w64 (of_z w64 c.args.by))) in
    ap (λ (m : Configuration). record m { count = count; ended = c.end_of-self-inside.result }) c.self.view_is
