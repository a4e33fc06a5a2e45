use Rattle.std.proofs.Common.{◌≡◌}
use Rattle.gw_answers.specs.declared.request.Request.TheVariants.{Asm}
use Rattle.gpssw.proofs.Requested.{single}
use Rattle.gpssw.proofs.program.perform.Goals as goal

pub returns-in-Single-Asm-clause-done : goal.returns-in-Single-Asm-clause-done
returns-in-Single-Asm-clause-done g c =
    let asked : c.in-Single-Asm.field-0 ≡ Asm = rw c.in-Single-Asm.is at c.in-Single-Asm.field-0-is in
    single c.in-Single-Asm.field-0 Asm c.args.command _ _ _ _ c.in-Single-Asm.is asked c.asm.ensures.written.output
