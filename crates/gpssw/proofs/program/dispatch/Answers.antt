use Rattle.std.proofs.Common.{◌∙◌, sym}
use Rattle.gw_console.proofs.Calls.{of_writing}
use Rattle.gpssw.proofs.program.dispatch.Goals as goal

pub returns-in-None-clause-calls : goal.returns-in-None-clause-calls
returns-in-None-clause-calls g c =
    let written = c.write_and_end.ensures in
    rw (sym c.command_of.ensures ∙ c.in-None.is) (of_writing _ _ _ _ _ c.requires.reader written.bytes written.told written.flushed)
