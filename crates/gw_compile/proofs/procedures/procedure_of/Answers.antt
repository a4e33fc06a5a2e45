use Rattle.std.proofs.Common.{rules, ◌≡◌}
use Rattle.gw_compile.specs.Needs.{needs_in}
use Rattle.gw_compile.proofs.Needing.{needs_what_it_asks}
use Rattle.gw_compile.proofs.procedures.procedure_of.Goals as goal

pub returns-clause-needs : goal.returns-clause-needs
returns-clause-needs g c =
    let n = g.N.Numbering.numbers c.args.names.now in
    let same : c.from_vec.result ≡ needs_in n c.args.procedures.now c.from_vec-2.result = search rules in
    needs_what_it_asks n c.args.procedures.now _ same
