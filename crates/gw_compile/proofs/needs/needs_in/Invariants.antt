use Rattle.std.proofs.Common.{◌≡◌, [], drop}
use Rattle.gw_compile.specs.Needs.{needs_with}
use Rattle.gw_compile.proofs.needs.needs_in.Given as goal

-- the instructions that are left are still to be asked
abbrev pub invariant-loop-i : goal.invariant-loop-i
invariant-loop-i g l =
    let needs = needs_with (g.N.Numbering.numbers l.names) l.procedures in
    needs l.code [] ≡ needs (drop l.i l.code) l.needs.items
