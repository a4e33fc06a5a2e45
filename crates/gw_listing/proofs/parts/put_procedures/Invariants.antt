use Rattle.gw_listing.specs.Lines.{AddsLines, openings_below}
use Rattle.gw_listing.specs.Shape.{procedure_openings}
use Rattle.gw_listing.proofs.parts.put_procedures.Given as goal

-- the lines so far are those of the numbers so far
abbrev pub invariant-loop-i : goal.invariant-loop-i
invariant-loop-i l =
    AddsLines (openings_below (procedure_openings l.lines l.parts.procedures) l.i) l.fn.out.items l.out.items
