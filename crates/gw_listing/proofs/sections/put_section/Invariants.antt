use Rattle.gw_listing.specs.Lines.{AddsLines, openings_below}
use Rattle.gw_listing.specs.Sections.{section_opening}
use Rattle.gw_listing.proofs.sections.put_section.Given as goal

-- the lines so far are those of the parts so far
abbrev pub invariant-loop-i : goal.invariant-loop-i
invariant-loop-i l =
    AddsLines (openings_below (section_opening l.parts l.section) l.i) l.fn.out.items l.out.items
