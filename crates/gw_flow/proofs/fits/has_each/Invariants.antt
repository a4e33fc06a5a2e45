use Rattle.std.specs.Prelude.{All}
use Rattle.gw_flow.proofs.Holding.{Left}
use Rattle.gw_flow.proofs.fits.has_each.Given as goal

-- what is left of both lists decides, and each entry that is left may be compared
abbrev pub invariant-loop-entry : goal.invariant-loop-entry
invariant-loop-entry g l = record {
  decides : Left g.T.Keyed.key (g.T.Entry.enough l.by) l.held l.asked l.left l.entry-index;
  each : All g.T.Entry.can_compare l.left;
}
