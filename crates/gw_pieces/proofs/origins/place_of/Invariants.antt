use Rattle.std.proofs.Common.{◌≡◌, drop}
use Rattle.gw_pieces.specs.Origins.{place_from, place_in}
use Rattle.gw_pieces.proofs.origins.place_of.Given as goal

-- what is looked for is among those to come
abbrev pub invariant-loop-place : goal.invariant-loop-place
invariant-loop-place l = place_in l.origins l.origin ≡ place_from l.place (drop l.place l.origins) l.origin
