use Rattle.std.proofs.Common.{◌≡◌, ◌≤◌, ◌+◌, ◌++◌, ◌∷◌, [], List, length}
use Rattle.std.specs.Prelude.{int_le}
use Rattle.gw_members.specs.declared.tx.Event.{Event}
use Rattle.gw_chains.proofs.Few.{IsVacantAt, GoesPast}
use Rattle.gw_chains.proofs.fec.move_up.Given as goal

-- the place is open, and the newcomer goes past all from there on
abbrev pub invariant-loop-place : goal.invariant-loop-place
invariant-loop-place l = record {
  within : l.place + 1 ≤ length l.fn.events;
  len : length l.events ≡ length l.fn.events;
  vacant : (xs : List Event) → l.fn.events ≡ xs ++ l.newcomer ∷ [] → IsVacantAt l.newcomer xs l.events l.place;
  past : (xs : List Event) → l.fn.events ≡ xs ++ l.newcomer ∷ [] → GoesPast (λ (y : Event). int_le y.time l.newcomer.time) l.newcomer xs l.place;
}

abbrev pub decreases-loop-place : goal.decreases-loop-place
decreases-loop-place l = l.place
