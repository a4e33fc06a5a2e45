-- A machine whose active transaction has entered, where the block has done its effect on an entity before.
use Rattle.std.proofs.Common.{◌≡◌, ◌+◌, sym, ap, subst}
use Rattle.gw_machine.specs.Configuration.{Configuration}
use Rattle.gw_machine.specs.Coherence.{IsSteady}
use Rattle.gw_machine.specs.Frames.{OnlyEntryIsMade}
use Rattle.gw_machine.specs.View.{state_of}
use Rattle.gw_machine.proofs.Steady.{steady-entered}
use Rattle.gw_scan.specs.Visiting.{IsEntering, after_fall}
use Rattle.gw_scan.specs.declared.visit.Visit.{Visit}

pub steady-passed : (v : Visit) (m new : Configuration) → IsEntering v m → state_of new ≡ after_fall v (state_of m) → OnlyEntryIsMade m new
    → IsSteady v.verified.now.blocks (new.steps + 1) new
steady-passed v m new p is frame =
    subst (λ k. IsSteady v.verified.now.blocks (k + 1) new) (sym (ap (λ (c : Configuration). c.steps) frame))
    (steady-entered v.verified.now.blocks m new v.tx v.transaction p.steady p.few p.next p.found is (ap (λ (c : Configuration). c.entities.facilities) frame))
