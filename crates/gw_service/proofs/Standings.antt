-- How jobs stand: who is ready or out runs, and who runs isn't settled.
use Rattle.std.proofs.Common.{◌≡◌, Bool, true, false, refl, ap, ◌∙◌}
use Rattle.std.specs.Prelude.{◌||◌}
use Rattle.gw_service.specs.Rows.{Standing, Ready, Out, Ended, Cancelled, CancelledOut, is_ready, is_out, is_running}
use Rattle.gw_service.specs.Keeping.{is_settled}

runs : (t : Standing) → is_running t ≡ (is_ready t || is_out t)
runs Ready = refl
runs Out = refl
runs Ended = refl
runs Cancelled = refl
runs CancelledOut = refl

either : (a : Bool) → (a || true) ≡ true
either true = refl
either false = refl

pub ready_runs : (t : Standing) → is_ready t ≡ true → is_running t ≡ true
ready_runs t h = runs t ∙ ap (λ b. b || is_out t) h

pub out_runs : (t : Standing) → is_out t ≡ true → is_running t ≡ true
out_runs t h = runs t ∙ ap (λ b. is_ready t || b) h ∙ either (is_ready t)

-- who runs isn't settled
pub running_is_open : (t : Standing) → is_running t ≡ true → is_settled t ≡ true → ⊥
running_is_open Ready h s = absurd cc
running_is_open Out h s = absurd cc
running_is_open Ended h s = absurd cc
running_is_open Cancelled h s = absurd cc
running_is_open CancelledOut h s = absurd cc
