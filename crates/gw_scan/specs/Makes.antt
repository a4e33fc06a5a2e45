-- What a call of the machine made.
use Rattle.std.specs.Prelude.{◌≡◌, ◌⊎◌, ℕ, Result, Ok, Err, Some, None}
use Rattle.gw_machine.specs.Configuration.{Configuration}
use Rattle.gw_machine.specs.Leaving.{Stays}
use Rattle.gw_machine.specs.View.{state_of}
use Rattle.gw_machine.specs.declared.machine.Made.{Made}
use Rattle.gw_machine.specs.declared.machine.Made.TheVariants.{Step, Last, Ends}
use Rattle.gw_step.specs.Job.{IsFinal}
use Rattle.gw_step.specs.Outcome.{Outcome, Gives, EndsBy}
use Rattle.gw_step.specs.State.{State}
use Rattle.gw_step.specs.Step.{scan, step, within_budget}
use Rattle.gw_object.specs.declared.parts.Parts.{Parts}

-- what a scan of a state comes to
abbrev pub scan_outcome : Parts → State → Outcome State
scan_outcome p s = scan p s.lists.active s

-- the outcome is the new state, and after a last step a named end stands; or it is an end, and nothing changed
abbrev pub Makes : Made → Outcome State → State → State → Type 0
Makes Step outcome old new = outcome ≡ Gives new
Makes Last outcome old new = (outcome ≡ Gives new) × IsFinal new
Makes (Ends end) outcome old new = (outcome ≡ EndsBy end) × (new ≡ old)

-- the same for a call on a machine: the outcome is said of the state that it was in; it has as many slots for parameters as before
abbrev pub MakesFrom : Made → (State → Outcome State) → Configuration → Configuration → Type 0
MakesFrom made outcome old new = Makes made (outcome (state_of old)) (state_of old) (state_of new) × (new.last ≡ old.last)

-- the same; or there was no memory for it, and the machine stays in its state
abbrev pub MakesOnOk : {E : Type 0} → Result Made E → (State → Outcome State) → Configuration → Configuration → Type 0
MakesOnOk (Ok made) outcome old new = MakesFrom made outcome old new
MakesOnOk (Err memory) outcome old new = Stays old new

-- no named end stands after a step that isn't told as the last
abbrev pub RunsOn : {E : Type 0} → Result Made E → Configuration → Type 0
RunsOn result new = result ≡ Ok Step → new.ended ≡ None

-- what is told of a step: that it was the last, exactly where a named end stands
abbrev pub IsToldStep : Made → Configuration → Type 0
IsToldStep made new = ((made ≡ Step) × (new.ended ≡ None)) ⊎ ((made ≡ Last) × IsFinal (state_of new))

-- by a step the second state comes of the first, but that a budget doesn't end it there
abbrev pub StepsPastBudget : Parts → State → State → Type 0
StepsPastBudget p old new = (budget : ℕ) → step p budget old ≡ Some (within_budget budget new)
