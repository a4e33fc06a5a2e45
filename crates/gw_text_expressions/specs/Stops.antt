-- Why reading stops, and where it ends.
use Rattle.std.specs.Prelude.{◌≡◌, ◌≤◌, ◌<◌, ◌⊎◌, ℕ, Result, MatchResult}
use Rattle.gw_text_tokens.specs.declared.faults.Refusal.TheVariants as refusals
use Rattle.gw_text_tokens.specs.declared.faults.Stop.{Stop}
use Rattle.gw_text_tokens.specs.declared.faults.Stop.TheVariants.{Refused, Memory}

-- why no attribute is read: its number is out of range or too long, or memory runs out
abbrev pub StopsAttribute : Stop → Type 0
StopsAttribute stop = (stop ≡ Refused refusals.Operand) ⊎ (stop ≡ Refused refusals.Limit) ⊎ (stop ≡ Memory)

-- why no label is read: memory runs out, its number is too long, or it is none
abbrev pub StopsLabel : Stop → Type 0
StopsLabel stop = (stop ≡ Memory) ⊎ (stop ≡ Refused refusals.Limit) ⊎ (stop ≡ Refused refusals.Word)

-- what is read from this line on ends on one of so many lines, or stops on one of them
abbrev pub EndsWithin : {A E : Type 0} → ℕ → ℕ → Result (A × ℕ) (ℕ × E) → Type 0
EndsWithin first count result = MatchResult result (λ x. (first ≤ x.1) × (x.1 < count)) (λ place. place.0 < count)
