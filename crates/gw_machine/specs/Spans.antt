-- Times of a span, which are those of a spread of constants.
use Rattle.std.specs.Prelude.{◌≡◌, ℕ, ◌+◌, ℤ, pos, List, Result, Ok, Err}
use Rattle.gw_object.specs.declared.blocks.Operand.TheVariants.{Constant}
use Rattle.gw_object.specs.declared.blocks.Spread.{Spread}
use Rattle.gw_machine.specs.declared.times.Span.{Span}
use Rattle.gw_object.specs.declared.parts.Parts.{Parts}
use Rattle.gw_rules.specs.Environment.{Environment}
use Rattle.gw_rules.specs.Values.{with_first}
use Rattle.gw_step.specs.Outcome.{Outcome, Gives, EndsBy}
use Rattle.gw_step.specs.Times.{drawn_moment}
use Rattle.gw_step.specs.declared.ends.End.{End}

-- the mean and half the range whose times a span has
abbrev pub spread_of : Span → Spread
spread_of span = record { mean = Constant (pos (span.least + span.half)); half = Constant (pos span.half) }

-- a moment with the streams after a draw from the first; or how that ends
abbrev pub moment_drawn : Result (ℤ × ℕ) End → List ℕ → Outcome (ℤ × List ℕ)
moment_drawn (Ok drawn) streams = Gives (drawn.0, with_first drawn.1 streams)
moment_drawn (Err end) streams = EndsBy end

-- a moment was drawn of a span, for whomever: it is that of its spread
abbrev pub DrawsMoment : Result (ℤ × ℕ) End → Span → ℤ → List ℕ → Type 0
DrawsMoment result span clock streams =
    (p : Parts) (env : Environment) → drawn_moment p env (spread_of span) clock streams ≡ moment_drawn result streams
