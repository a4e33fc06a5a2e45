-- Times that pass: where the least time that may be drawn is known to be 1 or more, a moment lies after the clock.
use Rattle.std.proofs.Common.{◌≡◌, ℕ, ℤ, pos, ◌+ℤ◌, List, Result, Ok, Err, Bool, true, false, if◌then◌else◌, refl, arith}
use Rattle.std.proofs.lemmas.Int.{ints}
use Rattle.std.specs.Prelude.{◌<ℤ◌, int_lt, int_le, ◌&&◌}
use Rattle.std.proofs.lemmas.Bool.{false≢true, and_parts}
use Rattle.gw_object.specs.declared.blocks.Operand.{Operand}
use Rattle.gw_object.specs.declared.blocks.Operand.TheVariants as operands
use Rattle.gw_object.specs.declared.blocks.Spread.{Spread}
use Rattle.gw_object.specs.declared.blocks.Block.{Block}
use Rattle.gw_object.specs.declared.blocks.Block.TheVariants as blocks
use Rattle.gw_object.specs.declared.parts.Parts.{Parts}
use Rattle.gw_num.specs.declared.arithmetic.NumFault.{NumFault}
use Rattle.gw_num.specs.Arithmetic.{fits_i64, sum_of}
use Rattle.gw_num.specs.Generator as generator
use Rattle.gw_num.proofs.Draws.{times_lie_within}
use Rattle.gw_rules.specs.Exits.{takes_time}
use Rattle.gw_rules.specs.Environment.{Environment}
use Rattle.gw_rules.specs.Values.{Evaluation, Value, Fails, Unset, ◌>>=◌, evaluation_of, first_stream, with_first, drawn_time, single_value, operand_value, operands as operand_values}
use Rattle.gw_step.specs.declared.ends.End.TheVariants.{NegativeTime}
use Rattle.gw_step.specs.Outcome.{EndsBy, evaluation_outcome}
use Rattle.gw_step.specs.Times.{moment_after, drawn_moment}
use Rattle.gw_step.specs.Blocks.{the_value}
use Rattle.gw_step.proofs.Outcomes.{OnGives, on_when, on_any, on_both}

-- a time of constants of which that is known
constants_pass : (mean half : ℤ) (streams : List ℕ) → (int_le (pos 0) half && int_lt half mean) ≡ true
    → OnGives (λ (d : ℤ × List ℕ). pos 0 <ℤ d.0)
    (evaluation_outcome (evaluation_of (generator.drawn_time mean half (first_stream streams)) >>= λ time. Value (time.0, with_first time.1 streams)))
constants_pass mean half streams h = by_result (generator.drawn_time mean half (first_stream streams)) refl
  where
    by_result : (r : Result (ℤ × ℕ) NumFault) → generator.drawn_time mean half (first_stream streams) ≡ r
        → OnGives (λ (d : ℤ × List ℕ). pos 0 <ℤ d.0) (evaluation_outcome (evaluation_of r >>= λ time. Value (time.0, with_first time.1 streams)))
    by_result (Ok d) is =
        let both = and_parts (int_le (pos 0) half) (int_lt half mean) h in
        let within = times_lie_within mean half (first_stream streams) d.0 d.1 is in
        omega (arith, ints, within.0, both.1)
    by_result (Err fault) is = tt

module _ (p : Parts) (env : Environment) (streams : List ℕ) where
  spread_passes : (mean half : Operand) → takes_time mean half ≡ true
      → OnGives (λ (d : ℤ × List ℕ). pos 0 <ℤ d.0) (evaluation_outcome (drawn_time p env (record { mean = mean; half = half }) streams))
  spread_passes (operands.Constant mean) (operands.Constant half) h = constants_pass mean half streams h
  spread_passes (operands.Constant mean) half h = absurd (false≢true h)
  spread_passes mean half h = absurd (false≢true h)

  -- a drawn time is 1 or more where that is known
  pub drawn_passes : (spread : Spread)
      → OnGives (λ (d : ℤ × List ℕ). takes_time spread.mean spread.half ≡ true → pos 0 <ℤ d.0) (evaluation_outcome (drawn_time p env spread streams))
  drawn_passes spread = on_when (λ (d : ℤ × List ℕ). pos 0 <ℤ d.0) (takes_time spread.mean spread.half)
      (evaluation_outcome (drawn_time p env spread streams)) (λ h. spread_passes spread.mean spread.half h)

-- the moment after such a time is after the clock
pub after_clock : (clock time : ℤ) → pos 0 <ℤ time → OnGives (λ moment. clock <ℤ moment) (moment_after clock time)
after_clock clock time more = by_sign (int_lt time (pos 0))
  where
    by_fit : (b : Bool) → OnGives (λ moment. clock <ℤ moment) (evaluation_outcome (evaluation_of (if b then Ok (clock +ℤ time) else Err NumFault.Number)))
    by_fit true = omega (arith, ints, more)
    by_fit false = tt

    by_sign : (b : Bool) → OnGives (λ moment. clock <ℤ moment) (if b then EndsBy NegativeTime else evaluation_outcome (evaluation_of (sum_of clock time)))
    by_sign true = tt
    by_sign false = by_fit (fits_i64 (clock +ℤ time))

-- so is a moment that is drawn
pub moment_passes : (p : Parts) (env : Environment) (spread : Spread) (clock : ℤ) (streams : List ℕ)
    → OnGives (λ (d : ℤ × List ℕ). takes_time spread.mean spread.half ≡ true → clock <ℤ d.0) (drawn_moment p env spread clock streams)
moment_passes p env spread clock streams =
    on_when (λ (d : ℤ × List ℕ). clock <ℤ d.0) (takes_time spread.mean spread.half) (drawn_moment p env spread clock streams)
    (λ h.
    on_both (λ (d : ℤ × List ℕ). pos 0 <ℤ d.0) (λ (d : ℤ × List ℕ). clock <ℤ d.0) (evaluation_outcome (drawn_time p env spread streams)) _
    (spread_passes p env streams spread.mean spread.half h)
    (λ d more. on_both (λ moment. clock <ℤ moment) (λ (d : ℤ × List ℕ). clock <ℤ d.0) (moment_after clock d.0) _
    (after_clock clock d.0 more) (λ moment later. later)))

-- the value of a constant is itself
abbrev pub TellsValue : Operand → ℤ → Type 0
TellsValue (operands.Constant c) value = value ≡ c
TellsValue operand value = Unit {0}

-- the values of a block tell of a time that passes: an ADVANCE's is 1 or more where that is known; and an ASSIGN's of a constant
abbrev pub TellsTime : Block → List ℤ → Type 0
TellsTime (blocks.Assign a) values = TellsValue a.value (the_value values)
TellsTime (blocks.Advance time) values = takes_time time.mean time.half ≡ true → pos 0 <ℤ the_value values
TellsTime block values = Unit {0}

pub values_tell : (p : Parts) (env : Environment) (block : Block) (streams : List ℕ)
    → OnGives (λ (read : List ℤ × List ℕ). TellsTime block read.0) (evaluation_outcome (operand_values p env block streams))
values_tell p env (blocks.Advance time) streams = by_time (drawn_time p env time streams) (drawn_passes p env streams time)
  where
    by_time : (e : Evaluation (ℤ × List ℕ))
        → OnGives (λ (d : ℤ × List ℕ). takes_time time.mean time.half ≡ true → pos 0 <ℤ d.0) (evaluation_outcome e)
        → OnGives (λ (read : List ℤ × List ℕ). takes_time time.mean time.half ≡ true → pos 0 <ℤ the_value read.0)
        (evaluation_outcome (e >>= λ d. Value (single_value d)))
    by_time (Value d) h = h
    by_time (Fails end) h = tt
    by_time Unset h = tt
values_tell p env (blocks.Assign a) streams = by_operand a.value
  where
    by_operand : (o : Operand)
        → OnGives (λ (read : List ℤ × List ℕ). TellsValue o (the_value read.0))
        (evaluation_outcome (operand_value p env o streams >>= λ value. Value (single_value value)))
    by_operand (operands.Constant c) = refl
    by_operand o = on_any (evaluation_outcome (operand_value p env o streams >>= λ value. Value (single_value value)))
values_tell p env block streams = on_any (evaluation_outcome (operand_values p env block streams))
