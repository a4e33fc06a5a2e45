-- Calls, and the locals with which they begin.
use Rattle.std.proofs.Common.{◌≡◌, ◌≢◌, ℕ, suc, ◌+◌, ◌-◌, ◌<◌, ◌≤◌, ℤ, pos, List, [], ◌∷◌, ◌++◌, length, take, drop, get_or, replicate, Option, Some}
use Rattle.std.proofs.Common.{None, Bool, true, false, zero, refl, sym, ap, ◌∙◌, arith, add-one, length-append, nat_le}
use Rattle.std.proofs.Math.ListN.{length-replicate}
use Rattle.std.proofs.Math.Seq.{take-suc}
use Rattle.std.proofs.lemmas.Bool.Decides.{nat_tests}
use Rattle.std.proofs.lemmas.Option.{slice_get_within, slice_get_read}
use Rattle.arrayvec.specs.ArrayVec.{ArrayVec}
use Rattle.gw_num.proofs.Tables.{at-get_or, at-replicate}
use Rattle.gw_object.specs.declared.code.Instruction.{Instruction}
use Rattle.gw_object.specs.declared.code.Instruction.TheVariants.{Call}
use Rattle.gw_object.specs.declared.code.Procedure.{Procedure}
use Rattle.gw_object.specs.declared.parts.Parts.{Parts}
use Rattle.gw_rules.specs.Code.{procedure_at}
use Rattle.gw_rules.specs.Meaning.{Frame, Calls, Stuck, calls, calls_with, or_stuck, on, frame_of_locals}
use Rattle.gw_plus.specs.declared.activation.Step.TheVariants.{Called}
use Rattle.gw_plus.specs.Activation.{finish_of, Did}

-- LOCALS

padded : (arguments : List ℤ) (m i : ℕ) → get_or (arguments ++ replicate m (pos 0)) i (pos 0) ≡ get_or arguments i (pos 0)
padded [] m i = sym (at-get_or (pos 0) (replicate m (pos 0)) i) ∙ at-replicate (pos 0) m i
padded (a ∷ arguments) m zero = refl
padded (a ∷ arguments) m (suc i) = padded arguments m i

pub next_local : (arguments : List ℤ) (count i : ℕ) → length arguments ≤ count → i < count
    → take (i + 1) (frame_of_locals count arguments).locals ≡ take i (frame_of_locals count arguments).locals ++ get_or arguments i (pos 0) ∷ []
next_local arguments count i enough within =
    let m = count - length arguments in
    let locals = arguments ++ replicate m (pos 0) in
    let inside : i < length locals = omega (arith, length-append arguments (replicate m (pos 0)), length-replicate m (pos 0)) in
    rw add-one (take-suc locals i (pos 0) inside ∙ ap (λ v. take i locals ++ v ∷ []) (padded arguments m i))

-- CALLS

pub procedure_read : (p : Parts) (q : ℕ) (pr : Procedure) → q < length p.procedures → pr ≡ get_or p.procedures q pr → procedure_at p q ≡ Some pr
procedure_read p q pr within is = slice_get_read p.procedures (length p.procedures) q pr refl within is

pub call_within : (p : Parts) (q : ℕ) (f : Frame) → calls p q f ≢ Stuck → q < length p.procedures
call_within p q f going = by (procedure_at p q) refl going
  where
    by : (o : Option Procedure) → procedure_at p q ≡ o → or_stuck o (λ pr. calls_with q pr.arguments (on f)) ≢ Stuck → q < length p.procedures
    by None is moves = absurd (moves refl)
    by (Some pr) is moves = slice_get_within p.procedures q pr is

pub has_arguments : (p : Parts) (q : ℕ) (f : Frame) (pr : Procedure) → procedure_at p q ≡ Some pr → calls p q f ≢ Stuck → pr.arguments ≤ length f.stack
has_arguments p q f pr there going = by (nat_le pr.arguments (length f.stack)) refl
  where
    by : (b : Bool) → nat_le pr.arguments (length f.stack) ≡ b → pr.arguments ≤ length f.stack
    by true is = grind (arith, nat_tests)
    by false is = absurd (going (rw (there, is) refl))

pub did_call : (p : Parts) (q : ℕ) (f : Frame) (pr : Procedure) (locals : ArrayVec ℤ) (arguments rest : List ℤ) → procedure_at p q
    ≡ Some pr → pr.arguments ≤ length f.stack
    → arguments ≡ drop (length f.stack - pr.arguments) f.stack → rest ≡ take (length f.stack - pr.arguments) f.stack → locals.items
    ≡ (frame_of_locals pr.locals arguments).locals
    → Did p (Call q) (calls p q f) (Called q locals) (record f { place = f.place + 1; stack = rest })
did_call p q f pr locals arguments rest there enough top below begun =
    let is : nat_le pr.arguments (length f.stack) ≡ true = grind (arith, nat_tests) in
    (arguments, rw (there, is, top, below) refl, rw there begun)

-- a call without arguments
pub did_call_alone : (p : Parts) (q : ℕ) (f : Frame) (pr : Procedure) (locals : ArrayVec ℤ) (i : Instruction) → procedure_at p q ≡ Some pr
    → locals.items ≡ (frame_of_locals pr.locals []).locals → Did p i (Calls q [] (finish_of p i) f) (Called q locals) f
did_call_alone p q f pr locals i there begun = ([], refl, rw there begun)
