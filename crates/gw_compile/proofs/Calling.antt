-- What a called procedure comes to, in an object that passes.
use Rattle.std.proofs.Common.{◌≡◌, ℕ, List, Option, Some, true, Result, ℤ, sym, subst}
use Rattle.std.specs.Prelude.{slice_get}
use Rattle.std.proofs.lemmas.Option.{slice_get_within, get_or_from_slice_get}
use Rattle.std.proofs.lemmas.List.Elements.{All-get_or}
use Rattle.gw_num.specs.Table.{at}
use Rattle.gw_object.specs.declared.code.Sna.{Sna}
use Rattle.gw_object.specs.declared.code.Instruction.TheVariants.{Value}
use Rattle.gw_rules.specs.Sources.{source_of, as_operand}
use Rattle.gw_rules.proofs.PlusReading.{MayRead, may_read}
use Rattle.gw_object.specs.declared.code.Instruction.{Instruction}
use Rattle.gw_object.specs.declared.code.Procedure.{Procedure}
use Rattle.gw_object.specs.declared.parts.Parts.{Parts}
use Rattle.gw_object.specs.Grammar.{HasSpelling}
use Rattle.gw_rules.specs.Pass.{KindsPass}
use Rattle.gw_rules.specs.KindsLaws.{InstructionHolds}
use Rattle.gw_rules.specs.declared.ends.PlusEnd.{PlusEnd}
use Rattle.gw_rules.specs.Environment.{Environment}
use Rattle.gw_rules.specs.Code.{procedure_at, asks_for, called_in, calls_lower, costs_of}
use Rattle.gw_rules.specs.PlusChecks.{PlusPasses}
use Rattle.gw_rules.specs.Meaning.{Derives, opening_frame}
use Rattle.gw_rules.specs.PlusLaws.{HasSet, MayBegin}
use Rattle.gw_rules.proofs.PlusRules.{checked}
use Rattle.gw_rules.proofs.PlusSteps.{among_more}
use Rattle.gw_rules.proofs.PlusTheorems.{has_outcome_law, cost_bounds_law, code_holds}
use Rattle.gw_rules.proofs.Within.{derived_is_answered}
use Rattle.gw_compile.specs.Value.{outcome_with}

module _ (p : Parts) (env : Environment) (fits : HasSpelling p) (kinds : KindsPass p) (passes : PlusPasses p) where
  -- what is derived of a procedure that may begin is what it comes to
  pub comes_with : (q : ℕ) (pr : Procedure) (arguments : List ℤ) (k : ℕ) (r : Result ℤ PlusEnd) → MayBegin p env q pr arguments
      → Derives p env q (opening_frame (procedure_at p q) arguments) k r → outcome_with p env q arguments ≡ Some r
  unfolding outcome_with
  comes_with q pr arguments k r may d =
      let own = subst (λ (o : Option Procedure). Derives p env q (opening_frame o arguments) k r) may.there d in
      let within = cost_bounds_law p env q pr arguments k r fits kinds passes may own in
      derived_is_answered p env (at 0 (costs_of p) q) q (opening_frame (procedure_at p q) arguments) k r d within

  -- one that may begin comes to something
  pub begins : (q : ℕ) (pr : Procedure) (arguments : List ℤ) → MayBegin p env q pr arguments → (k : ℕ) × (r : Result ℤ PlusEnd)
      × Derives p env q (opening_frame (procedure_at p q) arguments) k r
  begins q pr arguments may =
      let d = has_outcome_law p env q pr arguments fits kinds passes may in
      (d.0, d.1, subst (λ (o : Option Procedure). Derives p env q (opening_frame o arguments) d.0 d.1) (sym may.there) d.2)

  -- what an instruction asks for is set, where what its procedure needs is
  pub asked_is_set : (n : ℕ) (pr : Procedure) (k : ℕ) (i : Instruction) → procedure_at p n ≡ Some pr → HasSet env pr.needs
      → slice_get pr.code k ≡ Some i → HasSet env (asks_for p i)
  asked_is_set n pr k i there set here =
      let fine = (checked p passes n pr there).sound.each k i here in
      λ x among. set x (among_more (asks_for p i) pr.needs fine.needs x among)

  -- and it calls a lower procedure
  pub lower_is_called : (n : ℕ) (pr : Procedure) (k : ℕ) (i : Instruction) → procedure_at p n ≡ Some pr → slice_get pr.code k ≡ Some i
      → calls_lower n (called_in p.entities i) ≡ true
  lower_is_called n pr k i there here = ((checked p passes n pr there).sound.each k i here).calls_lower

  -- what kinds say of an instruction
  pub instruction_holds : (n : ℕ) (pr : Procedure) (k : ℕ) (i : Instruction) → procedure_at p n ≡ Some pr → slice_get pr.code k ≡ Some i
      → InstructionHolds p pr.locals i
  instruction_holds n pr k i there here =
      let each = ((code_holds p fits kinds).procedures n pr there).1 in
      subst (InstructionHolds p pr.locals) (get_or_from_slice_get pr.code k i i here)
      (All-get_or (InstructionHolds p pr.locals) pr.code k i (slice_get_within pr.code k i here) each)

  -- what an instruction reads may be read
  pub read_may : (n : ℕ) (pr : Procedure) (k : ℕ) (sna : Sna) → procedure_at p n ≡ Some pr → HasSet env pr.needs → slice_get pr.code k
      ≡ Some (Value sna) → MayRead p env n (source_of p.entities (as_operand sna))
  read_may n pr k sna there set here =
      may_read p env n pr.locals sna (code_holds p fits kinds).entities (instruction_holds n pr k (Value sna) there here)
      (lower_is_called n pr k (Value sna) there here) (asked_is_set n pr k (Value sna) there set here)
