-- Compiled expressions keep their value.
use Rattle.std.specs.Prelude.{◌≡◌, ℕ, ◌+◌, ◌<◌, ◌≤◌, ◌⊎◌, List, [], ◌∷◌, ◌++◌, length, Some, None, true, Result, Ok, Err, IfOk, ℤ, slice_get}
use Rattle.std.specs.List.{All, list_all}
use Rattle.gw_object.specs.declared.blocks.Numbered.{Numbered}
use Rattle.gw_object.specs.declared.blocks.Operand.TheVariants as operands
use Rattle.gw_object.specs.Limits.{most_instructions, most_backs, most_locals}
use Rattle.gw_object.specs.CodeGrammar.{NeedsAscend, backs}
use Rattle.gw_object.specs.declared.code.Instruction.{Instruction}
use Rattle.gw_object.specs.declared.code.Procedure.{Procedure}
use Rattle.gw_object.specs.declared.parts.Parts.{Parts}
use Rattle.gw_object.specs.Grammar.{HasSpelling}
use Rattle.gw_rules.specs.Sources.{source_of}
use Rattle.gw_rules.specs.Pass.{KindsPass}
use Rattle.gw_rules.specs.declared.ends.PlusEnd.{PlusEnd}
use Rattle.gw_rules.specs.Environment.{Environment}
use Rattle.gw_rules.specs.Code.{procedure_at, arguments_of, is_among, called_in, calls_lower, asks_for}
use Rattle.gw_rules.specs.PlusChecks.{PlusPasses}
use Rattle.gw_rules.specs.Meaning.{Taken, Derives}
use Rattle.gw_rules.specs.Outcome.{outcome_of}
use Rattle.gw_rules.specs.PlusLaws.{HasSet}
use Rattle.gw_text_expressions.specs.declared.model.Expression.{Expression}
use Rattle.gw_compile.specs.declared.faults.CompileFault.{CompileFault}
use Rattle.gw_compile.specs.declared.numbering.Callee.{Callee}
use Rattle.gw_compile.specs.declared.numbering.Equ.TheVariants as equs
use Rattle.gw_compile.specs.Numbers.{Numbers}
use Rattle.gw_compile.specs.Value.{Came, value_of}
use Rattle.gw_compile.specs.Code.{expression_code, procedure_code}
use Rattle.gw_text_plus.specs.declared.model.Procedure.{Procedure as TextProcedure}
use Rattle.gw_compile.specs.Statements.{Standing, Piece, body_of, body_code}
use Rattle.gw_compile.specs.Needs.{needs_in}
use Rattle.gw_compile.specs.Unknown.{Judges, first_blame}

-- THE OBJECT

-- an object of which the numbers speak: a PROCEDURE takes as many arguments as they say, and an EQU's procedure none
pub record SpeakOf (n : Numbers) (p : Parts) : Type 0 where
  pub calls : (name : List ℕ) (c : Callee) → n.procedure name ≡ Some c → c.arguments ≡ arguments_of (procedure_at p c.number)
  pub equs : (name : List ℕ) (q : ℕ) → n.equ name ≡ Some (equs.Procedure q) → 0 ≡ arguments_of (procedure_at p q)

-- and which goes on from the procedures that are compiled already: they are its first ones, and what is evaluated for an attribute is what the numbers say
pub record GoesOnFrom (n : Numbers) (procedures : List Procedure) (p : Parts) : Type 0 where
  pub before : (q : ℕ) → q < length procedures → procedure_at p q ≡ slice_get procedures q
  pub sources : (of : Numbered) → source_of p.entities (operands.OfEntity of) ≡ n.source of

-- NEEDS

-- the needs suffice: in such an object no instruction of the procedure, as the next one, asks for a parameter that
-- isn't among them, unless it calls a procedure that isn't lower
abbrev pub NeedsSuffice : Numbers → List Procedure → Procedure → Type 0
NeedsSuffice n procedures pr =
    (p : Parts) (place : ℕ) (i : Instruction)
    → GoesOnFrom n procedures p → slice_get pr.code place ≡ Some i → calls_lower (length procedures) (called_in p.entities i) ≡ true
    → list_all (is_among pr.needs) (asks_for p i) ≡ true

-- a procedure needs just what its code asks for
pub record NeedsWhatItAsks (n : Numbers) (procedures : List Procedure) (pr : Procedure) : Type 0 where
  pub needs : pr.needs ≡ needs_in n procedures pr.code
  pub ascend : NeedsAscend pr
  pub suffice : NeedsSuffice n procedures pr

-- LIMITS

-- a procedure has no more instructions, BACKs and locals than it may have in an object
pub record KeepsLimits (pr : Procedure) : Type 0 where
  pub instructions : length pr.code ≤ most_instructions
  pub backs : backs pr.code ≤ most_backs
  pub locals : pr.locals ≤ most_locals

-- THE VALUE

-- a procedure keeps the value of an expression: in an object whose kinds and PLUS code pass, and of which the numbers
-- speak, it comes in each environment that sets what it needs to what the expression comes to
abbrev pub KeepsValue : Numbers → Expression → Procedure → Type 0
KeepsValue n e pr =
    (p : Parts) (env : Environment) (q : ℕ)
    → HasSpelling p → KindsPass p → PlusPasses p → SpeakOf n p → procedure_at p q ≡ Some pr → HasSet env pr.needs
    → outcome_of p env q ≡ value_of n [] p env [] e

-- from a place on an activation comes to this outcome: what was come to stands above the stack there, or it has ended so
abbrev pub GoesOnWith : Parts → Environment → ℕ → Came ℤ → ℕ → List ℤ → List ℤ → Taken → Result ℤ PlusEnd → Type 0
GoesOnWith p env q None place stack locals taken r = ⊥
GoesOnWith p env q (Some (Err e)) place stack locals taken r = r ≡ Err e
GoesOnWith p env q (Some (Ok v)) place stack locals taken r = (k : ℕ)
    × Derives p env q (record { place = place; stack = stack ++ v ∷ []; locals = locals; taken = taken }) k r

-- an expression within a procedure keeps its value: an activation that comes to its place goes on behind its code with
-- what it comes to by the locals that it has there
abbrev pub KeepsValueAt : Numbers → Procedure → Standing → Type 0
KeepsValueAt n pr at =
    (p : Parts) (env : Environment) (q : ℕ) (stack locals : List ℤ) (taken : Taken) (k : ℕ) (r : Result ℤ PlusEnd)
    → HasSpelling p → KindsPass p → PlusPasses p → SpeakOf n p → procedure_at p q ≡ Some pr → HasSet env pr.needs
    → Derives p env q (record { place = at.place; stack = stack; locals = locals; taken = taken }) k r
    → GoesOnWith p env q (value_of n at.scope p env locals at.expression) (at.place + length (expression_code n at.scope at.expression)) stack locals taken r

-- WHAT BECOMES OF THEM

-- what an expression becomes: a procedure without arguments and locals
pub record IsCompiled (n : Numbers) (procedures : List Procedure) (e : Expression) (pr : Procedure) : Type 0 where
  pub arguments : pr.arguments ≡ 0
  pub locals : pr.locals ≡ 0
  pub code : pr.code ≡ procedure_code n e
  pub limits : KeepsLimits pr
  pub needs : NeedsWhatItAsks n procedures pr
  pub value : KeepsValue n e pr

-- what a PROCEDURE becomes: a procedure whose expressions keep their values
pub record IsCompiledProcedure (n : Numbers) (procedures : List Procedure) (procedure : TextProcedure) (pr : Procedure) : Type 0 where
  pub arguments : pr.arguments ≡ length procedure.arguments.items
  pub locals : pr.locals ≡ length (body_of n procedure).scope
  pub code : pr.code ≡ body_code (body_of n procedure)
  pub limits : KeepsLimits pr
  pub needs : NeedsWhatItAsks n procedures pr
  pub values : All (KeepsValueAt n pr) (body_of n procedure).values

-- an expression becomes such a procedure, unless there is a fault
abbrev pub Compiles : {E : Type 0} → Numbers → List Procedure → Expression → Result Procedure E → Type 0
Compiles n procedures e result = IfOk result (IsCompiled n procedures e)

-- and so does a PROCEDURE
abbrev pub CompilesProcedure : {E : Type 0} → Numbers → List Procedure → TextProcedure → Result Procedure E → Type 0
CompilesProcedure n procedures procedure result = IfOk result (IsCompiledProcedure n procedures procedure)

-- code has no more instructions and BACKs than that of a procedure of an object may have
abbrev pub KeepsCodeLimits : List Instruction → Type 0
KeepsCodeLimits code = (length code ≤ most_instructions) × (backs code ≤ most_backs)

-- or more
abbrev pub ExceedsCodeLimits : List Instruction → Type 0
ExceedsCodeLimits code = (most_instructions < length code) ⊎ (most_backs < backs code)

-- a body has more locals, instructions or BACKs than a procedure of an object may have
abbrev pub ExceedsLimits : Piece → Type 0
ExceedsLimits body = (most_locals < length body.scope) ⊎ ExceedsCodeLimits (body_code body)

-- an answer goes by what becomes a procedure: by the first to blame in it, and that of a limit by what exceeds one; by an expression
abbrev pub JudgesProcedure : {A : Type 0} → Numbers → Expression → Result A CompileFault → Type 0
JudgesProcedure n e answer = Judges (first_blame n [] e) (most_instructions < length (procedure_code n e)) answer

-- and by a body
abbrev pub JudgesBody : {A : Type 0} → Piece → Result A CompileFault → Type 0
JudgesBody body answer = Judges body.blame (ExceedsLimits body) answer
