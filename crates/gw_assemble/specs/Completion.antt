-- From the parts of an object to one that is accepted.
use Rattle.std.specs.Prelude.{◌≡◌, ◌⊎◌, ℕ, ◌+◌, List, Some}
use Rattle.gw_object.specs.Limits.{most_parameters}
use Rattle.gw_object.specs.declared.fault.Fault.{Fault}
use Rattle.gw_object.specs.declared.parts.Parts.{Parts}
use Rattle.gw_object.specs.Grammar.{HasSpelling}
use Rattle.gw_object.specs.Reading.{out_of_memory}
use Rattle.gw_rules.specs.Checks.{first_broken}
use Rattle.gw_rules.specs.Pass.{KindsPass}
use Rattle.gw_rules.specs.PlusChecks.{PlusPasses}
use Rattle.gw_settle.specs.Settles.{Passes, HasAssemblersTable, IsGreatest, past_limit, IsRefused, IsComplete}
use Rattle.gw_weighing.specs.Certificates.{AreCertificate}
use Rattle.gw_slopes.specs.Found.{IsWeighed, IsTooLong, FailsAtNoEdge, HelpNoneBefore}
use Rattle.gw_slopes.specs.declared.weighing.Refusal.{Refusal}
use Rattle.gw_slopes.specs.declared.weighing.Refusal.TheVariants.{OutOfMemory, PastLimit}
use Rattle.gw_rules.specs.Accepted.{first_checks, fault_of, Accepted}

-- an object has a spelling, and the verifier accepts it
pub record IsAccepted (p : Parts) : Type 0 where
  pub spelled : HasSpelling p
  pub accepted : Accepted p

-- an object is another one with the assembler's state table, with which kinds, PLUS code and flow pass, and each row of
-- which fits that of every table with which flow passes
pub record IsSettlement (p settled : Parts) : Type 0 where
  pub spelled : HasSpelling settled
  pub passes : Passes p settled
  pub code : PlusPasses settled
  pub table : HasAssemblersTable p settled
  pub greatest : IsGreatest p settled

-- an object is another one with the assembler's state table, and with the weights and the slopes that the assembler finds then
pub record IsCompletion (p q : Parts) : Type 0 where
  pub settled : Parts
  pub settlement : IsSettlement p settled
  pub weights : IsWeighed settled q

-- a limit of the object format is passed
abbrev pub PassesLimit : Parts → Fault → Type 0
PassesLimit p fault = (fault ≡ past_limit) × ¬ HasSpelling p

-- an object has a spelling, and kinds or PLUS code refuse it
pub record BreaksFirst (p : Parts) (fault : Fault) : Type 0 where
  pub spelled : HasSpelling p
  pub refused : first_broken (first_checks p) ≡ Some fault

-- an object has a spelling, and there is no state table: the refusal is that of settling, so where flow passes with any table it is none of flow's
pub record HasNoTable (p : Parts) (fault : Fault) : Type 0 where
  pub spelled : HasSpelling p
  pub kinds : KindsPass p
  pub code : PlusPasses p
  pub settling : IsRefused p fault
  pub complete : IsComplete p fault

-- WEIGHTS

-- an object has a spelling, but no weights at all pass in it, and where it fails at an edge no slopes help that are
-- tried: the refusal is the first with its own
pub record FailsByWeights (p : Parts) (fault : Fault) : Type 0 where
  pub spelled : HasSpelling p
  pub refused : fault_of p ≡ Some fault
  pub none : (weights chains : List ℕ) → AreCertificate p weights chains → ⊥
  pub slopes : FailsAtNoEdge p ⊎ HelpNoneBefore p (most_parameters + 1)

-- no weights pass in an object with the assembler's state table; or with the slopes that help a limit is passed; or memory ran out
abbrev pub IsUnweighed : Parts → Fault → Type 0
IsUnweighed settled fault = ((q : Parts) × IsWeighed settled q × FailsByWeights q fault)
    ⊎ (((fault ≡ past_limit) × IsTooLong settled) ⊎ (fault ≡ out_of_memory))

-- the fault where there are no weights
abbrev pub fault_without : Refusal → Fault
fault_without OutOfMemory = out_of_memory
fault_without PastLimit = past_limit

-- with the assembler's state table no weights at all pass
abbrev pub HasNoWeights : Parts → Fault → Type 0
HasNoWeights p fault = (q : Parts) × IsCompletion p q × FailsByWeights q fault

-- with the assembler's state table, and with the slopes that help, a limit of the object format is passed
pub record HasLongSlopes (p : Parts) (fault : Fault) : Type 0 where
  pub is : fault ≡ past_limit
  pub settled : Parts
  pub settlement : IsSettlement p settled
  pub long : IsTooLong settled

-- why there is no completion: the first of these that refuses, or want of memory
abbrev pub HasNoCompletion : Parts → Fault → Type 0
HasNoCompletion p fault = PassesLimit p fault
    ⊎ (BreaksFirst p fault ⊎ (HasNoTable p fault ⊎ (HasNoWeights p fault ⊎ (HasLongSlopes p fault ⊎ (fault ≡ out_of_memory)))))
