-- What the verifier checks of an object, in order: kinds, then PLUS code, then flow, then weights.
use Rattle.std.specs.Prelude.{◌≡◌, ◌⊎◌, ℕ, List, [], ◌∷◌, ◌++◌, Option, Some, None, Result, IfErr, max}
use Rattle.gw_object.specs.declared.fault.Fault.{Fault}
use Rattle.gw_object.specs.declared.parts.Parts.{Parts}
use Rattle.gw_object.specs.Reading.{out_of_memory}
use Rattle.gw_rules.specs.Checks.{Check, first_broken}
use Rattle.gw_rules.specs.Pass.{kinds_checks}
use Rattle.gw_rules.specs.PlusChecks.{plus_checks}
use Rattle.gw_rules.specs.Flow.{own_table, flow_checks}
use Rattle.gw_rules.specs.Weights.{weight_checks}

-- the checks for which no memory is needed, up to flow: of kinds, then of PLUS code
abbrev pub first_checks : Parts → List Check
first_checks p = kinds_checks p ++ plus_checks p

-- the checks of a checked object, in order: those, then of flow with the object's own table
unfoldable pub checks : Parts → List Check
checks p = first_checks p ++ flow_checks p (own_table p)

-- a checked object: none of these is broken
abbrev pub Checked : Parts → Type 0
Checked p = first_broken (checks p) ≡ None

-- every check in order: those, then of weights
abbrev pub all_checks : Parts → List Check
all_checks p = checks p ++ weight_checks p

-- the first fault, if there is one
unfoldable pub fault_of : Parts → Option Fault
fault_of p = first_broken (all_checks p)

-- why an object isn't accepted: by its first fault, or because memory ran out
abbrev pub IsRefusedFor : Parts → Fault → Type 0
IsRefusedFor p fault = (fault_of p ≡ Some fault) ⊎ (fault ≡ out_of_memory)

-- the first fault of the checks for which no memory is needed is told, by the error that there is
abbrev pub TellsFirst : {X E : Type 0} → Parts → (E → Fault) → Result X E → Type 0
TellsFirst p told result = (fault : Fault) → first_broken (first_checks p) ≡ Some fault → IfErr result (λ e. told e ≡ fault)

-- an accepted object: no check is broken
abbrev pub Accepted : Parts → Type 0
Accepted p = fault_of p ≡ None

-- the greatest of these weights, or 0
abbrev pub heaviest : List ℕ → ℕ
heaviest [] = 0
heaviest (weight ∷ rest) = max weight (heaviest rest)
