-- The checks of PLUS code, in order: of each procedure, and of each of its instructions.
use Rattle.std.specs.Prelude.{◌≡◌, ◌<◌, ◌≤◌, ℕ, ◌+◌, ◌-◌, List, [], ◌∷◌, ◌++◌, length, Option, Some, None, Bool, true, false, ◌==◌, ◌&&◌, nat_le}
use Rattle.std.specs.List.{list_all}
use Rattle.gw_num.specs.Table.{at, put}
use Rattle.gw_object.specs.declared.code.Instruction.{Instruction}
use Rattle.gw_object.specs.declared.code.Procedure.{Procedure}
use Rattle.gw_object.specs.declared.fault.Place.TheVariants as places
use Rattle.gw_object.specs.declared.parts.Entity.{Entity}
use Rattle.gw_object.specs.declared.parts.Parts.{Parts}
use Rattle.gw_rules.specs.Checks.{Check, check, first_broken}
use Rattle.gw_rules.specs.PlusCodes as codes
use Rattle.gw_rules.specs.Code.{most_values, takes, leaves, targets, leads_well, called_in, calls_lower, asks_for, is_among, cost_of_code}

-- HEIGHTS

-- the heights of the stack that are known so far, by the number of the instruction before which the stack has them
abbrev pub Heights : Type 0
Heights = List (Option ℕ)

-- a height that comes to an instruction is the one that it already has, if it has one
abbrev pub agrees : ℕ → Option ℕ → Bool
agrees height None = true
agrees height (Some known) = known == height

-- the height that is known, or 0
abbrev pub known_height : Option ℕ → ℕ
known_height None = 0
known_height (Some height) = height

-- the height after an instruction that has this one before it
abbrev pub height_after : Parts → Instruction → ℕ → ℕ
height_after p i height = height - takes p i + leaves i

-- the heights, with this one at each of these instructions
abbrev pub spread : Heights → ℕ → List ℕ → Heights
spread heights height [] = heights
spread heights height (target ∷ targets) = spread (put None heights target (Some height)) height targets

-- the heights once the instruction k has told its own to those to which it leads
abbrev pub heights_after : Parts → Heights → ℕ → Instruction → Heights
heights_after p heights k i = spread heights (height_after p i (known_height (at None heights k))) (targets k i)

-- a height is the one that is known where the instruction k leads
abbrev pub agrees_ahead : Heights → ℕ → ℕ → Instruction → Bool
agrees_ahead heights height k i = list_all (λ target. agrees height (at None heights target)) (targets k i)

-- a height after the instruction k is no more than the stack holds, and the one that is known where it leads
abbrev pub fits_ahead : Heights → ℕ → ℕ → Instruction → Bool
fits_ahead heights height k i = nat_le height most_values && agrees_ahead heights height k i

-- ONE INSTRUCTION

-- of the instruction k of the procedure n: a height is known before it (30); it leads where it may (32), calls a lower
-- procedure (33), and asks for parameters that the procedure needs (35); it finds as many values as it takes (31), and
-- leaves no more than the stack holds, and the height that is known where it leads (30)
abbrev pub instruction_checks : Parts → ℕ → Procedure → Heights → ℕ → Instruction → Option ℕ → List Check
instruction_checks p n pr heights k i None = check codes.stack_height (places.Code n k) false ∷ []
instruction_checks p n pr heights k i (Some height) =
    check codes.bad_jump (places.Code n k) (leads_well (length pr.code) k i)
    ∷ check codes.call_order (places.Code n k) (calls_lower n (called_in p.entities i))
    ∷ check codes.needs_param (places.Code n k) (list_all (is_among pr.needs) (asks_for p i))
    ∷ check codes.stack_empty (places.Code n k) (nat_le (takes p i) height)
    ∷ check codes.stack_height (places.Code n k) (fits_ahead heights (height_after p i height) k i)
    ∷ []

-- CODE

-- of the instructions from k on, in order; each tells its height to those to which it leads
abbrev pub code_checks : Parts → ℕ → Procedure → Heights → ℕ → List Instruction → List Check
code_checks p n pr heights k [] = []
code_checks p n pr heights k (i ∷ code) =
    instruction_checks p n pr heights k i (at None heights k)
    ++ code_checks p n pr (heights_after p heights k i) (k + 1) code

-- of all instructions of the procedure n, with an empty stack before the first
abbrev pub body_checks : Parts → ℕ → Procedure → List Check
body_checks p n pr = code_checks p n pr (Some 0 ∷ []) 0 pr.code

-- there are instructions
abbrev pub has_code : List Instruction → Bool
has_code [] = false
has_code (i ∷ code) = true

-- the most that a procedure may cost
abbrev pub greatest_cost : ℕ
greatest_cost = 1000000000

-- code costs more than that, by the costs of the procedures below
abbrev pub IsTooCostly : List Entity → List ℕ → List Instruction → Type 0
IsTooCostly es costs code = greatest_cost < cost_of_code es costs code

-- it costs so much, and may
abbrev pub MayCost : List Entity → List ℕ → List Instruction → ℕ → Type 0
MayCost es costs code cost = (cost ≡ cost_of_code es costs code) × (cost ≤ greatest_cost)

-- what a procedure costs, by the costs of those below
abbrev pub cost_of : Parts → List ℕ → Procedure → ℕ
cost_of p costs pr = cost_of_code p.entities costs pr.code

-- of the code of the procedure n as a whole, by the costs of those below: it has an instruction (32), and isn't too costly (34)
abbrev pub whole_checks : Parts → List ℕ → ℕ → List Instruction → List Check
whole_checks p costs n code =
    check codes.bad_jump (places.Code n 0) (has_code code)
    ∷ check codes.too_costly (places.Code n 0) (nat_le (cost_of_code p.entities costs code) greatest_cost)
    ∷ []

-- of the procedure n: its instructions, and then its code as a whole
abbrev pub procedure_checks : Parts → List ℕ → ℕ → Procedure → List Check
procedure_checks p costs n pr = body_checks p n pr ++ whole_checks p costs n pr.code

-- of the procedures from n on, in order
abbrev pub checks_from : Parts → List ℕ → ℕ → List Procedure → List Check
checks_from p costs n [] = []
checks_from p costs n (pr ∷ prs) = procedure_checks p costs n pr ++ checks_from p (costs ++ cost_of_code p.entities costs pr.code ∷ []) (n + 1) prs

-- every check of PLUS code, in order
unfoldable pub plus_checks : Parts → List Check
plus_checks p = checks_from p [] 0 p.procedures

-- PLUS code passes: no check of it is broken
abbrev pub PlusPasses : Parts → Type 0
PlusPasses p = first_broken (plus_checks p) ≡ None
