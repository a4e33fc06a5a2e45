-- When PLUS code passes its checks, apart from their order: the stack has one height before each instruction.
use Rattle.std.specs.Prelude.{◌≡◌, ◌↔◌, ℕ, ◌<◌, ◌≤◌, List, length, slice_get, Some, IsTrue, All}
use Rattle.std.specs.List.{list_all}
use Rattle.gw_num.specs.Table.{at}
use Rattle.gw_object.specs.declared.code.Instruction.{Instruction}
use Rattle.gw_object.specs.declared.code.Procedure.{Procedure}
use Rattle.gw_object.specs.declared.parts.Parts.{Parts}
use Rattle.gw_rules.specs.Code.{procedure_at, most_values, takes, targets, leads_well, called_in, calls_lower, asks_for, is_among, costs_of}
use Rattle.gw_rules.specs.PlusChecks.{PlusPasses, height_after, greatest_cost}

-- each rule holds at the instruction k of the procedure n, where the stack has these heights before instructions
pub record RulesHold (p : Parts) (n : ℕ) (pr : Procedure) (height : ℕ → ℕ) (k : ℕ) (i : Instruction) : Type 0 where
  -- it leads where it may
  pub leads : IsTrue (leads_well (length pr.code) k i)
  -- it calls a lower procedure, if it calls one
  pub calls : IsTrue (calls_lower n (called_in p.entities i))
  -- the procedure needs each parameter that it asks for
  pub needs : IsTrue (list_all (is_among pr.needs) (asks_for p i))
  -- it finds as many values as it takes
  pub finds : takes p i ≤ height k
  -- it leaves no more than the stack holds
  pub leaves : height_after p i (height k) ≤ most_values
  -- wherever it leads, the stack has the height that it has after it
  pub ahead : All (λ target. height target ≡ height_after p i (height k)) (targets k i)

-- an earlier instruction leads to the instruction k
abbrev pub IsLedTo : List Instruction → ℕ → Type 0
IsLedTo code k = (j : ℕ) × (i : Instruction) × (j < k) × (slice_get code j ≡ Some i) × IsTrue (is_among (targets j i) k)

-- the stack has one height before each instruction of the procedure n, and is empty before the first; an earlier one
-- leads to each other one; each rule holds; and the procedure isn't too costly
pub record HasHeights (p : Parts) (n : ℕ) (pr : Procedure) : Type 0 where
  pub height : ℕ → ℕ
  pub start : height 0 ≡ 0
  pub code : 0 < length pr.code
  pub led_to : (k : ℕ) → 0 < k → k < length pr.code → IsLedTo pr.code k
  pub rules : (k : ℕ) (i : Instruction) → slice_get pr.code k ≡ Some i → RulesHold p n pr height k i
  pub cost : at 0 (costs_of p) n ≤ greatest_cost

-- PLUS code passes exactly where each procedure has such heights
abbrev pub PlusPassesByHeights : Type 0
PlusPassesByHeights = (p : Parts) → PlusPasses p ↔ ((n : ℕ) (pr : Procedure) → procedure_at p n ≡ Some pr → HasHeights p n pr)
