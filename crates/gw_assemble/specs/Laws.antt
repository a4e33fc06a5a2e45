-- What a refusal for weights says of every state table.
use Rattle.std.specs.Prelude.{◌≡◌}
use Rattle.gw_object.specs.declared.fault.Fault.{Fault}
use Rattle.gw_object.specs.declared.parts.Parts.{Parts}
use Rattle.gw_settle.specs.Keeps.{NoneChanged}
use Rattle.gw_settle.specs.Settles.{with_table}
use Rattle.gw_weighing.specs.Certificates.{with_weights}
use Rattle.gw_assemble.specs.Completion.{IsAccepted, HasNoWeights}

-- an object is another one with some return rows, some state table and some weights
abbrev pub DiffersInTableAndWeights : Parts → Parts → Type 0
DiffersInTableAndWeights p q = with_weights (with_table p q.returns q.states q.chain_states) q.weights q.chain_weights ≡ q

-- where no weights pass with the assembler's table, none do with any: no object that differs in its table and its
-- weights alone is accepted. Premise: no parameter both keeps a return and is added to or subtracted from
abbrev pub NoTableAndWeightsPass : Type 0
NoTableAndWeightsPass = (p : Parts) (fault : Fault) → NoneChanged p → HasNoWeights p fault → (q : Parts) → DiffersInTableAndWeights p q → IsAccepted q → ⊥
