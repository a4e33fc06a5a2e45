-- What assembling a model text answers.
use Rattle.std.specs.Prelude.{◌≡◌, ◌⊎◌, List, is_some, if◌then◌else◌}
use Rattle.std.specs.List.{list_any}
use Rattle.gw_object.specs.declared.fault.Fault.{Fault}
use Rattle.gw_object.specs.declared.parts.Parts.{Parts}
use Rattle.gw_text.specs.declared.model.Statement.{Statement}
use Rattle.gw_pieces.specs.Pieces.{IsDraft, IsMadeOf, AllCompute}
use Rattle.gw_pieces.specs.Versions.{version_of}
use Rattle.gw_pieces.specs.Making.{IsNotMade}
use Rattle.gw_assemble.specs.Completion.{IsCompletion, HasNoCompletion}

-- an object in the least version that has its blocks
abbrev pub in_least_version : Parts → Parts
in_least_version p = record p { version = version_of p.blocks }

-- an object has the least version that has its blocks and their slopes: 2 where a block has a slope
abbrev pub HasLeastVersion : Parts → Type 0
HasLeastVersion p = p.version ≡ (if list_any is_some p.slopes then 2 else version_of p.blocks)

-- statements become an object: it has one record for each block statement, in order, each expression is computed by a
-- procedure, and its state table is the assembler's
pub record Assembles (ss : List Statement) (p : Parts) : Type 0 where
  pub made : IsMadeOf ss (in_least_version p)
  pub version : HasLeastVersion p
  pub computes : AllCompute made.numbers made.order ss p
  -- what it was before it got a state table, weights and slopes
  pub before : Parts
  pub made_before : IsMadeOf ss before
  pub draft : IsDraft before
  pub completion : IsCompletion before p

-- statements are refused: at a line, or what they become has no state table and weights with which it is accepted
abbrev pub IsRefusal : List Statement → Fault → Type 0
IsRefusal ss fault = IsNotMade ss fault ⊎ ((before : Parts) × IsMadeOf ss before × IsDraft before × HasNoCompletion before fault)
