-- What a reader of a form of blocks answers.
use Rattle.std.specs.Prelude.{ℕ, List, Result}
use Rattle.std.specs.Borrow.{Bor}
use Rattle.gw_object.specs.declared.blocks.Block.{Block}
use Rattle.gw_fields.specs.declared.error.ReadError.{ReadError}
use Rattle.gw_fields.specs.Answers.{Gives}
use Rattle.gw_fields.specs.Fields.{Field, read_as}

-- the block that is made of what this field reads, and the bytes behind that
abbrev pub GivesBlock : {B : Type 0} → (B → Block) → Field B → List ℕ → Result (Block × Bor (List ℕ)) ReadError → Type 0
GivesBlock make operands bytes result = Gives (λ x. (x.0, x.1.now)) result (read_as make operands.read bytes)
