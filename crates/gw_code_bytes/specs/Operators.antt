-- Instructions of which nothing stands behind the tag.
use Rattle.std.specs.Prelude.{◌≡◌, ℕ, List, ◌∷◌, Ok}
use Rattle.gw_object.specs.declared.code.Instruction.{Instruction}
use Rattle.gw_object.specs.CodeGrammar.{instruction_read}

-- the tag alone spells this instruction
abbrev pub StandsFor : ℕ → Instruction → Type 0
StandsFor tag i = (rest : List ℕ) → instruction_read (tag ∷ rest) ≡ Ok (i, rest)
