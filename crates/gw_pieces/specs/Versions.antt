-- Which version of the object format blocks ask for.
use Rattle.std.specs.Prelude.{ℕ, List, Bool, true, false, if◌then◌else◌}
use Rattle.std.specs.List.{list_any}
use Rattle.gw_object.specs.declared.blocks.Block.{Block}
use Rattle.gw_object.specs.declared.blocks.Block.TheVariants.{TransferBoth}

-- whether the first version doesn't have a block
abbrev pub is_choice : Block → Bool
is_choice (TransferBoth t) = true
is_choice block = false

-- whether it doesn't have one of these
abbrev pub has_choice : List Block → Bool
has_choice blocks = list_any is_choice blocks

-- the least version that has these blocks
abbrev pub version_of : List Block → ℕ
version_of blocks = if has_choice blocks then 2 else 1
