-- How many slots each transaction has for parameters.
use Rattle.std.specs.Prelude.{ℕ, max, List, [], ◌∷◌, unwrap_or}
use Rattle.gw_object.specs.declared.blocks.Block.{Block}
use Rattle.gw_object.specs.declared.blocks.Block.TheVariants as blocks

-- the parameter that a block sets, by its number; 0 where it sets none
abbrev pub set_by : Block → ℕ
set_by (blocks.Assign a) = a.parameter
set_by (blocks.Loop l) = l.parameter
set_by (blocks.Mark p) = unwrap_or p 0
set_by (blocks.Plus a) = unwrap_or a.parameter 0
set_by (blocks.TransferToSubroutine c) = c.parameter
set_by block = 0

-- the greatest number of a parameter that blocks set; 0 where they set none
abbrev pub greatest_set : List Block → ℕ
greatest_set [] = 0
greatest_set (block ∷ bs) = max (set_by block) (greatest_set bs)
