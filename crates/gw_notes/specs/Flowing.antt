-- Which blocks join a queue, depart from it, or count.
use Rattle.std.specs.Prelude.{ℕ, Bool, false, ◌&&◌, not, nat_eq}
use Rattle.std.specs.List.{list_any}
use Rattle.gw_object.specs.declared.blocks.Block.{Block}
use Rattle.gw_object.specs.declared.blocks.Block.TheVariants.{Queue, Depart, Terminate}
use Rattle.gw_object.specs.declared.parts.Parts.{Parts}
use Rattle.gw_notes.specs.Drawing.{is_zero}

-- a block joins the queue of an entity
abbrev pub joins : Block → ℕ → Bool
joins (Queue units) entity = nat_eq units.entity entity
joins block entity = false

-- a block departs from the queue of an entity
abbrev pub departs : Block → ℕ → Bool
departs (Depart units) entity = nat_eq units.entity entity
departs block entity = false

-- an entity is joined as a queue, and nobody departs from it
abbrev pub only_grows : Parts → ℕ → Bool
only_grows parts entity =
    list_any (λ block. joins block entity) parts.blocks && not (list_any (λ block. departs block entity) parts.blocks)

-- a block may let the termination count fall: a TERMINATE whose operand isn't the number 0
abbrev pub counts : Block → Bool
counts (Terminate by) = not (is_zero by)
counts block = false

-- no block lets the termination count fall
abbrev pub nothing_counts : Parts → Bool
nothing_counts parts = not (list_any counts parts.blocks)
