-- The numbers of names, where what is evaluated for attributes is left open.
use Rattle.gw_object.specs.declared.blocks.Numbered.{Numbered}
use Rattle.gw_object.specs.declared.blocks.Operand.{Operand}
use Rattle.gw_object.specs.declared.blocks.Operand.TheVariants as operands
use Rattle.gw_object.specs.declared.parts.Entity.{Entity}
use Rattle.gw_rules.specs.Sources.{source_of}
use Rattle.gw_compile.specs.Numbers.{Numbers}
use Rattle.std.specs.Prelude.{List}

-- numbers of names, where this is evaluated for attributes in the end: what that is doesn't matter while entities are made
abbrev pub with_source : Numbers → (Numbered → Operand) → Numbers
with_source n source = record n { source = source }

-- what is evaluated for an attribute, where an object has these entities
abbrev pub source_in : List Entity → Numbered → Operand
source_in entities of = source_of entities (operands.OfEntity of)
