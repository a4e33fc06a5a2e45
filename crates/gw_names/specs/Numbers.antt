-- The numbers of names, as functions.
use Rattle.gw_object.specs.declared.blocks.Operand.TheVariants as operands
use Rattle.gw_rules.specs.Sources.{source_of}
use Rattle.gw_compile.specs.Numbers.{Numbers}
use Rattle.gw_names.specs.declared.names.Names.{Names}
use Rattle.gw_names.specs.Known.{found_in, entity_of}

-- what the names of a text stand for
abbrev pub numbers_of : Names → Numbers
numbers_of names = record {
  entity = entity_of names.entities;
  block = found_in names.blocks;
  parameter = found_in names.parameters;
  procedure = found_in names.procedures;
  equ = found_in names.equs;
  source = λ of. source_of names.list.items (operands.OfEntity of);
}
