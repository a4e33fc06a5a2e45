-- What the operands of a statement become, where names have these numbers; nothing where a name isn't known, or an operand has a form that doesn't stand there.
use Rattle.std.specs.Prelude.{ℕ, List, Option, Some, None, Bool, true, false, ℤ, pos, negsuc, if◌then◌else◌, nat_le, int_le, ◌&&◌, slice_get}
use Rattle.std.specs.Prelude.{option_map, option_and_then, string_bytes, codes}
use Rattle.std.specs.Option.{option_flatten}
use Rattle.std.specs.Str.{bytes_eq}
use Rattle.gw_object.specs.declared.blocks.Operand.{Operand}
use Rattle.gw_object.specs.declared.blocks.Operand.TheVariants as operands
use Rattle.gw_object.specs.declared.blocks.Mode.{Mode}
use Rattle.gw_object.specs.declared.blocks.Mode.TheVariants as modes
use Rattle.gw_object.specs.declared.blocks.LinkOrder.{LinkOrder}
use Rattle.gw_object.specs.declared.blocks.LinkOrder.TheVariants as orders
use Rattle.gw_rules.specs.declared.entities.EntityKind.{EntityKind}
use Rattle.gw_rules.specs.Sources.{as_operand}
use Rattle.gw_text_expressions.specs.declared.model.Sna.{Sna}
use Rattle.gw_text_expressions.specs.declared.model.Sna.TheVariants.{Random}
use Rattle.gw_text_statements.specs.declared.model.Operand.{Operand as Text}
use Rattle.gw_text_statements.specs.declared.model.Operand.TheVariants as texts
use Rattle.gw_text_statements.specs.declared.model.Modifier.{Modifier}
use Rattle.gw_text_statements.specs.declared.model.Modifier.TheVariants.{Plus, Minus}
use Rattle.gw_compile.specs.declared.numbering.Equ.{Equ}
use Rattle.gw_compile.specs.declared.numbering.Equ.TheVariants.{Number, Procedure}
use Rattle.gw_compile.specs.Numbers.{Numbers}
use Rattle.gw_compile.specs.Attributes.{attribute_in}

-- VALUES

-- the value that an EQU is
abbrev pub equ_value : Equ → Operand
equ_value (Number z) = operands.Constant z
equ_value (Procedure q) = operands.Procedure q

-- an attribute as a value; a random number is one too
abbrev pub attribute_value : Numbers → Sna → Option Operand
attribute_value n (Random stream) = Some (operands.Random stream)
attribute_value n sna = option_map as_operand (attribute_in n sna)

-- a value, where this is the number of the procedure that the operand becomes, if it is an expression; a missing one is 0
abbrev pub value_in : Numbers → Option ℕ → Text → Option Operand
value_in n compiled texts.Missing = Some (operands.Constant (pos 0))
value_in n compiled (texts.Whole z) = Some (operands.Constant z)
value_in n compiled (texts.Name name) = option_map equ_value (n.equ (string_bytes name))
value_in n compiled (texts.Sna sna) = attribute_value n sna
value_in n compiled (texts.Expression e) = option_map operands.Procedure compiled
value_in n compiled (texts.Fraction thousandths) = None
value_in n compiled texts.Both = None

-- the procedure that the operand at a position becomes, if it is an expression
abbrev pub procedure_at : List (Option ℕ) → ℕ → Option ℕ
procedure_at procedures k = option_flatten (slice_get procedures k)

-- NAMES

-- the name that an operand is, if it is one
abbrev pub name_in : Text → Option (List ℕ)
name_in (texts.Name name) = Some (string_bytes name)
name_in texts.Missing = None
name_in (texts.Whole z) = None
name_in (texts.Sna sna) = None
name_in (texts.Expression e) = None
name_in (texts.Fraction thousandths) = None
name_in texts.Both = None

-- the entity of a kind
abbrev pub entity_in : Numbers → EntityKind → Text → Option ℕ
entity_in n kind operand = option_and_then (n.entity kind) (name_in operand)

-- the block of a label
abbrev pub block_in : Numbers → Text → Option ℕ
block_in n operand = option_and_then n.block (name_in operand)

-- the same, or none where it is missing
abbrev pub optional_block_in : Numbers → Text → Option (Option ℕ)
optional_block_in n texts.Missing = Some None
optional_block_in n (texts.Name name) = option_map Some (n.block (string_bytes name))
optional_block_in n (texts.Whole z) = None
optional_block_in n (texts.Sna sna) = None
optional_block_in n (texts.Expression e) = None
optional_block_in n (texts.Fraction thousandths) = None
optional_block_in n texts.Both = None

-- NUMBERS

-- a number that isn't below 0 and at most this
abbrev pub up_to : ℕ → ℤ → Option ℕ
up_to most (pos n) = if nat_le n most then Some n else None
up_to most (negsuc n) = None

-- a whole number; a missing one is this
abbrev pub whole_in : ℤ → Text → Option ℤ
whole_in missing texts.Missing = Some missing
whole_in missing (texts.Whole z) = Some z
whole_in missing (texts.Name name) = None
whole_in missing (texts.Sna sna) = None
whole_in missing (texts.Expression e) = None
whole_in missing (texts.Fraction thousandths) = None
whole_in missing texts.Both = None

-- a number that 32 bits hold with their sign
abbrev pub in_32_bits : ℤ → Option ℤ
in_32_bits z = if int_le (negsuc 2147483647) z && int_le z (pos 2147483647) then Some z else None

-- a priority; a missing one is 0
abbrev pub priority_in : Text → Option ℤ
priority_in operand = option_and_then in_32_bits (whole_in (pos 0) operand)

-- how many there are of something, at most so many
abbrev pub count_in : ℕ → ℕ → Text → Option ℕ
count_in most missing operand = option_and_then (up_to most) (whole_in (pos missing) operand)

-- a whole number that is written, from 0 to this
abbrev pub number_in : ℕ → Text → Option ℕ
number_in most (texts.Whole z) = up_to most z
number_in most texts.Missing = None
number_in most (texts.Name name) = None
number_in most (texts.Sna sna) = None
number_in most (texts.Expression e) = None
number_in most (texts.Fraction thousandths) = None
number_in most texts.Both = None

-- a whole number, or none where it is missing
abbrev pub optional_whole_in : Text → Option (Option ℤ)
optional_whole_in texts.Missing = Some None
optional_whole_in (texts.Whole z) = Some (Some z)
optional_whole_in (texts.Name name) = None
optional_whole_in (texts.Sna sna) = None
optional_whole_in (texts.Expression e) = None
optional_whole_in (texts.Fraction thousandths) = None
optional_whole_in texts.Both = None

-- the same in 32 bits
abbrev pub optional_count_in : Text → Option (Option ℕ)
optional_count_in texts.Missing = Some None
optional_count_in (texts.Whole z) = option_map Some (up_to 4294967295 z)
optional_count_in (texts.Name name) = None
optional_count_in (texts.Sna sna) = None
optional_count_in (texts.Expression e) = None
optional_count_in (texts.Fraction thousandths) = None
optional_count_in texts.Both = None

-- PARAMETERS

-- a parameter, by its number or by its name
abbrev pub parameter_in : Numbers → Text → Option ℕ
parameter_in n (texts.Name name) = n.parameter (string_bytes name)
parameter_in n (texts.Whole z) = up_to 255 z
parameter_in n texts.Missing = None
parameter_in n (texts.Sna sna) = None
parameter_in n (texts.Expression e) = None
parameter_in n (texts.Fraction thousandths) = None
parameter_in n texts.Both = None

-- the same, or none where it is missing
abbrev pub optional_parameter_in : Numbers → Text → Option (Option ℕ)
optional_parameter_in n texts.Missing = Some None
optional_parameter_in n (texts.Name name) = option_map Some (n.parameter (string_bytes name))
optional_parameter_in n (texts.Whole z) = option_map Some (up_to 255 z)
optional_parameter_in n (texts.Sna sna) = None
optional_parameter_in n (texts.Expression e) = None
optional_parameter_in n (texts.Fraction thousandths) = None
optional_parameter_in n texts.Both = None

-- WORDS

-- how a value is changed, by the sign behind it
abbrev pub mode_in : Option Modifier → Mode
mode_in (Some Plus) = modes.Add
mode_in (Some Minus) = modes.Subtract
mode_in modifier = modes.Set

-- at which end of a user chain a LINK joins: LIFO, or FIFO where that is written or nothing is
abbrev pub order_in : Text → LinkOrder
order_in (texts.Name name) = if bytes_eq (string_bytes name) (codes "LIFO") then orders.Lifo else orders.Fifo
order_in operand = orders.Fifo

-- whether something is written
abbrev pub is_written : Text → Bool
is_written texts.Missing = false
is_written operand = true
