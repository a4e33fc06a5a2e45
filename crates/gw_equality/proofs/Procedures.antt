-- The derived `==` of procedures and of their instructions answers true only for equal values.
use denote.Enum.Bare.{same_true}
use Rattle.gw_equality.specs.Same.{TellsApart, same_instruction, same_procedure}
use Rattle.gw_equality.proofs.Fields.{OnlyEqual, apart, nat_only, int_only, list_only, of_fields, ◌⊗◌, ◌⊕◌, bare, no_more, of_choices}
use Rattle.gw_equality.proofs.Blocks.{attribute_only, numbered_only}
use Rattle.gw_num.specs.contracts.operators.UnaryPartialEq.TheImpl as unary_eq
use Rattle.gw_num.specs.contracts.operators.Unary as unary_type
use Rattle.gw_num.specs.contracts.operators.BinaryPartialEq.TheImpl as binary_eq
use Rattle.gw_num.specs.contracts.operators.Binary as binary_type
use Rattle.gw_object.specs.declared.code.Back.{Back}
use Rattle.gw_object.specs.declared.code.Procedure.{Procedure}
use Rattle.gw_object.specs.contracts.code.SnaPartialEq.TheImpl as sna_eq
use Rattle.gw_object.specs.contracts.code.Sna as sna_type
use Rattle.gw_object.specs.contracts.code.BackPartialEq.TheImpl as back_eq
use Rattle.gw_object.specs.contracts.code.InstructionPartialEq.TheImpl as instruction_eq
use Rattle.gw_object.specs.contracts.code.Instruction as instruction_type
use Rattle.gw_object.specs.contracts.code.ProcedurePartialEq.TheImpl as procedure_eq
use Rattle.gw_object.specs.contracts.code.InstructionEq.TheImpl.Laws as instruction_laws
use Rattle.gw_object.specs.contracts.code.ProcedureEq.TheImpl.Laws as procedure_laws

pub unary_only : OnlyEqual unary_eq.ghosts.eq
unary_only = same_true unary_type.the_type tt

pub binary_only : OnlyEqual binary_eq.ghosts.eq
binary_only = same_true binary_type.the_type tt

pub sna_only : OnlyEqual sna_eq.ghosts.eq
sna_only = of_choices sna_type.enum (nat_only ⊕ attribute_only ⊕ numbered_only ⊕ no_more)

pub back_only : OnlyEqual back_eq.ghosts.eq
back_only = of_fields (λ (x : Back). (x.target, x.count)) (λ f. record { target = f.0; count = f.1 }) (λ x i. x) (nat_only ⊗ nat_only)

pub instruction_only : OnlyEqual instruction_eq.ghosts.eq
instruction_only = of_choices instruction_type.enum
    (int_only ⊕ nat_only ⊕ nat_only ⊕ sna_only ⊕ binary_only ⊕ unary_only ⊕ bare (nat_only ⊕ nat_only ⊕ back_only ⊕ nat_only ⊕ bare no_more))

pub instruction_apart : TellsApart same_instruction
instruction_apart = apart instruction_laws.laws-law instruction_only

pub procedure_only : OnlyEqual procedure_eq.ghosts.eq
procedure_only = of_fields (λ (x : Procedure). (x.arguments, (x.locals, (x.needs, x.code))))
    (λ f. record { arguments = f.0; locals = f.1.0; needs = f.1.1.0; code = f.1.1.1 }) (λ x i. x)
    (nat_only ⊗ nat_only ⊗ list_only nat_only ⊗ list_only instruction_only)

pub procedure_apart : TellsApart same_procedure
procedure_apart = apart procedure_laws.laws-law procedure_only
