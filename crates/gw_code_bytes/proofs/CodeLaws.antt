-- The grammar of PLUS code is exact: attributes, instructions, code and procedures.
use Rattle.std.proofs.Common.{◌≡◌, ℕ, ◌≤◌, ◌<◌, Bool, true, false, leb, ◌&&◌, IsTrue, List, [], ◌∷◌, ◌++◌, length, Ok, Err, refl, sym, ap, ◌∙◌, arith, inl, inr}
use Rattle.std.specs.Int.{w16, w32, w64}
use Rattle.std.proofs.lemmas.Bool.{cases_lt, lt-leb, le-leb}
use Rattle.std.proofs.Math.Bool.{and-false}
use Rattle.gw_num.specs.declared.operators.Binary.TheVariants.{Power, Multiply, Divide, Remainder, Add, Subtract, Greater, GreaterOrEqual, Less}
use Rattle.gw_num.specs.declared.operators.Binary.TheVariants.{LessOrEqual, Equal, NotEqual, And, Or}
use Rattle.gw_num.specs.declared.operators.Unary.TheVariants.{Negate, Not}
use Rattle.gw_object.specs.Limits.{most_parameters, most_instructions, most_backs, most_locals}
use Rattle.gw_object.specs.BlockGrammar.{parameter_number, attribute, numbered_field, tag_form}
use Rattle.gw_block_bytes.proofs.BlockLaws.{parameter_number_exact, attribute_exact, numbered_exact}
use Rattle.gw_object.specs.declared.code.Sna.{Sna}
use Rattle.gw_object.specs.declared.code.Sna.TheVariants.{Parameter, Attribute, OfEntity}
use Rattle.gw_object.specs.declared.code.Instruction.{Instruction}
use Rattle.gw_object.specs.declared.code.Instruction.TheVariants.{Push, Get, Set, Value, Binary, Unary, Pop, Jump, JumpIfZero, Back, Call, Return}
use Rattle.gw_object.specs.declared.code.Procedure.{Procedure}
use Rattle.gw_fields.specs.Codes as codes
use Rattle.gw_fields.specs.declared.error.Bad.{Bad}
use Rattle.gw_fields.specs.Fields.{bad, byte, number, signed_number, nothing, form_read, by_tag, ElementsFit}
use Rattle.gw_object.specs.CodeGrammar.{SnaFits, sna_spelling, sna_forms, sna_read, sna, BackFits, jump_back, InstructionFits, instruction_spelling, instruction_forms, instruction_read, instruction, is_back, backs, begins_with_back, next_instruction, need, counts, ProcedureFits, NeedsAscend, procedure}
use Rattle.gw_field_bytes.proofs.AboveLast.{above_last_exact, above_last_fit, above_last_ascends}
use Rattle.gw_object.proofs.Backs.{backs_within, code_fits, begins_as_it_is, front_of_back}
use Rattle.gw_field_bytes.proofs.Exact.{IsBytes, Takes, CutsFronts, chosen, err_is, not_both, ReadsBack, ◌also◌, tag_reads_back, IsExactForm}
use Rattle.gw_field_bytes.proofs.Exact.{AreExactForms, behind_exact, by_tag_exact, IsExact, byte_exact, wide16, wide32, wide64}
use Rattle.gw_field_bytes.proofs.ExactLists.{IsExactElement}
use Rattle.gw_field_bytes.proofs.Exact.{number_exact, signed_exact, nothing_exact, made_exact, both_exact, and_then_exact, fitting_exact}
use Rattle.gw_field_bytes.proofs.Exact.{ranged_exact}
use Rattle.gw_field_bytes.proofs.ExactLists.{listed_exact, All-from_fit}

-- ---- attributes

sna_forms_exact : AreExactForms sna_spelling SnaFits sna_forms
sna_forms_exact =
    behind_exact sna_spelling SnaFits 1 (λ p. Parameter p) parameter_number (λ p. refl) (λ p h. h) parameter_number_exact
    also behind_exact sna_spelling SnaFits 2 (λ a. Attribute a) attribute (λ a. refl) (λ a h. tt) attribute_exact
    also behind_exact sna_spelling SnaFits 3 (λ n. OfEntity n) numbered_field (λ n. refl) (λ n h. h) numbered_exact
    also tt

sna_reads_back : (x : Sna) → SnaFits x → ReadsBack sna_read (sna_spelling x) x
unfolding sna_read
sna_reads_back (Parameter p) fits = tag_reads_back sna_forms 1 (λ p. Parameter p) parameter_number (λ _ _. refl) parameter_number_exact p fits
sna_reads_back (Attribute a) fits = tag_reads_back sna_forms 2 (λ a. Attribute a) attribute (λ _ _. refl) attribute_exact a tt
sna_reads_back (OfEntity n) fits = tag_reads_back sna_forms 3 (λ n. OfEntity n) numbered_field (λ _ _. refl) numbered_exact n fits

pub sna_exact : IsExact sna
unfolding sna_read
sna_exact = by_tag_exact sna_spelling SnaFits sna_forms sna_forms_exact sna_reads_back

-- ---- instructions

pub jump_back_exact : IsExact jump_back
jump_back_exact = fitting_exact BackFits _ (λ b h. record { target = h.0; count = h.1 }) (λ b h. (h.target, h.count))
    (made_exact _ _ _ (λ x h. refl) (λ b h. refl) (both_exact _ _ (number_exact w16 wide16) (number_exact w32 wide32)))

-- an instruction of which nothing is behind the tag
tag_form_exact : (tag : ℕ) (i : Instruction) → tag ∷ [] ≡ instruction_spelling i → InstructionFits i
    → IsExactForm instruction_spelling InstructionFits (tag_form tag i)
tag_form_exact tag i spelled fits = behind_exact instruction_spelling InstructionFits tag (λ _. i) nothing (λ _. spelled) (λ _ _. fits) nothing_exact

instruction_forms_exact : AreExactForms instruction_spelling InstructionFits instruction_forms
instruction_forms_exact =
    behind_exact instruction_spelling InstructionFits 0 (λ z. Push z) (signed_number w64) (λ z. refl) (λ z h. h) (signed_exact w64 wide64)
    also behind_exact instruction_spelling InstructionFits 1 (λ local. Get local) byte (λ local. refl) (λ local h. h) byte_exact
    also behind_exact instruction_spelling InstructionFits 2 (λ local. Set local) byte (λ local. refl) (λ local h. h) byte_exact
    also behind_exact instruction_spelling InstructionFits 3 (λ a. Value a) sna (λ a. refl) (λ a h. h) sna_exact
    also tag_form_exact 4 (Binary Add) refl tt
    also tag_form_exact 5 (Binary Subtract) refl tt
    also tag_form_exact 6 (Binary Multiply) refl tt
    also tag_form_exact 7 (Binary Divide) refl tt
    also tag_form_exact 8 (Binary Remainder) refl tt
    also tag_form_exact 9 (Binary Power) refl tt
    also tag_form_exact 10 (Unary Negate) refl tt
    also tag_form_exact 11 (Binary Equal) refl tt
    also tag_form_exact 12 (Binary NotEqual) refl tt
    also tag_form_exact 13 (Binary Greater) refl tt
    also tag_form_exact 14 (Binary GreaterOrEqual) refl tt
    also tag_form_exact 15 (Binary Less) refl tt
    also tag_form_exact 16 (Binary LessOrEqual) refl tt
    also tag_form_exact 17 (Binary And) refl tt
    also tag_form_exact 18 (Binary Or) refl tt
    also tag_form_exact 19 (Unary Not) refl tt
    also tag_form_exact 20 Pop refl tt
    also behind_exact instruction_spelling InstructionFits 21 (λ target. Jump target) (number w16) (λ target. refl) (λ target h. h) (number_exact w16 wide16)
    also behind_exact instruction_spelling InstructionFits 22 (λ target. JumpIfZero target) (number w16) (λ target. refl) (λ target h. h)
    (number_exact w16 wide16)
    also behind_exact instruction_spelling InstructionFits 23 (λ b. Back b) jump_back (λ b. refl) (λ b h. h) jump_back_exact
    also behind_exact instruction_spelling InstructionFits 24 (λ procedure. Call procedure) (number w16) (λ procedure. refl)
    (λ procedure h. h) (number_exact w16 wide16)
    also tag_form_exact 25 Return refl tt
    also tt

alone_reads_back : (tag : ℕ) (i : Instruction) → ((bytes rest : List ℕ) → form_read instruction_forms tag bytes rest ≡ Ok (i, rest))
    → ReadsBack (by_tag instruction_forms) (tag ∷ []) i
alone_reads_back tag i found = tag_reads_back instruction_forms tag (λ _. i) nothing found nothing_exact tt tt

instruction_reads_back : (i : Instruction) → InstructionFits i → ReadsBack instruction_read (instruction_spelling i) i
unfolding instruction_read
instruction_reads_back (Push z) fits = tag_reads_back instruction_forms 0 (λ z. Push z) (signed_number w64) (λ _ _. refl) (signed_exact w64 wide64) z fits
instruction_reads_back (Get local) fits = tag_reads_back instruction_forms 1 (λ local. Get local) byte (λ _ _. refl) byte_exact local fits
instruction_reads_back (Set local) fits = tag_reads_back instruction_forms 2 (λ local. Set local) byte (λ _ _. refl) byte_exact local fits
instruction_reads_back (Value a) fits = tag_reads_back instruction_forms 3 (λ a. Value a) sna (λ _ _. refl) sna_exact a fits
instruction_reads_back (Binary Add) fits = alone_reads_back 4 (Binary Add) (λ _ _. refl)
instruction_reads_back (Binary Subtract) fits = alone_reads_back 5 (Binary Subtract) (λ _ _. refl)
instruction_reads_back (Binary Multiply) fits = alone_reads_back 6 (Binary Multiply) (λ _ _. refl)
instruction_reads_back (Binary Divide) fits = alone_reads_back 7 (Binary Divide) (λ _ _. refl)
instruction_reads_back (Binary Remainder) fits = alone_reads_back 8 (Binary Remainder) (λ _ _. refl)
instruction_reads_back (Binary Power) fits = alone_reads_back 9 (Binary Power) (λ _ _. refl)
instruction_reads_back (Unary Negate) fits = alone_reads_back 10 (Unary Negate) (λ _ _. refl)
instruction_reads_back (Binary Equal) fits = alone_reads_back 11 (Binary Equal) (λ _ _. refl)
instruction_reads_back (Binary NotEqual) fits = alone_reads_back 12 (Binary NotEqual) (λ _ _. refl)
instruction_reads_back (Binary Greater) fits = alone_reads_back 13 (Binary Greater) (λ _ _. refl)
instruction_reads_back (Binary GreaterOrEqual) fits = alone_reads_back 14 (Binary GreaterOrEqual) (λ _ _. refl)
instruction_reads_back (Binary Less) fits = alone_reads_back 15 (Binary Less) (λ _ _. refl)
instruction_reads_back (Binary LessOrEqual) fits = alone_reads_back 16 (Binary LessOrEqual) (λ _ _. refl)
instruction_reads_back (Binary And) fits = alone_reads_back 17 (Binary And) (λ _ _. refl)
instruction_reads_back (Binary Or) fits = alone_reads_back 18 (Binary Or) (λ _ _. refl)
instruction_reads_back (Unary Not) fits = alone_reads_back 19 (Unary Not) (λ _ _. refl)
instruction_reads_back Pop fits = alone_reads_back 20 Pop (λ _ _. refl)
instruction_reads_back (Jump target) fits =
    tag_reads_back instruction_forms 21 (λ target. Jump target) (number w16) (λ _ _. refl) (number_exact w16 wide16) target fits
instruction_reads_back (JumpIfZero target) fits =
    tag_reads_back instruction_forms 22 (λ target. JumpIfZero target) (number w16) (λ _ _. refl) (number_exact w16 wide16) target fits
instruction_reads_back (Back b) fits = tag_reads_back instruction_forms 23 (λ b. Back b) jump_back (λ _ _. refl) jump_back_exact b fits
instruction_reads_back (Call procedure) fits =
    tag_reads_back instruction_forms 24 (λ procedure. Call procedure) (number w16) (λ _ _. refl) (number_exact w16 wide16) procedure fits
instruction_reads_back Return fits = alone_reads_back 25 Return (λ _ _. refl)

pub instruction_exact : IsExact instruction
unfolding instruction_read
instruction_exact = by_tag_exact instruction_spelling InstructionFits instruction_forms instruction_forms_exact instruction_reads_back

-- ---- code

-- there are too many BACKs for these bytes
abbrev is_too_many : List Instruction → List ℕ → Bool
is_too_many front bytes = leb most_backs (backs front) && begins_with_back bytes

-- a BACK that isn't refused has fewer before it than there may be
few_before : (n : ℕ) (back : Bool) → (leb most_backs n && back) ≡ false → IsTrue back → n < most_backs
few_before n back allowed told =
    elim (cases_lt n most_backs) [
      | inl lt ↦ lt
      | inr le ↦ let full : leb most_backs n ≡ true = le-leb _ _ le in let refused = rw (full, told) at allowed in absurd cc
    ]

-- it is not refused where fewer are before it than there may be, or where it is no BACK
is_allowed : (n : ℕ) (back : Bool) → (IsTrue back → n < most_backs) → (leb most_backs n && back) ≡ false
is_allowed n true few = let room : leb most_backs n ≡ false = lt-leb _ _ (few refl) in rw room refl
is_allowed n false few = and-false (leb most_backs n)

next_takes : (front : List Instruction) (left : ℕ) (bytes : List ℕ) (x : Instruction × List ℕ) → IsBytes bytes
    → next_instruction.read front left bytes ≡ Ok x → Takes bytes (instruction_spelling x.0) x.1 × next_instruction.Fits front left x.0
next_takes front left bytes x fits e =
    elim (chosen (is_too_many front bytes) (Err (bad codes.limit bytes)) (instruction_read bytes) (Ok x) e) [
      | inl refused ↦ not_both x (bad codes.limit bytes) (sym refused.1)
      | inr allowed ↦
          let p = instruction_exact.takes bytes x fits allowed.1 in
          let told : begins_with_back bytes ≡ is_back x.0 = ap begins_with_back p.0.parts ∙ begins_as_it_is x.0 x.1 in
          (p.0, (p.1, λ back. few_before (backs front) (begins_with_back bytes) allowed.0 (told ∙ back)))
    ]

next_again : (front : List Instruction) (left : ℕ) (i : Instruction) (rest : List ℕ) → next_instruction.Fits front left i
    → next_instruction.read front left (instruction_spelling i ++ rest) ≡ Ok (i, rest)
next_again front left i rest fits =
    let allowed : is_too_many front (instruction_spelling i ++ rest) ≡ false = rw (begins_as_it_is i rest) (is_allowed (backs front) (is_back i) fits.1) in
    rw allowed (instruction_exact.again i rest fits.0)

next_within : (front : List Instruction) (left : ℕ) (bytes : List ℕ) (e : Bad) → IsBytes bytes → next_instruction.read front left bytes
    ≡ Err e → e.left ≤ length bytes
next_within front left bytes e fits h =
    elim (chosen (is_too_many front bytes) (Err (bad codes.limit bytes)) (instruction_read bytes) (Err e) h) [
      | inl refused ↦ rw (← err_is (bad codes.limit bytes) e refused.1) (omega arith)
      | inr allowed ↦ instruction_exact.within bytes e fits allowed.1
    ]

next_cut : (front : List Instruction) (left : ℕ) (i : Instruction) → next_instruction.Fits front left i
    → CutsFronts (next_instruction.read front left) (instruction_spelling i)
next_cut front left i fits bytes begins =
    let allowed : is_too_many front bytes ≡ false = is_allowed (backs front) (begins_with_back bytes) (λ told. fits.1 (front_of_back i bytes begins told)) in
    rw allowed (instruction_exact.cut i fits.0 bytes begins)

pub next_instruction_exact : IsExactElement next_instruction
next_instruction_exact = record { takes = next_takes; again = next_again; within = next_within; cut = next_cut }

-- ---- procedures

pub need_exact : IsExactElement need
need_exact = above_last_exact parameter_number parameter_number_exact

counts_exact : IsExact counts
counts_exact = and_then_exact byte _ byte_exact (λ arguments. ranged_exact arguments most_locals byte (λ n h. omega arith) byte_exact)

-- the fields of a procedure
abbrev ProcedureFields : Procedure → Type 0
ProcedureFields p =
    ((p.arguments < 256) × ((p.arguments ≤ p.locals) × (p.locals ≤ most_locals)))
    × (((0 ≤ length p.needs) × (length p.needs ≤ most_parameters) × ElementsFit need.Fits [] p.needs)
    × ((0 ≤ length p.code) × (length p.code ≤ most_instructions) × ElementsFit next_instruction.Fits [] p.code))

procedure_fields : (p : Procedure) → ProcedureFits p × NeedsAscend p → ProcedureFields p
procedure_fields p (fits, up) = (
  (omega (arith, fits.arguments, fits.locals), (fits.arguments, fits.locals)),
  (
    (omega arith, fits.needs, above_last_fit parameter_number p.needs fits.each_need up),
    (omega arith, fits.code, code_fits p.code [] fits.each_instruction fits.backs),
  ),
)

procedure_keeps : (p : Procedure) → ProcedureFields p → ProcedureFits p × NeedsAscend p
procedure_keeps p (numbers, (needs, code)) = (
  record {
    arguments = numbers.1.0;
    locals = numbers.1.1;
    needs = needs.1;
    each_need = All-from_fit need.Fits parameter_number.Fits (λ front left n fit. fit.0.0) p.needs [] needs.2;
    code = code.1;
    each_instruction = All-from_fit next_instruction.Fits InstructionFits (λ front left i fit. fit.0) p.code [] code.2;
    backs = backs_within p.code [] (omega arith) code.2;
  },
  above_last_ascends parameter_number p.needs needs.2,
)

pub procedure_exact : IsExact procedure
unfolding procedure
procedure_exact = fitting_exact (λ p. ProcedureFits p × NeedsAscend p) _ procedure_keeps procedure_fields
    (made_exact _ _ _ (λ x h. refl) (λ p h. refl)
    (both_exact _ _ counts_exact
    (both_exact _ _ (listed_exact 0 most_parameters need (omega arith) need_exact)
    (listed_exact 0 most_instructions next_instruction (omega arith) next_instruction_exact))))
