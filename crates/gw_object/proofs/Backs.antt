-- The BACKs of code, counted, and the byte by which a BACK is told.
use Rattle.std.proofs.Common.{◌≡◌, ℕ, suc, ◌+◌, ◌≤◌, ◌<◌, Bool, true, false, cond, IsTrue, List, [], ◌∷◌, ◌++◌, refl, sym, ap, subst, ◌∙◌}
use Rattle.std.proofs.Common.{append_assoc, arith, rules}
use Rattle.std.specs.List.{All, count_by}
use Rattle.std.proofs.lemmas.List.{append-nil}
use Rattle.std.proofs.lemmas.List.Recursion.{is_count_by}
use Rattle.gw_object.specs.declared.code.Instruction.{Instruction}
use Rattle.gw_fields.specs.Fields.{IsProperFront, ElementsFit}
use Rattle.gw_object.specs.Limits.{most_backs}
use Rattle.gw_object.specs.CodeGrammar.{InstructionFits, instruction_spelling, is_back, backs, begins_with_back, next_instruction}

-- ---- how many there are

pub backs_counted : (code : List Instruction) → backs code ≡ count_by is_back code
backs_counted = is_count_by backs is_back refl (λ _ _. refl)

-- what one more instruction adds
abbrev added : Bool → ℕ
added back = cond back 1 0

-- one more instruction in front
backs_in_front : (back : Bool) (n : ℕ) → cond back (1 + n) n ≡ added back + n
backs_in_front true n = refl
backs_in_front false n = omega arith

backs-append : (front code : List Instruction) → backs (front ++ code) ≡ backs front + backs code
backs-append [] code = omega arith
backs-append (i ∷ front) code =
    let whole = backs_in_front (is_back i) (backs (front ++ code)) in
    let part = backs_in_front (is_back i) (backs front) in
    omega (arith, whole, part, backs-append front code)

-- one more instruction behind
added_fits : (back : Bool) (n : ℕ) → n ≤ most_backs → (IsTrue back → n < most_backs) → n + added back ≤ most_backs
added_fits true n le few = omega (arith, few refl)
added_fits false n le few = omega arith

one_more : (front : List Instruction) (i : Instruction) → backs front ≤ most_backs → (IsTrue (is_back i) → backs front < most_backs)
    → backs (front ++ i ∷ []) ≤ most_backs
one_more front i le few = omega (arith, backs-append front (i ∷ []), backs_in_front (is_back i) 0, added_fits (is_back i) (backs front) le few)

-- what fits behind the code at the front has no BACK too many
pub backs_within : (code front : List Instruction) → backs front ≤ most_backs → ElementsFit next_instruction.Fits front code
    → backs (front ++ code) ≤ most_backs
backs_within [] front le fits = rw (append-nil front) le
backs_within (i ∷ code) front le fits =
    subst (λ (all : List Instruction). backs all ≤ most_backs) (append_assoc front (i ∷ []) code)
    (backs_within code (front ++ i ∷ []) (one_more front i le fits.0.1) fits.1)

-- instructions that fit, with no BACK too many, fit behind the code at the front
pub code_fits : (code front : List Instruction) → All InstructionFits code → backs (front ++ code) ≤ most_backs → ElementsFit next_instruction.Fits front code
code_fits [] front each le = tt
code_fits (i ∷ code) front each le =
    let few : IsTrue (is_back i) → backs front < most_backs = λ back.
    let one : backs (i ∷ code) ≡ 1 + backs code = rw back refl in
    omega (arith, le, backs-append front (i ∷ code), one) in (
      (each 0 i (omega arith), few),
      code_fits code (front ++ i ∷ []) (λ k d lt. each (suc k) d (omega arith))
          (subst (λ (all : List Instruction). backs all ≤ most_backs) (sym (append_assoc front (i ∷ []) code)) le),
    )

-- ---- the byte by which one is told

-- the spelling of a BACK begins with its tag, and that of no other instruction does
pub begins_as_it_is : (i : Instruction) (rest : List ℕ) → begins_with_back (instruction_spelling i ++ rest) ≡ is_back i
begins_as_it_is i rest = grind rules

-- a proper front that begins with the tag of a BACK is one of a BACK's spelling
pub front_of_back : (i : Instruction) (front : List ℕ) → IsProperFront front (instruction_spelling i) → IsTrue (begins_with_back front) → IsTrue (is_back i)
front_of_back i [] begins told = absurd cc
front_of_back i (b ∷ front) (rest, more, e) told = sym (begins_as_it_is i []) ∙ ap (λ (text : List ℕ). begins_with_back (text ++ [])) e ∙ told
