-- A procedure's needs ascend, and suffice.
use Rattle.std.proofs.Common.{rules, ◌≡◌, ℕ, zero, suc, ◌<◌, List, [], ◌∷◌, length, Some, Bool, true, false, if◌then◌else◌, ◌||◌, ◌==◌, nat_lt, refl}
use Rattle.std.proofs.Common.{sym, ap, ◌∙◌, subst, arith, All}
use Rattle.std.specs.Prelude.{slice_get}
use Rattle.std.specs.List.{list_all, AllPairs}
use Rattle.std.proofs.lemmas.Bool.{eqb-true, eq-eqb, ltb-true, or_right}
use Rattle.std.proofs.lemmas.List.Elements.{All-nil, All-cons, All-head, All-tail}
use Rattle.std.proofs.lemmas.List.Kept.{AllPairs-cons}
use Rattle.std.proofs.lemmas.Bool.Decides.{nat_tests}
use Rattle.gw_object.specs.declared.blocks.Operand.{Operand}
use Rattle.gw_object.specs.declared.code.Instruction.{Instruction}
use Rattle.gw_object.specs.declared.code.Instruction.TheVariants.{Value}
use Rattle.gw_object.specs.declared.code.Procedure.{Procedure}
use Rattle.gw_object.specs.declared.code.Sna.{Sna}
use Rattle.gw_object.specs.declared.code.Sna.TheVariants as snas
use Rattle.gw_object.specs.declared.parts.Parts.{Parts}
use Rattle.gw_rules.specs.Sources.{procedure_named}
use Rattle.gw_rules.specs.Code.{procedure_at, needs_of, is_among, called_in, calls_lower, asked_by_source, asks_for}
use Rattle.gw_compile.specs.Numbers.{Numbers}
use Rattle.gw_compile.specs.Needs.{asked_by, asks, with_number, with_numbers, needs_with, needs_in}
use Rattle.gw_compile.specs.Keeps.{GoesOnFrom, NeedsSuffice, NeedsWhatItAsks}

-- WHO IS AMONG THEM

-- a number that was put among them
put_in : (x : ℕ) (ys : List ℕ) → is_among (with_number x ys) x ≡ true
put_in x [] = grind (arith, nat_tests)
put_in x (y ∷ ys) = grind (arith, nat_tests, put_in x ys)

-- and those that were there
kept_in : (x z : ℕ) (ys : List ℕ) → is_among ys z ≡ true → is_among (with_number x ys) z ≡ true
kept_in x z [] there = absurd (cc)
kept_in x z (y ∷ ys) there = let more = kept_in x z ys in grind (arith, nat_tests)

-- the same of several numbers
all_kept : (xs ys : List ℕ) (z : ℕ) → is_among ys z ≡ true → is_among (with_numbers xs ys) z ≡ true
all_kept [] ys z there = there
all_kept (x ∷ xs) ys z there = all_kept xs (with_number x ys) z (kept_in x z ys there)

all_put_by : (x z : ℕ) (xs ys : List ℕ) → (is_among xs z ≡ true → is_among (with_numbers xs (with_number x ys)) z ≡ true) → (b : Bool)
    → (z == x) ≡ b → (b || is_among xs z) ≡ true → is_among (with_numbers xs (with_number x ys)) z ≡ true
all_put_by x z xs ys others true is there =
    let same : x ≡ z = sym (eqb-true z x is) in
    all_kept xs (with_number x ys) z (subst (λ k. is_among (with_number x ys) k ≡ true) same (put_in x ys))
all_put_by x z xs ys others false is there = others there

all_put : (xs ys : List ℕ) (z : ℕ) → is_among xs z ≡ true → is_among (with_numbers xs ys) z ≡ true
all_put [] ys z there = absurd (cc)
all_put (x ∷ xs) ys z there = all_put_by x z xs ys (all_put xs (with_number x ys) z) (z == x) refl there

module _ (n : Numbers) (procedures : List Procedure) where
  -- of code
  code_kept : (code : List Instruction) (needs : List ℕ) (z : ℕ) → is_among needs z ≡ true → is_among (needs_with n procedures code needs) z ≡ true
  code_kept [] needs z there = there
  code_kept (i ∷ code) needs z there = code_kept code (with_numbers (asks n procedures i) needs) z (all_kept (asks n procedures i) needs z there)

  code_put : (code : List Instruction) (needs : List ℕ) (place : ℕ) (i : Instruction) (z : ℕ) → slice_get code place ≡ Some i
      → is_among (asks n procedures i) z ≡ true → is_among (needs_with n procedures code needs) z ≡ true
  code_put [] needs place i z here there = absurd (cc)
  code_put (j ∷ code) needs zero i z here there =
      let same : i ≡ j = cc in
      code_kept code (with_numbers (asks n procedures j) needs) z
      (all_put (asks n procedures j) needs z (subst (λ x. is_among (asks n procedures x) z ≡ true) same there))
  code_put (j ∷ code) needs (suc place) i z here there = code_put code (with_numbers (asks n procedures j) needs) place i z here there

-- each of several numbers is among these
all_among : (needs xs : List ℕ) → ((z : ℕ) → is_among xs z ≡ true → is_among needs z ≡ true) → list_all (is_among needs) xs ≡ true
all_among needs [] each = refl
all_among needs (x ∷ xs) each =
    let first : is_among needs x ≡ true = each x (rw (eq-eqb x x refl) refl) in
    let others = all_among needs xs (λ z there. each z (or_right (z == x) (is_among xs z) there)) in
    rw (first, others) refl

-- THE OBJECT

module _ (n : Numbers) (procedures : List Procedure) (p : Parts) (goes : GoesOnFrom n procedures p) where
  -- what a lower procedure needs
  lower : (q : ℕ) → nat_lt q (length procedures) ≡ true → needs_of (procedure_at p q) ≡ needs_of (slice_get procedures q)
  lower q is = ap needs_of (goes.before q (ltb-true q (length procedures) is))

  -- a source that is a lower procedure, if it is one, asks in the object for what it asks here
  of_source : (source : Operand) → calls_lower (length procedures) (procedure_named source) ≡ true → asked_by_source p source ≡ asked_by procedures source
  of_source source is = grind (rules, lower)

  -- and so does a value
  of_value : (sna : Sna) → calls_lower (length procedures) (called_in p.entities (Value sna)) ≡ true → asks_for p (Value sna) ≡ asks n procedures (Value sna)
  of_value (snas.Parameter x) is = refl
  of_value (snas.Attribute a) is = refl
  of_value (snas.OfEntity of) is =
      let same = goes.sources of in
      ap (asked_by_source p) same ∙ of_source (n.source of) (subst (λ o. calls_lower (length procedures) (procedure_named o) ≡ true) same is)

  -- and an instruction
  asks_the_same : (i : Instruction) → calls_lower (length procedures) (called_in p.entities i) ≡ true → asks_for p i ≡ asks n procedures i
  asks_the_same i is = grind (rules, lower, of_value)

-- so a procedure that needs what its code asks for needs enough
needs_suffice : (n : Numbers) (procedures : List Procedure) (pr : Procedure) → pr.needs ≡ needs_in n procedures pr.code → NeedsSuffice n procedures pr
needs_suffice n procedures pr same p place i goes here lower =
    let each : (z : ℕ) → is_among (asks n procedures i) z ≡ true → is_among pr.needs z ≡ true =
    λ z there. subst (λ needs. is_among needs z ≡ true) (sym same) (code_put n procedures pr.code [] place i z here there) in
    subst (λ xs. list_all (is_among pr.needs) xs ≡ true) (sym (asks_the_same n procedures p goes i lower)) (all_among pr.needs (asks n procedures i) each)

-- THEY ASCEND

-- each number is below all that follow
abbrev Ascend : List ℕ → Type 0
Ascend [] = Unit {0}
Ascend (y ∷ ys) = All (λ z. y < z) ys × Ascend ys

all_with : (P : ℕ → Type 0) (x : ℕ) (ys : List ℕ) → P x → All P ys → All P (with_number x ys)
all_with P x [] here each = All-cons P x [] here (All-nil P)
all_with P x (y ∷ ys) here each = all_with_by P x y ys here each (all_with P x ys here (All-tail P y ys each)) (x == y) (nat_lt x y)
  where
    all_with_by : (P : ℕ → Type 0) (x y : ℕ) (ys : List ℕ) → P x → All P (y ∷ ys) → All P (with_number x ys) → (a b : Bool)
        → All P (if a then y ∷ ys else if b then x ∷ y ∷ ys else y ∷ with_number x ys)
    all_with_by P x y ys here each more true b = each
    all_with_by P x y ys here each more false true = All-cons P x (y ∷ ys) here each
    all_with_by P x y ys here each more false false = All-cons P y (with_number x ys) (All-head P y ys each) more

all_below : (x y : ℕ) (ys : List ℕ) → x < y → All (λ z. y < z) ys → All (λ z. x < z) ys
all_below x y [] below each = All-nil (λ z. x < z)
all_below x y (z ∷ zs) below each =
    let here = All-head (λ z. y < z) z zs each in
    All-cons (λ z. x < z) z zs (let e : x < z = omega arith in e) (all_below x y zs below (All-tail (λ z. y < z) z zs each))

ascend_with : (x : ℕ) (ys : List ℕ) → Ascend ys → Ascend (with_number x ys)
ascend_with x [] up = (All-nil (λ z. x < z), tt)
ascend_with x (y ∷ ys) up = ascend_by x y ys up (ascend_with x ys up.1) (x == y) (nat_lt x y) refl refl
  where
    ascend_by : (x y : ℕ) (ys : List ℕ) → Ascend (y ∷ ys) → Ascend (with_number x ys) → (a b : Bool) → (x == y) ≡ a → nat_lt x y ≡ b
        → Ascend (if a then y ∷ ys else if b then x ∷ y ∷ ys else y ∷ with_number x ys)
    ascend_by x y ys up more true b is below = up
    ascend_by x y ys up more false true is below =
        let l = ltb-true x y below in
        (All-cons (λ z. x < z) y ys l (all_below x y ys l up.0), up)
    ascend_by x y ys up more false false is below =
        let l : y < x = grind (arith, nat_tests) in
        (all_with (λ z. y < z) x ys l up.0, more)

all_ascend : (xs ys : List ℕ) → Ascend ys → Ascend (with_numbers xs ys)
all_ascend [] ys up = up
all_ascend (x ∷ xs) ys up = all_ascend xs (with_number x ys) (ascend_with x ys up)

code_ascends : (n : Numbers) (procedures : List Procedure) (code : List Instruction) (needs : List ℕ) → Ascend needs
    → Ascend (needs_with n procedures code needs)
code_ascends n procedures [] needs up = up
code_ascends n procedures (i ∷ code) needs up =
    code_ascends n procedures code (with_numbers (asks n procedures i) needs) (all_ascend (asks n procedures i) needs up)

in_pairs : (ys : List ℕ) → Ascend ys → AllPairs (λ a b. a < b) ys
in_pairs [] up = λ i j d a b. absurd (omega arith)
in_pairs (y ∷ ys) up = AllPairs-cons (λ a b. a < b) y ys up.0 (in_pairs ys up.1)

-- a procedure that needs what its code asks for
pub needs_what_it_asks : (n : Numbers) (procedures : List Procedure) (pr : Procedure) → pr.needs ≡ needs_in n procedures pr.code
    → NeedsWhatItAsks n procedures pr
needs_what_it_asks n procedures pr same = record {
  needs = same;
  ascend = subst (λ needs. AllPairs (λ a b. a < b) needs) (sym same) (in_pairs _ (code_ascends n procedures pr.code [] tt));
  suffice = needs_suffice n procedures pr same;
}
