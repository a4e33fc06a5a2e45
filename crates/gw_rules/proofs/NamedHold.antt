-- What is named is there, and of its kind, where the tests of it pass.
use Rattle.std.proofs.Common.{◌≡◌, ℕ, zero, suc, ◌<◌, List, [], ◌∷◌, length, Option, Some, None, Bool, true, refl, arith}
use Rattle.std.specs.Prelude.{IfSome, IsTrue, slice_get}
use Rattle.std.specs.List.{All, list_all}
use Rattle.std.specs.Option.{IsSome, IsSomeAnd}
use Rattle.std.proofs.lemmas.Bool.{and_parts, and_from, eqb-true, eq-eqb, ltb-true, lt-ltb}
use Rattle.std.proofs.lemmas.List.Elements.{All-nil, All-cons, All-head, All-tail}
use Rattle.gw_object.specs.declared.code.Procedure.{Procedure}
use Rattle.gw_object.specs.declared.blocks.Operand.{Operand}
use Rattle.gw_object.specs.declared.parts.Entity.{Entity}
use Rattle.gw_object.specs.declared.parts.Parts.{Parts}
use Rattle.gw_rules.specs.declared.entities.EntityKind.{EntityKind}
use Rattle.gw_rules.specs.declared.entities.Named.{Named}
use Rattle.gw_rules.specs.Sources.{kind_at, procedure_named}
use Rattle.gw_rules.specs.Kinds.{is_none_or, serves_as, is_no_other_kind, is_there, takes_no_arguments, is_procedure, is_block, block_at, entity_of, block_of, names_well, names_what_is_there, names_a_block}
use Rattle.gw_rules.specs.KindsLaws.{IsEntity, TakesNoArguments, OperandHolds}

-- ONE TEST

-- what passes a test, if it is there
pub if_any : {A : Type 0} (test : A → Bool) (Is : A → Type 0) → ((x : A) → test x ≡ true → Is x) → (o : Option A) → is_none_or o test ≡ true → IfSome o Is
if_any test Is tells None h = tt
if_any test Is tells (Some x) h = tells x h

pub tests_any : {A : Type 0} (test : A → Bool) (Is : A → Type 0) → ((x : A) → Is x → test x ≡ true) → (o : Option A) → IfSome o Is → is_none_or o test ≡ true
tests_any test Is passes None h = refl
tests_any test Is passes (Some x) h = passes x h

-- TWO TESTS: that it is of no other kind (10), and that it is there (11)

module _ {A : Type 0} (right there : A → Bool) (Is : A → Type 0) where
  pub one_is : ((x : A) → right x ≡ true → there x ≡ true → Is x) → (o : Option A) → is_none_or o right ≡ true → is_none_or o there ≡ true → IfSome o Is
  one_is tells None r t = tt
  one_is tells (Some x) r t = tells x r t

  pub one_passes : ((x : A) → Is x → (right x ≡ true) × (there x ≡ true)) → (o : Option A) → IfSome o Is → (is_none_or o right ≡ true)
      × (is_none_or o there ≡ true)
  one_passes passes None h = (refl, refl)
  one_passes passes (Some x) h = passes x h

  pub each_is : ((x : A) → right x ≡ true → there x ≡ true → Is x) → (xs : List A) → list_all right xs ≡ true → list_all there xs ≡ true → All Is xs
  each_is tells [] r t = All-nil Is
  each_is tells (x ∷ xs) r t =
      let rs = and_parts (right x) (list_all right xs) r in
      let ts = and_parts (there x) (list_all there xs) t in
      All-cons Is x xs (tells x rs.0 ts.0) (each_is tells xs rs.1 ts.1)

  pub each_passes : ((x : A) → Is x → (right x ≡ true) × (there x ≡ true)) → (xs : List A) → All Is xs → (list_all right xs ≡ true) × (list_all there xs ≡ true)
  each_passes passes [] h = (refl, refl)
  each_passes passes (x ∷ xs) h =
      let one = passes x (All-head Is x xs h) in
      let others = each_passes passes xs (All-tail Is x xs h) in
      (and_from (right x) (list_all right xs) one.0 others.0, and_from (there x) (list_all there xs) one.1 others.1)

-- ENTITIES

-- an entity of the right kind that is there
entity_at : (es : List Entity) (e : ℕ) (needed : EntityKind) → is_none_or (kind_at es e) (serves_as needed) ≡ true → e < length es
    → IsSomeAnd (kind_at es e) (λ kind. IsTrue (serves_as needed kind))
entity_at [] e needed right below = absurd (omega arith)
entity_at (x ∷ es) zero needed right below = right
entity_at (x ∷ es) (suc e) needed right below = entity_at es e needed right (omega arith)

from_entity_at : (es : List Entity) (e : ℕ) (needed : EntityKind) → IsSomeAnd (kind_at es e) (λ kind. IsTrue (serves_as needed kind))
    → (is_none_or (kind_at es e) (serves_as needed) ≡ true) × (e < length es)
from_entity_at [] e needed h = absurd h
from_entity_at (x ∷ es) zero needed h = (h, omega arith)
from_entity_at (x ∷ es) (suc e) needed h =
    let there = from_entity_at es e needed h in
    (there.0, omega (arith, there.1))

pub is_entity : (es : List Entity) (n : Named) → is_no_other_kind es n ≡ true → is_there es n ≡ true → IsEntity es n
is_entity es n right there = entity_at es n.entity n.needed right (ltb-true n.entity (length es) there)

pub from_entity : (es : List Entity) (n : Named) → IsEntity es n → (is_no_other_kind es n ≡ true) × (is_there es n ≡ true)
from_entity es n h =
    let two = from_entity_at es n.entity n.needed h in
    (two.0, lt-ltb n.entity (length es) two.1)

-- PROCEDURES

-- a procedure that takes no arguments and is there
without_arguments : (ps : List Procedure) (q : ℕ) → takes_no_arguments ps q ≡ true → q < length ps
    → IsSomeAnd (slice_get ps q) (λ (pr : Procedure). pr.arguments ≡ 0)
without_arguments [] q right below = absurd (omega arith)
without_arguments (pr ∷ ps) zero right below = eqb-true pr.arguments 0 right
without_arguments (pr ∷ ps) (suc q) right below = without_arguments ps q right (omega arith)

from_without_arguments : (ps : List Procedure) (q : ℕ) → IsSomeAnd (slice_get ps q) (λ (pr : Procedure). pr.arguments ≡ 0)
    → (takes_no_arguments ps q ≡ true) × (q < length ps)
from_without_arguments [] q h = absurd h
from_without_arguments (pr ∷ ps) zero h = (eq-eqb pr.arguments 0 h, omega arith)
from_without_arguments (pr ∷ ps) (suc q) h =
    let there = from_without_arguments ps q h in
    (there.0, omega (arith, there.1))

pub takes_none : (p : Parts) (q : ℕ) → takes_no_arguments p.procedures q ≡ true → is_procedure p.procedures q ≡ true → TakesNoArguments p q
takes_none p q right there = without_arguments p.procedures q right (ltb-true q (length p.procedures) there)

pub from_takes_none : (p : Parts) (q : ℕ) → TakesNoArguments p q → (takes_no_arguments p.procedures q ≡ true) × (is_procedure p.procedures q ≡ true)
from_takes_none p q h =
    let two = from_without_arguments p.procedures q h in
    (two.0, lt-ltb q (length p.procedures) two.1)

-- OPERANDS

module _ (p : Parts) where
  abbrev BlockIsThere : ℕ → Type 0
  BlockIsThere b = IsSome (block_at p.blocks b)

  pub operand_from_tests : (o : Operand) → names_well p o ≡ true → names_what_is_there p o ≡ true → names_a_block p o ≡ true → OperandHolds p o
  operand_from_tests o right there block =
      let rights = and_parts (is_none_or (entity_of o) (is_no_other_kind p.entities))
      (is_none_or (procedure_named o) (takes_no_arguments p.procedures)) right in
      let theres = and_parts (is_none_or (entity_of o) (is_there p.entities)) (is_none_or (procedure_named o) (is_procedure p.procedures)) there in record {
        entity = one_is (is_no_other_kind p.entities) (is_there p.entities) (IsEntity p.entities) (is_entity p.entities) (entity_of o) rights.0 theres.0;
        called = one_is (takes_no_arguments p.procedures) (is_procedure p.procedures) (TakesNoArguments p) (takes_none p) (procedure_named o) rights.1 theres.1;
        block = if_any (is_block p.blocks) BlockIsThere (λ b h. h) (block_of o) block;
      }

  pub operand_passes : (o : Operand) → OperandHolds p o → (names_well p o ≡ true) × (names_what_is_there p o ≡ true) × (names_a_block p o ≡ true)
  operand_passes o h =
      let entity = one_passes (is_no_other_kind p.entities) (is_there p.entities) (IsEntity p.entities) (from_entity p.entities) (entity_of o) h.entity in
      let called = one_passes (takes_no_arguments p.procedures) (is_procedure p.procedures) (TakesNoArguments p) (from_takes_none p)
      (procedure_named o) h.called in (
        and_from _ _ entity.0 called.0,
        and_from _ _ entity.1 called.1,
        tests_any (is_block p.blocks) BlockIsThere (λ b h. h) (block_of o) h.block,
      )

  -- the operand that is evaluated for an entity, if one is
  pub operand_if : (o : Option Operand) → is_none_or o (names_well p) ≡ true → is_none_or o (names_what_is_there p) ≡ true
      → is_none_or o (names_a_block p) ≡ true → IfSome o (OperandHolds p)
  operand_if None right there block = tt
  operand_if (Some o) right there block = operand_from_tests o right there block

  pub passes_if : (o : Option Operand) → IfSome o (OperandHolds p) → (is_none_or o (names_well p) ≡ true)
      × (is_none_or o (names_what_is_there p) ≡ true) × (is_none_or o (names_a_block p) ≡ true)
  passes_if None h = (refl, refl, refl)
  passes_if (Some o) h = operand_passes o h
