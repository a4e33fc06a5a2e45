-- What holds of each thing that a block names.
use Rattle.std.proofs.Common.{◌≡◌, ℕ, List, [], ◌∷◌, ◌++◌, Option, Some, None, Bool, true}
use Rattle.std.specs.Prelude.{filter_map, IfSome}
use Rattle.std.specs.List.{All, list_all, cons_option}
use Rattle.std.specs.Option.{IsSome}
use Rattle.std.proofs.lemmas.List.Elements.{All-nil, All-cons, All-head, All-tail}
use Rattle.gw_object.specs.declared.blocks.Block.{Block}
use Rattle.gw_object.specs.declared.parts.Parts.{Parts}
use Rattle.gw_rules.specs.Exits.{ways}
use Rattle.gw_rules.specs.Sources.{values}
use Rattle.gw_rules.specs.Kinds.{is_none_or, entity_of, own_entity, block_at, number_of, block_of}
use Rattle.gw_rules.specs.KindsLaws.{IsEntity, BlockHolds}

-- where one passes a test, if it is there, a test of it and of others is a test of the others
pub tests_both : {A : Type 0} (test : A → Bool) (o : Option A) (xs : List A) (answer : Bool) → is_none_or o test ≡ true → answer
    ≡ list_all test xs → answer ≡ list_all test (cons_option o xs)
tests_both test None xs answer passes is = is
tests_both test (Some x) xs answer passes is = rw passes is

module _ {B : Type 0} (P : B → Type 0) where
  -- what holds of one that may be there and of others holds of it, and of the others
  own_holds : (o : Option B) (xs : List B) → All P (cons_option o xs) → IfSome o P × All P xs
  own_holds None xs h = (tt, h)
  own_holds (Some x) xs h = (All-head P x xs h, All-tail P x xs h)

  -- what holds of some and of later ones holds of the later ones
  later_hold : (ys xs : List B) → All P (ys ++ xs) → All P xs
  later_hold [] xs h = h
  later_hold (y ∷ ys) xs h = later_hold ys xs (All-tail P y (ys ++ xs) h)

  -- what holds of each thing that is named holds of what one of these names, if it does
  pub each_names : {A : Type 0} (named : A → Option B) (xs : List A) → All P (filter_map named xs) → All (λ x. IfSome (named x) P) xs
  each_names named [] h = All-nil (λ x. IfSome (named x) P)
  each_names named (x ∷ xs) h =
      let two = own_holds (named x) (filter_map named xs) h in
      All-cons (λ x. IfSome (named x) P) x xs two.0 (each_names named xs two.1)

-- the entity that a value of a block names is there, and is what it is needed as
pub entities_of_values : (p : Parts) (b : ℕ) (block : Block) → BlockHolds p b block
    → All (λ value. IfSome (entity_of value) (IsEntity p.entities)) (values block)
entities_of_values p b block h =
    each_names (IsEntity p.entities) entity_of (values block)
    (own_holds (IsEntity p.entities) (own_entity block) (filter_map entity_of (values block)) h.entities).1

-- the block that a value of a block names is there
pub blocks_of_values : (p : Parts) (b : ℕ) (block : Block) → BlockHolds p b block
    → All (λ value. IfSome (block_of value) (λ named. IsSome (block_at p.blocks named))) (values block)
blocks_of_values p b block h =
    let IsThere : ℕ → Type 0 = λ named. IsSome (block_at p.blocks named) in
    each_names IsThere block_of (values block) (later_hold IsThere (filter_map number_of (ways block)) (filter_map block_of (values block)) h.blocks)
