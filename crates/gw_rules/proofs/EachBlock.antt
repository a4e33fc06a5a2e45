-- One check of each element holds exactly where what it decides is true of each; and the checks of blocks, by their numbers.
use Rattle.std.proofs.Common.{◌≡◌, ◌↔◌, ℕ, zero, suc, List, [], ◌∷◌, ◌++◌, map, Some, refl, arith}
use Rattle.std.specs.Prelude.{All, Decides}
use Rattle.std.proofs.lemmas.List.Elements.{All-nil, All-cons, All-head, All-tail}
use Rattle.gw_object.specs.declared.blocks.Block.{Block}
use Rattle.gw_rules.specs.Checks.{Check, first_broken, checks_by_number}
use Rattle.gw_rules.specs.Kinds.{block_at}
use Rattle.gw_rules.proofs.Each.{Hold, first_and_others, first_with_others, at_number, each_holds, all_hold}

-- what holds of each of two lists holds of each of the first, and of each of the second
module _ {A : Type 0} (P : A → Type 0) where
  pub All-front : (xs ys : List A) → All P (xs ++ ys) → All P xs
  All-front [] ys h = All-nil P
  All-front (x ∷ xs) ys h = All-cons P x xs (All-head P x (xs ++ ys) h) (All-front xs ys (All-tail P x (xs ++ ys) h))

  pub All-back : (xs ys : List A) → All P (xs ++ ys) → All P ys
  All-back [] ys h = h
  All-back (x ∷ xs) ys h = All-back xs ys (All-tail P x (xs ++ ys) h)

-- one check of each element holds exactly where what it decides is true of each
pub each_decided : {A : Type 0} (f : A → Check) (P : A → Type 0) → ((x : A) → Decides (f x).holds (P x)) → (xs : List A) → Hold (map f xs) ↔ All P xs
each_decided f P d [] = (λ h. All-nil P, λ h. refl)
each_decided f P d (x ∷ xs) = (
  λ h. let p = first_and_others (f x).holds (first_broken (map f xs)) (f x).fault h in All-cons P x xs ((d x).0 p.0) ((each_decided f P d xs).0 p.1),
  λ h. first_with_others (f x).holds (first_broken (map f xs)) (f x).fault ((d x).1 (All-head P x xs h)) ((each_decided f P d xs).1 (All-tail P x xs h)),
)

module _ (f : ℕ → Block → List Check) where
  -- what the checks of all blocks say of each, by its number
  pub numbered_holds : (bs : List Block) (b : ℕ) (block : Block) → Hold (checks_by_number f 1 bs) → block_at bs b ≡ Some block → Hold (f b block)
  numbered_holds bs zero block h is = absurd (cc)
  numbered_holds bs (suc i) block h is = at_number f block (omega arith) (each_holds f 1 bs i block h is)

  pub all_numbered_hold : (bs : List Block) → ((b : ℕ) (block : Block) → block_at bs b ≡ Some block → Hold (f b block)) → Hold (checks_by_number f 1 bs)
  all_numbered_hold bs h = all_hold f 1 bs (λ i block is. at_number f block (omega arith) (h (suc i) block is))
