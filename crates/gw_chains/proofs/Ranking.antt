-- The current events chain by ranks: a member's rank is its priority, turned.
use Rattle.std.proofs.Common.{◌≡◌, ℤ, List, [], ◌∷◌, Bool, if◌then◌else◌, refl, ap, arith, neg_ℤ}
use Rattle.std.proofs.lemmas.Int.{ints}
use Rattle.std.specs.Prelude.{int_le, int_lt}
use Rattle.gw_members.specs.Chain.{placed_behind, behind, ahead, in_time}
use Rattle.gw_members.specs.declared.tx.Member.{Member}

module _ {A : Type 0} where
  placed-same : (p q : A → Bool) (x : A) → ((y : A) → p y ≡ q y) → (xs : List A) → placed_behind p x xs ≡ placed_behind q x xs
  placed-same p q x same [] = refl
  placed-same p q x same (y ∷ ys) = rw (same y) (ap (λ zs. if q y then y ∷ zs else x ∷ y ∷ ys) (placed-same p q x same ys))

le_turned : (a b : ℤ) → int_le (neg_ℤ a) (neg_ℤ b) ≡ int_le b a
le_turned a b = grind (arith, ints)

lt_turned : (a b : ℤ) → int_lt (neg_ℤ a) (neg_ℤ b) ≡ int_lt b a
lt_turned a b = grind (arith, ints)

-- behind its peers
pub behind_by_rank : (x : Member) (xs : List Member) → in_time (λ (m : Member). neg_ℤ m.priority) x xs ≡ behind (λ (m : Member). m.priority) x xs
behind_by_rank x xs = placed-same _ _ x (λ y. le_turned y.priority x.priority) xs

-- ahead of them
pub ahead_by_rank : (x : Member) (xs : List Member) → placed_behind (λ (m : Member). int_lt (neg_ℤ m.priority) (neg_ℤ x.priority)) x xs
    ≡ ahead (λ (m : Member). m.priority) x xs
ahead_by_rank x xs = placed-same _ _ x (λ y. lt_turned y.priority x.priority) xs
