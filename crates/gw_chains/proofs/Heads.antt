-- The current events chain, whose first may stand apart: it stays the first where another joins behind it.
use Rattle.std.proofs.Common.{◌≡◌, ℕ, ℤ, ◌+◌, ◌^◌, ◌<◌, ◌≤◌, List, [], ◌∷◌, Option, Some, None, Bool, true, false, if◌then◌else◌, sym, subst, arith}
use Rattle.std.proofs.Common.{neg_ℤ, length}
use Rattle.std.proofs.lemmas.Int.{ints}
use Rattle.std.specs.Prelude.{int_le, int_lt, IfSome, option_to_list}
use Rattle.gw_members.specs.Chain.{placed_behind}
use Rattle.gw_members.specs.Lists.{room_of}
use Rattle.gw_members.specs.declared.tx.Member.{Member}
use Rattle.gw_chains.specs.Chunks.{begins_in}
use Rattle.gw_chains.specs.Buckets.{Links, members_of, AreCounted, GainMember}
use Rattle.gw_chains.specs.Heads.{StandsFirst, IsHeadThatFails}
use Rattle.gw_chains.specs.declared.bucket.Bucket.{Bucket}
use Rattle.gw_chains.proofs.Counting.{counted_more}

module _ {A : Type 0} (q p : A → Bool) (x : A) where
  begins_placed : (xs : List A) → begins_in q xs ≡ false → q x ≡ false → begins_in q (placed_behind p x xs) ≡ false
  begins_placed [] before this = this
  begins_placed (y ∷ ys) before this = case (p y)
    where
      case : (b : Bool) → begins_in q (if b then y ∷ placed_behind p x ys else x ∷ y ∷ ys) ≡ false
      case true = before
      case false = this

-- who stands apart is of no lower priority than a newcomer
abbrev pub IsNoLower : Option Member → ℤ → Type 0
IsNoLower head priority = IfSome head (λ h. int_lt h.priority priority ≡ false)

pub passes_behind : (head : Option Member) (priority : ℤ) → IsHeadThatFails (λ m. int_le priority m.priority) head None → IsNoLower head priority
passes_behind None priority is = tt
passes_behind (Some h) priority is = let passes : int_le priority h.priority ≡ true = is.1 in grind (arith, ints)

pub passes_ahead : (head : Option Member) (priority : ℤ) → IsHeadThatFails (λ m. int_lt priority m.priority) head None → IsNoLower head priority
passes_ahead None priority is = tt
passes_ahead (Some h) priority is = let passes : int_lt priority h.priority ≡ true = is.1 in grind (arith, ints)

stands_first : (p : Member → Bool) (x : Member) (head : Option Member) (ms ws : List Member) → ws ≡ placed_behind p x ms
    → IsNoLower head x.priority → StandsFirst head ms → StandsFirst head ws
stands_first p x None ms ws is lower before = tt
stands_first p x (Some h) ms ws is lower before =
    subst (λ zs. begins_in (λ (m : Member). int_lt h.priority m.priority) zs ≡ false) (sym is)
    (begins_placed (λ m. int_lt h.priority m.priority) p x ms before lower)

-- all that is known of the chain
abbrev pub IsHeaded : Option Member → Links Member → List Bucket → ℕ → Type 0
IsHeaded head links bs n =
    AreCounted (λ (m : Member). neg_ℤ m.priority) links bs n × (n + length (option_to_list head) ≤ 2 ^ 62) × StandsFirst head (members_of links bs)

pub headed_more : (p : Member → Bool) (x : Member) (head : Option Member) (S T : Links Member) (bs ws : List Bucket) (n room : ℕ)
    → IsHeaded head S bs n → GainMember (λ (m : Member). neg_ℤ m.priority) p x S bs T ws → IsNoLower head x.priority → 0
    < room_of (n + length (option_to_list head)) room → IsHeaded head T ws (n + 1)
headed_more p x head S T bs ws n room is gain lower some = (
  counted_more (λ (m : Member). neg_ℤ m.priority) p x S T bs ws n is.0 gain (omega (arith, some)),
  omega (arith, some),
  stands_first p x head (members_of S bs) (members_of T ws) gain.0 lower is.2,
)
