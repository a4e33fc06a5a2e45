-- Members in buckets: all of one rank stand in one bucket, each linked to the next, and the buckets by
-- their ranks.
use Rattle.std.specs.Prelude.{◌≡◌, ◌<◌, ◌≤◌, ◌<ℤ◌, ℕ, ℤ, zero, suc, ◌+◌, ◌-◌, ◌==◌, ◌^◌, min, nat_le, int_le, int_lt, is_some, Bool, true, false}
use Rattle.std.specs.Prelude.{List, [], ◌∷◌, ◌++◌, length, AllPairs, Option, Some, None, if◌then◌else◌}
use Rattle.std.specs.List.{AllByRecursion}
use Rattle.std.specs.List.Sorted.{IsPartitionPoint}
use Rattle.std.specs.Borrow.{Bor}
use Rattle.std.specs.declared.collections.VecDeque.{VecDeque}
use Rattle.slab.specs.Slab.{Slab, get}
use Rattle.gw_members.specs.Chain.{placed_behind, first, rest}
use Rattle.gw_chains.specs.Chunks.{all_of, YieldsNext}
use Rattle.gw_chains.specs.declared.bucket.Bucket.{Bucket}
use Rattle.gw_chains.specs.declared.bucket.Link.{Link}

-- how often a number stands in a list
abbrev pub once : ℕ → ℕ → ℕ
once k x = if x == k then 1 else 0

abbrev pub times : ℕ → List ℕ → ℕ
times k [] = 0
times k (x ∷ xs) = once k x + times k xs

-- the last of a list, or d
abbrev pub last_or : ℕ → List ℕ → ℕ
last_or d [] = d
last_or d (x ∷ xs) = last_or x xs

-- links by their keys, as a slab has them
abbrev pub Links : Type 0 → Type 0
Links X = ℕ → Option (Link X)

-- how many links buckets have
abbrev pub total : List Bucket → ℕ
total [] = 0
total (b ∷ bs) = b.count + total bs

-- buckets of which the first lost its first link, behind which this one is next; it is gone where it has no other
abbrev pub without_first_link : ℕ → List Bucket → List Bucket
without_first_link next [] = []
without_first_link next (b ∷ bs) =
    if nat_le b.count 1 then bs else record b { first = next; count = b.count - 1 } ∷ bs

-- buckets by their ranks
abbrev pub Before : Bucket → Bucket → Type 0
Before a b = a.rank <ℤ b.rank

-- whether a bucket has a lower rank than another
abbrev pub below : Bucket → Bucket → Bool
below a b = int_lt a.rank b.rank

-- the place before all buckets of a newcomer's rank or a higher one
abbrev pub IsHead : Bucket → List Bucket → ℕ → Type 0
IsHead n bs i = IsPartitionPoint (λ b. below b n ≡ true) (λ b. below b n ≡ false) bs i

-- the bucket of a newcomer's rank, among buckets that stand by their ranks
abbrev pub head_host : Bucket → List Bucket → Option Bucket
head_host n [] = None
head_host n (b ∷ bs) = if below b n then head_host n bs else (if below n b then None else Some b)

-- a bucket that takes another in before its own
abbrev pub headed_by : Bucket → Bucket → Bucket
headed_by n b = record b { first = n.first; count = min (b.count + 1) (2 ^ 64 - 1) }

-- buckets with another before all of its rank or a higher one; that of its rank takes it in before its own
abbrev pub with_head : Bucket → List Bucket → List Bucket
with_head n [] = n ∷ []
with_head n (b ∷ bs) =
    if below b n then b ∷ with_head n bs else (if below n b then n ∷ b ∷ bs else headed_by n b ∷ bs)

module _ {X : Type 0} where
  -- one for a link that is there
  abbrev pub one_if_there : Option (Link X) → ℕ
  one_if_there o = if is_some o then 1 else 0

  -- the links behind a link, if it is there
  abbrev pub links_behind : Option (Link X) → (ℕ → List ℕ) → List ℕ
  links_behind None from = []
  links_behind (Some l) from = from l.next

  -- so many links by their keys, from one on, each linked to the next
  abbrev pub run : Links X → ℕ → ℕ → List ℕ
  run links zero key = []
  run links (suc n) key = key ∷ links_behind (links key) (run links n)

  -- the links of buckets, in order
  abbrev pub links_of : Links X → List Bucket → List ℕ
  links_of links [] = []
  links_of links (b ∷ bs) = run links b.count b.first ++ links_of links bs

  -- the member of a link, if it is there
  abbrev pub member_at : Option (Link X) → List X
  member_at None = []
  member_at (Some l) = l.member ∷ []

  -- the members of links
  abbrev pub members_at : Links X → List ℕ → List X
  members_at links [] = []
  members_at links (k ∷ ks) = member_at (links k) ++ members_at links ks

  -- the members of buckets, in order
  abbrev pub members_of : Links X → List Bucket → List X
  members_of links bs = members_at links (links_of links bs)

  -- of so many members, from a link on, each linked to the next, the first is yielded, if there is one; then so many are left, from another link on
  abbrev pub YieldsMember : Links X → Option (Bor X) → ℕ → ℕ → ℕ → ℕ → Type 0
  YieldsMember links x n key m next = YieldsNext x (members_at links (run links n key)) (members_at links (run links m next))

  -- a link before another
  abbrev pub linked_to : ℕ → Option (Link X) → Option (Link X)
  linked_to next None = None
  linked_to next (Some l) = Some (record l { next = next })

  -- the links, where the last of a bucket was linked to another
  abbrev pub linked_behind : Option Bucket → ℕ → Links X → Links X
  linked_behind None next links k = links k
  linked_behind (Some b) next links k = if k == b.last then linked_to next (links k) else links k

  module _ (rank : X → ℤ) where
    -- whether a member has the same rank as another or a lower one
    abbrev pub upto : X → X → Bool
    upto e y = int_le (rank y) (rank e)

    -- whether a member has a lower rank than another
    abbrev pub lower : X → X → Bool
    lower e y = int_lt (rank y) (rank e)

    -- the bucket of a member alone, whose link is this one
    abbrev pub bucket_of_one : X → ℕ → Bucket
    bucket_of_one member link = record { rank = rank member; first = link; last = link; count = 1 }

    -- a bucket has a member, ends at its last link, and all its members have its rank
    pub record IsBucket (links : Links X) (b : Bucket) : Type 0 where
      pub some : 0 < b.count
      pub last : last_or b.first (run links b.count b.first) ≡ b.last
      pub alike : AllByRecursion (λ x. rank x ≡ b.rank)
          (members_at links (run links b.count b.first))

    -- buckets stand by their ranks, and each link that is there stands in one of them, once
    pub record AreBuckets (links : Links X) (bs : List Bucket) : Type 0 where
      pub order : AllPairs Before bs
      pub each : AllByRecursion (IsBucket links) bs
      pub owned : (k : ℕ) → times k (links_of links bs) ≡ one_if_there (links k)

    -- buckets, and how many members stand in them: not more than memory can hold
    abbrev pub AreCounted : Links X → List Bucket → ℕ → Type 0
    AreCounted links bs n =
        AreBuckets links bs × (n ≡ length (members_of links bs)) × (n ≡ total bs) × (n ≤ 2 ^ 62)

    -- buckets gain a member, which stands behind the longest front of members that pass
    abbrev pub GainMember : (X → Bool) → X → Links X → List Bucket → Links X → List Bucket → Type 0
    GainMember passes e old bs new ws =
        (members_of new ws ≡ placed_behind passes e (members_of old bs)) × AreBuckets new ws × (total ws ≡ total bs + 1)

    -- buckets lose their first member, which is this one, if there is one
    abbrev pub LoseFirst : Option X → Links X → List Bucket → Links X → List Bucket → Type 0
    LoseFirst x old bs new ws =
        (x ≡ first (members_of old bs)) × (members_of new ws ≡ rest (members_of old bs)) × AreBuckets new ws

    -- buckets gain a member behind all of its rank or a lower one
    abbrev pub GainBehind : X → Slab (Link X) → List Bucket → Slab (Link X) → List Bucket → Type 0
    GainBehind e old bs new ws = GainMember (upto e) e (get old) bs (get new) ws

    -- buckets gain a member ahead of all of its rank or a higher one
    abbrev pub GainAhead : X → Slab (Link X) → List Bucket → Slab (Link X) → List Bucket → Type 0
    GainAhead e old bs new ws = GainMember (lower e) e (get old) bs (get new) ws

    module _ {Z : Type 0} where
      -- buckets in chunks gain a member behind all of its rank or a lower one
      abbrev pub GainInChunks : X → Slab (Link X) → VecDeque (VecDeque Bucket Z) Z → Slab (Link X) → VecDeque (VecDeque Bucket Z) Z → Type 0
      GainInChunks e old bs new ws = GainBehind e old (all_of bs.items) new (all_of ws.items)

      -- buckets in chunks lose their first member, which is this one
      abbrev pub LoseFirstInChunks : X → Slab (Link X) → VecDeque (VecDeque Bucket Z) Z → Slab (Link X) → VecDeque (VecDeque Bucket Z) Z → Type 0
      LoseFirstInChunks x old bs new ws = LoseFirst (Some x) (get old) (all_of bs.items) (get new) (all_of ws.items)
