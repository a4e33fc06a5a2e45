-- Where a member stands among buckets in a row, and what buckets are without it.
use Rattle.std.specs.Prelude.{◌≡◌, ◌<◌, ◌≤◌, ◌⊎◌, ◌&&◌, ℕ, zero, suc, ◌+◌, ◌-◌, ◌==◌, nat_le, nat_lt, List, [], ◌∷◌, length, slice_get, remove, Some}
use Rattle.std.specs.Prelude.{IsSome, if◌then◌else◌}
use Rattle.std.specs.declared.collections.VecDeque.{VecDeque}
use Rattle.slab.specs.Slab.{Slab, get}
use Rattle.gw_chains.specs.Buckets.{times, last_or, Links, run, members_of, linked_to}
use Rattle.gw_chains.specs.declared.bucket.Bucket.{Bucket}
use Rattle.gw_chains.specs.declared.bucket.Link.{Link}
use Rattle.gw_chains.specs.declared.spot.Spot.{Spot}
use Rattle.gw_chains.specs.declared.walk.Walk.{Walk}

-- how many the bucket of a number has; none where there is no such bucket
abbrev pub count_at : List Bucket → ℕ → ℕ
count_at [] n = 0
count_at (b ∷ bs) zero = b.count
count_at (b ∷ bs) (suc n) = count_at bs n

-- the first link of the bucket of a number; 0 where there is no such bucket
abbrev pub first_at : List Bucket → ℕ → ℕ
first_at [] n = 0
first_at (b ∷ bs) zero = b.first
first_at (b ∷ bs) (suc n) = first_at bs n

-- how many stand before the bucket of a number, and so many of its own
abbrev pub place_at : List Bucket → ℕ → ℕ → ℕ
place_at [] n passed = passed
place_at (b ∷ bs) zero passed = passed
place_at (b ∷ bs) (suc n) passed = b.count + place_at bs n passed

-- how many stand before a spot
abbrev pub count_before : List Bucket → Spot → ℕ
count_before bs s = place_at bs s.bucket s.passed

-- each bucket has a member
abbrev pub AreFilled : List Bucket → Type 0
AreFilled bs = (n : ℕ) → n < length bs → 0 < count_at bs n

-- a walk is still to begin: at the first member, if there is one
abbrev pub IsToBegin : Walk → Type 0
IsToBegin w = (w.spot.bucket ≡ 0) × (w.spot.passed ≡ 0) × (w.left ≡ 0)

-- a spot is not at the end of its bucket
abbrev pub IsSettled : List Bucket → Spot → Type 0
IsSettled bs s = s.bucket < length bs → s.passed < count_at bs s.bucket

module _ {X : Type 0} (links : Links X) where
  -- each of these links is there
  abbrev pub AreThere : List ℕ → Type 0
  AreThere ks = (k : ℕ) → 0 < times k ks → IsSome (links k)

  -- the link behind so many of the bucket of a number
  abbrev pub link_at : List Bucket → ℕ → ℕ → ℕ
  link_at [] n passed = 0
  link_at (b ∷ bs) zero passed = last_or b.first (run links (suc passed) b.first)
  link_at (b ∷ bs) (suc n) passed = link_at bs n passed

  -- a spot is in its bucket or at the end of it, and names the link of the one before
  pub record IsSpot (bs : List Bucket) (s : Spot) : Type 0 where
    pub within : s.passed ≤ count_at bs s.bucket
    pub before : 0 < s.passed → s.before ≡ link_at bs s.bucket (s.passed - 1)

  -- a walk is at a member or at the end of all; it names the link there, and how many of the bucket are left
  pub record IsWalk (bs : List Bucket) (w : Walk) : Type 0 where
    pub spot : IsSpot bs w.spot
    pub settled : IsSettled bs w.spot
    pub left : w.spot.passed + w.left ≡ count_at bs w.spot.bucket
    pub here : 0 < w.left → w.here ≡ link_at bs w.spot.bucket w.spot.passed

  -- a walk is at a member or at the end of all, or is still to begin
  abbrev pub IsWalkOrBegins : List Bucket → Walk → Type 0
  IsWalkOrBegins bs w = IsWalk bs w ⊎ IsToBegin w

  -- the links, where the one before a spot, if there is one, leads to another
  abbrev pub led_past : Spot → ℕ → Links X
  led_past s next k = if nat_lt 0 s.passed && (k == s.before) then linked_to next (links k) else links k

-- a bucket without the one at a spot, behind which `next` is
abbrev pub without_one : Spot → ℕ → Bucket → Bucket
without_one s next b = record b {
  first = if s.passed == 0 then next else b.first;
  last = if s.passed + 1 == b.count then s.before else b.last;
  count = b.count - 1;
}

-- buckets without the one behind so many of the bucket of a number; that bucket is gone where it has no other
abbrev pub without_link : Spot → ℕ → List Bucket → ℕ → List Bucket
without_link s next [] n = []
without_link s next (b ∷ bs) zero = if nat_le b.count 1 then bs else without_one s next b ∷ bs
without_link s next (b ∷ bs) (suc n) = b ∷ without_link s next bs n

module _ {X Z : Type 0} where
  -- this is the member at a place of buckets in a row
  abbrev pub HasMemberAt : ℕ → X → Slab (Link X) → VecDeque Bucket Z → Type 0
  HasMemberAt place x links row = slice_get (members_of (get links) row.items) place ≡ Some x

  -- buckets in a row lose the member at a place
  abbrev pub LoseMemberAt : ℕ → Slab (Link X) → VecDeque Bucket Z → Slab (Link X) → VecDeque Bucket Z → Type 0
  LoseMemberAt place old bs new ws = members_of (get new) ws.items ≡ remove (members_of (get old) bs.items) place
