-- Walks over members in buckets.
use Rattle.std.proofs.Common.{◌≡◌, ◌∙◌, ℕ, zero, suc, ◌+◌, ◌-◌, ◌<◌, ◌≤◌, ℤ, List, [], ◌∷◌, length, get_or, Some, refl, sym, ap, arith, inl, inr}
use Rattle.std.proofs.lemmas.Bool.{cases_lt, cases_order}
use Rattle.gw_chains.specs.Buckets.{last_or, Links, total, AreBuckets}
use Rattle.gw_chains.specs.Spots.{count_at, first_at, place_at, link_at, AreFilled, IsSpot, IsSettled, IsWalk}
use Rattle.gw_chains.specs.declared.bucket.Bucket.{Bucket}
use Rattle.gw_chains.specs.declared.bucket.Link.{Link}
use Rattle.gw_chains.specs.declared.spot.Spot.{Spot}
use Rattle.gw_chains.specs.declared.walk.Walk.{Walk}
use Rattle.gw_chains.proofs.Joining.{led_of}
use Rattle.gw_chains.proofs.Unlinking.{run_one}
use Rattle.gw_chains.proofs.Spotting.{count-here, is_number, is_inside, next_at, place_next, place_more, place_past, spot_first, settled_first}

-- THE FIRST OF A BUCKET

pub count_past : (bs : List Bucket) (n : ℕ) → length bs ≤ n → count_at bs n ≡ 0
count_past [] n past = refl
count_past (b ∷ bs) zero past = absurd (omega (arith, past))
count_past (b ∷ bs) (suc n) past = count_past bs n (omega (arith, past))

pub first_past : (bs : List Bucket) (n : ℕ) → length bs ≤ n → first_at bs n ≡ 0
first_past [] n past = refl
first_past (b ∷ bs) zero past = absurd (omega (arith, past))
first_past (b ∷ bs) (suc n) past = first_past bs n (omega (arith, past))

pub first-here : (bs : List Bucket) (n : ℕ) (b : Bucket) → n < length bs → b ≡ get_or bs n b → first_at bs n ≡ b.first
first-here [] n b within is = absurd (omega (arith, within))
first-here (c ∷ bs) zero b within is = ap (λ (d : Bucket). d.first) (sym is)
first-here (c ∷ bs) (suc n) b within is = first-here bs n b (omega (arith, within)) is

first_link : {X : Type 0} (S : Links X) (bs : List Bucket) (n : ℕ) → first_at bs n ≡ link_at S bs n 0
first_link S [] n = refl
first_link S (b ∷ bs) zero = sym (ap (last_or b.first) (run_one S b.first))
first_link S (b ∷ bs) (suc n) = first_link S bs n

-- WALKS

-- a walk at the first of a bucket, or at the end of all
pub walk_begun : {X : Type 0} (S : Links X) (bs : List Bucket) (w : Walk) (n : ℕ) → AreFilled bs → w.spot.bucket ≡ n → w.spot.passed ≡ 0
    → w.here ≡ first_at bs n → w.left ≡ count_at bs n → IsWalk S bs w
walk_begun S bs w n each at none here left = record {
  spot = spot_first S bs w.spot none;
  settled = settled_first bs w.spot each none;
  left = omega (arith, none, left, ap (count_at bs) at);
  here = λ some.
      here
      ∙ ap (first_at bs) (sym at)
      ∙ first_link S bs w.spot.bucket
      ∙ ap (λ q. link_at S bs w.spot.bucket q) (sym none);
}

-- a walk at a spot that is not at the end of its bucket
pub walk_there : {X : Type 0} (S : Links X) (bs : List Bucket) (s : Spot) (b : Bucket) (here : ℕ) → IsSpot S bs s → IsSettled bs s
    → s.bucket < length bs → b ≡ get_or bs s.bucket b → here ≡ link_at S bs s.bucket s.passed
    → IsWalk S bs (record { spot = s; here = here; left = b.count - s.passed })
walk_there S bs s b here spot settled within is link = record {
  spot = spot;
  settled = settled;
  left = omega (arith, count-here bs s.bucket b within is, settled within);
  here = λ some. link;
}

-- a walk goes on in a bucket
pub walk_on : {X : Type 0} (rank : X → ℤ) (S : Links X) (bs : List Bucket) (w : Walk) (l : Link X) → AreBuckets rank S bs → IsWalk S bs w
    → 1 < w.left → S w.here ≡ Some l
    → IsWalk S bs (record { spot = record { bucket = w.spot.bucket; passed = w.spot.passed + 1; before = w.here }; here = l.next; left = w.left - 1 })
walk_on rank S bs w l are walk more is =
    let p = w.spot.passed in
    let link = walk.here (omega (arith, more)) in
    let back : p ≡ p + 1 - 1 = omega arith in
    let on : suc p ≡ p + 1 = omega arith in
    record {
      spot = record {
        within = omega (arith, walk.left, more);
        before = λ some. link ∙ ap (λ q. link_at S bs w.spot.bucket q) back;
      };
      settled = λ within. omega (arith, walk.left, more);
      left = omega (arith, walk.left, more);
      here = λ some.
          next_at S bs w.spot.bucket p l (led_of rank S bs are) (omega (arith, walk.left, more)) (sym (ap S link) ∙ is)
          ∙ ap (λ q. link_at S bs w.spot.bucket q) on;
    }

-- it goes on to the first of the next bucket
pub place_begun : (bs : List Bucket) (s t : Spot) → s.passed + 1 ≡ count_at bs s.bucket → t.bucket ≡ s.bucket + 1 → t.passed ≡ 0
    → place_at bs t.bucket t.passed ≡ place_at bs s.bucket s.passed + 1
place_begun bs s t ends next none =
    let c = s.passed + 1 in
    let one : t.bucket ≡ suc s.bucket = omega (arith, next) in
    let zero : c - c ≡ 0 = omega arith in
    ap (λ n. place_at bs n t.passed) one
    ∙ ap (λ p. place_at bs (suc s.bucket) p) (none ∙ sym zero)
    ∙ place_next bs s.bucket c c (is_number bs s.bucket s.passed (omega (arith, ends))) ends (omega arith)
    ∙ place_more bs s.bucket s.passed

-- somebody is left before the end of all
pub some_left : {X : Type 0} (S : Links X) (bs : List Bucket) (w : Walk) → IsWalk S bs w → place_at bs w.spot.bucket w.spot.passed < total bs → 0 < w.left
some_left S bs w walk before = omega (arith, is_inside bs w.spot walk.settled before, walk.left)

-- where nobody is left none of a bucket were passed
pub ended_passed : {X : Type 0} (S : Links X) (bs : List Bucket) (w : Walk) → IsWalk S bs w → w.left ≡ 0 → w.spot.passed ≡ 0
ended_passed S bs w walk none = elim (cases_lt w.spot.bucket (length bs)) [
  | inl within ↦ absurd (omega (arith, walk.settled within, walk.left, none))
  | inr beyond ↦ omega (arith, walk.left, none, count_past bs w.spot.bucket beyond)
]

-- where nobody is left the walk is there
pub walk_ended : {X : Type 0} (S : Links X) (bs : List Bucket) (w : Walk) → IsWalk S bs w → w.left ≡ 0 → total bs ≤ place_at bs w.spot.bucket w.spot.passed
walk_ended S bs w walk none = elim (cases_order w.spot.bucket (length bs)) [
  | inl same ↦ omega (arith, place_past bs w.spot.bucket w.spot.passed (omega (arith, same)))
  | inr (inl under) ↦ absurd (omega (arith, walk.settled under, walk.left, none))
  | inr (inr over) ↦ omega (arith, place_past bs w.spot.bucket w.spot.passed (omega (arith, over)))
]
