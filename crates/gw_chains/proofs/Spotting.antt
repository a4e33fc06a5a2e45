-- Places among buckets, and the spots there.
use Rattle.std.proofs.Common.{◌≡◌, ◌≢◌, ◌∙◌, ℕ, zero, suc, ◌+◌, ◌-◌, ◌<◌, ◌≤◌, ℤ, List, [], ◌∷◌, ◌++◌, length, drop, get_or, set, ◌⊎◌, Option, Some}
use Rattle.std.proofs.Common.{None, IsSome, Bool, true, false, if◌then◌else◌, refl, sym, ap, subst, arith, inl, inr}
use Rattle.std.proofs.lemmas.Bool.{cases_order}
use Rattle.std.proofs.lemmas.Grind.{common_steps}
use Rattle.std.specs.Prelude.{nat_le, remove, OnSome}
use Rattle.std.specs.List.{AllByRecursion}
use Rattle.gw_chains.specs.Buckets.{last_or, Links, run, links_of, times, total, IsBucket, AreBuckets}
use Rattle.gw_chains.specs.Spots.{count_at, place_at, link_at, AreThere, AreFilled, IsSpot, IsSettled, without_one, without_link}
use Rattle.gw_chains.specs.declared.bucket.Bucket.{Bucket}
use Rattle.gw_chains.specs.declared.bucket.Link.{Link}
use Rattle.gw_chains.specs.declared.spot.Spot.{Spot}
use Rattle.gw_chains.proofs.Linking.{once-same, times-append, last_in_run, AreLed, led_back, led_front}
use Rattle.gw_chains.proofs.Joining.{led_of}
use Rattle.gw_chains.proofs.Unlinking.{run_one, run_grows, run_last, run_next, led_upto}

-- THE BUCKET OF A NUMBER

pub count-here : (bs : List Bucket) (n : ℕ) (b : Bucket) → n < length bs → b ≡ get_or bs n b → count_at bs n ≡ b.count
count-here [] n b within is = absurd (omega (arith, within))
count-here (c ∷ bs) zero b within is = ap (λ (d : Bucket). d.count) (sym is)
count-here (c ∷ bs) (suc n) b within is = count-here bs n b (omega (arith, within)) is

pub link-here : {X : Type 0} (S : Links X) (bs : List Bucket) (n p : ℕ) (b : Bucket) → n < length bs → b ≡ get_or bs n b → link_at S bs n p
    ≡ last_or b.first (run S (suc p) b.first)
link-here S [] n p b within is = absurd (omega (arith, within))
link-here S (c ∷ bs) zero p b within is = ap (λ (d : Bucket). last_or d.first (run S (suc p) d.first)) (sym is)
link-here S (c ∷ bs) (suc n) p b within is = link-here S bs n p b (omega (arith, within)) is

-- there is one where somebody stands
pub is_number : (bs : List Bucket) (n p : ℕ) → p < count_at bs n → n < length bs
is_number [] n p inside = absurd (omega (arith, inside))
is_number (b ∷ bs) zero p inside = omega arith
is_number (b ∷ bs) (suc n) p inside = omega (arith, is_number bs n p inside)

pub few_at : (bs : List Bucket) (n : ℕ) → count_at bs n ≤ total bs
few_at [] n = omega arith
few_at (b ∷ bs) zero = omega arith
few_at (b ∷ bs) (suc n) = omega (arith, few_at bs n)

pub bucket_there : {X : Type 0} (rank : X → ℤ) (S : Links X) (bs : List Bucket) (n : ℕ) (b : Bucket) → n < length bs → b ≡ get_or bs n b
    → AllByRecursion (IsBucket rank S) bs → IsBucket rank S b
bucket_there rank S [] n b within is each = absurd (omega (arith, within))
bucket_there rank S (c ∷ bs) zero b within is each = subst (IsBucket rank S) (sym is) each.0
bucket_there rank S (c ∷ bs) (suc n) b within is each = bucket_there rank S bs n b (omega (arith, within)) is each.1

pub run_there : {X : Type 0} (S : Links X) (bs : List Bucket) (n : ℕ) (b : Bucket) → n < length bs → b ≡ get_or bs n b
    → AreLed S (links_of S bs) → AreLed S (run S b.count b.first)
run_there S [] n b within is led = absurd (omega (arith, within))
run_there S (c ∷ bs) zero b within is led =
    subst (λ (d : Bucket). AreLed S (run S d.count d.first)) (sym is) (led_front S (run S c.count c.first) (links_of S bs) led)
run_there S (c ∷ bs) (suc n) b within is led = run_there S bs n b (omega (arith, within)) is (led_back S (run S c.count c.first) (links_of S bs) led)

pub filled : {X : Type 0} (rank : X → ℤ) (S : Links X) (bs : List Bucket) → AllByRecursion (IsBucket rank S) bs → AreFilled bs
filled rank S [] each n within = absurd (omega (arith, within))
filled rank S (b ∷ bs) each zero within = each.0.some
filled rank S (b ∷ bs) each (suc n) within = filled rank S bs each.1 n (omega (arith, within))

-- PLACES

pub place_first : (bs : List Bucket) (p : ℕ) → place_at bs 0 p ≡ p
place_first [] p = refl
place_first (b ∷ bs) p = refl

-- the same place, in the next bucket
pub place_next : (bs : List Bucket) (n p c : ℕ) → n < length bs → c ≡ count_at bs n → c ≤ p → place_at bs (suc n) (p - c) ≡ place_at bs n p
place_next [] n p c within is upto = absurd (omega (arith, within))
place_next (b ∷ bs) zero p c within is upto = omega (arith, place_first bs (p - c), is, upto)
place_next (b ∷ bs) (suc n) p c within is upto = ap (λ m. b.count + m) (place_next bs n p c (omega (arith, within)) is upto)

pub place_more : (bs : List Bucket) (n p : ℕ) → place_at bs n (p + 1) ≡ place_at bs n p + 1
place_more [] n p = refl
place_more (b ∷ bs) zero p = refl
place_more (b ∷ bs) (suc n) p = omega (arith, place_more bs n p)

pub place_inside : (bs : List Bucket) (n p : ℕ) → p < count_at bs n → place_at bs n p < total bs
place_inside [] n p inside = absurd (omega (arith, inside))
place_inside (b ∷ bs) zero p inside = omega (arith, inside)
place_inside (b ∷ bs) (suc n) p inside = omega (arith, place_inside bs n p inside)

pub place_past : (bs : List Bucket) (n p : ℕ) → length bs ≤ n → place_at bs n p ≡ total bs + p
place_past [] n p past = omega arith
place_past (b ∷ bs) zero p past = absurd (omega (arith, past))
place_past (b ∷ bs) (suc n) p past = omega (arith, place_past bs n p (omega (arith, past)))

-- how many the buckets from a number on have
pub total_from : (bs : List Bucket) (n : ℕ) → total (drop n bs) ≡ count_at bs n + total (drop (suc n) bs)
total_from [] zero = refl
total_from [] (suc n) = refl
total_from (b ∷ bs) zero = refl
total_from (b ∷ bs) (suc n) = total_from bs n

pub number_from : (bs : List Bucket) (n p : ℕ) → p < total (drop n bs) → n < length bs
number_from [] zero p some = absurd (omega (arith, some))
number_from [] (suc n) p some = absurd (omega (arith, some))
number_from (b ∷ bs) zero p some = omega arith
number_from (b ∷ bs) (suc n) p some = omega (arith, number_from bs n p some)

-- SPOTS

-- somebody stands at a spot that is before the end of all
pub is_inside : (bs : List Bucket) (s : Spot) → IsSettled bs s → place_at bs s.bucket s.passed < total bs → s.passed < count_at bs s.bucket
is_inside bs s settled before = elim (cases_order s.bucket (length bs)) [
  | inl same ↦ absurd (omega (arith, before, place_past bs s.bucket s.passed (omega (arith, same))))
  | inr (inl under) ↦ settled under
  | inr (inr over) ↦ absurd (omega (arith, before, place_past bs s.bucket s.passed (omega (arith, over))))
]

-- the links before and at a spot are there
pub link_within : {X : Type 0} (rank : X → ℤ) (S : Links X) (bs : List Bucket) (n p : ℕ) → AllByRecursion (IsBucket rank S) bs → p
    < count_at bs n → 0 < times (link_at S bs n p) (links_of S bs)
link_within rank S [] n p each inside = absurd (omega (arith, inside))
link_within rank S (b ∷ bs) zero p each inside =
    let here = last_or b.first (run S (suc p) b.first) in
    let whole : suc p + (b.count - suc p) ≡ b.count = omega (arith, inside) in
    let grows : times here (run S (suc p) b.first) ≤ times here (run S b.count b.first) =
    subst (λ c. times here (run S (suc p) b.first) ≤ times here (run S c b.first)) whole (run_grows S (suc p) (b.count - suc p) b.first here) in
    omega (arith, grows, last_in_run S (suc p) b.first here (omega arith) refl, times-append here (run S b.count b.first) (links_of S bs))
link_within rank S (b ∷ bs) (suc n) p each inside =
    let here = link_at S bs n p in
    omega (arith, link_within rank S bs n p each.1 inside, times-append here (run S b.count b.first) (links_of S bs))

pub link_there : {X : Type 0} (rank : X → ℤ) (S : Links X) (bs : List Bucket) (n p : ℕ) → AreBuckets rank S bs → p < count_at bs n
    → IsSome (S (link_at S bs n p))
link_there rank S bs n p are inside = (led_of rank S bs are).leads (link_at S bs n p) (link_within rank S bs n p are.each inside)

-- the link of the one before a spot is there
pub before_there : {X : Type 0} (rank : X → ℤ) (S : Links X) (bs : List Bucket) (s : Spot) → AreBuckets rank S bs → IsSpot S bs s → 0
    < s.passed → IsSome (S s.before)
before_there rank S bs s are spot some =
    subst (λ k. IsSome (S k)) (sym (spot.before some)) (link_there rank S bs s.bucket (s.passed - 1) are (omega (arith, spot.within, some)))

-- a first of a bucket is a spot, and so is the first of all
pub spot_first : {X : Type 0} (S : Links X) (bs : List Bucket) (s : Spot) → s.passed ≡ 0 → IsSpot S bs s
spot_first S bs s none = record { within = omega (arith, none); before = λ some. absurd (omega (arith, none, some)) }

-- WITHOUT ONE

pub set-shorter : (s : Spot) (next : ℕ) (bs : List Bucket) (n : ℕ) (b : Bucket) → n < length bs → b ≡ get_or bs n b → 1 < b.count
    → set bs n (without_one s next b) ≡ without_link s next bs n
set-shorter s next [] n b within is several = absurd (omega (arith, within))
set-shorter s next (c ∷ bs) zero b within is several = by_test (nat_le c.count 1) refl
  where
    by_test : (t : Bool) → nat_le c.count 1 ≡ t → without_one s next b ∷ bs ≡ (if t then bs else without_one s next c ∷ bs)
    by_test true few =
        let one : c.count ≤ 1 = grind (arith, common_steps) in
        absurd (omega (arith, one, several, ap (λ (d : Bucket). d.count) is))
    by_test false many = ap (λ d. without_one s next d ∷ bs) is
set-shorter s next (c ∷ bs) (suc n) b within is several = ap (λ cs. c ∷ cs) (set-shorter s next bs n b (omega (arith, within)) is several)

pub remove-emptied : (s : Spot) (next : ℕ) (bs : List Bucket) (n : ℕ) (b : Bucket) → n < length bs → b ≡ get_or bs n b → b.count ≤ 1
    → remove bs n ≡ without_link s next bs n
remove-emptied s next [] n b within is few = absurd (omega (arith, within))
remove-emptied s next (c ∷ bs) zero b within is few = by_test (nat_le c.count 1) refl
  where
    by_test : (t : Bool) → nat_le c.count 1 ≡ t → bs ≡ (if t then bs else without_one s next c ∷ bs)
    by_test true one = refl
    by_test false many =
        let several : 1 < c.count = grind (arith, common_steps) in
        absurd (omega (arith, several, few, ap (λ (d : Bucket). d.count) is))
remove-emptied s next (c ∷ bs) (suc n) b within is few = ap (λ cs. c ∷ cs) (remove-emptied s next bs n b (omega (arith, within)) is few)

-- THE LINK AT A SPOT

pub link-first : {X : Type 0} (S : Links X) (bs : List Bucket) (n p : ℕ) (b : Bucket) → n < length bs → b ≡ get_or bs n b → p ≡ 0 → b.first ≡ link_at S bs n p
link-first S bs n p b within is none =
    sym (ap (λ q. link_at S bs n q) none ∙ link-here S bs n 0 b within is ∙ ap (last_or b.first) (run_one S b.first))

pub next_at : {X : Type 0} (S : Links X) (bs : List Bucket) (n q : ℕ) (l : Link X) → AreLed S (links_of S bs) → suc q < count_at bs n
    → S (link_at S bs n q) ≡ Some l → l.next ≡ link_at S bs n (suc q)
next_at S [] n q l led inside is = absurd (omega (arith, inside))
next_at S (b ∷ bs) zero q l led inside is =
    sym (run_next S q b.first l (led_upto S (suc q) b.count b.first (omega (arith, inside)) (led_front S (run S b.count b.first) (links_of S bs) led)).leads is)
next_at S (b ∷ bs) (suc n) q l led inside is = next_at S bs n q l (led_back S (run S b.count b.first) (links_of S bs) led) inside is

pub link-next : {X : Type 0} (rank : X → ℤ) (S : Links X) (bs : List Bucket) (s : Spot) (l : Link X) → AreBuckets rank S bs → IsSpot S bs s
    → s.passed < count_at bs s.bucket → 0 < s.passed → S s.before ≡ Some l → l.next ≡ link_at S bs s.bucket s.passed
link-next rank S bs s l are spot inside some is =
    let one : suc (s.passed - 1) ≡ s.passed = omega (arith, some) in
    next_at S bs s.bucket (s.passed - 1) l (led_of rank S bs are) (omega (arith, inside, some)) (sym (ap S (spot.before some)) ∙ is)
    ∙ ap (λ q. link_at S bs s.bucket q) one

-- the one before a spot is another
links_apart : {X : Type 0} (S : Links X) (bs : List Bucket) (n q : ℕ) → AreLed S (links_of S bs) → suc q < count_at bs n
    → link_at S bs n q ≢ link_at S bs n (suc q)
links_apart S [] n q led inside same = absurd (omega (arith, inside))
links_apart S (b ∷ bs) zero q led inside same =
    let front = run S (suc q) b.first in
    let here = last_or b.first (run S (suc (suc q)) b.first) in
    let upto = led_upto S (suc (suc q)) b.count b.first (omega (arith, inside)) (led_front S (run S b.count b.first) (links_of S bs) led) in
    let last : run S (suc (suc q)) b.first ≡ front ++ here ∷ [] = run_last S (suc q) b.first upto.leads in
    let within : 0 < times here front = subst (λ i. 0 < times i front) same (last_in_run S (suc q) b.first (last_or b.first front) (omega arith) refl) in
    absurd (omega (arith, upto.single here, ap (times here) last, times-append here front (here ∷ []), once-same here here refl, within))
links_apart S (b ∷ bs) (suc n) q led inside same = links_apart S bs n q (led_back S (run S b.count b.first) (links_of S bs) led) inside same

pub before_apart : {X : Type 0} (rank : X → ℤ) (S : Links X) (bs : List Bucket) (s : Spot) → AreBuckets rank S bs → IsSpot S bs s
    → s.passed < count_at bs s.bucket → 0 < s.passed → s.before ≢ link_at S bs s.bucket s.passed
before_apart rank S bs s are spot inside some same =
    let one : suc (s.passed - 1) ≡ s.passed = omega (arith, some) in
    links_apart S bs s.bucket (s.passed - 1) (led_of rank S bs are) (omega (arith, inside, some))
    (sym (spot.before some) ∙ same ∙ ap (λ q. link_at S bs s.bucket q) (sym one))

pub on_some : {A : Type 0} (P : Type 0) (o : Option A) → IsSome o → OnSome o P → P
on_some P None is holds = absurd cc
on_some P (Some x) is holds = holds

-- A WALK

-- where a bucket ends the next one begins
pub place_turn : (bs : List Bucket) (s t : Spot) (b : Bucket) → s.bucket < length bs → b ≡ get_or bs s.bucket b → s.passed ≡ b.count
    → t.bucket ≡ s.bucket + 1 → t.passed ≡ 0
    → place_at bs t.bucket t.passed ≡ place_at bs s.bucket s.passed
place_turn bs s t b within is ends next first =
    let one : t.bucket ≡ suc s.bucket = omega (arith, next) in
    let none : s.passed - s.passed ≡ 0 = omega arith in
    let here : s.passed ≡ count_at bs s.bucket = ends ∙ sym (count-here bs s.bucket b within is) in
    ap (λ n. place_at bs n t.passed) one
    ∙ ap (λ p. place_at bs (suc s.bucket) p) (first ∙ sym none)
    ∙ place_next bs s.bucket s.passed s.passed within here (omega arith)

pub settled_where : (bs : List Bucket) (s : Spot) (b : Bucket) → s.bucket < length bs → b ≡ get_or bs s.bucket b → s.passed ≢ b.count
    → s.passed ≤ count_at bs s.bucket → s.passed < count_at bs s.bucket
settled_where bs s b within is other upto = omega (arith, count-here bs s.bucket b within is, other, upto)

pub settled_first : (bs : List Bucket) (s : Spot) → AreFilled bs → s.passed ≡ 0 → IsSettled bs s
settled_first bs s each none within = omega (arith, each s.bucket within, none)

pub place_start : (bs : List Bucket) (s : Spot) → s.bucket ≡ 0 → s.passed ≡ 0 → place_at bs s.bucket s.passed ≡ 0
place_start bs s first none = ap (λ n. place_at bs n s.passed) first ∙ place_first bs s.passed ∙ none

-- a spot that was settled is one, as the one before was
pub spot_settled : {X : Type 0} (S : Links X) (bs : List Bucket) (s t : Spot) → IsSpot S bs s → (t ≡ s) ⊎ (t.passed ≡ 0) → IsSpot S bs t
spot_settled S bs s t spot settled = elim settled [
  | inl same ↦ subst (IsSpot S bs) (sym same) spot
  | inr none ↦ spot_first S bs t none
]

-- the spot of a place that was found
pub spot_found : {X : Type 0} (S : Links X) (bs : List Bucket) (n p before : ℕ) (b : Bucket) → n < length bs → b ≡ get_or bs n b → p
    < count_at bs n → before ≡ last_or b.first (run S p b.first)
    → IsSpot S bs (record { bucket = n; passed = p; before = before })
spot_found S bs n p before b within is inside last = record {
  within = omega (arith, inside);
  before = λ some.
      let one : suc (p - 1) ≡ p = omega (arith, some) in
      last ∙ sym (link-here S bs n (p - 1) b within is ∙ ap (λ q. last_or b.first (run S q b.first)) one);
}

pub links_there : {X : Type 0} (rank : X → ℤ) (S : Links X) (bs : List Bucket) (n p : ℕ) (b : Bucket) → n < length bs → b ≡ get_or bs n b
    → p < count_at bs n → AreBuckets rank S bs → AreThere S (run S p b.first)
links_there rank S bs n p b within is inside are =
    (led_upto S p b.count b.first (omega (arith, inside, count-here bs n b within is)) (run_there S bs n b within is (led_of rank S bs are))).leads

-- how many are left behind a place
pub fewer_left : (bs : List Bucket) (n p : ℕ) (b : Bucket) → n < length bs → b ≡ get_or bs n b → b.count ≤ p → p < total (drop n bs) → p
    - b.count < total (drop (suc n) bs)
fewer_left bs n p b within is upto left = omega (arith, total_from bs n, count-here bs n b within is, upto, left)
