-- Members in buckets: a newcomer joins them ahead of all of its rank.
use Rattle.std.proofs.Common.{◌≡◌, ◌≢◌, ◌∙◌, ℕ, ℤ, zero, suc, ◌+◌, ◌-◌, ◌^◌, ◌<◌, ◌≤◌, min, List, [], ◌∷◌, ◌++◌, length, Some, None, Bool, true}
use Rattle.std.proofs.Common.{false, if◌then◌else◌, refl, sym, ap, subst, arith, get_or, set}
use Rattle.std.proofs.lemmas.Int.{ints}
use Rattle.std.specs.Prelude.{All, AllPairs, IfSome, insert, int_lt}
use Rattle.std.specs.List.{AllByRecursion}
use Rattle.std.specs.List.Sorted.{IsPartitionedBy}
use Rattle.std.proofs.lemmas.List.Elements.{All-head, All-tail, All-cons, All-nil}
use Rattle.gw_chains.specs.Chunks.{begins_in}
use Rattle.gw_chains.specs.Buckets.{times, last_or, Links, run, links_of, member_at, members_at, members_of, total, lower, bucket_of_one}
use Rattle.gw_chains.specs.Buckets.{one_if_there, below, IsHead, head_host, headed_by, with_head, Before, IsBucket, AreBuckets, GainMember}
use Rattle.gw_chains.specs.declared.bucket.Bucket.{Bucket}
use Rattle.gw_chains.proofs.Places.{parts_in_order, pairs_cons, pairs_first, pairs_rest}
use Rattle.gw_chains.proofs.Gaining.{Gain as GainAhead, alike_led, before_all, past, gain_member}
use Rattle.gw_chains.proofs.Linking.{times-append, Alike, run_some, run-same, links-same, members-same, buckets-same, placed_first, AreLed, led_back}
use Rattle.gw_chains.proofs.Linking.{led_front, begins_at}
use Rattle.gw_chains.proofs.Joining.{led_of}
use Rattle.gw_chains.proofs.Leaving.{last_or_run}

-- THE PLACE

module _ (n : Bucket) where
  head_rest : (b : Bucket) (bs : List Bucket) (i : ℕ) → IsHead n (b ∷ bs) (suc i) → IsHead n bs i
  head_rest b bs i point = (λ k d a c. point.0 (suc k) d (omega arith) (omega arith), λ k d a c. point.1 (suc k) d (omega arith) (omega arith))

  -- the host stands there
  pub host-past : (bs : List Bucket) (i : ℕ) → length bs ≤ i → IsHead n bs i → head_host n bs ≡ None
  host-past [] i past point = refl
  host-past (b ∷ bs) zero past point = absurd (omega arith)
  host-past (b ∷ bs) (suc i) past point = rw (point.0 0 b (omega arith) (omega arith)) (host-past bs i (omega arith) (head_rest b bs i point))

  pub host-there : (bs : List Bucket) (i : ℕ) (d : Bucket) → i < length bs → IsHead n bs i → head_host n bs
      ≡ (if below n (get_or bs i d) then None else Some (get_or bs i d))
  host-there [] i d within point = absurd (omega arith)
  host-there (b ∷ bs) zero d within point = rw (point.1 0 b (omega arith) (omega arith)) refl
  host-there (b ∷ bs) (suc i) d within point = rw (point.0 0 b (omega arith) (omega arith)) (host-there bs i d (omega arith) (head_rest b bs i point))

  pub host-at : (bs : List Bucket) (i : ℕ) (h : Bucket) → i < length bs → IsHead n bs i → h ≡ get_or bs i h → (t : Bool) → t ≡ below n h
      → head_host n bs ≡ (if t then None else Some h)
  host-at bs i h within point is t test = host-there bs i h within point ∙ rw (← is) (ap (λ u. if u then None else Some h) (sym test))

  -- it takes the newcomer in
  pub put-headed : (bs : List Bucket) (i : ℕ) (h : Bucket) → IsHead n bs i → Some h ≡ head_host n bs → (i < length bs)
      × (set bs i (headed_by n h) ≡ with_head n bs)
  put-headed [] i h point is = absurd cc
  put-headed (b ∷ bs) zero h point is =
      let fails = point.1 0 b (omega arith) (omega arith) in
      let found : Some h ≡ (if below n b then None else Some b) = rw fails at is in
      (omega arith, rw fails (by_test (below n b) found))
    where
      same : (a c : Bucket) → Some a ≡ Some c → a ≡ c
      same a c e = cc

      by_test : (t : Bool) → Some h ≡ (if t then None else Some b) → headed_by n h ∷ bs ≡ (if t then n ∷ b ∷ bs else headed_by n b ∷ bs)
      by_test true found = absurd cc
      by_test false found = ap (λ c. headed_by n c ∷ bs) (same h b found)
  put-headed (b ∷ bs) (suc i) h point is =
      let passes = point.0 0 b (omega arith) (omega arith) in
      let found : Some h ≡ head_host n bs = rw passes at is in
      let later = put-headed bs i h (head_rest b bs i point) found in
      (omega (arith, later.0), rw passes (ap (λ cs. b ∷ cs) later.1))

  -- or it stands there
  pub put-apart : (bs : List Bucket) (i : ℕ) → i ≤ length bs → IsHead n bs i → None ≡ head_host n bs → insert bs i n ≡ with_head n bs
  put-apart [] zero within point is = refl
  put-apart [] (suc i) within point is = absurd (omega arith)
  put-apart (b ∷ bs) zero within point is =
      let fails = point.1 0 b (omega arith) (omega arith) in
      let none : None ≡ (if below n b then None else Some b) = rw fails at is in
      rw fails (by_test (below n b) none)
    where
      by_test : (t : Bool) → None ≡ (if t then None else Some b) → n ∷ b ∷ bs ≡ (if t then n ∷ b ∷ bs else headed_by n b ∷ bs)
      by_test true none = refl
      by_test false none = absurd cc
  put-apart (b ∷ bs) (suc i) within point is =
      let passes = point.0 0 b (omega arith) (omega arith) in
      let none : None ≡ head_host n bs = rw passes at is in
      rw passes (ap (λ cs. b ∷ cs) (put-apart bs i (omega arith) (head_rest b bs i point) none))

-- those of a lower rank stand first
pub parted_below : (n : Bucket) (bs : List Bucket) → AllPairs Before bs → IsPartitionedBy (λ b. below b n) bs
parted_below n bs order = parts_in_order Before (λ b. below b n) bs falls order
  where
    falls : (a b : Bucket) → Before a b → below b n ≡ true → below a n ≡ true
    falls a b under passes = grind (arith, ints)

-- THE NEWCOMER

-- all members of a bucket of a lower rank
all_lower : {X : Type 0} (rank : X → ℤ) (e : X) (t : ℤ) (ys : List X) → int_lt t (rank e) ≡ true
    → AllByRecursion (λ (y : X). rank y ≡ t) ys → AllByRecursion (λ y. lower rank e y ≡ true) ys
all_lower rank e t [] passes all = tt
all_lower rank e t (y ∷ ys) passes all = (ap (λ u. int_lt u (rank e)) all.0 ∙ passes, all_lower rank e t ys passes all.1)

module _ {X : Type 0} (rank : X → ℤ) (S T : Links X) (e : X) (j x : ℕ) (vacant : S j ≡ None)
    (there : T j ≡ Some (record { member = e; next = x })) (others : (k : ℕ) → k ≢ j → T k ≡ S k) where
  alike : (ks : List ℕ) → AreLed S ks → Alike S T ks
  alike ks led = alike_led rank S T e j x vacant there ks led others

  abbrev Gain : List Bucket → List Bucket → Type 0
  Gain = GainAhead rank S T e j x vacant there (lower rank e)

  -- it stands before all buckets
  stands_first : (bs : List Bucket) → AreLed S (links_of S bs) → AllByRecursion (IsBucket rank S) bs
      → begins_in (lower rank e) (members_of S bs) ≡ false → Gain bs (bucket_of_one rank e j ∷ bs)
  stands_first bs led each fails = before_all rank S T e j x vacant there (lower rank e) bs (alike (links_of S bs) led) each fails

  -- a bucket takes it in before its own
  taken_in : (b : Bucket) (bs : List Bucket) → AreLed S (links_of S (b ∷ bs)) → AllByRecursion (IsBucket rank S) (b ∷ bs) → total (b ∷ bs)
      < 2 ^ 62 → int_lt b.rank (rank e) ≡ false → int_lt (rank e) b.rank ≡ false → x ≡ b.first → Gain (b ∷ bs) (headed_by (bucket_of_one rank e j) b ∷ bs)
  taken_in b bs led each few from_e upto_e first =
      let here = run S b.count b.first in
      let back = links_of S bs in
      let m = min (b.count + 1) (2 ^ 64 - 1) in
      let more : suc b.count ≡ m = omega (arith, few) in
      let led_here = led_front S here back led in
      let alike_here = alike here led_here in
      let alike_back = alike back (led_back S here back led) in
      let same = run-same S T b.count b.first alike_here in
      let run_here : run T m j ≡ j ∷ here =
      sym (ap (λ k. run T k j) more)
      ∙ run_some T b.count j (record { member = e; next = x }) there
      ∙ ap (λ k. j ∷ run T b.count k) first
      ∙ ap (λ zs. j ∷ zs) same in
      let whole : links_of T (headed_by (bucket_of_one rank e j) b ∷ bs) ≡ j ∷ (here ++ back) = ap (λ zs. zs ++ links_of T bs) run_here
      ∙ ap (λ zs. j ∷ (here ++ zs)) (links-same S T bs alike_back) in
      let shown : (ks : List ℕ) → Alike S T ks → members_at T (j ∷ ks) ≡ e ∷ members_at S ks =
      λ ks same. ap (λ o. member_at o ++ members_at T ks) there ∙ ap (λ zs. e ∷ zs) (members-same S T ks (λ k some. ap member_at (same k some))) in
      let fails : begins_in (lower rank e) (members_of S (b ∷ bs)) ≡ false =
      begins_at rank S (λ t. int_lt t (rank e)) b.count b.first b.rank back each.0.some led_here.leads each.0.alike ∙ from_e in
      record {
        members = ap (members_at T) whole ∙ shown (here ++ back) (alike (here ++ back) led) ∙ sym (placed_first (lower rank e) e (members_of S (b ∷ bs)) fails);
        links = λ i. omega (arith, ap (times i) whole, times-append i here back);
        each = (
          record {
            some = omega (arith, more);
            last = ap (last_or j) run_here ∙ last_or_run j S b.count b.first each.0.some ∙ each.0.last;
            alike = subst (AllByRecursion (λ (y : X). rank y ≡ b.rank)) (sym (ap (members_at T) run_here ∙ shown here alike_here))
                (grind (arith, ints), each.0.alike);
          },
          buckets-same rank S T bs alike_back each.1,
        );
        many = omega (arith, more);
      }

  -- it goes past a bucket
  goes_past : (b : Bucket) (bs ws : List Bucket) → AreLed S (links_of S (b ∷ bs)) → AllByRecursion (IsBucket rank S) (b ∷ bs)
      → int_lt b.rank (rank e) ≡ true → Gain bs ws → Gain (b ∷ bs) (b ∷ ws)
  goes_past b bs ws led each under gain =
      let here = run S b.count b.first in
      past rank S T e j x vacant there (lower rank e) b bs ws (alike here (led_front S here (links_of S bs) led))
      (all_lower rank e b.rank (members_at S here) under each.0.alike) each.0 gain

  headed : (bs : List Bucket) → AreLed S (links_of S bs) → AllByRecursion (IsBucket rank S) bs → total bs < 2 ^ 62
      → IfSome (head_host (bucket_of_one rank e j) bs) (λ h. x ≡ h.first) → Gain bs (with_head (bucket_of_one rank e j) bs)
  headed [] led each few host = stands_first [] led each refl
  headed (b ∷ bs) led each few host =
      by_test (int_lt b.rank (rank e)) (int_lt (rank e) b.rank) refl refl host
      (λ here. headed bs (led_back S (run S b.count b.first) (links_of S bs) led) each.1 (omega (arith, few)) here)
    where
      by_test : (p q : Bool) → int_lt b.rank (rank e) ≡ p → int_lt (rank e) b.rank ≡ q
          → IfSome (if p then head_host (bucket_of_one rank e j) bs else (if q then None else Some b)) (λ h. x ≡ h.first)
          → (IfSome (head_host (bucket_of_one rank e j) bs) (λ h. x ≡ h.first) → Gain bs (with_head (bucket_of_one rank e j) bs))
          → Gain (b ∷ bs) (if p then b ∷ with_head (bucket_of_one rank e j) bs else
          (if q then bucket_of_one rank e j ∷ b ∷ bs else headed_by (bucket_of_one rank e j) b ∷ bs))
      by_test true q under over found rest = goes_past b bs (with_head (bucket_of_one rank e j) bs) led each under (rest found)
      by_test false true under over found rest =
          stands_first (b ∷ bs) led each
          (begins_at rank S (λ t. int_lt t (rank e)) b.count b.first b.rank (links_of S bs) each.0.some
          (led_front S (run S b.count b.first) (links_of S bs) led).leads each.0.alike ∙ under)
      by_test false false under over found rest = taken_in b bs led each few under over found

all_headed : (a n : Bucket) (bs : List Bucket) → Before a n → All (Before a) bs → All (Before a) (with_head n bs)
all_headed a n [] this all = All-cons (Before a) n [] this all
all_headed a n (b ∷ bs) this all = by_test (below b n) (below n b) (all_headed a n bs this (All-tail (Before a) b bs all))
  where
    here : Before a b
    here = All-head (Before a) b bs all

    by_test : (p q : Bool) → All (Before a) (with_head n bs) → All (Before a) (if p then b ∷ with_head n bs else (if q then n ∷ b ∷ bs else headed_by n b ∷ bs))
    by_test true q later = All-cons (Before a) b (with_head n bs) here later
    by_test false true later = All-cons (Before a) n (b ∷ bs) this all
    by_test false false later = All-cons (Before a) (headed_by n b) bs here (All-tail (Before a) b bs all)

order_headed : (n : Bucket) (bs : List Bucket) → AllPairs Before bs → AllPairs Before (with_head n bs)
order_headed n [] order = pairs_cons Before n [] (All-nil (Before n)) order
order_headed n (b ∷ bs) order = by_test (below b n) (below n b) refl refl (order_headed n bs (pairs_rest Before b bs order))
  where
    above : (a b c : Bucket) → Before a b → Before b c → Before a c
    above a b c one other = grind (arith, ints)

    under : below b n ≡ true → Before b n
    under one = grind (arith, ints)

    over : below n b ≡ true → Before n b
    over one = grind (arith, ints)

    by_test : (p q : Bool) → below b n ≡ p → below n b ≡ q → AllPairs Before (with_head n bs)
        → AllPairs Before (if p then b ∷ with_head n bs else (if q then n ∷ b ∷ bs else headed_by n b ∷ bs))
    by_test true q one other later = pairs_cons Before b (with_head n bs) (all_headed b n bs (under one) (pairs_first Before b bs order)) later
    by_test false true one other later =
        pairs_cons Before n (b ∷ bs)
        (All-cons (Before n) b bs (over other) (λ k d low. above n b (get_or bs k d) (over other) (pairs_first Before b bs order k d low))) order
    by_test false false one other later = pairs_cons Before (headed_by n b) bs (pairs_first Before b bs order) (pairs_rest Before b bs order)

-- what becomes of buckets that a member joins ahead of its rank
pub gains_ahead : {X : Type 0} (rank : X → ℤ) (S T : Links X) (e : X) (j x : ℕ) → S j ≡ None → T j ≡ Some (record { member = e; next = x })
    → ((k : ℕ) → k ≢ j → T k ≡ S k)
    → (bs : List Bucket) → AreBuckets rank S bs → total bs < 2 ^ 62 → IfSome (head_host (bucket_of_one rank e j) bs) (λ h. x ≡ h.first)
    → GainMember rank (lower rank e) e S bs T (with_head (bucket_of_one rank e j) bs)
gains_ahead rank S T e j x vacant there others bs are few host =
    gain_member rank S T e j x vacant there (lower rank e) bs (with_head (bucket_of_one rank e j) bs) are
    (order_headed (bucket_of_one rank e j) bs are.order) (λ i other. ap one_if_there (others i other))
    (headed rank S T e j x vacant there others bs (led_of rank S bs are) are.each few host)
