-- Members in buckets: a newcomer joins them.
use Rattle.std.proofs.Common.{◌≡◌, ◌≢◌, ◌∙◌, ℕ, zero, suc, ◌+◌, ◌-◌, ◌^◌, ◌<◌, ◌≤◌, min, ℤ, List, [], ◌∷◌, ◌++◌, Option, Some, None, IsSome, Bool}
use Rattle.std.proofs.Common.{true, false, if◌then◌else◌, refl, sym, ap, subst, arith, append_assoc, inl, inr, get_or}
use Rattle.std.proofs.lemmas.Bool.{cases_eq}
use Rattle.std.proofs.lemmas.Grind.{common_steps}
use Rattle.std.proofs.lemmas.Int.{ints}
use Rattle.std.specs.Prelude.{All, IfSome, AllPairs, int_le, ◌<ℤ◌, ◌==◌}
use Rattle.std.specs.List.{AllByRecursion}
use Rattle.std.specs.List.Sorted.{IsPartitionedBy}
use Rattle.gw_members.specs.Chain.{placed_behind}
use Rattle.gw_chains.specs.Chunks.{begins_in}
use Rattle.gw_chains.specs.Newcomers.{host, with_newcomer, IsHostLast}
use Rattle.gw_chains.specs.Buckets.{times, last_or, Links, run, links_of, member_at, members_at, members_of, total, upto, bucket_of_one, one_if_there}
use Rattle.gw_chains.specs.Buckets.{linked_to, linked_behind, Before, IsBucket, AreBuckets, GainMember}
use Rattle.gw_chains.specs.declared.bucket.Bucket.{Bucket}
use Rattle.gw_chains.specs.declared.bucket.Link.{Link}
use Rattle.std.proofs.lemmas.List.Elements.{All-head, All-tail, All-cons, All-nil}
use Rattle.gw_chains.proofs.Places.{parts_in_order, pairs_cons, pairs_first, pairs_rest}
use Rattle.gw_chains.proofs.Gaining.{Gain as GainBehind, alike_led, before_all, past, gain_member}
use Rattle.gw_chains.proofs.Linking.{goes, unite, times-append, last_in_run, Alike, links-same, members-append, buckets-same, was_other, run-longer}
use Rattle.gw_chains.proofs.Linking.{member_kept, there_kept, kept_members, placed_past, placed_first, all_upto, AreLed, led_back, led_front}
use Rattle.gw_chains.proofs.Linking.{begins_at, rest_fails, host_within_links}

-- WHAT IS LINKED, AND WHAT ISN'T

module _ {X : Type 0} (S : Links X) (j : ℕ) where
  linked_at : (b : Bucket) (k : ℕ) → k ≡ b.last → linked_behind (Some b) j S k ≡ linked_to j (S k)
  linked_at b k same = grind (arith, common_steps)

  linked_off : (b : Bucket) (k : ℕ) → k ≢ b.last → linked_behind (Some b) j S k ≡ S k
  linked_off b k other = grind (arith, common_steps)

  unlinked : (h : Option Bucket) (k : ℕ) → ((b : Bucket) → h ≡ Some b → k ≢ b.last) → linked_behind h j S k ≡ S k
  unlinked None k other = refl
  unlinked (Some b) k other = linked_off b k (other b refl)

  -- what a link keeps that is linked to another
  keeps : {Y : Type 0} (f : Option (Link X) → Y) → ((o : Option (Link X)) → f (linked_to j o) ≡ f o) → (h : Option Bucket) (k : ℕ)
      → f (linked_behind h j S k) ≡ f (S k)
  keeps f kept None k = refl
  keeps f kept (Some b) k = elim (cases_eq k b.last) [
    | inl same ↦ ap f (linked_at b k same) ∙ kept (S k)
    | inr other ↦ ap f (linked_off b k other)
  ]

-- LISTS

last_appended : (d x : ℕ) (xs : List ℕ) → last_or d (xs ++ x ∷ []) ≡ x
last_appended d x [] = refl
last_appended d x (y ∷ ys) = last_appended y x ys

all_appended : {A : Type 0} (P : A → Type 0) (xs : List A) (x : A) → AllByRecursion P xs → P x → AllByRecursion P (xs ++ x ∷ [])
all_appended P [] x all this = (this, tt)
all_appended P (y ∷ ys) x all this = (all.0, all_appended P ys x all.1 this)

-- THE NEWCOMER

module _ {X : Type 0} (rank : X → ℤ) (S T : Links X) (e : X) (j x : ℕ) (vacant : S j ≡ None) (there : T j ≡ Some (record { member = e; next = x })) where
  abbrev Gain : List Bucket → List Bucket → Type 0
  Gain = GainBehind rank S T e j x vacant there (upto rank e)

  -- the newcomer stands before all buckets
  stands_first : (bs : List Bucket) → AreLed S (links_of S bs) → AllByRecursion (IsBucket rank S) bs → ((k : ℕ) → k ≢ j → T k ≡ S k)
      → begins_in (upto rank e) (members_of S bs) ≡ false → Gain bs (bucket_of_one rank e j ∷ bs)
  stands_first bs led each others fails =
      before_all rank S T e j x vacant there (upto rank e) bs (alike_led rank S T e j x vacant there (links_of S bs) led others) each fails

  longer : (l n m k : ℕ) → 0 < n → m ≡ n + 1 → T l ≡ linked_to j (S l) → ((i : ℕ) → i ≢ j → i ≢ l → T i ≡ S i) → last_or k (run S n k) ≡ l
      → ((i : ℕ) → 0 < times i (run S n k) → IsSome (S i)) → times l (run S n k) ≤ 1 → run T m k ≡ run S n k ++ j ∷ []
  longer l zero m k some one linked others last leads single = absurd (omega (arith, some))
  longer l (suc n) m k some one linked others last leads single =
      let two : suc (suc n) ≡ m = omega (arith, one) in
      subst (λ i. run T i k ≡ run S (suc n) k ++ j ∷ []) two (run-longer S T e j x vacant there l n k linked others last leads single)

  -- a bucket takes the newcomer in
  taken_in : (b : Bucket) (bs : List Bucket) → AreLed S (links_of S (b ∷ bs)) → AllByRecursion (IsBucket rank S) (b ∷ bs)
      → All (λ (c : Bucket). b.rank <ℤ c.rank) bs → total (b ∷ bs) < 2 ^ 62 → int_le b.rank (rank e) ≡ true → int_le (rank e) b.rank ≡ true
      → ((k : ℕ) → k ≢ j → T k ≡ linked_behind (Some b) j S k) → Gain (b ∷ bs) (unite b (bucket_of_one rank e j) ∷ bs)
  taken_in b bs led each later few upto_e from_e linked =
      let here = run S b.count b.first in
      let back = links_of S bs in
      let m = min (b.count + 1) (2 ^ 64 - 1) in
      let more : m ≡ b.count + 1 = omega (arith, few) in
      let led_here = led_front S here back led in
      let led_later = led_back S here back led in
      let within : 0 < times b.last here = last_in_run S b.count b.first b.last each.0.some each.0.last in
      let not_new : b.last ≢ j = was_other S T e j x vacant there b.last (led_here.leads b.last within) in
      let others : (i : ℕ) → i ≢ j → i ≢ b.last → T i ≡ S i = λ i old other. linked i old ∙ linked_off S j b i other in
      let run_here : run T m b.first ≡ here ++ j ∷ [] =
      longer b.last b.count m b.first each.0.some more (linked b.last not_new ∙ linked_at S j b b.last refl) others each.0.last
      led_here.leads (led_here.single b.last) in
      let apart : (k : ℕ) → 0 < times k back → k ≢ b.last =
      λ k some same. absurd (omega (arith, led.single b.last, times-append b.last here back, within, subst (λ i. 0 < times i back) same some)) in
      let alike : Alike S T back = λ k some. others k (was_other S T e j x vacant there k (led_later.leads k some)) (apart k some) in
      let whole : links_of T (unite b (bucket_of_one rank e j) ∷ bs) ≡ (here ++ j ∷ []) ++ back = ap (λ zs. zs ++ links_of T bs) run_here
      ∙ ap (λ zs. (here ++ j ∷ []) ++ zs) (links-same S T bs alike) in
      let kept = λ (k : ℕ) (old : k ≢ j). ap member_at (linked k old) ∙ keeps S j member_at (member_kept j) (Some b) k in
      let old = members_at S here in
      let shown : members_at T (here ++ j ∷ []) ≡ old ++ e ∷ [] =
      members-append T here (j ∷ [])
      ∙ ap (λ zs. zs ++ members_at T (j ∷ [])) (kept_members S T e j x vacant there here kept led_here.leads)
      ∙ ap (λ o. old ++ (member_at o ++ [])) there in
      let fails = rest_fails rank S e b bs led_later each.1 later from_e in
      record {
        members =
            ap (members_at T) whole
            ∙ members-append T (here ++ j ∷ []) back
            ∙ ap (λ zs. zs ++ members_at T back) shown
            ∙ ap (λ zs. (old ++ e ∷ []) ++ zs) (kept_members S T e j x vacant there back kept led_later.leads)
            ∙ append_assoc old (e ∷ []) (members_of S bs)
            ∙ sym (
            ap (placed_behind (upto rank e) e) (members-append S here back)
            ∙ placed_past (upto rank e) e old (members_of S bs) (all_upto rank e b.rank old upto_e each.0.alike)
            ∙ ap (λ zs. old ++ zs) (placed_first (upto rank e) e (members_of S bs) fails)
            );
        links = λ i. omega (arith, ap (times i) whole, times-append i (here ++ j ∷ []) back, times-append i here (j ∷ []), times-append i here back);
        each = (
          record {
            some = omega (arith, more);
            last = ap (last_or b.first) run_here ∙ last_appended b.first j here;
            alike = subst (AllByRecursion (λ (y : X). rank y ≡ b.rank)) (sym (ap (members_at T) run_here ∙ shown))
                (all_appended (λ (y : X). rank y ≡ b.rank) old e each.0.alike (grind (arith, ints)));
          },
          buckets-same rank S T bs alike each.1,
        );
        many = omega (arith, more);
      }

  -- the newcomer goes past a bucket
  goes_past : (b : Bucket) (bs ws : List Bucket) → AreLed S (links_of S (b ∷ bs)) → AllByRecursion (IsBucket rank S) (b ∷ bs)
      → int_le b.rank (rank e) ≡ true → ((k : ℕ) → k ≢ j → T k ≡ linked_behind (host goes (bucket_of_one rank e j) bs) j S k) → Gain bs ws
      → Gain (b ∷ bs) (b ∷ ws)
  goes_past b bs ws led each upto_e linked gain =
      let here = run S b.count b.first in
      let back = links_of S bs in
      let led_here = led_front S here back led in
      let apart : (k : ℕ) → 0 < times k here → (c : Bucket) → host goes (bucket_of_one rank e j) bs ≡ Some c → k ≢ c.last =
      λ k some c found same.
      absurd (omega (
        arith,
        led.single c.last,
        times-append c.last here back,
        host_within_links rank S (bucket_of_one rank e j) bs c each.1 found,
        subst (λ i. 0 < times i here) same some,
      )) in
      let alike : Alike S T here =
      λ k some.
      linked k (was_other S T e j x vacant there k (led_here.leads k some))
      ∙ unlinked S j (host goes (bucket_of_one rank e j) bs) k (apart k some) in
      past rank S T e j x vacant there (upto rank e) b bs ws alike (all_upto rank e b.rank (members_at S here) upto_e each.0.alike) each.0 gain

  later_than : (b : Bucket) (bs : List Bucket) → AllPairs Before (b ∷ bs) → All (λ (c : Bucket). b.rank <ℤ c.rank) bs
  later_than b bs order = λ k d below. order 0 (suc k) d (omega arith) (omega arith)

  pub joined : (bs : List Bucket) → AreLed S (links_of S bs) → AllByRecursion (IsBucket rank S) bs → AllPairs Before bs → total bs < 2 ^ 62
      → ((k : ℕ) → k ≢ j → T k ≡ linked_behind (host goes (bucket_of_one rank e j) bs) j S k) → Gain bs (with_newcomer goes unite (bucket_of_one rank e j) bs)
  joined [] led each order few linked = stands_first [] led each linked refl
  joined (b ∷ bs) led each order few linked =
      by_test (int_le b.rank (rank e)) (int_le (rank e) b.rank) refl refl linked
      (λ here. joined bs (led_back S (run S b.count b.first) (links_of S bs) led) each.1
      (λ i k d lt below. order (suc i) (suc k) d (omega arith) (omega arith)) (omega (arith, few)) here)
    where
      by_test : (p q : Bool) → int_le b.rank (rank e) ≡ p → int_le (rank e) b.rank ≡ q
          → ((k : ℕ) → k ≢ j → T k
          ≡ linked_behind (if p then (if q then Some b else host goes (bucket_of_one rank e j) bs) else None) j S k)
          → (((k : ℕ) → k ≢ j → T k ≡ linked_behind (host goes (bucket_of_one rank e j) bs) j S k)
          → Gain bs (with_newcomer goes unite (bucket_of_one rank e j) bs))
          → Gain (b ∷ bs) (if p then
          (if q then unite b (bucket_of_one rank e j) ∷ bs else b ∷ with_newcomer goes unite (bucket_of_one rank e j) bs) else bucket_of_one rank e j ∷ b ∷ bs)
      by_test true true upto_e from_e link rest = taken_in b bs led each (later_than b bs order) few upto_e from_e link
      by_test true false upto_e from_e link rest = goes_past b bs (with_newcomer goes unite (bucket_of_one rank e j) bs) led each upto_e link (rest link)
      by_test false q upto_e from_e link rest =
          stands_first (b ∷ bs) led each link
          (begins_at rank S (λ t. int_le t (rank e)) b.count b.first b.rank (links_of S bs) each.0.some
          (led_front S (run S b.count b.first) (links_of S bs) led).leads each.0.alike ∙ upto_e)

-- THE ORDER OF BUCKETS

pub parted_by_rank : (n : Bucket) (bs : List Bucket) → AllPairs Before bs → IsPartitionedBy (λ y. goes y n) bs
parted_by_rank n bs order = parts_in_order Before (λ y. goes y n) bs falls order
  where
    falls : (a b : Bucket) → Before a b → goes b n ≡ true → goes a n ≡ true
    falls a b under passes = grind (arith, ints)

pub host_is_last : (n : Bucket) (bs : List Bucket) → AllPairs Before bs → IsHostLast goes n bs
host_is_last n bs order i j d lt within passes = falls (get_or bs i d) (get_or bs j d) (order i j d lt within) passes
  where
    falls : (a b : Bucket) → Before a b → goes b n ≡ true → goes n a ≡ false
    falls a b under passes = grind (arith, ints)

all_with : (a n : Bucket) (bs : List Bucket) → Before a n → All (Before a) bs → All (Before a) (with_newcomer goes unite n bs)
all_with a n [] this all = All-cons (Before a) n [] this all
all_with a n (b ∷ bs) this all = by_test (goes b n) (goes n b) (all_with a n bs this (All-tail (Before a) b bs all))
  where
    here : Before a b
    here = All-head (Before a) b bs all

    by_test : (p q : Bool) → All (Before a) (with_newcomer goes unite n bs)
        → All (Before a) (if p then (if q then unite b n ∷ bs else b ∷ with_newcomer goes unite n bs) else n ∷ b ∷ bs)
    by_test true true later = All-cons (Before a) (unite b n) bs here (All-tail (Before a) b bs all)
    by_test true false later = All-cons (Before a) b (with_newcomer goes unite n bs) here later
    by_test false q later = All-cons (Before a) n (b ∷ bs) this all

order_with : (n : Bucket) (bs : List Bucket) → AllPairs Before bs → AllPairs Before (with_newcomer goes unite n bs)
order_with n [] order = pairs_cons Before n [] (All-nil (Before n)) order
order_with n (b ∷ bs) order = by_test (goes b n) (goes n b) refl refl (order_with n bs (pairs_rest Before b bs order))
  where
    above : (a b c : Bucket) → Before a b → Before b c → Before a c
    above a b c one other = grind (arith, ints)

    ahead : goes b n ≡ true → goes n b ≡ false → Before b n
    ahead one other = grind (arith, ints)

    behind : goes b n ≡ false → Before n b
    behind fails = grind (arith, ints)

    by_test : (p q : Bool) → goes b n ≡ p → goes n b ≡ q → AllPairs Before (with_newcomer goes unite n bs)
        → AllPairs Before (if p then (if q then unite b n ∷ bs else b ∷ with_newcomer goes unite n bs) else n ∷ b ∷ bs)
    by_test true true upto_n from_n later = pairs_cons Before (unite b n) bs (pairs_first Before b bs order) (pairs_rest Before b bs order)
    by_test true false upto_n from_n later =
        pairs_cons Before b (with_newcomer goes unite n bs) (all_with b n bs (ahead upto_n from_n) (pairs_first Before b bs order)) later
    by_test false q upto_n from_n later =
        pairs_cons Before n (b ∷ bs)
        (All-cons (Before n) b bs (behind upto_n) (λ k d below. above n b (get_or bs k d) (behind upto_n) (pairs_first Before b bs order k d below))) order

-- ALL THAT IS KNOWN OF BUCKETS

leads_somewhere : {X : Type 0} (o : Option (Link X)) (t : ℕ) → t ≡ one_if_there o → 0 < t → IsSome o
leads_somewhere None t is some = absurd (omega (arith, is, some))
leads_somewhere (Some l) t is some = refl

at_most_once : {X : Type 0} (o : Option (Link X)) (t : ℕ) → t ≡ one_if_there o → t ≤ 1
at_most_once None t is = omega (arith, is)
at_most_once (Some l) t is = omega (arith, is)

module _ {X : Type 0} (rank : X → ℤ) where
  pub led_of : (S : Links X) (bs : List Bucket) → AreBuckets rank S bs → AreLed S (links_of S bs)
  led_of S bs are = record {
    leads = λ i some. leads_somewhere (S i) (times i (links_of S bs)) (are.owned i) some;
    single = λ i. at_most_once (S i) (times i (links_of S bs)) (are.owned i);
  }

  -- the last link of a host leads somewhere
  pub host_leads : (S : Links X) (n : Bucket) (bs : List Bucket) (h : Bucket) → AreBuckets rank S bs → host goes n bs ≡ Some h → IsSome (S h.last)
  host_leads S n bs h are is = (led_of S bs are).leads h.last (host_within_links rank S n bs h are.each is)

  -- and still does when a newcomer has a link of its own
  pub host_there : (S T : Links X) (n : Bucket) (bs : List Bucket) (j : ℕ) → S j ≡ None → ((k : ℕ) → k ≢ j → T k ≡ S k) → AreBuckets rank S bs
      → (h : Option Bucket) → host goes n bs ≡ h → IfSome h (λ b. IsSome (T b.last))
  host_there S T n bs j vacant others are None is = tt
  host_there S T n bs j vacant others are (Some b) is =
      let some = host_leads S n bs b are is in
      let other : b.last ≢ j = λ same. none (S b.last) some (ap S same ∙ vacant) in
      subst IsSome (sym (others b.last other)) some
    where
      none : (o : Option (Link X)) → IsSome o → o ≡ None → ⊥
      none None is e = cc
      none (Some l) is e = cc

  module _ (S S1 T : Links X) (e : X) (j x : ℕ) (vacant : S j ≡ None) (here : S1 j ≡ Some (record { member = e; next = x }))
      (same : (k : ℕ) → k ≢ j → S1 k ≡ S k) where
    linked_alike : (h : Option Bucket) (k : ℕ) → k ≢ j → linked_behind h j S1 k ≡ linked_behind h j S k
    linked_alike None k other = same k other
    linked_alike (Some b) k other = ap (λ o. if k == b.last then linked_to j o else o) (same k other)

    pub gains_behind : (bs : List Bucket) → AreBuckets rank S bs → total bs < 2 ^ 62
        → ((k : ℕ) → T k ≡ linked_behind (host goes (bucket_of_one rank e j) bs) j S1 k)
        → GainMember rank (upto rank e) e S bs T (with_newcomer goes unite (bucket_of_one rank e j) bs)
    gains_behind bs are few linked =
        let led = led_of S bs are in
        let there : T j ≡ Some (record { member = e; next = x }) =
        linked j
        ∙ unlinked S1 j (host goes (bucket_of_one rank e j) bs) j (λ b found clash. vacant_last b (host_leads S (bucket_of_one rank e j) bs b are found) clash)
        ∙ here in
        let after = λ (k : ℕ) (other : k ≢ j). linked k ∙ linked_alike (host goes (bucket_of_one rank e j) bs) k other in
        gain_member rank S T e j x vacant there (upto rank e) bs (with_newcomer goes unite (bucket_of_one rank e j) bs) are
        (order_with (bucket_of_one rank e j) bs are.order)
        (λ i other. ap one_if_there (after i other) ∙ keeps S j one_if_there (there_kept j) (host goes (bucket_of_one rank e j) bs) i)
        (joined rank S T e j x vacant there bs led are.each are.order few after)
      where
        none : (o : Option (Link X)) → IsSome o → o ≡ None → ⊥
        none None is e = cc
        none (Some l) is e = cc

        vacant_last : (b : Bucket) → IsSome (S b.last) → j ≡ b.last → ⊥
        vacant_last b some clash = none (S b.last) some (ap S (sym clash) ∙ vacant)
