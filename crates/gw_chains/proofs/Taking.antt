-- Members in buckets: what is left where one has left from any place.
use Rattle.std.proofs.Common.{◌≡◌, ◌≢◌, ◌∙◌, ℕ, ℤ, zero, suc, ◌+◌, ◌-◌, ◌<◌, ◌≤◌, List, [], ◌∷◌, ◌++◌, length, get_or, Option, Some, None, Bool, true}
use Rattle.std.proofs.Common.{false, if◌then◌else◌, refl, sym, ap, subst, arith, append_assoc, length-append, inl, inr}
use Rattle.std.proofs.lemmas.Bool.{cases_eq}
use Rattle.std.proofs.lemmas.Grind.{common_steps}
use Rattle.std.specs.Prelude.{All, AllPairs, nat_le, nat_lt, ◌==◌, ◌&&◌, remove, slice_get}
use Rattle.std.specs.List.{AllByRecursion}
use Rattle.std.proofs.lemmas.List.Elements.{All-head, All-tail, All-cons}
use Rattle.gw_chains.specs.Buckets.{once, times, last_or, Links, run, links_of, member_at, members_at, members_of, total, one_if_there, linked_to}
use Rattle.gw_chains.specs.Buckets.{Before, IsBucket, AreBuckets}
use Rattle.gw_chains.specs.Spots.{count_at, place_at, link_at, AreThere, IsSpot, led_past, without_one, without_link}
use Rattle.gw_chains.specs.declared.bucket.Bucket.{Bucket}
use Rattle.gw_chains.specs.declared.bucket.Link.{Link}
use Rattle.gw_chains.specs.declared.spot.Spot.{Spot}
use Rattle.gw_chains.proofs.Places.{pairs_cons, pairs_first, pairs_rest}
use Rattle.gw_chains.proofs.Linking.{once-same, once-other, times-append, some_of, Alike, run-same, links-same, members-same, members-append}
use Rattle.gw_chains.proofs.Linking.{bucket-same, buckets-same, member_kept, there_kept, AreLed, led_back, led_front}
use Rattle.gw_chains.proofs.Joining.{led_of}
use Rattle.gw_chains.proofs.Spotting.{filled, place_first, link-first, link_within}
use Rattle.gw_chains.proofs.Unlinking.{middle, all_without, run_length, led_upto, parted, Passed, left_run, left_before, left_last}

-- a list of two parts without the one between them
pub remove-middle : {T : Type 0} (xs : List T) (x : T) (ys : List T) → remove (xs ++ x ∷ ys) (length xs) ≡ xs ++ ys
remove-middle [] x ys = refl
remove-middle (z ∷ zs) x ys = ap (λ ws. z ∷ ws) (remove-middle zs x ys)

members_length : {X : Type 0} (S : Links X) (ks : List ℕ) → AreThere S ks → length (members_at S ks) ≡ length ks
members_length S [] there = refl
members_length S (k ∷ ks) there =
    let s = some_of (S k) (there k (omega (arith, once-same k k refl))) in
    let shown : members_at S (k ∷ ks) ≡ s.0.member ∷ members_at S ks = ap (λ o. member_at o ++ members_at S ks) s.1 in
    omega (arith, ap length shown, members_length S ks (λ i some. there i (omega (arith, some))))

-- WHO STANDS AT A SPOT

module _ {X : Type 0} (S : Links X) (p : ℕ) (l : Link X) where
  -- the links before the one that stands there, and those behind
  pub record Stands (bs : List Bucket) (n : ℕ) : Type 0 where
    pub front : List ℕ
    pub back : List ℕ
    pub links : links_of S bs ≡ front ++ link_at S bs n p ∷ back
    pub place : length front ≡ place_at bs n p

  pub stands : (bs : List Bucket) (n : ℕ) → AreLed S (links_of S bs) → p < count_at bs n → S (link_at S bs n p) ≡ Some l → Stands bs n
  stands [] n led inside is = absurd (omega (arith, inside))
  stands (b ∷ bs) zero led inside is =
      let here = run S b.count b.first in
      let led_here = led_front S here (links_of S bs) led in
      let back = run S (b.count - suc p) l.next in
      record {
        front = run S p b.first;
        back = back ++ links_of S bs;
        links =
            ap (λ zs. zs ++ links_of S bs) (parted S S b 0 l p inside led_here is)
            ∙ append_assoc (run S p b.first) (last_or b.first (run S (suc p) b.first) ∷ back) (links_of S bs);
        place = run_length S p b.first (led_upto S p b.count b.first (omega (arith, inside)) led_here).leads;
      }
  stands (b ∷ bs) (suc n) led inside is =
      let here = run S b.count b.first in
      let led_here = led_front S here (links_of S bs) led in
      let later = stands bs n (led_back S here (links_of S bs) led) inside is in
      record {
        front = here ++ later.front;
        back = later.back;
        links = ap (λ zs. here ++ zs) later.links ∙ sym (append_assoc here later.front (link_at S bs n p ∷ later.back));
        place = omega (arith, later.place, length-append here later.front, run_length S b.count b.first led_here.leads);
      }

pub stands_there : {X : Type 0} (rank : X → ℤ) (S : Links X) (bs : List Bucket) (s : Spot) (l : Link X) → AreBuckets rank S bs → s.passed
    < count_at bs s.bucket → S (link_at S bs s.bucket s.passed) ≡ Some l → slice_get (members_of S bs) (place_at bs s.bucket s.passed) ≡ Some l.member
stands_there rank S bs s l are inside is =
    let led = led_of rank S bs are in
    let here = link_at S bs s.bucket s.passed in
    let found = stands S s.passed l bs s.bucket led inside is in
    let shown : members_of S bs ≡ members_at S found.front ++ l.member ∷ members_at S found.back =
    ap (members_at S) found.links ∙ members-append S found.front (here ∷ found.back)
    ∙ ap (λ o. members_at S found.front ++ (member_at o ++ members_at S found.back)) is in
    let place : length (members_at S found.front) ≡ place_at bs s.bucket s.passed =
    members_length S found.front
    (λ i some. led.leads i (omega (arith, some, ap (times i) found.links, times-append i found.front (here ∷ found.back)))) ∙ found.place in
    ap (λ n. slice_get (members_of S bs) n) (sym place)
    ∙ ap (λ es. slice_get es (length (members_at S found.front))) shown
    ∙ middle (members_at S found.front) l.member (members_at S found.back)

-- the first of all stands at the first link of the first bucket
pub stands_first : {X : Type 0} (rank : X → ℤ) (S : Links X) (bs : List Bucket) (b : Bucket) (l : Link X) → AreBuckets rank S bs → 0
    < length bs → b ≡ get_or bs 0 b → S b.first ≡ Some l → slice_get (members_of S bs) 0 ≡ Some l.member
stands_first rank S bs b l are some is there =
    let s : Spot = record { bucket = 0; passed = 0; before = 0 } in
    ap (λ n. slice_get (members_of S bs) n) (sym (place_first bs 0))
    ∙ stands_there rank S bs s l are (filled rank S bs are.each 0 some) (sym (ap S (link-first S bs 0 0 b some is refl)) ∙ there)

-- WHAT IS LEFT

module _ {X : Type 0} (rank : X → ℤ) (S U T : Links X) (s : Spot) (j : ℕ) (l : Link X)
    (is : S j ≡ Some l) (gone : U j ≡ None) (others : (k : ℕ) → k ≢ j → U k ≡ S k) (led_on : (k : ℕ) → T k ≡ led_past U s l.next k) where
  -- a link that is neither the one that left nor the one before it
  apart : (k : ℕ) → k ≢ j → (0 < s.passed → k ≢ s.before) → T k ≡ S k
  apart k other past = led_on k ∙ by_test (nat_lt 0 s.passed) (k == s.before) refl refl ∙ others k other
    where
      by_test : (t u : Bool) → nat_lt 0 s.passed ≡ t → (k == s.before) ≡ u → (if t && u then linked_to l.next (U k) else U k) ≡ U k
      by_test true true some same = absurd (past (grind (arith, common_steps)) (grind (arith, common_steps)))
      by_test true false some same = refl
      by_test false u some same = refl

  leads_on : 0 < s.passed → s.before ≢ j → T s.before ≡ linked_to l.next (S s.before)
  leads_on some other = led_on s.before ∙ by_test (nat_lt 0 s.passed) (s.before == s.before) refl refl ∙ ap (linked_to l.next) (others s.before other)
    where
      by_test : (t u : Bool) → nat_lt 0 s.passed ≡ t → (s.before == s.before) ≡ u
          → (if t && u then linked_to l.next (U s.before) else U s.before) ≡ linked_to l.next (U s.before)
      by_test true true positive same = refl
      by_test true false positive same = absurd (grind (arith, common_steps))
      by_test false u positive same = absurd (grind (arith, common_steps))

  unlinked : T j ≡ None
  unlinked = led_on j ∙ ap (λ o. if nat_lt 0 s.passed && (j == s.before) then linked_to l.next o else o) gone ∙ by_test (nat_lt 0 s.passed && (j == s.before))
    where
      by_test : (t : Bool) → (if t then linked_to {X = X} l.next None else None) ≡ None
      by_test true = refl
      by_test false = refl

  -- what another link keeps
  keeps : {Y : Type 0} (f : Option (Link X) → Y) → ((o : Option (Link X)) → f (linked_to l.next o) ≡ f o) → (k : ℕ) → k ≢ j → f (T k) ≡ f (S k)
  keeps f same k other = ap f (led_on k) ∙ by_test (nat_lt 0 s.passed && (k == s.before)) ∙ ap f (others k other)
    where
      by_test : (t : Bool) → f (if t then linked_to l.next (U k) else U k) ≡ f (U k)
      by_test true = same (U k)
      by_test false = refl

  kept : (k : ℕ) → k ≢ j → member_at (T k) ≡ member_at (S k)
  kept = keeps member_at (member_kept l.next)

  still_there : (k : ℕ) → k ≢ j → one_if_there (T k) ≡ one_if_there (S k)
  still_there = keeps one_if_there (there_kept l.next)

  -- buckets, and what they are without the one that stands at the spot
  record Taken (bs ws : List Bucket) (n : ℕ) : Type 0 where
    pub front : List ℕ
    pub back : List ℕ
    pub was : links_of S bs ≡ front ++ j ∷ back
    pub now : links_of T ws ≡ front ++ back
    pub place : length front ≡ place_at bs n s.passed
    pub stays : place_at ws n s.passed ≡ place_at bs n s.passed
    pub each : AllByRecursion (IsBucket rank T) ws
    pub many : total ws + 1 ≡ total bs
    pub within : s.passed ≤ count_at ws n
    pub before : 0 < s.passed → s.before ≡ link_at T ws n (s.passed - 1)

  -- at a spot of the first bucket
  module _ (b : Bucket) (bs : List Bucket) (led : AreLed S (links_of S (b ∷ bs))) (each : AllByRecursion (IsBucket rank S) (b ∷ bs))
      (inside : s.passed < b.count)
      (link : j ≡ last_or b.first (run S (suc s.passed) b.first))
      (before : 0 < s.passed → s.before ≡ last_or b.first (run S (suc (s.passed - 1)) b.first)) where
    abbrev p : ℕ
    p = s.passed

    abbrev front : List ℕ
    front = run S p b.first

    abbrev back : List ℕ
    back = run S (b.count - suc p) l.next

    led_here : AreLed S (run S b.count b.first)
    led_here = led_front S (run S b.count b.first) (links_of S bs) led

    before_is : 0 < p → s.before ≡ last_or b.first front
    before_is some =
        let one : suc (p - 1) ≡ p = omega (arith, some) in
        before some ∙ ap (λ n. last_or b.first (run S n b.first)) one

    split : run S b.count b.first ≡ front ++ j ∷ back
    split = parted S T b s.before l p inside led_here (ap S (sym link) ∙ is) ∙ ap (λ k. front ++ k ∷ back) (sym link)

    whole : links_of S (b ∷ bs) ≡ front ++ j ∷ (back ++ links_of S bs)
    whole = ap (λ zs. zs ++ links_of S bs) split ∙ append_assoc front (j ∷ back) (links_of S bs)

    counted : (i : ℕ) → times i (links_of S (b ∷ bs)) ≡ times i front + (once i j + (times i back + times i (links_of S bs)))
    counted i = omega (arith, ap (times i) whole, times-append i front (j ∷ (back ++ links_of S bs)), times-append i back (links_of S bs))

    before_in : 0 < p → 0 < times s.before front
    before_in some = last_in_front front (before_is some) (positive some)
      where
        positive : 0 < p → 0 < length front
        positive more = omega (arith, more, run_length S p b.first (led_upto S p b.count b.first (omega (arith, inside)) led_here).leads)

        last_in : (x : ℕ) (xs : List ℕ) → 0 < times (last_or x xs) (x ∷ xs)
        last_in x [] = omega (arith, once-same x x refl)
        last_in x (y ∷ ys) = omega (arith, last_in y ys)

        last_in_front : (ks : List ℕ) → s.before ≡ last_or b.first ks → 0 < length ks → 0 < times s.before ks
        last_in_front [] same more = absurd (omega (arith, more))
        last_in_front (k ∷ ks) same more = subst (λ i. 0 < times i (k ∷ ks)) (sym same) (last_in k ks)

    apart_behind : (ks : List ℕ) → ((i : ℕ) → times i ks ≤ times i back + times i (links_of S bs)) → Alike S T ks
    apart_behind ks upto k some = apart k
        (λ same. absurd (omega (arith, some, upto k, led.single k, counted k, once-same k j (sym same))))
        (λ positive same. absurd (omega (arith, some, upto k, led.single k, counted k, subst (λ i. 0 < times i front) (sym same) (before_in positive))))

    alike_back : Alike S T back
    alike_back = apart_behind back (λ i. omega arith)

    alike_rest : Alike S T (links_of S bs)
    alike_rest = apart_behind (links_of S bs) (λ i. omega arith)

    not_taken : 0 < p → s.before ≢ j
    not_taken some same = absurd (omega (arith, led.single s.before, counted s.before, before_in some, once-same s.before j (sym same)))

    passed : Passed S T b s.before l p
    passed = record {
      is = before_is;
      on = λ some. leads_on some (not_taken some);
      others = λ k some other. apart k (λ same. absurd (omega (arith, some, led.single k, counted k, once-same k j (sym same)))) (λ positive. other);
      led = led_upto S p b.count b.first (omega (arith, inside)) led_here;
    }

    placed : length front ≡ p
    placed = run_length S p b.first passed.led.leads

    -- the bucket is gone
    emptied : nat_le b.count 1 ≡ true → Taken (b ∷ bs) bs 0
    emptied few =
        let one : b.count ≤ 1 = grind (arith, common_steps) in
        let none : p ≡ 0 = omega (arith, one, inside) in
        let no_back : b.count - suc p ≡ 0 = omega (arith, one) in
        record {
          front = [];
          back = links_of S bs;
          was = whole ∙ ap (λ n. run S n b.first ++ j ∷ (back ++ links_of S bs)) none ∙ ap (λ n. j ∷ (run S n l.next ++ links_of S bs)) no_back;
          now = links-same S T bs alike_rest;
          place = sym none;
          stays = place_first bs p;
          each = buckets-same rank S T bs alike_rest each.1;
          many = omega (arith, one, inside);
          within = omega (arith, none);
          before = λ some. absurd (omega (arith, some, none));
        }

    left : run T (b.count - 1) (if p == 0 then l.next else b.first) ≡ front ++ back
    left = left_run S T b s.before l p inside passed alike_back

    members_left : members_at T (front ++ back) ≡ members_at S front ++ members_at S back
    members_left =
        members-same S T (front ++ back)
        (λ k some. kept k (λ same. absurd (omega (arith, some, times-append k front back, led.single k, counted k, once-same k j (sym same)))))
        ∙ members-append S front back

    members_before : members_at S (run S b.count b.first) ≡ members_at S front ++ l.member ∷ members_at S back
    members_before = ap (members_at S) split ∙ members-append S front (j ∷ back) ∙ ap (λ o. members_at S front ++ (member_at o ++ members_at S back)) is

    -- or it has one fewer
    shortened : nat_le b.count 1 ≡ false → Taken (b ∷ bs) (without_one s l.next b ∷ bs) 0
    shortened many =
        let several : 1 < b.count = grind (arith, common_steps) in
        let ends = ap (last_or b.first) (sym (parted S T b s.before l p inside led_here (ap S (sym link) ∙ is))) ∙ each.0.last in
        record {
          front = front;
          back = back ++ links_of S bs;
          was = whole;
          now = ap (λ zs. zs ++ links_of T bs) left ∙ ap (λ zs. (front ++ back) ++ zs) (links-same S T bs alike_rest) ∙ append_assoc front back (links_of S bs);
          place = placed;
          stays = refl;
          each = (
            record {
              some = omega (arith, several);
              last = ap (last_or (if p == 0 then l.next else b.first)) left ∙ left_last S T b s.before l p inside several passed ends;
              alike = subst (AllByRecursion (λ (y : X). rank y ≡ b.rank)) (sym (ap (members_at T) left ∙ members_left))
                  (all_without (λ (y : X). rank y ≡ b.rank) (members_at S front) l.member (members_at S back)
                  (subst (AllByRecursion (λ (y : X). rank y ≡ b.rank)) members_before each.0.alike));
            },
            buckets-same rank S T bs alike_rest each.1,
          );
          many = omega (arith, several);
          within = omega (arith, inside);
          before = λ some. left_before S T b s.before l p some passed;
        }

    taken_here : Taken (b ∷ bs) (without_link s l.next (b ∷ bs) 0) 0
    taken_here = by_test (nat_le b.count 1) refl
      where
        by_test : (t : Bool) → nat_le b.count 1 ≡ t → Taken (b ∷ bs) (if t then bs else without_one s l.next b ∷ bs) 0
        by_test true few = emptied few
        by_test false many = shortened many

  -- at a spot of a later bucket
  taken_later : (b : Bucket) (bs ws : List Bucket) (n : ℕ) → AreLed S (links_of S (b ∷ bs)) → AllByRecursion (IsBucket rank S) (b ∷ bs)
      → (0 < s.passed → 0 < times s.before (links_of S bs)) → Taken bs ws n → Taken (b ∷ bs) (b ∷ ws) (suc n)
  taken_later b bs ws n led each before_in taken =
      let here = run S b.count b.first in
      let led_here = led_front S here (links_of S bs) led in
      let alike : Alike S T here =
      λ k some. apart k
      (λ same. absurd (omega (
        arith,
        some,
        led.single k,
        times-append k here (links_of S bs),
        ap (times k) taken.was,
        times-append k taken.front (j ∷ taken.back),
        once-same k j (sym same),
      )))
      (λ positive same. absurd
      (omega (arith, some, led.single k, times-append k here (links_of S bs), subst (λ i. 0 < times i (links_of S bs)) (sym same) (before_in positive)))) in
      record {
        front = here ++ taken.front;
        back = taken.back;
        was = ap (λ zs. here ++ zs) taken.was ∙ sym (append_assoc here taken.front (j ∷ taken.back));
        now = ap (λ zs. zs ++ links_of T ws) (run-same S T b.count b.first alike) ∙ ap (λ zs. here ++ zs) taken.now
            ∙ sym (append_assoc here taken.front taken.back);
        place = omega (arith, taken.place, length-append here taken.front, run_length S b.count b.first led_here.leads);
        stays = ap (λ m. b.count + m) taken.stays;
        each = (bucket-same rank S T b alike each.0, taken.each);
        many = omega (arith, taken.many);
        within = taken.within;
        before = taken.before;
      }

  taken : (bs : List Bucket) (n : ℕ) → AreLed S (links_of S bs) → AllByRecursion (IsBucket rank S) bs → s.passed < count_at bs n → j
      ≡ link_at S bs n s.passed → (0 < s.passed → s.before ≡ link_at S bs n (s.passed - 1)) → Taken bs (without_link s l.next bs n) n
  taken [] n led each inside link before = absurd (omega (arith, inside))
  taken (b ∷ bs) zero led each inside link before = taken_here b bs led each inside link before
  taken (b ∷ bs) (suc n) led each inside link before =
      taken_later b bs (without_link s l.next bs n) n led each
      (λ some. subst (λ i. 0 < times i (links_of S bs)) (sym (before some)) (link_within rank S bs n (s.passed - 1) each.1 (omega (arith, inside))))
      (taken bs n (led_back S (run S b.count b.first) (links_of S bs) led) each.1 inside link before)

  -- the buckets that are left stand by their ranks
  all_left : (a : Bucket) (bs : List Bucket) (n : ℕ) → All (Before a) bs → All (Before a) (without_link s l.next bs n)
  all_left a [] n all = all
  all_left a (b ∷ bs) zero all = by_test (nat_le b.count 1)
    where
      by_test : (t : Bool) → All (Before a) (if t then bs else without_one s l.next b ∷ bs)
      by_test true = All-tail (Before a) b bs all
      by_test false = All-cons (Before a) (without_one s l.next b) bs (All-head (Before a) b bs all) (All-tail (Before a) b bs all)
  all_left a (b ∷ bs) (suc n) all =
      All-cons (Before a) b (without_link s l.next bs n) (All-head (Before a) b bs all) (all_left a bs n (All-tail (Before a) b bs all))

  order_left : (bs : List Bucket) (n : ℕ) → AllPairs Before bs → AllPairs Before (without_link s l.next bs n)
  order_left [] n order = order
  order_left (b ∷ bs) zero order = by_test (nat_le b.count 1)
    where
      by_test : (t : Bool) → AllPairs Before (if t then bs else without_one s l.next b ∷ bs)
      by_test true = pairs_rest Before b bs order
      by_test false = pairs_cons Before (without_one s l.next b) bs (pairs_first Before b bs order) (pairs_rest Before b bs order)
  order_left (b ∷ bs) (suc n) order =
      pairs_cons Before b (without_link s l.next bs n) (all_left b bs n (pairs_first Before b bs order)) (order_left bs n (pairs_rest Before b bs order))

  -- what becomes of buckets that the one at a spot leaves
  pub record Unlinked (bs ws : List Bucket) : Type 0 where
    pub members : members_of T ws ≡ remove (members_of S bs) (place_at bs s.bucket s.passed)
    pub buckets : AreBuckets rank T ws
    pub many : total ws + 1 ≡ total bs
    pub spot : IsSpot T ws s
    pub place : place_at ws s.bucket s.passed ≡ place_at bs s.bucket s.passed

  pub unlinked_at : (bs : List Bucket) → AreBuckets rank S bs → IsSpot S bs s → s.passed < count_at bs s.bucket → j
      ≡ link_at S bs s.bucket s.passed → Unlinked bs (without_link s l.next bs s.bucket)
  unlinked_at bs are spot inside link =
      let led = led_of rank S bs are in
      let done = taken bs s.bucket led are.each inside link spot.before in
      let counted : (i : ℕ) → times i (links_of S bs) ≡ times i done.front + (once i j + times i done.back) =
      λ i. omega (arith, ap (times i) done.was, times-append i done.front (j ∷ done.back)) in
      let shown : members_of S bs ≡ members_at S done.front ++ l.member ∷ members_at S done.back =
      ap (members_at S) done.was ∙ members-append S done.front (j ∷ done.back)
      ∙ ap (λ o. members_at S done.front ++ (member_at o ++ members_at S done.back)) is in
      let place : length (members_at S done.front) ≡ place_at bs s.bucket s.passed =
      members_length S done.front (λ i some. led.leads i (omega (arith, some, counted i))) ∙ done.place in
      let left : members_of T (without_link s l.next bs s.bucket) ≡ members_at S done.front ++ members_at S done.back =
      ap (members_at T) done.now
      ∙ members-same S T (done.front ++ done.back)
      (λ k some. kept k (λ same. absurd (omega (arith, some, times-append k done.front done.back, led.single k, counted k, once-same k j (sym same)))))
      ∙ members-append S done.front done.back in
      record {
        members =
            left
            ∙ sym (
            ap (remove (members_of S bs)) (sym place)
            ∙ ap (λ es. remove es (length (members_at S done.front))) shown
            ∙ remove-middle (members_at S done.front) l.member (members_at S done.back)
            );
        buckets = record {
          order = order_left bs s.bucket are.order;
          each = done.each;
          owned = λ i. elim (cases_eq i j) [
            | inl same ↦
                let empty : one_if_there (T i) ≡ 0 = ap one_if_there (ap T same ∙ unlinked) in
                omega (arith, ap (times i) done.now, times-append i done.front done.back, led.single i, counted i, once-same i j (sym same), empty)
            | inr other ↦ omega (
              arith,
              ap (times i) done.now,
              times-append i done.front done.back,
              are.owned i,
              counted i,
              still_there i other,
              once-other i j (λ clash. other (sym clash)),
            )
          ];
        };
        many = done.many;
        spot = record { within = done.within; before = done.before };
        place = done.stays;
      }
