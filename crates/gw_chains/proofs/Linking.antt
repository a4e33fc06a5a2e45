-- Members in buckets: what a newcomer makes of the links and their buckets, and what the one does that leaves.
use Rattle.std.proofs.Common.{◌≡◌, ◌≢◌, ◌∙◌, ℕ, ℤ, zero, suc, ◌+◌, ◌-◌, ◌^◌, ◌<◌, ◌≤◌, min, List, [], ◌∷◌, ◌++◌, Option, Some, None, IsSome, Bool}
use Rattle.std.proofs.Common.{true, false, if◌then◌else◌, refl, sym, ap, subst, arith, append_assoc}
use Rattle.std.proofs.lemmas.Grind.{common_steps}
use Rattle.std.proofs.lemmas.Int.{ints}
use Rattle.std.specs.Prelude.{All, int_le, ◌<ℤ◌}
use Rattle.std.specs.List.{AllByRecursion}
use Rattle.gw_members.specs.Chain.{placed_behind}
use Rattle.gw_chains.specs.Chunks.{begins_in}
use Rattle.gw_chains.specs.Newcomers.{host}
use Rattle.gw_chains.specs.Buckets.{once, times, last_or, Links, links_behind, run, links_of, member_at, members_at, members_of, linked_to}
use Rattle.gw_chains.specs.Buckets.{one_if_there, upto, bucket_of_one, IsBucket}
use Rattle.gw_chains.specs.declared.bucket.Bucket.{Bucket}
use Rattle.gw_chains.specs.declared.bucket.Link.{Link}

-- COUNTING LINKS

pub once-same : (k x : ℕ) → x ≡ k → once k x ≡ 1
once-same k x same = grind (arith, common_steps)

pub once-other : (k x : ℕ) → x ≢ k → once k x ≡ 0
once-other k x other = grind (arith, common_steps)

pub times-append : (k : ℕ) (xs ys : List ℕ) → times k (xs ++ ys) ≡ times k xs + times k ys
times-append k [] ys = omega arith
times-append k (x ∷ xs) ys = omega (arith, times-append k xs ys)

pub times-first : (x : ℕ) (xs : List ℕ) → 0 < times x (x ∷ xs)
times-first x xs = omega (arith, once-same x x refl)

last_in : (x : ℕ) (xs : List ℕ) → 0 < times (last_or x xs) (x ∷ xs)
last_in x [] = times-first x []
last_in x (y ∷ ys) = omega (arith, last_in y ys)

pub last_in_run : {X : Type 0} (S : Links X) (n k l : ℕ) → 0 < n → last_or k (run S n k) ≡ l → 0 < times l (run S n k)
last_in_run S zero k l some is = absurd (omega (arith, some))
last_in_run S (suc n) k l some is = subst (λ m. 0 < times m (run S (suc n) k)) is (last_in k (links_behind (S k) (run S n)))

-- WHERE TWO SLABS OF LINKS ARE ALIKE

module _ {X : Type 0} where
  -- what is at a link
  pub some_of : (o : Option (Link X)) → IsSome o → (l : Link X) × (o ≡ Some l)
  some_of None is = absurd cc
  some_of (Some l) is = (l, refl)

  pub run_some : (S : Links X) (n k : ℕ) (l : Link X) → S k ≡ Some l → run S (suc n) k ≡ k ∷ run S n l.next
  run_some S n k l is = ap (λ o. k ∷ links_behind o (run S n)) is

  -- alike at these links
  abbrev pub Alike : Links X → Links X → List ℕ → Type 0
  Alike S T ks = (k : ℕ) → 0 < times k ks → T k ≡ S k

  pub alike_rest : (S T : Links X) (k : ℕ) (ks : List ℕ) → Alike S T (k ∷ ks) → Alike S T ks
  alike_rest S T k ks alike = λ i some. alike i (omega (arith, some))

  pub run-same : (S T : Links X) (n k : ℕ) → Alike S T (run S n k) → run T n k ≡ run S n k
  run-same S T zero k alike = refl
  run-same S T (suc n) k alike =
      ap (λ o. k ∷ links_behind o (run T n)) (alike k (times-first k (links_behind (S k) (run S n))))
      ∙ ap (λ zs. k ∷ zs) (behind (S k) (alike_rest S T k (links_behind (S k) (run S n)) alike) (λ m here. run-same S T n m here))
    where
      behind : (o : Option (Link X)) → Alike S T (links_behind o (run S n)) → ((m : ℕ) → Alike S T (run S n m) → run T n m ≡ run S n m)
          → links_behind o (run T n) ≡ links_behind o (run S n)
      behind None here later = refl
      behind (Some l) here later = later l.next here

  pub links-same : (S T : Links X) (bs : List Bucket) → Alike S T (links_of S bs) → links_of T bs ≡ links_of S bs
  links-same S T [] alike = refl
  links-same S T (b ∷ bs) alike =
      let here = run S b.count b.first in
      ap (λ zs. zs ++ links_of T bs) (run-same S T b.count b.first (λ k some. alike k (omega (arith, some, times-append k here (links_of S bs)))))
      ∙ ap (λ zs. here ++ zs) (links-same S T bs (λ k some. alike k (omega (arith, some, times-append k here (links_of S bs)))))

  -- the same members at these links
  abbrev SameMembers : Links X → Links X → List ℕ → Type 0
  SameMembers S T ks = (k : ℕ) → 0 < times k ks → member_at (T k) ≡ member_at (S k)

  pub members-same : (S T : Links X) (ks : List ℕ) → SameMembers S T ks → members_at T ks ≡ members_at S ks
  members-same S T [] same = refl
  members-same S T (k ∷ ks) same =
      ap (λ zs. zs ++ members_at T ks) (same k (times-first k ks))
      ∙ ap (λ zs. member_at (S k) ++ zs) (members-same S T ks (λ i some. same i (omega (arith, some))))

  pub members-append : (S : Links X) (xs ys : List ℕ) → members_at S (xs ++ ys) ≡ members_at S xs ++ members_at S ys
  members-append S [] ys = refl
  members-append S (x ∷ xs) ys = ap (λ zs. member_at (S x) ++ zs) (members-append S xs ys)
      ∙ sym (append_assoc (member_at (S x)) (members_at S xs) (members_at S ys))

module _ {X : Type 0} (rank : X → ℤ) where
  pub bucket-same : (S T : Links X) (b : Bucket) → Alike S T (run S b.count b.first) → IsBucket rank S b → IsBucket rank T b
  bucket-same S T b alike is =
      let same = run-same S T b.count b.first alike in
      record {
        some = is.some;
        last = ap (last_or b.first) same ∙ is.last;
        alike = subst (AllByRecursion (λ (y : X). rank y ≡ b.rank))
            (sym (ap (members_at T) same ∙ members-same S T (run S b.count b.first) (λ k some. ap member_at (alike k some)))) is.alike;
      }

  pub buckets-same : (S T : Links X) (bs : List Bucket) → Alike S T (links_of S bs) → AllByRecursion (IsBucket rank S) bs → AllByRecursion (IsBucket rank T) bs
  buckets-same S T [] alike each = tt
  buckets-same S T (b ∷ bs) alike each =
      let here = run S b.count b.first in (
        bucket-same S T b (λ k some. alike k (omega (arith, some, times-append k here (links_of S bs)))) each.0,
        buckets-same S T bs (λ k some. alike k (omega (arith, some, times-append k here (links_of S bs)))) each.1,
      )

-- A NEWCOMER'S LINK

-- a bucket goes ahead of another, or has the same rank
abbrev pub goes : Bucket → Bucket → Bool
goes a b = int_le a.rank b.rank

-- a bucket that took another in
abbrev pub unite : Bucket → Bucket → Bucket
unite a b = record a { last = b.last; count = min (a.count + b.count) (2 ^ 64 - 1) }

module _ {X : Type 0} (S T : Links X) (e : X) (j x : ℕ) (vacant : S j ≡ None) (there : T j ≡ Some (record { member = e; next = x })) where
  -- a link that was there isn't the newcomer's
  pub was_other : (k : ℕ) → IsSome (S k) → k ≢ j
  was_other k some same = none (S k) some (ap S same ∙ vacant)
    where
      none : (o : Option (Link X)) → IsSome o → o ≡ None → ⊥
      none None is e = cc
      none (Some l) is e = cc

  pub run_alone : run T 1 j ≡ j ∷ []
  run_alone = run_some T 0 j (record { member = e; next = x }) there

  pub alone_is_bucket : (rank : X → ℤ) → IsBucket rank T (bucket_of_one rank e j)
  alone_is_bucket rank = record {
    some = omega arith;
    last = ap (last_or j) run_alone;
    alike = subst (AllByRecursion (λ (y : X). rank y ≡ rank e)) (sym (ap (members_at T) run_alone ∙ ap (λ o. member_at o ++ []) there)) (refl, tt);
  }

  -- the last of a run is linked to the newcomer
  pub run-longer : (l n k : ℕ) → T l ≡ linked_to j (S l) → ((i : ℕ) → i ≢ j → i ≢ l → T i ≡ S i) → last_or k (run S (suc n) k) ≡ l
      → ((i : ℕ) → 0 < times i (run S (suc n) k) → IsSome (S i)) → times l (run S (suc n) k) ≤ 1 → run T (suc (suc n)) k ≡ run S (suc n) k ++ j ∷ []
  run-longer l zero k linked others last leads single =
      let s = some_of (S k) (leads k (times-first k (links_behind (S k) (run S 0)))) in
      let one : run S 1 k ≡ k ∷ [] = run_some S 0 k s.0 s.1 in
      let is : k ≡ l = sym (ap (last_or k) one) ∙ last in
      let next : T k ≡ Some (record { member = s.0.member; next = j }) = ap T is ∙ linked ∙ ap (linked_to j) (ap S (sym is) ∙ s.1) in
      run_some T 1 k (record { member = s.0.member; next = j }) next ∙ ap (λ zs. k ∷ zs) run_alone ∙ ap (λ zs. zs ++ j ∷ []) (sym one)
  run-longer l (suc n) k linked others last leads single =
      let s = some_of (S k) (leads k (times-first k (links_behind (S k) (run S (suc n))))) in
      let y = s.0.next in
      let tail = run S (suc n) y in
      let step : run S (suc (suc n)) k ≡ k ∷ tail = run_some S (suc n) k s.0 s.1 in
      let ends : last_or y tail ≡ l = sym (ap (last_or k) step) ∙ last in
      let within : 0 < times l tail = last_in_run S (suc n) y l (omega arith) ends in
      let counted : times l (run S (suc (suc n)) k) ≡ once l k + times l tail = ap (times l) step in
      let inner : k ≢ l = λ same. absurd (omega (arith, once-same l k same, single, counted, within)) in
      let same : T k ≡ Some s.0 = others k (was_other k (leads k (times-first k (links_behind (S k) (run S (suc n)))))) inner ∙ s.1 in
      let later = run-longer l n y linked others ends (λ i some. leads i (omega (arith, some, ap (times i) step))) (omega (arith, single, counted)) in
      run_some T (suc (suc n)) k s.0 same ∙ ap (λ zs. k ∷ zs) later ∙ ap (λ zs. zs ++ j ∷ []) (sym step)

  -- every link but the newcomer's has the member that it had
  abbrev Kept : Type 0
  Kept = (k : ℕ) → k ≢ j → member_at (T k) ≡ member_at (S k)

  pub kept_members : (ks : List ℕ) → Kept → ((i : ℕ) → 0 < times i ks → IsSome (S i)) → members_at T ks ≡ members_at S ks
  kept_members ks kept leads = members-same S T ks (λ k some. kept k (was_other k (leads k some)))

-- WHAT A LINK KEEPS THAT IS LINKED TO ANOTHER

module _ {X : Type 0} (next : ℕ) where
  pub member_kept : (o : Option (Link X)) → member_at (linked_to next o) ≡ member_at o
  member_kept None = refl
  member_kept (Some l) = refl

  pub there_kept : (o : Option (Link X)) → one_if_there (linked_to next o) ≡ one_if_there o
  there_kept None = refl
  there_kept (Some l) = refl

-- THE MEMBERS OF BUCKETS

-- a newcomer's place among members
module _ {X : Type 0} (p : X → Bool) (e : X) where
  pub placed_past : (front back : List X) → AllByRecursion (λ y. p y ≡ true) front → placed_behind p e (front ++ back) ≡ front ++ placed_behind p e back
  placed_past [] back all = refl
  placed_past (y ∷ ys) back all = rw (all.0) (ap (λ zs. y ∷ zs) (placed_past ys back all.1))

  pub placed_first : (back : List X) → begins_in p back ≡ false → placed_behind p e back ≡ e ∷ back
  placed_first [] fails = refl
  placed_first (z ∷ zs) fails = rw fails refl

-- all members of a bucket are ahead of one of the same rank or a higher one
pub all_upto : {X : Type 0} (rank : X → ℤ) (e : X) (t : ℤ) (ys : List X) → int_le t (rank e) ≡ true
    → AllByRecursion (λ (y : X). rank y ≡ t) ys → AllByRecursion (λ y. upto rank e y ≡ true) ys
all_upto rank e t [] passes all = tt
all_upto rank e t (y ∷ ys) passes all = (ap (λ u. int_le u (rank e)) all.0 ∙ passes, all_upto rank e t ys passes all.1)

module _ {X : Type 0} (S : Links X) where
  -- what is known of links that lead somewhere, each once
  pub record AreLed (ks : List ℕ) : Type 0 where
    pub leads : (i : ℕ) → 0 < times i ks → IsSome (S i)
    pub single : (i : ℕ) → times i ks ≤ 1

  pub led_back : (xs ys : List ℕ) → AreLed (xs ++ ys) → AreLed ys
  led_back xs ys led = record {
    leads = λ i some. led.leads i (omega (arith, some, times-append i xs ys));
    single = λ i. omega (arith, led.single i, times-append i xs ys);
  }

  pub led_front : (xs ys : List ℕ) → AreLed (xs ++ ys) → AreLed xs
  led_front xs ys led = record {
    leads = λ i some. led.leads i (omega (arith, some, times-append i xs ys));
    single = λ i. omega (arith, led.single i, times-append i xs ys);
  }

module _ {X : Type 0} (rank : X → ℤ) (S : Links X) where
  -- the first member of a bucket has its rank
  pub begins_at : (q : ℤ → Bool) (n k : ℕ) (t : ℤ) (ks : List ℕ) → 0 < n → ((i : ℕ) → 0 < times i (run S n k) → IsSome (S i))
      → AllByRecursion (λ (y : X). rank y ≡ t) (members_at S (run S n k)) → begins_in (λ y. q (rank y)) (members_at S (run S n k ++ ks)) ≡ q t
  begins_at q zero k t ks some leads all = absurd (omega (arith, some))
  begins_at q (suc n) k t ks some leads all =
      let s = some_of (S k) (leads k (times-first k (links_behind (S k) (run S n)))) in
      let step = run_some S n k s.0 s.1 in
      let tail = run S n s.0.next in
      let shown : members_at S (run S (suc n) k) ≡ s.0.member ∷ members_at S tail = ap (members_at S) step ∙ ap (λ o. member_at o ++ members_at S tail) s.1 in
      let whole : members_at S (run S (suc n) k ++ ks) ≡ s.0.member ∷ members_at S (tail ++ ks) = ap (λ zs. members_at S (zs ++ ks)) step
      ∙ ap (λ o. member_at o ++ members_at S (tail ++ ks)) s.1 in
      ap (begins_in (λ (y : X). q (rank y))) whole ∙ ap q (subst (AllByRecursion (λ (y : X). rank y ≡ t)) shown all).0

  -- no bucket that stands behind a later one is ahead of a member
  pub rest_fails : (e : X) (b : Bucket) (bs : List Bucket) → AreLed S (links_of S bs) → AllByRecursion (IsBucket rank S) bs
      → All (λ (c : Bucket). b.rank <ℤ c.rank) bs → int_le (rank e) b.rank ≡ true → begins_in (upto rank e) (members_of S bs) ≡ false
  rest_fails e b [] led each later passes = refl
  rest_fails e b (c ∷ cs) led each later passes =
      let above : b.rank <ℤ c.rank = later 0 c (omega arith) in
      let fails : int_le c.rank (rank e) ≡ false = grind (arith, ints) in
      begins_at (λ t. int_le t (rank e)) c.count c.first c.rank (links_of S cs) each.0.some
      (led_front S (run S c.count c.first) (links_of S cs) led).leads each.0.alike ∙ fails

  -- the last link of a host is one of the buckets'
  pub host_within_links : (n : Bucket) (bs : List Bucket) (h : Bucket) → AllByRecursion (IsBucket rank S) bs → host goes n bs ≡ Some h → 0
      < times h.last (links_of S bs)
  host_within_links n [] h each is = absurd cc
  host_within_links n (b ∷ bs) h each is = by_test (goes b n) (goes n b) is (λ later. host_within_links n bs h each.1 later)
    where
      here : b ≡ h → 0 < times h.last (links_of S (b ∷ bs))
      here same =
          let within = last_in_run S b.count b.first b.last each.0.some each.0.last in
          subst (λ (c : Bucket). 0 < times c.last (links_of S (b ∷ bs))) same
          (omega (arith, within, times-append b.last (run S b.count b.first) (links_of S bs)))

      one : (a c : Bucket) → Some a ≡ Some c → a ≡ c
      one a c e = cc

      by_test : (p q : Bool) → (if p then (if q then Some b else host goes n bs) else None) ≡ Some h
          → (host goes n bs ≡ Some h → 0 < times h.last (links_of S bs)) → 0 < times h.last (links_of S (b ∷ bs))
      by_test true true found later = here (one b h found)
      by_test true false found later = omega (arith, later found, times-append h.last (run S b.count b.first) (links_of S bs))
      by_test false q found later = absurd cc
