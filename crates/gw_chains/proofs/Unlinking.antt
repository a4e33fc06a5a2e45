-- Members in buckets: one leaves from any place.
use Rattle.std.proofs.Common.{◌≡◌, ◌≢◌, ◌∙◌, ℕ, zero, suc, ◌+◌, ◌-◌, ◌<◌, ◌≤◌, List, [], ◌∷◌, ◌++◌, length, Option, Some, None, Bool, true, false}
use Rattle.std.proofs.Common.{if◌then◌else◌, refl, sym, ap, subst, arith, append_assoc}
use Rattle.std.proofs.lemmas.Grind.{common_steps}
use Rattle.std.specs.Prelude.{◌==◌, slice_get}
use Rattle.std.specs.List.{AllByRecursion}
use Rattle.gw_chains.specs.Buckets.{times, last_or, Links, links_behind, run, linked_to}
use Rattle.gw_chains.specs.Spots.{AreThere}
use Rattle.gw_chains.specs.declared.bucket.Bucket.{Bucket}
use Rattle.gw_chains.specs.declared.bucket.Link.{Link}
use Rattle.gw_chains.proofs.Linking.{once-same, last_in_run, run_some, some_of, Alike, run-same, AreLed}
use Rattle.gw_chains.proofs.Leaving.{last_or_run, first_in_run}

-- RUNS

last_append : (d : ℕ) (xs ys : List ℕ) → last_or d (xs ++ ys) ≡ last_or (last_or d xs) ys
last_append d [] ys = refl
last_append d (x ∷ xs) ys = last_append x xs ys

module _ {X : Type 0} (S : Links X) where
  pub run_one : (k : ℕ) → run S 1 k ≡ k ∷ []
  run_one k = by_case (S k)
    where
      by_case : (o : Option (Link X)) → k ∷ links_behind o (run S 0) ≡ k ∷ []
      by_case None = refl
      by_case (Some l) = refl

  -- a longer run has all links of a shorter one
  pub run_grows : (a c k i : ℕ) → times i (run S a k) ≤ times i (run S (a + c) k)
  run_grows zero c k i = omega arith
  run_grows (suc a) c k i =
      let more : suc (a + c) ≡ suc a + c = omega arith in
      subst (λ n. times i (run S (suc a) k) ≤ times i (run S n k)) more (by_case (S k) (λ m. run_grows a c m i))
    where
      by_case : (o : Option (Link X)) → ((m : ℕ) → times i (run S a m) ≤ times i (run S (a + c) m))
          → times i (k ∷ links_behind o (run S a)) ≤ times i (k ∷ links_behind o (run S (a + c)))
      by_case None later = omega arith
      by_case (Some l) later = omega (arith, later l.next)

  pub run_length : (n k : ℕ) → AreThere S (run S n k) → length (run S n k) ≡ n
  run_length zero k there = refl
  run_length (suc n) k there =
      let s = some_of (S k) (there k (first_in_run S (suc n) k (omega arith))) in
      let step = run_some S n k s.0 s.1 in
      omega (arith, ap length step, run_length n s.0.next (λ i some. there i (omega (arith, some, ap (times i) step))))

  -- the last of a run stands behind the others
  pub run_last : (n k : ℕ) → AreThere S (run S (suc n) k) → run S (suc n) k ≡ run S n k ++ last_or k (run S (suc n) k) ∷ []
  run_last zero k there = run_one k ∙ ap (λ x. x ∷ []) (sym (ap (last_or k) (run_one k)))
  run_last (suc n) k there =
      let s = some_of (S k) (there k (first_in_run S (suc (suc n)) k (omega arith))) in
      let y = s.0.next in
      let step : run S (suc (suc n)) k ≡ k ∷ run S (suc n) y = run_some S (suc n) k s.0 s.1 in
      let fewer : run S (suc n) k ≡ k ∷ run S n y = run_some S n k s.0 s.1 in
      let same : last_or k (run S (suc (suc n)) k) ≡ last_or y (run S (suc n) y) = ap (last_or k) step ∙ last_or_run k S (suc n) y (omega arith) in
      let later = run_last n y (λ i some. there i (omega (arith, some, ap (times i) step))) in
      step ∙ ap (λ zs. k ∷ zs) later ∙ sym (ap (λ zs. zs ++ last_or k (run S (suc (suc n)) k) ∷ []) fewer ∙ ap (λ x. k ∷ (run S n y ++ x ∷ [])) same)

  -- behind the last of a run is the link to which it leads
  pub run_next : (n k : ℕ) (l : Link X) → AreThere S (run S (suc n) k) → S (last_or k (run S (suc n) k)) ≡ Some l → last_or k (run S (suc (suc n)) k) ≡ l.next
  run_next zero k l there is =
      let here : S k ≡ Some l = sym (ap S (ap (last_or k) (run_one k))) ∙ is in
      ap (last_or k) (run_some S 1 k l here ∙ ap (λ zs. k ∷ zs) (run_one l.next))
  run_next (suc n) k l there is =
      let s = some_of (S k) (there k (first_in_run S (suc (suc n)) k (omega arith))) in
      let y = s.0.next in
      let step : run S (suc (suc n)) k ≡ k ∷ run S (suc n) y = run_some S (suc n) k s.0 s.1 in
      let more : run S (suc (suc (suc n))) k ≡ k ∷ run S (suc (suc n)) y = run_some S (suc (suc n)) k s.0 s.1 in
      let ends : last_or k (run S (suc (suc n)) k) ≡ last_or y (run S (suc n) y) = ap (last_or k) step ∙ last_or_run k S (suc n) y (omega arith) in
      ap (last_or k) more
      ∙ last_or_run k S (suc (suc n)) y (omega arith)
      ∙ run_next n y l (λ i some. there i (omega (arith, some, ap (times i) step))) (sym (ap S ends) ∙ is)

  pub led_upto : (n m k : ℕ) → n ≤ m → AreLed S (run S m k) → AreLed S (run S n k)
  led_upto n m k upto led =
      let whole : n + (m - n) ≡ m = omega (arith, upto) in
      let grows : (i : ℕ) → times i (run S n k) ≤ times i (run S m k) =
      λ i. subst (λ c. times i (run S n k) ≤ times i (run S c k)) whole (run_grows n (m - n) k i) in
      record { leads = λ i some. led.leads i (omega (arith, some, grows i)); single = λ i. omega (arith, led.single i, grows i) }

-- a run whose last leads elsewhere
run_past : {X : Type 0} (S T : Links X) (before next : ℕ) → T before ≡ linked_to next (S before) → (n m k : ℕ)
    → last_or k (run S (suc n) k) ≡ before → ((i : ℕ) → 0 < times i (run S (suc n) k) → i ≢ before → T i ≡ S i)
    → AreLed S (run S (suc n) k) → run T (suc (n + m)) k ≡ run S (suc n) k ++ run T m next
run_past S T before next leads_on zero m k ends others led =
    let s = some_of (S k) (led.leads k (first_in_run S 1 k (omega arith))) in
    let is : k ≡ before = sym (ap (last_or k) (run_one S k)) ∙ ends in
    let new : T k ≡ Some (record { member = s.0.member; next = next }) = ap T is ∙ leads_on ∙ ap (linked_to next) (ap S (sym is) ∙ s.1) in
    let none : 0 + m ≡ m = omega arith in
    ap (λ c. run T (suc c) k) none ∙ run_some T m k (record { member = s.0.member; next = next }) new ∙ sym (ap (λ zs. zs ++ run T m next) (run_one S k))
run_past S T before next leads_on (suc n) m k ends others led =
    let s = some_of (S k) (led.leads k (first_in_run S (suc (suc n)) k (omega arith))) in
    let y = s.0.next in
    let tail = run S (suc n) y in
    let step : run S (suc (suc n)) k ≡ k ∷ tail = run_some S (suc n) k s.0 s.1 in
    let later : last_or y tail ≡ before = sym (ap (last_or k) step ∙ last_or_run k S (suc n) y (omega arith)) ∙ ends in
    let within : 0 < times before tail = last_in_run S (suc n) y before (omega arith) later in
    let inner : k ≢ before = λ same. absurd (omega (arith, once-same before k same, led.single before, ap (times before) step, within)) in
    let new : T k ≡ Some s.0 = others k (first_in_run S (suc (suc n)) k (omega arith)) inner ∙ s.1 in
    let led_tail : AreLed S tail =
    record { leads = λ i some. led.leads i (omega (arith, some, ap (times i) step)); single = λ i. omega (arith, led.single i, ap (times i) step) } in
    let rest = run_past S T before next leads_on n m y later (λ i some other. others i (omega (arith, some, ap (times i) step)) other) led_tail in
    let same : suc n + m ≡ suc (n + m) = omega arith in
    run_some T (suc n + m) k s.0 new ∙ ap (λ zs. k ∷ zs) (ap (λ c. run T c y) same ∙ rest) ∙ sym (ap (λ zs. zs ++ run T m next) step)

-- LISTS

pub middle : {A : Type 0} (xs : List A) (y : A) (ys : List A) → slice_get (xs ++ y ∷ ys) (length xs) ≡ Some y
middle [] y ys = refl
middle (x ∷ xs) y ys = middle xs y ys

pub all_without : {A : Type 0} (P : A → Type 0) (xs : List A) (y : A) (ys : List A) → AllByRecursion P (xs ++ y ∷ ys) → AllByRecursion P (xs ++ ys)
all_without P [] y ys all = all.1
all_without P (x ∷ xs) y ys all = (all.0, all_without P xs y ys all.1)

append_none : {A : Type 0} (xs : List A) → xs ++ [] ≡ xs
append_none [] = refl
append_none (x ∷ xs) = ap (λ zs. x ∷ zs) (append_none xs)

-- ONE BUCKET

module _ {X : Type 0} (S T : Links X) (b : Bucket) (before : ℕ) (l : Link X) where
  -- its links before the one that leaves, that one, and those behind it
  pub parted : (p : ℕ) → p < b.count → AreLed S (run S b.count b.first) → S (last_or b.first (run S (suc p) b.first)) ≡ Some l
      → run S b.count b.first ≡ run S p b.first ++ last_or b.first (run S (suc p) b.first) ∷ run S (b.count - suc p) l.next
  parted p inside led is =
      let here = last_or b.first (run S (suc p) b.first) in
      let back = run S (b.count - suc p) l.next in
      let whole : suc (p + (b.count - suc p)) ≡ b.count = omega (arith, inside) in
      let upto = led_upto S (suc p) b.count b.first (omega (arith, inside)) led in
      sym (ap (λ n. run S n b.first) whole)
      ∙ run_past S S here l.next (is ∙ sym (ap (linked_to l.next) is)) p (b.count - suc p) b.first refl (λ i some other. refl) upto
      ∙ ap (λ zs. zs ++ back) (run_last S p b.first upto.leads)
      ∙ append_assoc (run S p b.first) (here ∷ []) back

  -- what is known of the one before, if there is one
  pub record Passed (p : ℕ) : Type 0 where
    pub is : 0 < p → before ≡ last_or b.first (run S p b.first)
    pub on : 0 < p → T before ≡ linked_to l.next (S before)
    pub others : (k : ℕ) → 0 < times k (run S p b.first) → k ≢ before → T k ≡ S k
    pub led : AreLed S (run S p b.first)

  abbrev pub head : ℕ → ℕ
  head p = if p == 0 then l.next else b.first

  head_more : (q : ℕ) → head (suc q) ≡ b.first
  head_more q = by_test (suc q == 0) refl
    where
      by_test : (t : Bool) → (suc q == 0) ≡ t → (if t then l.next else b.first) ≡ b.first
      by_test true is = absurd (grind (arith, common_steps))
      by_test false is = refl

  pub left_run : (p : ℕ) → p < b.count → Passed p → Alike S T (run S (b.count - suc p) l.next)
      → run T (b.count - 1) (head p) ≡ run S p b.first ++ run S (b.count - suc p) l.next
  left_run zero inside passed alike = run-same S T (b.count - 1) l.next alike
  left_run (suc q) inside passed alike =
      let m = b.count - suc (suc q) in
      let whole : suc (q + m) ≡ b.count - 1 = omega (arith, inside) in
      ap (λ k. run T (b.count - 1) k) (head_more q)
      ∙ sym (ap (λ n. run T n b.first) whole)
      ∙ run_past S T before l.next (passed.on (omega arith)) q m b.first (sym (passed.is (omega arith))) passed.others passed.led
      ∙ ap (λ zs. run S (suc q) b.first ++ zs) (run-same S T m l.next alike)

  -- the one before is where it was
  pub left_before : (p : ℕ) → 0 < p → Passed p → before ≡ last_or (head p) (run T (suc (p - 1)) (head p))
  left_before zero some passed = absurd (omega (arith, some))
  left_before (suc q) some passed =
      let none : q + 0 ≡ q = omega arith in
      let same : run T (suc q) b.first ≡ run S (suc q) b.first =
      sym (ap (λ n. run T (suc n) b.first) none)
      ∙ run_past S T before l.next (passed.on (omega arith)) q 0 b.first (sym (passed.is (omega arith))) passed.others passed.led
      ∙ append_none (run S (suc q) b.first) in
      let one : suc (suc q - 1) ≡ suc q = omega arith in
      passed.is (omega arith) ∙ sym
      (ap (λ k. last_or k (run T (suc (suc q - 1)) k)) (head_more q) ∙ ap (λ n. last_or b.first (run T n b.first)) one ∙ ap (last_or b.first) same)

  -- the last of those that are left
  pub left_last : (p : ℕ) → p < b.count → 1 < b.count → Passed p
      → (last_or b.first (run S p b.first ++ last_or b.first (run S (suc p) b.first) ∷ run S (b.count - suc p) l.next) ≡ b.last)
      → last_or (head p) (run S p b.first ++ run S (b.count - suc p) l.next) ≡ (if p + 1 == b.count then before else b.last)
  left_last p inside several passed ends = by_test (p + 1 == b.count) refl
    where
      front : List ℕ
      front = run S p b.first

      back : List ℕ
      back = run S (b.count - suc p) l.next

      here : ℕ
      here = last_or b.first (run S (suc p) b.first)

      by_test : (t : Bool) → (p + 1 == b.count) ≡ t → last_or (head p) (front ++ back) ≡ (if t then before else b.last)
      by_test true is =
          let last : p + 1 ≡ b.count = grind (arith, common_steps) in
          let none : b.count - suc p ≡ 0 = omega (arith, last) in
          let some : 0 < p = omega (arith, last, several) in
          ap (λ n. last_or (head p) (front ++ run S n l.next)) none
          ∙ ap (last_or (head p)) (append_none front)
          ∙ last_or_run (head p) S p b.first some
          ∙ sym (passed.is some)
      by_test false is =
          let other : p + 1 ≢ b.count = grind (arith, common_steps) in
          let some : 0 < b.count - suc p = omega (arith, other, inside) in
          last_append (head p) front back
          ∙ last_or_run (last_or (head p) front) S (b.count - suc p) l.next some
          ∙ sym (last_or_run here S (b.count - suc p) l.next some)
          ∙ sym (last_append b.first front (here ∷ back))
          ∙ ends
