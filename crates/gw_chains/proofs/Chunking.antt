-- A list in chunks: where a newcomer belongs, and what changes of it where one chunk does.
use Rattle.std.proofs.Common.{◌≡◌, ◌∙◌, Option, None, ℕ, zero, suc, ◌+◌, ◌-◌, ◌<◌, ◌≤◌, List, [], ◌∷◌, ◌++◌, length, take, drop, set, get_or, Bool}
use Rattle.std.proofs.Common.{true, false, true≢false, refl, sym, ap, subst, arith, append_assoc, inl, inr}
use Rattle.std.specs.Prelude.{insert, All, AllPairs}
use Rattle.std.specs.List.{AllByRecursion}
use Rattle.std.specs.List.Sorted.{IsPartitionedBy}
use Rattle.std.specs.declared.collections.VecDeque.{VecDeque}
use Rattle.std.proofs.lemmas.Bool.{cases_order}
use Rattle.std.proofs.lemmas.List.{length-append}
use Rattle.std.proofs.lemmas.List.Edits.{get_or-insert_below, get_or-insert_at, get_or-insert_above, length-insert}
use Rattle.std.proofs.Math.ListN.{get_or-append}
use Rattle.std.proofs.Math.Seq.{get_or-append_seam}
use Rattle.gw_chains.specs.Newcomers.{host, with_newcomer, IsHostLast}
use Rattle.gw_chains.specs.Chunks.{all_of, begins_in, IsChunk}
use Rattle.gw_chains.proofs.Newcoming.{newcomer_past, newcomer_first, newcomer_within, host_past, host_first, host_within}

module _ {A : Type 0} (p : A → Bool) where
  -- a list begins as its first does
  pub begins_as_first : (xs : List A) (one : A) → 0 < length xs → one ≡ get_or xs 0 one → begins_in p xs ≡ p one
  begins_as_first [] one some is = absurd (omega (arith, some))
  begins_as_first (x ∷ xs) one some is = ap p (sym is)

  -- the parts of a list in which none that passes comes after one that fails
  parted_rest : (x : A) (xs : List A) → IsPartitionedBy p (x ∷ xs) → IsPartitionedBy p xs
  parted_rest x xs parts = λ i j d le within h. parts (suc i) (suc j) d (omega arith) (omega arith) h

  pub parted_back : (xs ys : List A) → IsPartitionedBy p (xs ++ ys) → IsPartitionedBy p ys
  parted_back [] ys parts = parts
  parted_back (x ∷ xs) ys parts = parted_back xs ys (parted_rest x (xs ++ ys) parts)

  pub parted_front : (xs ys : List A) → IsPartitionedBy p (xs ++ ys) → IsPartitionedBy p xs
  parted_front xs ys parts = λ i j d le within h.
      sym (ap p (get_or-append xs ys d i (omega arith)))
      ∙ parts i j d le (omega (arith, length-append xs ys)) (ap p (get_or-append xs ys d j within) ∙ h)

module _ {A : Type 0} (R : A → A → Type 0) where
  -- the parts of a list in an order
  pub pairs_back : (xs ys : List A) → AllPairs R (xs ++ ys) → AllPairs R ys
  pairs_back [] ys pairs = pairs
  pairs_back (x ∷ xs) ys pairs = pairs_back xs ys (λ a b d lt below. pairs (suc a) (suc b) d (omega arith) (omega arith))

  pub pairs_front : (xs ys : List A) → AllPairs R (xs ++ ys) → AllPairs R xs
  pairs_front xs ys pairs = λ a b d lt below.
      subst (λ z. R (get_or xs a d) z) (get_or-append xs ys d b below)
      (subst (λ z. R z (get_or (xs ++ ys) b d)) (get_or-append xs ys d a (omega (arith, below, lt)))
      (pairs a b d lt (omega (arith, below, length-append xs ys))))

module _ {A : Type 0} (goes : A → A → Bool) (x : A) where
  -- where one goes first, all before it do, and none of them takes a newcomer in
  pub all_before : (front : List A) (z : A) (zs : List A) → IsPartitionedBy (λ y. goes y x) (front ++ z ∷ zs)
      → IsHostLast goes x (front ++ z ∷ zs) → goes z x ≡ true → AllByRecursion (λ y. (goes y x ≡ true) × (goes x y ≡ false)) front
  all_before [] z zs parts last passes = tt
  all_before (y ∷ ys) z zs parts last passes =
      let there : goes (get_or (ys ++ z ∷ zs) (length ys) z) x ≡ true = ap (λ w. goes w x) (get_or-append_seam ys z zs z) ∙ passes in
      let within : suc (length ys) < length (y ∷ (ys ++ z ∷ zs)) = omega (arith, length-append ys (z ∷ zs)) in (
        (parts 0 (suc (length ys)) z (omega arith) within there, last 0 (suc (length ys)) z (omega arith) within there),
        all_before ys z zs (parted_rest (λ w. goes w x) y (ys ++ z ∷ zs) parts) (λ a b d lt below. last (suc a) (suc b) d (omega arith) (omega arith)) passes,
      )

  pub front_passes : (front chunk back : List A) → IsPartitionedBy (λ y. goes y x) (front ++ (chunk ++ back))
      → IsHostLast goes x (front ++ (chunk ++ back)) → begins_in (λ y. goes y x) chunk ≡ true
      → AllByRecursion (λ y. (goes y x ≡ true) × (goes x y ≡ false)) front
  front_passes front [] back parts last begins = absurd (true≢false (sym begins))
  front_passes front (z ∷ zs) back parts last begins = all_before front z (zs ++ back) parts last begins

-- one more of which P holds
pub All-inserted : {A : Type 0} (P : A → Type 0) (xs : List A) (i : ℕ) (x : A) → i ≤ length xs → P x → All P xs → All P (insert xs i x)
All-inserted P xs i x within this all k d below =
    let long : length (insert xs i x) ≡ length xs + 1 = length-insert xs i x within in
    elim (cases_order k i) [
      | inl same ↦ subst (λ n. P (get_or (insert xs i x) n d)) (sym same) (subst P (sym (get_or-insert_at xs i x d within)) this)
      | inr (inl under) ↦ subst P (sym (get_or-insert_below xs i x d k under within)) (all k d (omega arith))
      | inr (inr over) ↦ let back : (k - 1) + 1 ≡ k = omega arith in
          subst (λ n. P (get_or (insert xs i x) n d)) back
          (subst P (sym (get_or-insert_above xs i x d (k - 1) (omega arith) within)) (all (k - 1) d (omega arith)))
    ]

-- all but the first, whatever that was changed to
pub All-popped : {A : Type 0} (P : A → Type 0) (xs : List A) (v : A) (ys : List A) → ys ≡ drop 1 (set xs 0 v) → All P xs → All P ys
All-popped P [] v ys is all = rw is all
All-popped P (x ∷ xs) v ys is all = rw is (λ k d below. all (suc k) d (omega arith))

module _ {X Z : Type 0} where
  -- THE PARTS AROUND A CHUNK

  pub around : (cs : List (VecDeque X Z)) (i : ℕ) (d : VecDeque X Z) → i < length cs → all_of cs ≡ all_of (take i cs)
      ++ ((get_or cs i d).items ++ all_of (drop (suc i) cs))
  around [] i d within = absurd (omega (arith, within))
  around (c ∷ cs) zero d within = refl
  around (c ∷ cs) (suc i) d within =
      ap (λ ws. c.items ++ ws) (around cs i d (omega arith))
      ∙ sym (append_assoc c.items (all_of (take i cs)) ((get_or cs i d).items ++ all_of (drop (suc i) cs)))

  pub around_set : (cs : List (VecDeque X Z)) (i : ℕ) (v : VecDeque X Z) → i < length cs → all_of (set cs i v) ≡ all_of (take i cs)
      ++ (v.items ++ all_of (drop (suc i) cs))
  around_set [] i v within = absurd (omega (arith, within))
  around_set (c ∷ cs) zero v within = refl
  around_set (c ∷ cs) (suc i) v within =
      ap (λ ws. c.items ++ ws) (around_set cs i v (omega arith))
      ∙ sym (append_assoc c.items (all_of (take i cs)) (v.items ++ all_of (drop (suc i) cs)))

  -- a chunk becomes two
  pub around_two : (cs : List (VecDeque X Z)) (i : ℕ) (v w : VecDeque X Z) → i < length cs → all_of (insert (set cs i v) (suc i) w)
      ≡ all_of (take i cs) ++ ((v.items ++ w.items) ++ all_of (drop (suc i) cs))
  around_two [] i v w within = absurd (omega (arith, within))
  around_two (c ∷ cs) zero v w within = sym (append_assoc v.items w.items (all_of cs))
  around_two (c ∷ cs) (suc i) v w within =
      ap (λ ws. c.items ++ ws) (around_two cs i v w (omega arith))
      ∙ sym (append_assoc c.items (all_of (take i cs)) ((v.items ++ w.items) ++ all_of (drop (suc i) cs)))

  -- what stands around a chunk, where it changed, alone or into two
  pub one_changed : (cs : List (VecDeque X Z)) (i n : ℕ) (v : VecDeque X Z) (ws : List X) → n ≡ i + 1 → i < length cs → v.items ≡ ws
      → all_of (set cs i v) ≡ all_of (take i cs) ++ (ws ++ all_of (drop n cs))
  one_changed cs i n v ws next within is =
      let one : suc i ≡ n = omega (arith, next) in
      around_set cs i v within ∙ ap (λ us. all_of (take i cs) ++ (us ++ all_of (drop (suc i) cs))) is
      ∙ ap (λ m. all_of (take i cs) ++ (ws ++ all_of (drop m cs))) one

  pub two_made : (cs : List (VecDeque X Z)) (i n : ℕ) (v w : VecDeque X Z) (ws : List X) → n ≡ i + 1 → i < length cs → v.items ++ w.items
      ≡ ws → all_of (insert (set cs i v) n w) ≡ all_of (take i cs) ++ (ws ++ all_of (drop n cs))
  two_made cs i n v w ws next within is =
      let one : suc i ≡ n = omega (arith, next) in
      ap (λ m. all_of (insert (set cs i v) m w)) (sym one) ∙ around_two cs i v w within
      ∙ ap (λ us. all_of (take i cs) ++ (us ++ all_of (drop (suc i) cs))) is ∙ ap (λ m. all_of (take i cs) ++ (ws ++ all_of (drop m cs))) one

  -- THE PLACE OF A NEWCOMER

  module _ (p : X → Bool) where
    back_begins : (cs : List (VecDeque X Z)) (n : ℕ) (d : VecDeque X Z) → All IsChunk cs
        → (n < length cs → begins_in p (get_or cs n d).items ≡ false) → begins_in p (all_of (drop n cs)) ≡ false
    back_begins [] zero d chunks fails = refl
    back_begins [] (suc n) d chunks fails = refl
    back_begins (c ∷ cs) zero d chunks fails = first c.items (omega (arith, (chunks 0 d (omega arith)).some, c.ok.0)) (fails (omega arith))
      where
        first : (xs : List X) → 0 < length xs → begins_in p xs ≡ false → begins_in p (xs ++ all_of cs) ≡ false
        first [] some fails = absurd (omega (arith, some))
        first (x ∷ xs) some fails = fails
    back_begins (c ∷ cs) (suc n) d chunks fails = back_begins cs n d (λ k e below. chunks (suc k) e (omega arith)) (λ below. fails (omega arith))

    pub chunk_parted : (cs : List (VecDeque X Z)) (i : ℕ) (d : VecDeque X Z) → i < length cs → IsPartitionedBy p (all_of cs)
        → IsPartitionedBy p (get_or cs i d).items
    chunk_parted cs i d within parts =
        let front = all_of (take i cs) in
        let chunk = (get_or cs i d).items in
        let back = all_of (drop (suc i) cs) in
        parted_front p chunk back (parted_back p front (chunk ++ back) (subst (IsPartitionedBy p) (around cs i d within) parts))

  module _ (goes : X → X → Bool) (x : X) where
    pub chunk_last : (cs : List (VecDeque X Z)) (i : ℕ) (d : VecDeque X Z) → i < length cs → IsHostLast goes x (all_of cs)
        → IsHostLast goes x (get_or cs i d).items
    chunk_last cs i d within last =
        let R : X → X → Type 0 = λ y z. goes z x ≡ true → goes x y ≡ false in
        let front = all_of (take i cs) in
        let chunk = (get_or cs i d).items in
        let back = all_of (drop (suc i) cs) in
        pairs_front R chunk back (pairs_back R front (chunk ++ back) (subst (IsHostLast goes x) (around cs i d within) last))

    -- a newcomer belongs in the last chunk that begins before it, or in the first
    record Belongs (cs : List (VecDeque X Z)) (i : ℕ) (d : VecDeque X Z) : Type 0 where
      within : i < length cs
      whole : all_of cs ≡ all_of (take i cs) ++ ((get_or cs i d).items ++ all_of (drop (suc i) cs))
      past : AllByRecursion (λ y. (goes y x ≡ true) × (goes x y ≡ false)) (all_of (take i cs))
      ahead : begins_in (λ y. goes y x) (all_of (drop (suc i) cs)) ≡ false

    belongs : (cs : List (VecDeque X Z)) (i : ℕ) (d : VecDeque X Z) → i < length cs → All IsChunk cs
        → IsPartitionedBy (λ y. goes y x) (all_of cs) → IsHostLast goes x (all_of cs)
        → (0 < i → begins_in (λ y. goes y x) (get_or cs i d).items ≡ true)
        → (suc i < length cs → begins_in (λ y. goes y x) (get_or cs (suc i) d).items ≡ false) → Belongs cs i d
    belongs cs i d within chunks parts last behind before = record {
      within = within;
      whole = around cs i d within;
      past = passing i behind (subst (IsPartitionedBy (λ y. goes y x)) (around cs i d within) parts) (subst (IsHostLast goes x) (around cs i d within) last);
      ahead = back_begins (λ y. goes y x) cs (suc i) d chunks before;
    }
      where
        passing : (j : ℕ) → (0 < j → begins_in (λ y. goes y x) (get_or cs i d).items ≡ true)
            → IsPartitionedBy (λ y. goes y x) (all_of (take j cs) ++ ((get_or cs i d).items ++ all_of (drop (suc i) cs)))
            → IsHostLast goes x (all_of (take j cs) ++ ((get_or cs i d).items ++ all_of (drop (suc i) cs)))
            → AllByRecursion (λ y. (goes y x ≡ true) × (goes x y ≡ false)) (all_of (take j cs))
        passing zero behind parts last = tt
        passing (suc j) behind parts last =
            front_passes goes x (all_of (take (suc j) cs)) (get_or cs i d).items (all_of (drop (suc i) cs)) parts last (behind (omega arith))

    placed_in : (unite : X → X → X) (cs : List (VecDeque X Z)) (i : ℕ) (d : VecDeque X Z) → Belongs cs i d → all_of (take i cs)
        ++ (with_newcomer goes unite x (get_or cs i d).items ++ all_of (drop (suc i) cs)) ≡ with_newcomer goes unite x (all_of cs)
    placed_in unite cs i d b =
        let front = all_of (take i cs) in
        let chunk = (get_or cs i d).items in
        let back = all_of (drop (suc i) cs) in
        ap (λ ws. front ++ ws) (sym (newcomer_within goes x unite chunk back b.ahead))
        ∙ sym (newcomer_past goes x unite front (chunk ++ back) b.past)
        ∙ ap (with_newcomer goes unite x) (sym b.whole)

    host_in : (cs : List (VecDeque X Z)) (i : ℕ) (d : VecDeque X Z) → Belongs cs i d → host goes x (get_or cs i d).items ≡ host goes x (all_of cs)
    host_in cs i d b =
        let front = all_of (take i cs) in
        let chunk = (get_or cs i d).items in
        let back = all_of (drop (suc i) cs) in
        sym (host_within goes x chunk back b.ahead) ∙ sym (host_past goes x front (chunk ++ back) b.past) ∙ ap (host goes x) (sym b.whole)

    -- what is known of a newcomer's chunk, where any d may be read in its place
    pub record Chosen (cs : List (VecDeque X Z)) (i n : ℕ) : Type 0 where
      pub next : n ≡ i + 1
      pub within : i < length cs
      pub chunks : All IsChunk cs
      pub parts : IsPartitionedBy (λ y. goes y x) (all_of cs)
      pub last : IsHostLast goes x (all_of cs)
      pub behind : (d : VecDeque X Z) → 0 < i → begins_in (λ y. goes y x) (get_or cs i d).items ≡ true
      pub before : (d : VecDeque X Z) → n < length cs → begins_in (λ y. goes y x) (get_or cs n d).items ≡ false

    chosen_belongs : (cs : List (VecDeque X Z)) (i n : ℕ) (d : VecDeque X Z) → Chosen cs i n → Belongs cs i d
    chosen_belongs cs i n d c =
        let one : n ≡ suc i = omega (arith, c.next) in
        belongs cs i d c.within c.chunks c.parts c.last (c.behind d)
        (subst (λ m. m < length cs → begins_in (λ y. goes y x) (get_or cs m d).items ≡ false) one (c.before d))

    pub inserted_in : (unite : X → X → X) (cs ds : List (VecDeque X Z)) (i n : ℕ) → Chosen cs i n
        → ((d : VecDeque X Z) → all_of ds ≡ all_of (take i cs) ++ (with_newcomer goes unite x (get_or cs i d).items ++ all_of (drop n cs)))
        → all_of ds ≡ with_newcomer goes unite x (all_of cs)
    inserted_in unite [] ds i n chosen is = absurd (omega (arith, chosen.within))
    inserted_in unite (c ∷ cs) ds i n chosen is =
        let one : n ≡ suc i = omega (arith, chosen.next) in
        let chunk = get_or (c ∷ cs) i c in
        is c
        ∙ ap (λ m. all_of (take i (c ∷ cs)) ++ (with_newcomer goes unite x chunk.items ++ all_of (drop m (c ∷ cs)))) one
        ∙ placed_in unite (c ∷ cs) i c (chosen_belongs (c ∷ cs) i n c chosen)

    pub host_inserted : (cs : List (VecDeque X Z)) (i n : ℕ) (found : Option X) → Chosen cs i n
        → ((d : VecDeque X Z) → found ≡ host goes x (get_or cs i d).items) → found ≡ host goes x (all_of cs)
    host_inserted [] i n found chosen is = absurd (omega (arith, chosen.within))
    host_inserted (c ∷ cs) i n found chosen is = is c ∙ host_in (c ∷ cs) i c (chosen_belongs (c ∷ cs) i n c chosen)

    -- a newcomer goes ahead of all where it does so of those in the first chunk
    none_before : (cs : List (VecDeque X Z)) → 0 < length cs → All IsChunk cs
        → ((d : VecDeque X Z) → begins_in (λ y. goes y x) (get_or cs 0 d).items ≡ false) → begins_in (λ y. goes y x) (all_of cs) ≡ false
    none_before [] some chunks ahead = absurd (omega (arith, some))
    none_before (c ∷ cs) some chunks ahead = back_begins (λ y. goes y x) (c ∷ cs) 0 c chunks (λ below. ahead c)

    pub host_ahead : (cs : List (VecDeque X Z)) → 0 < length cs → All IsChunk cs
        → ((d : VecDeque X Z) → begins_in (λ y. goes y x) (get_or cs 0 d).items ≡ false) → None ≡ host goes x (all_of cs)
    host_ahead cs some chunks ahead = sym (host_first goes x (all_of cs) (none_before cs some chunks ahead))

    pub newcomer_ahead : (unite : X → X → X) (cs : List (VecDeque X Z)) → 0 < length cs → All IsChunk cs
        → ((d : VecDeque X Z) → begins_in (λ y. goes y x) (get_or cs 0 d).items ≡ false) → x ∷ all_of cs ≡ with_newcomer goes unite x (all_of cs)
    newcomer_ahead unite cs some chunks ahead = sym (newcomer_first goes x unite (all_of cs) (none_before cs some chunks ahead))
