-- A chain that is kept in two runs, by time: those that were settled, and those that came later.
use Rattle.std.proofs.Common.{◌≡◌, suc, List, [], ◌∷◌, ◌++◌, ◌+◌, ◌-◌, ◌≤◌, ℕ, take, drop, subst, if◌then◌else◌, Bool, true, false, true≢false}
use Rattle.std.proofs.Common.{append_assoc, refl, ap, sym, ◌∙◌, arith, ◌<◌, length, get_or, ℤ, ◌≤ℤ◌, ◌<ℤ◌}
use Rattle.std.specs.Prelude.{All, AllPairs, IsPermutation, int_le}
use Rattle.std.proofs.lemmas.Int.{ints}
use Rattle.std.proofs.lemmas.List.{append-nil, take-append-drop, drop-drop, length-take-le, length-drop, get_or-take, get_or-drop}
use Rattle.std.proofs.Math.Seq.{take-add, take-append_seam, drop-append_seam}
use Rattle.std.proofs.lemmas.List.Elements.{All-head, All-tail, All-cons}
use Rattle.std.proofs.lemmas.List.Sorted.{IsPermutation-refl, IsPermutation-sym, IsPermutation-trans, IsPermutation-cons, IsPermutation-insert}
use Rattle.std.proofs.lemmas.List.Sorted.{IsPermutation-append_left, IsPermutation-to_front}
use Rattle.gw_members.specs.Chain.{in_time, first, rest}
use Rattle.gw_plain_chains.specs.Runs.{merge_by_time, begins_recent}

module _ {A : Type 0} (time : A → ℤ) where
  -- who is scheduled for an earlier time, or for the same, stays ahead of a newcomer
  stays_ahead : (x y : A) (ys : List A) → time y ≤ℤ time x → in_time time x (y ∷ ys) ≡ y ∷ in_time time x ys
  stays_ahead x y ys le = let passes : int_le (time y) (time x) ≡ true = grind (arith, ints) in rw passes refl

  -- a newcomer goes ahead of who is scheduled for a later time
  goes_ahead : (x y : A) (ys : List A) → time x <ℤ time y → in_time time x (y ∷ ys) ≡ x ∷ y ∷ ys
  goes_ahead x y ys lt = let fails : int_le (time y) (time x) ≡ false = grind (arith, ints) in rw fails refl

  -- two newcomers at different times may come in either order
  in_either_order : (x y : A) (zs : List A) → time x <ℤ time y → in_time time y (in_time time x zs) ≡ in_time time x (in_time time y zs)
  in_either_order x y [] lt = stays_ahead y x [] (grind (arith, ints)) ∙ sym (goes_ahead x y [] lt)
  in_either_order x y (z ∷ zs) lt = case (int_le (time z) (time x)) refl (in_either_order x y zs lt)
    where
      case : (b : Bool) → int_le (time z) (time x) ≡ b → in_time time y (in_time time x zs) ≡ in_time time x (in_time time y zs)
          → in_time time y (in_time time x (z ∷ zs)) ≡ in_time time x (in_time time y (z ∷ zs))
      case true e same =
          ap (in_time time y) (stays_ahead x z zs (grind (arith, ints)))
          ∙ stays_ahead y z (in_time time x zs) (grind (arith, ints))
          ∙ ap (λ ws. z ∷ ws) same
          ∙ sym (stays_ahead x z (in_time time y zs) (grind (arith, ints)))
          ∙ sym (ap (in_time time x) (stays_ahead y z zs (grind (arith, ints))))
      case false e same =
          ap (in_time time y) (goes_ahead x z zs (grind (arith, ints)))
          ∙ stays_ahead y x (z ∷ zs) (grind (arith, ints))
          ∙ sym (before (int_le (time z) (time y)) refl)
        where
          before : (b : Bool) → int_le (time z) (time y) ≡ b → in_time time x (in_time time y (z ∷ zs)) ≡ x ∷ in_time time y (z ∷ zs)
          before true f = rw f (goes_ahead x z (in_time time y zs) (grind (arith, ints)))
          before false f = rw f (goes_ahead x y (z ∷ zs) lt)

  -- a newcomer to the settled ones, scheduled before all that came later
  merged_before : (x : A) (settled recent : List A) → All (λ r. time x <ℤ time r) recent → merge_by_time time (in_time time x settled) recent
      ≡ in_time time x (merge_by_time time settled recent)
  merged_before x settled [] all = refl
  merged_before x settled (r ∷ rs) all =
      ap (λ ws. merge_by_time time ws rs) (in_either_order x r settled (All-head (λ r. time x <ℤ time r) r rs all))
      ∙ merged_before x (in_time time r settled) rs (All-tail (λ r. time x <ℤ time r) r rs all)

  -- the first of the settled ones comes first, where no recent one is scheduled before it
  pub merged_settled : (x : A) (settled recent : List A) → All (λ r. time x ≤ℤ time r) recent → merge_by_time time (x ∷ settled) recent ≡ x
      ∷ merge_by_time time settled recent
  merged_settled x settled [] all = refl
  merged_settled x settled (r ∷ rs) all =
      ap (λ ws. merge_by_time time ws rs) (stays_ahead r x settled (All-head (λ r. time x ≤ℤ time r) r rs all))
      ∙ merged_settled x (in_time time r settled) rs (All-tail (λ r. time x ≤ℤ time r) r rs all)

  -- those of a chain in order that come after its first are scheduled for no earlier time
  after_first : (r : A) (rs : List A) → AllPairs (λ y z. time y ≤ℤ time z) (r ∷ rs) → All (λ q. time r ≤ℤ time q) rs
  after_first r rs ordered = λ k d within. ordered 0 (suc k) d (omega arith) (omega arith)

  pub rest_ordered : (r : A) (rs : List A) → AllPairs (λ y z. time y ≤ℤ time z) (r ∷ rs) → AllPairs (λ y z. time y ≤ℤ time z) rs
  rest_ordered r rs ordered = λ i j d lt within. ordered (suc i) (suc j) d (omega arith) (omega arith)

  -- the first of the recent ones comes first, where none is settled, or the first of those is scheduled after it
  pub merged_alone : (r : A) (rs : List A) → AllPairs (λ y z. time y ≤ℤ time z) (r ∷ rs) → merge_by_time time [] (r ∷ rs) ≡ r ∷ merge_by_time time [] rs
  merged_alone r rs ordered = merged_settled r [] rs (after_first r rs ordered)

  pub merged_recent : (x : A) (settled : List A) (r : A) (rs : List A) → time r <ℤ time x → AllPairs (λ y z. time y ≤ℤ time z) (r ∷ rs)
      → merge_by_time time (x ∷ settled) (r ∷ rs) ≡ r ∷ merge_by_time time (x ∷ settled) rs
  merged_recent x settled r rs lt ordered =
      ap (λ ws. merge_by_time time ws rs) (goes_ahead r x settled lt) ∙ merged_settled r (x ∷ settled) rs (after_first r rs ordered)

  -- a newcomer among the recent ones has its place in the whole chain
  pub merged_newcomer : (x : A) (settled recent : List A) → AllPairs (λ y z. time y ≤ℤ time z) recent
      → merge_by_time time settled (in_time time x recent) ≡ in_time time x (merge_by_time time settled recent)
  merged_newcomer x settled [] ordered = refl
  merged_newcomer x settled (y ∷ ys) ordered = case (int_le (time y) (time x)) refl (merged_newcomer x (in_time time y settled) ys (rest_ordered y ys ordered))
    where
      case : (b : Bool) → int_le (time y) (time x) ≡ b → merge_by_time time (in_time time y settled) (in_time time x ys)
          ≡ in_time time x (merge_by_time time (in_time time y settled) ys) → merge_by_time time settled (in_time time x (y ∷ ys))
          ≡ in_time time x (merge_by_time time settled (y ∷ ys))
      case true e same = ap (merge_by_time time settled) (stays_ahead x y ys (grind (arith, ints))) ∙ same
      case false e same =
          let lt : time x <ℤ time y = grind (arith, ints) in
          let all : All (λ r. time y ≤ℤ time r) ys = after_first y ys ordered in
          ap (merge_by_time time settled) (goes_ahead x y ys lt)
          ∙ merged_before x settled (y ∷ ys) (All-cons (λ r. time x <ℤ time r) y ys lt (λ k d within. let le = all k d within in grind (arith, ints)))

  -- settled ones that are scheduled for no later time than the first recent one stay ahead of it
  merged_passed : (early settled : List A) (r : A) (rs : List A) → All (λ e. time e ≤ℤ time r) early
      → AllPairs (λ y z. time y ≤ℤ time z) (r ∷ rs) → merge_by_time time (early ++ settled) (r ∷ rs) ≡ early ++ merge_by_time time settled (r ∷ rs)
  merged_passed [] settled r rs all ordered = refl
  merged_passed (e ∷ es) settled r rs all ordered =
      let le : time e ≤ℤ time r = All-head (λ e. time e ≤ℤ time r) e es all in
      let later = after_first r rs ordered in
      merged_settled e (es ++ settled) (r ∷ rs) (All-cons (λ q. time e ≤ℤ time q) r rs le (λ k d within. let more = later k d within in grind (arith, ints)))
      ∙ ap (λ ws. e ∷ ws) (merged_passed es settled r rs (All-tail (λ e. time e ≤ℤ time r) e es all) ordered)

  -- TAKING THE FIRST

  pub first_recent : (settled : List A) (r : A) (rs : List A) → begins_recent time settled (r ∷ rs) ≡ true
      → AllPairs (λ y z. time y ≤ℤ time z) (r ∷ rs) → merge_by_time time settled (r ∷ rs) ≡ r ∷ merge_by_time time settled rs
  first_recent [] r rs begins ordered = merged_alone r rs ordered
  first_recent (x ∷ settled) r rs begins ordered = merged_recent x settled r rs (grind (arith, ints)) ordered

  pub first_settled : (x : A) (settled recent : List A) → begins_recent time (x ∷ settled) recent ≡ false
      → AllPairs (λ y z. time y ≤ℤ time z) recent → merge_by_time time (x ∷ settled) recent ≡ x ∷ merge_by_time time settled recent
  first_settled x settled [] begins ordered = refl
  first_settled x settled (r ∷ rs) begins ordered =
      let le : time x ≤ℤ time r = grind (arith, ints) in
      let later = after_first r rs ordered in
      merged_settled x settled (r ∷ rs) (All-cons (λ q. time x ≤ℤ time q) r rs le (λ k d within. let more = later k d within in grind (arith, ints)))

  pub none_left : (recent : List A) → begins_recent time [] recent ≡ false → merge_by_time time [] recent ≡ []
  none_left [] begins = refl
  none_left (r ∷ rs) begins = absurd (true≢false begins)

  -- what comes first, and what is left behind it
  pub first_when_recent : (settled recent : List A) → begins_recent time settled recent ≡ true → AllPairs (λ y z. time y ≤ℤ time z) recent
      → first (merge_by_time time settled recent) ≡ first recent
  first_when_recent settled [] begins ordered = absurd (true≢false (sym begins))
  first_when_recent settled (r ∷ rs) begins ordered = ap first (first_recent settled r rs begins ordered)

  pub rest_when_recent : (settled recent : List A) → begins_recent time settled recent ≡ true → AllPairs (λ y z. time y ≤ℤ time z) recent
      → rest (merge_by_time time settled recent) ≡ merge_by_time time settled (rest recent)
  rest_when_recent settled [] begins ordered = absurd (true≢false (sym begins))
  rest_when_recent settled (r ∷ rs) begins ordered = ap rest (first_recent settled r rs begins ordered)

  pub first_when_settled : (settled recent : List A) → begins_recent time settled recent ≡ false
      → AllPairs (λ y z. time y ≤ℤ time z) recent → first (merge_by_time time settled recent) ≡ first settled
  first_when_settled [] recent begins ordered = ap first (none_left recent begins)
  first_when_settled (x ∷ settled) recent begins ordered = ap first (first_settled x settled recent begins ordered)

  pub rest_when_settled : (settled recent : List A) → begins_recent time settled recent ≡ false → AllPairs (λ y z. time y ≤ℤ time z) recent
      → rest (merge_by_time time settled recent) ≡ merge_by_time time (rest settled) recent
  rest_when_settled [] recent begins ordered = ap rest (none_left recent begins) ∙ sym (none_left recent begins)
  rest_when_settled (x ∷ settled) recent begins ordered = ap rest (first_settled x settled recent begins ordered)

  -- what is left of a chain in order is in order
  pub rest_in_order : (xs : List A) → AllPairs (λ y z. time y ≤ℤ time z) xs → AllPairs (λ y z. time y ≤ℤ time z) (rest xs)
  rest_in_order [] ordered = ordered
  rest_in_order (x ∷ xs) ordered = rest_ordered x xs ordered

  -- LENGTHS

  in_time_length : (x : A) (xs : List A) → length (in_time time x xs) ≡ length xs + 1
  in_time_length x [] = refl
  in_time_length x (y ∷ ys) = case (int_le (time y) (time x)) (in_time_length x ys)
    where
      case : (b : Bool) → length (in_time time x ys) ≡ length ys + 1 → length (if b then y ∷ in_time time x ys else x ∷ y ∷ ys) ≡ length (y ∷ ys) + 1
      case true same = omega (arith)
      case false same = omega (arith)

  pub merged_length : (settled recent : List A) → length (merge_by_time time settled recent) ≡ length settled + length recent
  merged_length settled [] = omega (arith)
  merged_length settled (r ∷ rs) = let same = merged_length (in_time time r settled) rs in let one = in_time_length r settled in omega (arith)

  -- MEMBERS

  in_time_members : (x : A) (xs : List A) → IsPermutation (in_time time x xs) (x ∷ xs)
  in_time_members x [] = IsPermutation-refl _
  in_time_members x (y ∷ ys) = case (int_le (time y) (time x)) (in_time_members x ys)
    where
      case : (b : Bool) → IsPermutation (in_time time x ys) (x ∷ ys) → IsPermutation (if b then y ∷ in_time time x ys else x ∷ y ∷ ys) (x ∷ y ∷ ys)
      case true same = IsPermutation-trans _ _ _ (IsPermutation-cons y _ _ same) (IsPermutation-insert (x ∷ ys) 1 y)
      case false same = IsPermutation-refl _

  -- both runs together have the members of the chain
  pub merged_members : (settled recent : List A) → IsPermutation (merge_by_time time settled recent) (settled ++ recent)
  merged_members settled [] = subst (λ all. IsPermutation settled all) (sym (append-nil settled)) (IsPermutation-refl settled)
  merged_members settled (r ∷ rs) =
      IsPermutation-trans _ _ _ (merged_members (in_time time r settled) rs)
      (subst (λ all. IsPermutation (in_time time r settled ++ rs) all) (append_assoc settled (r ∷ []) rs)
      (IsPermutation-append_left rs _ _ (IsPermutation-trans _ _ _ (in_time_members r settled) (IsPermutation-sym _ _ (IsPermutation-to_front settled r)))))

  -- SETTLING

  -- in one round of settling, those settled that are scheduled for no later time than the first recent one go to the end, and it goes behind them
  pub settled_round : (early unseen done : List A) (r : A) (rs : List A) → All (λ e. time e ≤ℤ time r) early
      → ((d : A) → 0 < length unseen → time r <ℤ time (get_or unseen 0 d)) → AllPairs (λ y z. time y ≤ℤ time z) (r ∷ rs) →
      done ++ merge_by_time time (early ++ unseen) (r ∷ rs) ≡ ((done ++ early) ++ r ∷ []) ++ merge_by_time time unseen rs
  settled_round early unseen done r rs all late ordered =
      ap (λ ws. done ++ ws) (merged_passed early unseen r rs all ordered ∙ ap (λ ws. early ++ ws) (next unseen late))
      ∙ sym (append_assoc done early (r ∷ merge_by_time time unseen rs))
      ∙ sym (append_assoc (done ++ early) (r ∷ []) (merge_by_time time unseen rs))
    where
      next : (unseen : List A) → ((d : A) → 0 < length unseen → time r <ℤ time (get_or unseen 0 d))
          → merge_by_time time unseen (r ∷ rs) ≡ r ∷ merge_by_time time unseen rs
      next [] late = merged_alone r rs ordered
      next (x ∷ xs) late = merged_recent x xs r rs (late x (omega arith)) ordered

  -- the chain while it is being settled: behind those done come the first so many, unseen yet, and the recent ones, each at its place
  abbrev pub settling : ℕ → List A → List A → List A
  settling unseen settled recent = drop unseen settled ++ merge_by_time time (take unseen settled) recent

  -- one round, where so many of the unseen pass
  pub settling_round : (xs : List A) (unseen passed : ℕ) (r : A) (rs : List A) → passed ≤ unseen → unseen ≤ length xs
      → All (λ e. time e ≤ℤ time r) (take passed xs) → ((d : A) → passed < unseen → time r <ℤ time (get_or xs passed d))
      → AllPairs (λ y z. time y ≤ℤ time z) (r ∷ rs) →
      settling (unseen - passed) ((drop passed xs ++ take passed xs) ++ r ∷ []) rs ≡ settling unseen xs (r ∷ rs)
  settling_round xs unseen passed r rs few within all late ordered =
      let left = unseen - passed in
      let parts : passed + left ≡ unseen = omega (arith) in
      let early = take passed xs in
      let rest_unseen = take left (drop passed xs) in
      let done = drop left (drop passed xs) in
      let long : length rest_unseen ≡ left = length-take-le left (drop passed xs) (let l = length-drop passed xs in omega (arith)) in
      let seen : take unseen xs ≡ early ++ rest_unseen = subst (λ n. take n xs ≡ early ++ rest_unseen) parts (take-add passed left xs) in
      let behind : drop unseen xs ≡ done = subst (λ n. drop n xs ≡ done) parts (sym (drop-drop left passed xs)) in
      let whole : (drop passed xs ++ early) ++ r ∷ [] ≡ rest_unseen ++ ((done ++ early) ++ r ∷ []) =
      ap (λ ws. (ws ++ early) ++ r ∷ []) (sym (take-append-drop left (drop passed xs)))
      ∙ ap (λ ws. ws ++ r ∷ []) (append_assoc rest_unseen done early)
      ∙ append_assoc rest_unseen (done ++ early) (r ∷ []) in
      let front : take left (rest_unseen ++ ((done ++ early) ++ r ∷ [])) ≡ rest_unseen =
      subst (λ n. take n (rest_unseen ++ ((done ++ early) ++ r ∷ [])) ≡ rest_unseen) long (take-append_seam rest_unseen ((done ++ early) ++ r ∷ [])) in
      let back : drop left (rest_unseen ++ ((done ++ early) ++ r ∷ [])) ≡ (done ++ early) ++ r ∷ [] =
      subst (λ n. drop n (rest_unseen ++ ((done ++ early) ++ r ∷ [])) ≡ (done ++ early) ++ r ∷ []) long
      (drop-append_seam rest_unseen ((done ++ early) ++ r ∷ [])) in
      let after : (d : A) → 0 < length rest_unseen → time r <ℤ time (get_or rest_unseen 0 d) =
      λ d some. subst (λ x. time r <ℤ time x)
      (sym (get_or-take left (drop passed xs) 0 d (omega (arith)) ∙ get_or-drop passed xs 0 d
      ∙ ap (λ n. get_or xs n d) (omega (arith)))) (late d (omega (arith))) in
      rw whole (rw front (rw back (rw seen (rw behind (sym (settled_round early rest_unseen done r rs all after ordered))))))
