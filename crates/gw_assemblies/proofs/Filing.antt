-- The register of assemblies: an entry is filed, those struck out are left out, and the first of a set at a block is found.
use Rattle.std.proofs.Common.{◌≡◌, ◌≢◌, ◌&&◌, ◌-◌, ℕ, zero, suc, ◌+◌, ◌<◌, ◌≤◌, Bool, true, false, cond, if◌then◌else◌, List, [], ◌∷◌, ◌++◌, length}
use Rattle.std.proofs.Common.{set, get_or, filter, Option, Some, None, refl, sym, ap, ◌∙◌, subst, arith, inl, inr, replicate}
use Rattle.std.proofs.lemmas.Bool.{cases_eq, cases_lt}
use Rattle.std.proofs.lemmas.Grind.{common_steps}
use Rattle.std.specs.Prelude.{IfSome, option_map, option_to_list}
use Rattle.std.specs.List.{find, position, position_or_len}
use Rattle.gw_num.specs.Table.{at}
use Rattle.gw_assemblies.specs.Assembling.{is_of}
use Rattle.gw_members.specs.Firsts.{without_first, with_first_changed}
use Rattle.gw_assemblies.specs.Register.{bucket_of, assemblies_of, is_entry_of, bucket_at, older_at, IsNewest, AreFiled}
use Rattle.gw_assemblies.specs.declared.assemblies.Assembly.{Assembly}
use Rattle.gw_assemblies.specs.declared.register.Entry.{Entry}
use Rattle.gw_assemblies.proofs.Finding.{is_within, found, changed, missed}

-- what is left where those struck out are left out
pub standing_filter : (es : List Entry) → assemblies_of (filter (λ e. e.stands) es) ≡ assemblies_of es
standing_filter [] = refl
standing_filter (e ∷ es) = by_test e.stands refl (standing_filter es)
  where
    by_test : (b : Bool) → e.stands ≡ b → assemblies_of (filter (λ e. e.stands) es) ≡ assemblies_of es
        → assemblies_of (cond b (e ∷ filter (λ e. e.stands) es) (filter (λ e. e.stands) es)) ≡ cond b (e.assembly ∷ assemblies_of es) (assemblies_of es)
    by_test true is rest = rw is (ap (λ xs. e.assembly ∷ xs) rest)
    by_test false is rest = rest

pub length_filter : (es : List Entry) → length (filter (λ e. e.stands) es) ≡ length (assemblies_of es)
length_filter [] = refl
length_filter (e ∷ es) = by_test e.stands (length_filter es)
  where
    by_test : (b : Bool) → length (filter (λ e. e.stands) es) ≡ length (assemblies_of es)
        → length (cond b (e ∷ filter (λ e. e.stands) es) (filter (λ e. e.stands) es)) ≡ length (cond b (e.assembly ∷ assemblies_of es) (assemblies_of es))
    by_test true rest = ap suc rest
    by_test false rest = rest

-- what is written at a place
module _ (n : ℕ) where
  pub bucket_at-is : (es : List Entry) (k : ℕ) (e : Entry) → k < length es → e ≡ get_or es k e → bucket_at n es k ≡ bucket_of n e.assembly.block e.assembly.set
  bucket_at-is [] k e within is = absurd (omega arith)
  bucket_at-is (x ∷ xs) zero e within is = ap (λ (y : Entry). bucket_of n y.assembly.block y.assembly.set) (sym is)
  bucket_at-is (x ∷ xs) (suc k) e within is = bucket_at-is xs k e (omega arith) is

  pub bucket_at-set : (es : List Entry) (k : ℕ) (e w : Entry) → k < length es → e ≡ get_or es k e → w.assembly.block ≡ e.assembly.block
      → w.assembly.set ≡ e.assembly.set
      → (j : ℕ) → bucket_at n (set es k w) j ≡ bucket_at n es j
  bucket_at-set [] k e w within is block own j = absurd (omega arith)
  bucket_at-set (x ∷ xs) zero e w within is block own zero = rw (block, own) (ap (λ (y : Entry). bucket_of n y.assembly.block y.assembly.set) is)
  bucket_at-set (x ∷ xs) zero e w within is block own (suc j) = refl
  bucket_at-set (x ∷ xs) (suc k) e w within is block own zero = refl
  bucket_at-set (x ∷ xs) (suc k) e w within is block own (suc j) = bucket_at-set xs k e w (omega arith) is block own j

  bucket_at-front : (es more : List Entry) (k : ℕ) → k < length es → bucket_at n (es ++ more) k ≡ bucket_at n es k
  bucket_at-front [] more k within = absurd (omega arith)
  bucket_at-front (x ∷ xs) more zero within = refl
  bucket_at-front (x ∷ xs) more (suc k) within = bucket_at-front xs more k (omega arith)

older_at-front : (es more : List Entry) (k : ℕ) → k < length es → older_at (es ++ more) k ≡ older_at es k
older_at-front [] more k within = absurd (omega arith)
older_at-front (x ∷ xs) more zero within = refl
older_at-front (x ∷ xs) more (suc k) within = older_at-front xs more k (omega arith)

older_at-set : (es : List Entry) (k : ℕ) (e w : Entry) → k < length es → e ≡ get_or es k e → w.older ≡ e.older → (j : ℕ)
    → older_at (set es k w) j ≡ older_at es j
older_at-set [] k e w within is same j = absurd (omega arith)
older_at-set (x ∷ xs) zero e w within is same zero = same ∙ ap (λ (y : Entry). y.older) is
older_at-set (x ∷ xs) zero e w within is same (suc j) = refl
older_at-set (x ∷ xs) (suc k) e w within is same zero = refl
older_at-set (x ∷ xs) (suc k) e w within is same (suc j) = older_at-set xs k e w (omega arith) is same j

pub older_at-is : (es : List Entry) (k : ℕ) (e : Entry) → k < length es → e ≡ get_or es k e → older_at es k ≡ e.older
older_at-is [] k e within is = absurd (omega arith)
older_at-is (x ∷ xs) zero e within is = ap (λ (y : Entry). y.older) (sym is)
older_at-is (x ∷ xs) (suc k) e within is = older_at-is xs k e (omega arith) is

older_at-here : (es : List Entry) (k : ℕ) (w : Entry) → k < length es → older_at (set es k w) k ≡ w.older
older_at-here [] k w within = absurd (omega arith)
older_at-here (x ∷ xs) zero w within = refl
older_at-here (x ∷ xs) (suc k) w within = older_at-here xs k w (omega arith)

older_at-other : (es : List Entry) (k j : ℕ) (w : Entry) → j < k → older_at (set es k w) j ≡ older_at es j
older_at-other [] k j w before = refl
older_at-other (x ∷ xs) zero j w before = absurd (omega arith)
older_at-other (x ∷ xs) (suc k) zero w before = refl
older_at-other (x ∷ xs) (suc k) (suc j) w before = older_at-other xs k j w (omega arith)

-- a place written with an entry of the same assembly that stands as before
pub standing-set : (es : List Entry) (k : ℕ) (e w : Entry) → k < length es → e ≡ get_or es k e → w.assembly ≡ e.assembly → w.stands
    ≡ e.stands → assemblies_of (set es k w) ≡ assemblies_of es
standing-set [] k e w within is same stands = absurd (omega arith)
standing-set (x ∷ xs) zero e w within is same stands = rw (same, stands, is) refl
standing-set (x ∷ xs) (suc k) e w within is same stands =
    ap (λ rest. if x.stands then x.assembly ∷ rest else rest) (standing-set xs k e w (omega arith) is same stands)

-- buckets with the newest written at one
at-set-here : (bs : List (Option ℕ)) (b : ℕ) (o : Option ℕ) → b < length bs → at None (set bs b o) b ≡ o
at-set-here [] b o within = absurd (omega arith)
at-set-here (x ∷ xs) zero o within = refl
at-set-here (x ∷ xs) (suc b) o within = at-set-here xs b o (omega arith)

at-set-other : (bs : List (Option ℕ)) (b c : ℕ) (o : Option ℕ) → c ≢ b → at None (set bs b o) c ≡ at None bs c
at-set-other [] b c o other = refl
at-set-other (x ∷ xs) zero zero o other = absurd (other refl)
at-set-other (x ∷ xs) zero (suc c) o other = refl
at-set-other (x ∷ xs) (suc b) zero o other = refl
at-set-other (x ∷ xs) (suc b) (suc c) o other = at-set-other xs b c o (λ same. other (ap suc same))

length-set : {A : Type 0} (xs : List A) (k : ℕ) (x : A) → length (set xs k x) ≡ length xs
length-set [] k x = refl
length-set (y ∷ ys) zero x = refl
length-set (y ∷ ys) (suc k) x = ap suc (length-set ys k x)

pub at-get : (bs : List (Option ℕ)) (b : ℕ) (o : Option ℕ) → b < length bs → o ≡ get_or bs b o → at None bs b ≡ o
at-get [] b o within is = absurd (omega arith)
at-get (x ∷ xs) zero o within is = sym is
at-get (x ∷ xs) (suc b) o within is = at-get xs b o (omega arith) is

abbrev empty : ℕ → List (Option ℕ)
empty n = replicate n None

at-replicate : (n b : ℕ) → at None (empty n) b ≡ None
at-replicate zero b = refl
at-replicate (suc n) zero = refl
at-replicate (suc n) (suc b) = at-replicate n b

pub length-empty : (n : ℕ) → length (empty n) ≡ n
length-empty zero = refl
length-empty (suc n) = ap suc (length-empty n)

-- with empty buckets none is filed yet
pub filed-none : (es : List Entry) (n : ℕ) → AreFiled es (replicate n None) 0
filed-none es n = record {
  newest = λ b within. subst (λ o. IsNewest (bucket_at (length (empty n)) es) b 0 o) (sym (at-replicate n b)) (λ k below. absurd (omega arith));
  older = λ k below. absurd (omega arith);
}

-- the newest of a bucket, one place further on
module _ (f : ℕ → ℕ) (b m : ℕ) where
  newest-alike : (g : ℕ → ℕ) → ((k : ℕ) → k < m → g k ≡ f k) → (o : Option ℕ) → IsNewest f b m o → IsNewest g b m o
  newest-alike g same None new = λ k below is. new k below (sym (same k below) ∙ is)
  newest-alike g same (Some r) new = (new.0, same r new.0 ∙ new.1, λ k above below is. new.2 k above below (sym (same k below) ∙ is))

  newest-same : (g : ℕ → ℕ) → ((k : ℕ) → g k ≡ f k) → (o : Option ℕ) → IsNewest f b m o → IsNewest g b m o
  newest-same g same = newest-alike g (λ k below. same k)

  newest-more : f m ≢ b → (o : Option ℕ) → IsNewest f b m o → IsNewest f b (m + 1) o
  newest-more other None new = λ k below is. elim (cases_eq k m) [
    | inl same ↦ other (ap f (sym same) ∙ is)
    | inr apart ↦ new k (omega arith) is
  ]
  newest-more other (Some r) new = (
    omega (arith, new.0),
    new.1,
    λ k above below is. elim (cases_eq k m) [
      | inl same ↦ other (ap f (sym same) ∙ is)
      | inr apart ↦ new.2 k above (omega arith) is
    ],
  )

  newest-this : f m ≡ b → IsNewest f b (m + 1) (Some m)
  newest-this is = (omega arith, is, λ k above below. absurd (omega arith))

-- an entry is filed behind the newest of its bucket
module _ (es : List Entry) (bs : List (Option ℕ)) (p : ℕ) (e : Entry) (filed : AreFiled es bs p) (within : p < length es) (is : e ≡ get_or es p e) where
  abbrev n : ℕ
  n = length bs

  abbrev b : ℕ
  b = bucket_of n e.assembly.block e.assembly.set

  module _ (o : Option ℕ) (inside : b < n) (newest : at None bs b ≡ o) where
    abbrev w : Entry
    w = record e { older = o }

    many : length (set bs b (Some p)) ≡ n
    many = length-set bs b (Some p)

    same : (k : ℕ) → bucket_at n (set es p w) k ≡ bucket_at n es k
    same = bucket_at-set n es p e w within is refl refl

    here : bucket_at n es p ≡ b
    here = bucket_at-is n es p e within is

    newest_filed : (c : ℕ) → c < n → IsNewest (bucket_at n (set es p w)) c (p + 1) (at None (set bs b (Some p)) c)
    newest_filed c low = elim (cases_eq c b) [
      | inl this ↦
          subst (λ d. IsNewest (bucket_at n (set es p w)) d (p + 1) (at None (set bs b (Some p)) d)) (sym this)
          (subst (IsNewest (bucket_at n (set es p w)) b (p + 1)) (sym (at-set-here bs b (Some p) inside))
          (newest-this (bucket_at n (set es p w)) b p (same p ∙ here)))
      | inr other ↦
          subst (IsNewest (bucket_at n (set es p w)) c (p + 1)) (sym (at-set-other bs b c (Some p) other))
          (newest-more (bucket_at n (set es p w)) c p (λ clash. other (sym clash ∙ same p ∙ here)) (at None bs c)
          (newest-same (bucket_at n es) c p (bucket_at n (set es p w)) same (at None bs c) (filed.newest c low)))
    ]

    older_filed : (k : ℕ) → k < p + 1 → IsNewest (bucket_at n (set es p w)) (bucket_at n (set es p w) k) k (older_at (set es p w) k)
    older_filed k low = elim (cases_eq k p) [
      | inl this ↦
          subst (λ j. IsNewest (bucket_at n (set es p w)) (bucket_at n (set es p w) j) j (older_at (set es p w) j)) (sym this)
          (subst (IsNewest (bucket_at n (set es p w)) (bucket_at n (set es p w) p) p) (sym (older_at-here es p w within))
          (subst (λ c. IsNewest (bucket_at n (set es p w)) c p o) (sym (same p ∙ here))
          (newest-same (bucket_at n es) b p (bucket_at n (set es p w)) same o (subst (IsNewest (bucket_at n es) b p) newest (filed.newest b inside)))))
      | inr other ↦
          subst (IsNewest (bucket_at n (set es p w)) (bucket_at n (set es p w) k) k) (sym (older_at-other es p k w (omega (arith, low, other))))
          (subst (λ c. IsNewest (bucket_at n (set es p w)) c k (older_at es k)) (sym (same k))
          (newest-same (bucket_at n es) (bucket_at n es k) k (bucket_at n (set es p w)) same (older_at es k) (filed.older k (omega (arith, low, other)))))
    ]

    pub filed-one : AreFiled (set es p w) (set bs b (Some p)) (p + 1)
    filed-one = record {
      newest = λ c low. subst (λ m. IsNewest (bucket_at m (set es p w)) c (p + 1) (at None (set bs b (Some p)) c)) (sym many)
          (newest_filed c (omega (arith, low, many)));
      older = λ k low. subst (λ m. IsNewest (bucket_at m (set es p w)) (bucket_at m (set es p w) k) k (older_at (set es p w) k)) (sym many) (older_filed k low);
    }

-- what stands at a place, whatever is said to stand where there is none
pub get_or-own : {A : Type 0} (xs : List A) (k : ℕ) (d : A) → k < length xs → get_or xs k d ≡ get_or xs k (get_or xs k d)
get_or-own [] k d within = absurd (omega arith)
get_or-own (x ∷ xs) zero d within = refl
get_or-own (x ∷ xs) (suc k) d within = get_or-own xs k d (omega arith)

pub filed-at : (es : List Entry) (bs : List (Option ℕ)) (p : ℕ) → AreFiled es bs p → p < length es → (d : Entry) (i : ℕ) (o : Option ℕ)
    → i ≡ bucket_of (length bs) (get_or es p d).assembly.block (get_or es p d).assembly.set → i < length bs
    → AreFiled (set es p (record (get_or es p d) { older = get_or bs i o })) (set bs i (Some p)) (p + 1)
filed-at es bs p filed within d i o same low =
    subst (λ j. AreFiled (set es p (record (get_or es p d) { older = get_or bs i o })) (set bs j (Some p)) (p + 1)) (sym same)
    (filed-one es bs p (get_or es p d) filed within (get_or-own es p d within) (get_or bs i o) (omega (arith, same, low))
    (ap (at None bs) (sym same) ∙ at-get bs i (get_or bs i o) low (get_or-own bs i o low)))

-- where an entry keeps its bucket and its next older
pub filed-kept : (es : List Entry) (bs : List (Option ℕ)) (m p : ℕ) (e w : Entry) → AreFiled es bs m → p < length es → e ≡ get_or es p e
    → w.assembly.block ≡ e.assembly.block → w.assembly.set ≡ e.assembly.set → w.older ≡ e.older → AreFiled (set es p w) bs m
filed-kept es bs m p e w filed within is block own older =
    let same = bucket_at-set (length bs) es p e w within is block own in
    record {
      newest = λ b low. newest-same (bucket_at (length bs) es) b m (bucket_at (length bs) (set es p w)) same (at None bs b) (filed.newest b low);
      older = λ k low.
          subst (λ c. IsNewest (bucket_at (length bs) (set es p w)) c k (older_at (set es p w) k)) (sym (same k))
          (subst (IsNewest (bucket_at (length bs) (set es p w)) (bucket_at (length bs) es k) k) (sym (older_at-set es p e w within is older k))
          (newest-same (bucket_at (length bs) es) (bucket_at (length bs) es k) k (bucket_at (length bs) (set es p w)) same (older_at es k)
          (filed.older k low)));
    }

-- where entries follow that aren't filed yet
pub filed-front : (es more : List Entry) (bs : List (Option ℕ)) → AreFiled es bs (length es) → AreFiled (es ++ more) bs (length es)
filed-front es more bs filed =
    let same = bucket_at-front (length bs) es more in
    record {
      newest = λ b low. newest-alike (bucket_at (length bs) es) b (length es) (bucket_at (length bs) (es ++ more)) same (at None bs b) (filed.newest b low);
      older = λ k low.
          subst (λ c. IsNewest (bucket_at (length bs) (es ++ more)) c k (older_at (es ++ more) k)) (sym (same k low))
          (subst (IsNewest (bucket_at (length bs) (es ++ more)) (bucket_at (length bs) es k) k) (sym (older_at-front es more k low))
          (newest-alike (bucket_at (length bs) es) (bucket_at (length bs) es k) k (bucket_at (length bs) (es ++ more))
          (λ j under. same j (omega (arith, under, low))) (older_at es k) (filed.older k low)));
    }

pub standing-append : (es fs : List Entry) → assemblies_of (es ++ fs) ≡ assemblies_of es ++ assemblies_of fs
standing-append [] fs = refl
standing-append (e ∷ es) fs = by_test e.stands (standing-append es fs)
  where
    by_test : (b : Bool) → assemblies_of (es ++ fs) ≡ assemblies_of es ++ assemblies_of fs
        → (cond b (e.assembly ∷ assemblies_of (es ++ fs)) (assemblies_of (es ++ fs)))
        ≡ (cond b (e.assembly ∷ assemblies_of es) (assemblies_of es)) ++ assemblies_of fs
    by_test true rest = ap (λ xs. e.assembly ∷ xs) rest
    by_test false rest = rest

-- whether there is an entry at a place, and it passes
abbrev pub passes_at : (Entry → Bool) → List Entry → ℕ → Bool
passes_at q [] k = false
passes_at q (x ∷ xs) zero = q x
passes_at q (x ∷ xs) (suc k) = passes_at q xs k

-- the places from where on a walk has looked at all of a bucket
abbrev pub seen_from : Option ℕ → ℕ
seen_from None = 0
seen_from (Some r) = r + 1

-- the first place from m on that passes, below n, if there is one
abbrev pub FirstFrom : (ℕ → Bool) → ℕ → ℕ → Option ℕ → Type 0
FirstFrom p m n None = (k : ℕ) → m ≤ k → k < n → p k ≡ false
FirstFrom p m n (Some j) = (m ≤ j) × (j < n) × (p j ≡ true) × ((k : ℕ) → m ≤ k → k < j → p k ≡ false)

is_false : (t : Bool) → (t ≡ true → ⊥) → t ≡ false
is_false true never = absurd (never refl)
is_false false _ = refl

module _ (p : ℕ → Bool) (f : ℕ → ℕ) (b : ℕ) (says : (k : ℕ) → p k ≡ true → f k ≡ b) where
  gap : (m : ℕ) (o : Option ℕ) → IsNewest f b m o → (k : ℕ) → seen_from o ≤ k → k < m → p k ≡ false
  gap m None new k low high = is_false (p k) (λ t. new k high (says k t))
  gap m (Some r) new k low high = is_false (p k) (λ t. new.2 k (omega (arith, low)) high (says k t))

  pub below : (m : ℕ) (o : Option ℕ) → IsNewest f b m o → seen_from o ≤ m
  below m None new = omega arith
  below m (Some r) new = omega (arith, new.0)

  -- the walk goes on from a place to the next older of its bucket
  pub further : (r n : ℕ) (o found : Option ℕ) → IsNewest f b r o → r < n → FirstFrom p (r + 1) n found → (t : Bool) → p r ≡ t
      → FirstFrom p (seen_from o) n (if t then Some r else found)
  further r n o found new within seen true is = (below r o new, within, is, gap r o new)
  further r n o None new within seen false is = λ k low high. elim (cases_lt k r) [
    | inl under ↦ gap r o new k low under
    | inr over ↦ elim (cases_eq k r) [
      | inl this ↦ ap p this ∙ is
      | inr other ↦ seen k (omega (arith, over, other)) high
    ]
  ]
  further r n o (Some j) new within seen false is = (
    omega (arith, below r o new, seen.0),
    seen.1,
    seen.2,
    λ k low high. elim (cases_lt k r) [
      | inl under ↦ gap r o new k low under
      | inr over ↦ elim (cases_eq k r) [
        | inl this ↦ ap p this ∙ is
        | inr other ↦ seen.3 k (omega (arith, over, other)) high
      ]
    ],
  )

  -- the walk begins at the newest of the bucket
  pub begun : (n : ℕ) (o : Option ℕ) → IsNewest f b n o → FirstFrom p (seen_from o) n None
  begun n o new = gap n o new

  -- where it comes from there
  pub inside : (n : ℕ) (o : Option ℕ) → IsNewest f b n o → IfSome o (λ r. (r < n) × (f r ≡ b))
  inside n None new = tt
  inside n (Some r) new = (new.0, new.1)

  pub inside_more : (m n : ℕ) (o : Option ℕ) → m ≤ n → IfSome o (λ r. (r < m) × (f r ≡ b)) → IfSome o (λ r. (r < n) × (f r ≡ b))
  inside_more m n None more in_bucket = tt
  inside_more m n (Some r) more in_bucket = (omega (arith, in_bucket.0), in_bucket.1)

passes_at-is : (q : Entry → Bool) (es : List Entry) (k : ℕ) (e : Entry) → k < length es → e ≡ get_or es k e → passes_at q es k ≡ q e
passes_at-is q [] k e within is = absurd (omega arith)
passes_at-is q (x ∷ xs) zero e within is = ap q (sym is)
passes_at-is q (x ∷ xs) (suc k) e within is = passes_at-is q xs k e (omega arith) is

says : (n block set : ℕ) (es : List Entry) (k : ℕ) → passes_at (is_entry_of block set) es k ≡ true → bucket_at n es k ≡ bucket_of n block set
says n block set [] k is = absurd cc
says n block set (x ∷ xs) zero is =
    let b : x.assembly.block ≡ block = grind (arith, common_steps) in
    let s : x.assembly.set ≡ set = grind (arith, common_steps) in
    rw (b, s) refl
says n block set (x ∷ xs) (suc k) is = says n block set xs k is

-- the walk for a set at a block
module _ (es : List Entry) (bs : List (Option ℕ)) (block set : ℕ) (filed : AreFiled es bs (length es)) where
  abbrev passes : ℕ → Bool
  passes = passes_at (is_entry_of block set) es

  abbrev places : ℕ → ℕ
  places = bucket_at (length bs) es

  abbrev own : ℕ
  own = bucket_of (length bs) block set

  says_own : (k : ℕ) → passes k ≡ true → places k ≡ own
  says_own = says (length bs) block set es

  pub begin_walk : (i : ℕ) (d : Option ℕ) → i ≡ own → own < length bs
      → IfSome (get_or bs i d) (λ r. (r < length es) × (places r ≡ own)) × FirstFrom passes (seen_from (get_or bs i d)) (length es) None
  begin_walk i d same low =
      let within : i < length bs = omega (arith, same, low) in
      let new : IsNewest places own (length es) (get_or bs i d) =
      subst (IsNewest places own (length es))
      (ap (at None bs) (sym same) ∙ at-get bs i (get_or bs i d) within (get_or-own bs i d within)) (filed.newest own low) in
      (inside passes places own says_own (length es) (get_or bs i d) new, begun passes places own says_own (length es) (get_or bs i d) new)

  module _ (o : Option ℕ) (from : IfSome o (λ r. (r < length es) × (places r ≡ own))) (r : ℕ) (is : o ≡ Some r) where
    there : r < length es
    there = (subst (λ x. IfSome x (λ r. (r < length es) × (places r ≡ own))) is from).0

    in_bucket : places r ≡ own
    in_bucket = (subst (λ x. IfSome x (λ r. (r < length es) × (places r ≡ own))) is from).1

    module _ (d : Entry) where
      abbrev e : Entry
      e = get_or es r d

      new_there : IsNewest places own r e.older
      new_there = subst (IsNewest places own r) (older_at-is es r e there (get_or-own es r d there))
          (subst (λ c. IsNewest places c r (older_at es r)) in_bucket (filed.older r there))

      pub fewer : seen_from e.older < seen_from o
      fewer = omega (arith, below passes places own says_own r e.older new_there, ap seen_from is)

      pub go_on : (found now : Option ℕ) → FirstFrom passes (seen_from o) (length es) found → now ≡ (if is_entry_of block set e then Some r else found)
          → IfSome e.older (λ k. (k < length es) × (places k ≡ own)) × FirstFrom passes (seen_from e.older) (length es) now
      go_on found now seen is_now = (
        inside_more passes places own says_own r (length es) e.older (omega (arith, there)) (inside passes places own says_own r e.older new_there),
        subst (FirstFrom passes (seen_from e.older) (length es)) (sym is_now)
            (further passes places own says_own r (length es) e.older found new_there there
            (subst (λ m. FirstFrom passes m (length es) found) (ap seen_from is) seen) (is_entry_of block set e)
            (passes_at-is (is_entry_of block set) es r e there (get_or-own es r d there))),
      )

-- the place of the first that passes
module _ (q : Entry → Bool) where
  first_at : (xs : List Entry) (j : ℕ) → j < length xs → passes_at q xs j ≡ true → ((k : ℕ) → k < j → passes_at q xs k ≡ false) → position_or_len q xs ≡ j
  first_at [] j within here before = absurd (omega arith)
  first_at (x ∷ xs) zero within here before = rw here refl
  first_at (x ∷ xs) (suc j) within here before =
      rw (before 0 (omega arith)) (omega (arith, first_at xs j (omega arith) here (λ k low. before (suc k) (omega arith))))

  none_at : (xs : List Entry) → ((k : ℕ) → k < length xs → passes_at q xs k ≡ false) → position_or_len q xs ≡ length xs
  none_at [] never = refl
  none_at (x ∷ xs) never = rw (never 0 (omega arith)) (omega (arith, none_at xs (λ k low. never (suc k) (omega arith))))

  placed : (xs : List Entry) (found : Option ℕ) → FirstFrom (passes_at q xs) 0 (length xs) found → found ≡ position q xs
  placed xs None seen = let past = none_at xs (λ k low. seen k (omega arith) low) in grind (arith, common_steps)
  placed xs (Some j) seen = let place = first_at xs j seen.1 seen.2 (λ k low. seen.3 k (omega arith) low) in let within = seen.1 in grind (arith, common_steps)

  pub placed_from : (xs : List Entry) (o found : Option ℕ) → o ≡ None → FirstFrom (passes_at q xs) (seen_from o) (length xs) found → found ≡ position q xs
  placed_from xs None found is seen = placed xs found seen
  placed_from xs (Some r) found is seen = absurd cc

-- the first entry of a set at a block is the first of its assemblies that stands
module _ (block set : ℕ) where
  pub find-standing : (es : List Entry) → find (is_of block set) (assemblies_of es) ≡ option_map (λ (e : Entry). e.assembly) (find (is_entry_of block set) es)
  find-standing [] = refl
  find-standing (e ∷ es) = by_test e.stands (is_of block set e.assembly) refl (find-standing es)
    where
      by_test : (t u : Bool) → is_of block set e.assembly ≡ u → find (is_of block set) (assemblies_of es)
          ≡ option_map (λ (x : Entry). x.assembly) (find (is_entry_of block set) es)
          → find (is_of block set) (cond t (e.assembly ∷ assemblies_of es) (assemblies_of es))
          ≡ option_map (λ (x : Entry). x.assembly) (cond (t && u) (Some e) (find (is_entry_of block set) es))
      by_test true true is rest = rw is refl
      by_test true false is rest = rw is rest
      by_test false u is rest = rest

  pub standing-changed : (change : Assembly → Assembly) (es : List Entry)
      → assemblies_of (with_first_changed (is_entry_of block set) (λ e. record e { assembly = change e.assembly }) es)
      ≡ with_first_changed (is_of block set) change (assemblies_of es)
  standing-changed change [] = refl
  standing-changed change (e ∷ es) = by_test e.stands (is_of block set e.assembly) refl refl (standing-changed change es)
    where
      by_test : (t u : Bool) → e.stands ≡ t → is_of block set e.assembly ≡ u
          → assemblies_of (with_first_changed (is_entry_of block set) (λ (x : Entry). record x { assembly = change x.assembly }) es)
          ≡ with_first_changed (is_of block set) change (assemblies_of es)
          → assemblies_of (cond (t && u) (record e { assembly = change e.assembly } ∷ es)
          (e ∷ with_first_changed (is_entry_of block set) (λ (x : Entry). record x { assembly = change x.assembly }) es))
          ≡ with_first_changed (is_of block set) change (cond t (e.assembly ∷ assemblies_of es) (assemblies_of es))
      by_test true true stands is rest = rw (stands, is) refl
      by_test true false stands is rest = rw (stands, is) (ap (λ xs. e.assembly ∷ xs) rest)
      by_test false u stands is rest = rw stands rest

  pub standing-struck : (es : List Entry)
      → assemblies_of (with_first_changed (is_entry_of block set) (λ e. record e { stands = false }) es) ≡ without_first (is_of block set) (assemblies_of es)
  standing-struck [] = refl
  standing-struck (e ∷ es) = by_test e.stands (is_of block set e.assembly) refl refl (standing-struck es)
    where
      by_test : (t u : Bool) → e.stands ≡ t → is_of block set e.assembly ≡ u
          → assemblies_of (with_first_changed (is_entry_of block set) (λ (x : Entry). record x { stands = false }) es)
          ≡ without_first (is_of block set) (assemblies_of es)
          → assemblies_of (cond (t && u) (record e { stands = false } ∷ es)
          (e ∷ with_first_changed (is_entry_of block set) (λ (x : Entry). record x { stands = false }) es))
          ≡ without_first (is_of block set) (cond t (e.assembly ∷ assemblies_of es) (assemblies_of es))
      by_test true true stands is rest = rw is refl
      by_test true false stands is rest = rw (stands, is) (ap (λ xs. e.assembly ∷ xs) rest)
      by_test false u stands is rest = rw stands rest

module _ {A : Type 0} (p : A → Bool) where
  -- where none passes, none is taken or changed
  pub without-none : (xs : List A) → find p xs ≡ None → without_first p xs ≡ xs
  without-none [] none = refl
  without-none (x ∷ xs) none = by_test (p x) none (without-none xs)
    where
      by_test : (t : Bool) → cond t (Some x) (find p xs) ≡ None → (find p xs ≡ None → without_first p xs ≡ xs) → cond t xs (x ∷ without_first p xs) ≡ x ∷ xs
      by_test true here rest = absurd cc
      by_test false here rest = ap (λ ys. x ∷ ys) (rest here)

  pub changed-none : (change : A → A) (xs : List A) → find p xs ≡ None → with_first_changed p change xs ≡ xs
  changed-none change [] none = refl
  changed-none change (x ∷ xs) none = by_test (p x) none (changed-none change xs)
    where
      by_test : (t : Bool) → cond t (Some x) (find p xs) ≡ None → (find p xs ≡ None → with_first_changed p change xs ≡ xs)
          → cond t (change x ∷ xs) (x ∷ with_first_changed p change xs) ≡ x ∷ xs
      by_test true here rest = absurd cc
      by_test false here rest = ap (λ ys. x ∷ ys) (rest here)

  -- how many are left
  pub length_without : (xs : List A) → length (without_first p xs) + length (option_to_list (find p xs)) ≡ length xs
  length_without [] = refl
  length_without (x ∷ xs) = by_test (p x) (length_without xs)
    where
      by_test : (t : Bool) → length (without_first p xs) + length (option_to_list (find p xs)) ≡ length xs
          → length (cond t xs (x ∷ without_first p xs)) + length (option_to_list (cond t (Some x) (find p xs))) ≡ suc (length xs)
      by_test true rest = omega arith
      by_test false rest = omega (arith, rest)

  pub length_changed : (change : A → A) (xs : List A) → length (with_first_changed p change xs) ≡ length xs
  length_changed change [] = refl
  length_changed change (x ∷ xs) = by_test (p x) (length_changed change xs)
    where
      by_test : (t : Bool) → length (with_first_changed p change xs) ≡ length xs
          → length (cond t (change x ∷ xs) (x ∷ with_first_changed p change xs)) ≡ suc (length xs)
      by_test true rest = refl
      by_test false rest = ap suc rest

-- where the first entry of a set at a block has this place
module _ (block number : ℕ) (es : List Entry) (i : ℕ) (at : position (is_entry_of block number) es ≡ Some i) (d : Entry) where
  abbrev spot : Entry
  spot = get_or es i d

  spot_within : i < length es
  spot_within = is_within (is_entry_of block number) es i at

  spot_is : spot ≡ get_or es i spot
  spot_is = get_or-own es i d spot_within

  pub found-here : find (is_of block number) (assemblies_of es) ≡ Some spot.assembly
  found-here = find-standing block number es ∙ ap (option_map (λ (e : Entry). e.assembly)) (found (is_entry_of block number) es i at spot spot_is)

  pub changed-here : (m : ℕ) → m ≡ spot.assembly.missing - 1
      → assemblies_of (set es i (record spot { assembly = record spot.assembly { missing = m } }))
      ≡ with_first_changed (is_of block number) (λ a. record a { missing = a.missing - 1 }) (assemblies_of es)
  changed-here m is =
      ap (λ k. assemblies_of (set es i (record spot { assembly = record spot.assembly { missing = k } }))) is
      ∙ ap assemblies_of (changed (is_entry_of block number) es i at
      (λ e. record e { assembly = record e.assembly { missing = e.assembly.missing - 1 } }) spot spot_is)
      ∙ standing-changed block number (λ a. record a { missing = a.missing - 1 }) es

  pub struck-here : assemblies_of (set es i (record spot { stands = false })) ≡ without_first (is_of block number) (assemblies_of es)
  struck-here = ap assemblies_of (changed (is_entry_of block number) es i at (λ e. record e { stands = false }) spot spot_is) ∙ standing-struck block number es

  pub kept-here : (bs : List (Option ℕ)) → AreFiled es bs (length es) → (w : Entry) → w.assembly.block ≡ spot.assembly.block
      → w.assembly.set ≡ spot.assembly.set → w.older ≡ spot.older
      → AreFiled (set es i w) bs (length (set es i w))
  kept-here bs filed e block_same set_same older_same =
      subst (AreFiled (set es i e) bs) (sym (length-set es i e))
      (filed-kept es bs (length es) i spot e filed spot_within spot_is block_same set_same older_same)

-- where there is none
pub found-none : (block set : ℕ) (es : List Entry) → position (is_entry_of block set) es ≡ None → find (is_of block set) (assemblies_of es) ≡ None
found-none block set es at = find-standing block set es ∙ ap (option_map (λ (e : Entry). e.assembly)) (missed (is_entry_of block set) es at)
