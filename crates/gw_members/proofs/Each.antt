-- The lists of several entities: a call on the list of one entity, as all lists show it.
use Rattle.std.proofs.Common.{◌≡◌, ℕ, zero, suc, ◌+◌, ◌<◌, ◌≤◌, List, [], ◌∷◌, map, length, get_or, set, sum_by, refl, sym, ap, ◌∙◌, subst, arith}
use Rattle.std.proofs.Common.{◌++◌, replicate, inl, inr, drop, Option, Some, None, Result, Ok, Err}
use Rattle.std.specs.Prelude.{OnOk, OnErr, option_to_list}
use Rattle.std.proofs.lemmas.Bool.{cases_eq}
use Rattle.std.proofs.lemmas.List.{length-map}
use Rattle.gw_num.specs.Table.{at, put}
use Rattle.gw_num.proofs.Tables.{at-put, sum_by-put}
use Rattle.gw_members.specs.Chain.{first, rest}
use Rattle.gw_members.specs.Lists.{LosesRoom, apply_at}

-- x is what stands at e
pub record Stands {X : Type 0} (xs : List X) (e : ℕ) (x : X) : Type 0 where
  pub below : e < length xs
  pub is : x ≡ get_or xs e x

module _ {X Y : Type 0} (f : X → Y) (d : Y) where
  -- as many as there are entities
  pub many : (xs : List X) → length (map f xs) ≡ length xs
  many xs = length-map xs f

  pub stands : (xs : List X) (ys : List Y) (e : ℕ) (x : X) → map f xs ≡ ys → e < length ys → x ≡ get_or xs e x → Stands xs e x
  stands xs ys e x is within here = record { below = omega (arith, many xs, ap length is); is = here }

  -- what is read at one entity
  pub here : (xs : List X) (e : ℕ) (x : X) → Stands xs e x → at d (map f xs) e ≡ f x
  here [] e x s = absurd (omega (arith, s.below))
  here (y ∷ ys) zero x s = ap f (sym s.is)
  here (y ∷ ys) (suc e) x s = here ys e x (record { below = omega (arith, s.below); is = s.is })

  -- what is written at one entity
  pub written : (xs : List X) (e : ℕ) (v : X) → e < length xs → map f (set xs e v) ≡ put d (map f xs) e (f v)
  written [] e v within = absurd (omega arith)
  written (y ∷ ys) zero v within = refl
  written (y ∷ ys) (suc e) v within = ap (λ zs. f y ∷ zs) (written ys e v (omega arith))

  pub after : (xs : List X) (e : ℕ) (v : X) → e < length xs → at d (map f (set xs e v)) e ≡ f v
  after xs e v within = ap (λ ys. at d ys e) (written xs e v within) ∙ at-put d (map f xs) e (f v)

  -- what a call leaves as it was
  pub unchanged : (xs : List X) (e : ℕ) (x v : X) → Stands xs e x → f v ≡ f x → map f (set xs e v) ≡ map f xs
  unchanged [] e x v s same = absurd (omega (arith, s.below))
  unchanged (y ∷ ys) zero x v s same = ap (λ z. z ∷ map f ys) (same ∙ ap f s.is)
  unchanged (y ∷ ys) (suc e) x v s same = ap (λ zs. f y ∷ zs) (unchanged ys e x v (record { below = omega (arith, s.below); is = s.is }) same)

module _ {X T : Type 0} (f : X → List T) where
  -- what a call makes of the list of one entity
  pub changes : (xs : List X) (e : ℕ) (x v : X) (g : List T → List T) → Stands xs e x → f v ≡ g (f x) → map f (set xs e v) ≡ apply_at e g (map f xs)
  changes xs e x v g s is = written f [] xs e v s.below ∙ ap (put [] (map f xs) e) (is ∙ ap g (sym (here f [] xs e x s)))

  -- how many members all lists have
  pub total : (xs : List X) (e : ℕ) (x v : X) → Stands xs e x → sum_by length (map f (set xs e v)) + length (f x) ≡ sum_by length (map f xs) + length (f v)
  total xs e x v s =
      let sums = sum_by-put [] length (map f xs) e (f v) refl in
      omega (arith, ap (sum_by length) (written f [] xs e v s.below), sums, ap length (here f [] xs e x s))

  -- and one list at most as many
  pub at_most_total : (xs : List X) (e : ℕ) (x : X) → Stands xs e x → length (f x) ≤ sum_by length (map f xs)
  at_most_total xs e x s =
      let sums = sum_by-put [] length (map f xs) e [] refl in
      omega (arith, sums, ap length (here f [] xs e x s))

-- a call on the list of one entity of those that are shown
module _ {X T : Type 0} (f : X → List T) (xs : List X) (shown : List (List T)) (e : ℕ) (x v : X) (is : map f xs ≡ shown)
    (within : e < length shown) (here : x ≡ get_or xs e x) where
  -- it leaves the members as they were
  pub all_kept : f v ≡ f x → map f (set xs e v) ≡ shown
  all_kept same = unchanged f [] xs e x v (stands f [] xs shown e x is within here) same ∙ is

  pub many_kept : f v ≡ f x → (n : ℕ) → n ≡ sum_by length (map f xs) → n ≡ sum_by length (map f (set xs e v))
  many_kept same n many = many ∙ ap (sum_by length) (is ∙ sym (all_kept same))

  -- it changes the members of that one
  pub one_changed : (g : List T → List T) → f v ≡ g (f x) → map f (set xs e v) ≡ apply_at e g shown
  one_changed g same = changes f xs e x v g (stands f [] xs shown e x is within here) same ∙ ap (apply_at e g) is

-- room of which each list has at most n less
module _ {X : Type 0} (f g : X → ℕ) (n : ℕ) (others : (y : X) → f y ≤ g y + n) where
  each_below : (zs : List X) (k : ℕ) → at 0 (map f zs) k ≤ at 0 (map g zs) k + n
  each_below [] k = omega arith
  each_below (z ∷ zs) zero = others z
  each_below (z ∷ zs) (suc k) = each_below zs k

  pub loses : (xs : List X) (e : ℕ) (x v : X) → Stands xs e x → f x ≤ g v + n → LosesRoom n (map f xs) (map g (set xs e v))
  loses [] e x v s this k = absurd (omega (arith, s.below))
  loses (y ∷ ys) zero x v s this zero = subst (λ z. f z ≤ g v + n) s.is this
  loses (y ∷ ys) zero x v s this (suc k) = each_below ys k
  loses (y ∷ ys) (suc e) x v s this zero = others y
  loses (y ∷ ys) (suc e) x v s this (suc k) = loses ys e x v (record { below = omega (arith, s.below); is = s.is }) this k

-- where each is below n
pub at_most : {X : Type 0} (f : X → ℕ) (n : ℕ) → ((x : X) → f x < n) → (xs : List X) (e : ℕ) → e < length xs → at 0 (map f xs) e < n
at_most f n below [] e within = absurd (omega arith)
at_most f n below (x ∷ xs) zero within = below x
at_most f n below (x ∷ xs) (suc e) within = at_most f n below xs e (omega arith)

module _ {A E P Q : Type 0} where
  -- what follows on success, and on a failure
  pub on_ok : (r : Result A E) → OnOk r P → (P → Q) → OnOk r Q
  on_ok (Ok x) h f = f h
  on_ok (Err x) h f = tt

  pub on_err : (r : Result A E) → OnErr r P → (P → Q) → OnErr r Q
  on_err (Ok x) h f = tt
  on_err (Err x) h f = f h

-- one list more has room
pub each_more : (e n : ℕ) (old new : List ℕ) → ((k : ℕ) → k < e → n ≤ at 0 old k) → LosesRoom 0 old new → n ≤ at 0 new e → (k : ℕ) → k < e + 1 → n ≤ at 0 new k
each_more e n old new before kept this k below =
    elim (cases_eq k e) [
      | inl same ↦ subst (λ i. n ≤ at 0 new i) (sym same) this
      | inr other ↦ omega (arith, before k (omega (arith, other)), kept k)
    ]

module _ {X Y : Type 0} (f : X → Y) (d : Y) where
  replicate-snoc : (n : ℕ) → replicate n d ++ d ∷ [] ≡ replicate (suc n) d
  replicate-snoc zero = refl
  replicate-snoc (suc n) = ap (λ ys. d ∷ ys) (replicate-snoc n)

  map-snoc : (xs : List X) (x : X) → map f (xs ++ x ∷ []) ≡ map f xs ++ f x ∷ []
  map-snoc [] x = refl
  map-snoc (y ∷ ys) x = ap (λ zs. f y ∷ zs) (map-snoc ys x)

  -- one empty list more
  pub one_more : (xs : List X) (x : X) (n : ℕ) → map f xs ≡ replicate n d → f x ≡ d → map f (xs ++ x ∷ []) ≡ replicate (n + 1) d
  one_more xs x n all this = let more : suc n ≡ n + 1 = omega arith in map-snoc xs x ∙ rw (all, this) (replicate-snoc n ∙ ap (λ m. replicate m d) more)

pub err_with : {A E P : Type 0} (r : Result A E) → P → OnErr r P
err_with (Ok x) h = tt
err_with (Err x) h = h

-- what a queue's first is, and what is left
pub popped : {T : Type 0} (old new : List T) (o : Option T) → old ≡ option_to_list o ++ new → new ≡ drop 1 old → (o ≡ first old) × (new ≡ rest old)
popped [] new None items left = (refl, left)
popped [] new (Some y) items left = absurd cc
popped (x ∷ xs) new None items left = absurd (omega (arith, ap length items, ap length left))
popped (x ∷ xs) new (Some y) items left = (let same : y ≡ x = cc in ap Some same, left)
