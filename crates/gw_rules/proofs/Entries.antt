-- Entries that were read or written.
use Rattle.std.proofs.Common.{◌≡◌, ◌≢◌, ⊎_elim, ℕ, ◌<◌, List, [], ◌∷◌, ◌++◌, map, Option, Some, None, Bool, true, false, cond, nat_lt, ◌==◌}
use Rattle.std.proofs.Common.{if◌then◌else◌, refl, sym, ap, ap₂, subst, append_assoc, ◌∙◌, arith}
use Rattle.std.specs.Prelude.{filter, option_to_list, option_map, unwrap_or}
use Rattle.std.specs.List.{find}
use Rattle.std.proofs.lemmas.List.{map-append}
use Rattle.std.proofs.lemmas.Bool.{cases_eq, cases_order, eqb-true, eq-eqb, ne_eqb, lt-ltb, le-ltb}
use Rattle.gw_rules.specs.Entries.{in_place, entry, amount_of, with_entry}
use Rattle.gw_rules.specs.Rows.{nonzero}

map-cond : {A B : Type 0} (f : A → B) (b : Bool) (x : A) (xs ys : List A) → map f (cond b (x ∷ xs) ys) ≡ cond b (f x ∷ map f xs) (map f ys)
map-cond f true x xs ys = refl
map-cond f false x xs ys = refl

-- what is kept by a test of what is read is read where it is kept
pub map-filter : {A B : Type 0} (f : A → B) (p : B → Bool) (xs : List A) → map f (filter (λ x. p (f x)) xs) ≡ filter p (map f xs)
map-filter f p [] = refl
map-filter f p (x ∷ xs) = map-cond f (p (f x)) x (filter (λ x. p (f x)) xs) (filter (λ x. p (f x)) xs)
    ∙ ap (λ ys. cond (p (f x)) (f x ∷ ys) ys) (map-filter f p xs)

-- the entries of a list by key with an element in its place are those with an entry in its place
pub entries-in_place : {X V : Type 0} (key : X → ℕ) (value : X → V) (x : X) (xs : List X) → map (λ y. (key y, value y)) (in_place key x xs)
    ≡ with_entry (key x) (Some (value x)) (map (λ y. (key y, value y)) xs)
entries-in_place key value x xs =
    map-append (λ y. (key y, value y)) (filter (λ y. nat_lt (key y) (key x)) xs) (x ∷ filter (λ y. nat_lt (key x) (key y)) xs)
    ∙ ap₂ (λ below above. below ++ (key x, value x) ∷ above)
    (map-filter (λ y. (key y, value y)) (λ e. nat_lt e.0 (key x)) xs)
    (map-filter (λ y. (key y, value y)) (λ e. nat_lt (key x) e.0) xs)
    ∙ sym (append_assoc (filter (λ e. nat_lt e.0 (key x)) (map (λ y. (key y, value y)) xs)) ((key x, value x) ∷ [])
    (filter (λ e. nat_lt (key x) e.0) (map (λ y. (key y, value y)) xs)))

-- READING

entered-if : {X V : Type 0} (value : X → V) (b : Bool) (x : X) (o : Option X) (p : Option V) → option_map value o ≡ p
    → option_map value (cond b (Some x) o) ≡ (if b then Some (value x) else p)
entered-if value true x o p h = refl
entered-if value false x o p h = h

-- what is entered for a key is the value of the first element of that key
pub entry-of_key : {X V : Type 0} (key : X → ℕ) (value : X → V) (n : ℕ) (xs : List X) → option_map value (find (λ x. key x == n) xs)
    ≡ entry (map (λ x. (key x, value x)) xs) n
entry-of_key key value n [] = refl
entry-of_key key value n (x ∷ xs) =
    entered-if value (key x == n) x (find (λ y. key y == n) xs) (entry (map (λ y. (key y, value y)) xs) n) (entry-of_key key value n xs)

-- the first of two, if there is one
abbrev pub or_else : {X : Type 0} → Option X → Option X → Option X
or_else None y = y
or_else (Some x) y = Some x

or_else-none : {X : Type 0} (x : Option X) → or_else x None ≡ x
or_else-none None = refl
or_else-none (Some x) = refl

or_else-if : {X : Type 0} (b : Bool) (v : X) (x y : Option X) → or_else (if b then Some v else x) y ≡ (if b then Some v else or_else x y)
or_else-if true v x y = refl
or_else-if false v x y = refl

entry-append : {X : Type 0} (xs ys : List (ℕ × X)) (n : ℕ) → entry (xs ++ ys) n ≡ or_else (entry xs n) (entry ys n)
entry-append [] ys n = refl
entry-append (x ∷ xs) ys n = ap (λ o. if x.0 == n then Some x.1 else o) (entry-append xs ys n) ∙ sym (or_else-if (x.0 == n) x.1 (entry xs n) (entry ys n))

none-if : {X : Type 0} (b : Bool) → ◌≡◌ {A = Option X} None (if b then None else None)
none-if true = refl
none-if false = refl

kept_here : {X : Type 0} (k : Bool) (n : ℕ) (v : X) (es : List (ℕ × X)) (o : Option X) → entry es n ≡ (if k then o else None)
    → entry (cond k ((n, v) ∷ es) es) n ≡ (if k then Some v else None)
kept_here true n v es o h = rw (eq-eqb n n refl) refl
kept_here false n v es o h = h

kept_there : {X : Type 0} (k : Bool) (n : ℕ) (e : ℕ × X) (es : List (ℕ × X)) → e.0 ≢ n → entry (cond k (e ∷ es) es) n ≡ entry es n
kept_there true n e es ne = rw (ne_eqb e.0 n ne) refl
kept_there false n e es ne = refl

-- what is kept is read, and nothing else
entry-filter : {X : Type 0} (keep : ℕ → Bool) (es : List (ℕ × X)) (n : ℕ) → entry (filter (λ e. keep e.0) es) n ≡ (if keep n then entry es n else None)
entry-filter keep [] n = none-if (keep n)
entry-filter keep (e ∷ es) n =
    ⊎_elim
    (λ (q : e.0 ≡ n).
    rw (eq-eqb e.0 n q)
    (subst (λ (m : ℕ). entry (cond (keep e.0) (e ∷ filter (λ e. keep e.0) es) (filter (λ e. keep e.0) es)) m ≡ (if keep m then Some e.1 else None)) q
    (kept_here (keep e.0) e.0 e.1 (filter (λ e. keep e.0) es) (entry es e.0) (entry-filter keep es e.0))))
    (λ (ne : e.0 ≢ n). rw (ne_eqb e.0 n ne) (kept_there (keep e.0) n e (filter (λ e. keep e.0) es) ne ∙ entry-filter keep es n))
    (cases_eq e.0 n)

-- WRITING

here_alone : {X : Type 0} (n : ℕ) (value : Option X) → entry (option_to_list (option_map (λ v. (n, v)) value)) n ≡ value
here_alone n None = refl
here_alone n (Some v) = rw (eq-eqb n n refl) refl

not_there : {X : Type 0} (n q : ℕ) (value : Option X) → n ≢ q → entry (option_to_list (option_map (λ v. (n, v)) value)) q ≡ None
not_there n q None ne = refl
not_there n q (Some v) ne = rw (ne_eqb n q ne) refl

in_parts : {X : Type 0} (n : ℕ) (value : Option X) (es : List (ℕ × X)) (q : ℕ) →
    entry (with_entry n value es) q
    ≡ or_else (or_else (if nat_lt q n then entry es q else None) (entry (option_to_list (option_map (λ v. (n, v)) value)) q))
    (if nat_lt n q then entry es q else None)
in_parts n value es q =
    entry-append (filter (λ e. nat_lt e.0 n) es ++ option_to_list (option_map (λ v. (n, v)) value)) (filter (λ e. nat_lt n e.0) es) q
    ∙ ap (or_else (entry (filter (λ e. nat_lt e.0 n) es ++ option_to_list (option_map (λ v. (n, v)) value)) q)) (entry-filter (nat_lt n) es q)
    ∙ ap (λ o. or_else o (if nat_lt n q then entry es q else None))
    (entry-append (filter (λ e. nat_lt e.0 n) es) (option_to_list (option_map (λ v. (n, v)) value)) q
    ∙ ap (λ o. or_else o (entry (option_to_list (option_map (λ v. (n, v)) value)) q)) (entry-filter (λ m. nat_lt m n) es q))

-- what the parts give where they have it by order, where they have it by number, and else
by_order : {X : Type 0} (below above same : Bool) (alone value here : Option X) → below ≡ false → above ≡ false → same ≡ true → alone ≡ value →
    or_else (or_else (if below then here else None) alone) (if above then here else None) ≡ (if same then value else here)
by_order below above same alone value here b a s v = rw (b, a, s) (or_else-none alone ∙ v)

by_above : {X : Type 0} (below above same : Bool) (alone value here : Option X) → below ≡ false → above ≡ true → same ≡ false → alone ≡ None →
    or_else (or_else (if below then here else None) alone) (if above then here else None) ≡ (if same then value else here)
by_above below above same alone value here b a s v = rw (b, a, s, v) refl

by_below : {X : Type 0} (below above same : Bool) (alone value here : Option X) → below ≡ true → above ≡ false → same ≡ false → alone ≡ None →
    or_else (or_else (if below then here else None) alone) (if above then here else None) ≡ (if same then value else here)
by_below below above same alone value here b a s v = rw (b, a, s, v) (or_else-none (or_else here None) ∙ or_else-none here)

-- what is written for a number is read for it, and all else stays
pub entry-with_entry : {X : Type 0} (n : ℕ) (value : Option X) (es : List (ℕ × X)) (q : ℕ) → entry (with_entry n value es) q
    ≡ (if n == q then value else entry es q)
entry-with_entry n value es q = in_parts n value es q ∙
    ⊎_elim
    (λ (e : n ≡ q).
    by_order (nat_lt q n) (nat_lt n q) (n == q) _ value (entry es q) (le-ltb q n (omega arith)) (le-ltb n q (omega arith)) (eq-eqb n q e)
    (subst (λ (m : ℕ). entry (option_to_list (option_map (λ v. (n, v)) value)) m ≡ value) e (here_alone n value)))
    (⊎_elim
    (λ (above : n < q).
    by_above (nat_lt q n) (nat_lt n q) (n == q) _ value (entry es q) (le-ltb q n (omega arith)) (lt-ltb n q above)
    (ne_eqb n q (λ e. omega arith)) (not_there n q value (λ e. omega arith)))
    (λ (below : q < n).
    by_below (nat_lt q n) (nat_lt n q) (n == q) _ value (entry es q) (lt-ltb q n below) (le-ltb n q (omega arith))
    (ne_eqb n q (λ e. omega arith)) (not_there n q value (λ e. omega arith))))
    (cases_order n q)

or_zero-if : (b : Bool) (x y : Option ℕ) → unwrap_or (if b then x else y) 0 ≡ (if b then unwrap_or x 0 else unwrap_or y 0)
or_zero-if true x y = refl
or_zero-if false x y = refl

nonzero-if : (b : Bool) (n : ℕ) → (b ≡ true → n ≡ 0) → unwrap_or (if b then None else Some n) 0 ≡ n
nonzero-if true n h = sym (h refl)
nonzero-if false n h = refl

-- the number written is that read, 0 too
pub amount-with_entry : (n amount : ℕ) (es : List (ℕ × ℕ)) (q : ℕ) → amount_of (with_entry n (nonzero amount) es) q
    ≡ (if n == q then amount else amount_of es q)
amount-with_entry n amount es q =
    ap (λ o. unwrap_or o 0) (entry-with_entry n (nonzero amount) es q)
    ∙ or_zero-if (n == q) (nonzero amount) (entry es q)
    ∙ ap (λ k. if n == q then k else amount_of es q) (nonzero-if (amount == 0) amount (eqb-true amount 0))
