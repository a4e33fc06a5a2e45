-- The rows of a user, when one row changes or is added.
use Rattle.std.proofs.Common.{◌≡◌, ℕ, zero, suc, List, [], ◌∷◌, ◌++◌, Option, Some, None, Bool, true, false, refl, sym, ap, subst, ◌∙◌, arith}
use Rattle.std.specs.Prelude.{◌==◌, if◌then◌else◌}
use Rattle.std.specs.List.{slice_get}
use Rattle.std.proofs.lemmas.Bool.Decides.{nat_tests}
use Rattle.std.proofs.lemmas.List.Elements.{filter-append}
use Rattle.gw_service.specs.Rows.{Row, change_row, rows_of, user_place, next_place, own_row}
use Rattle.gw_service.specs.Isolation.{row_at, change_at}

pub self_equal : (n : ℕ) → (n == n) ≡ true
self_equal n = grind (arith, nat_tests)

pub are_equal : (m n : ℕ) → (m == n) ≡ true → m ≡ n
are_equal m n h = grind (arith, nat_tests)

pub swap_equal : (m n : ℕ) → (m == n) ≡ false → (n == m) ≡ false
swap_equal m n h = grind (arith, nat_tests)

-- THE ROW AT A USER'S PLACE

own-here : (b : Bool) (r : Row) (rs : List Row) → (if b then Some r else None) ≡ row_at (if b then Some 0 else None) (if b then r ∷ rs else rs)
own-here true r rs = refl
own-here false r rs = refl

at_next : (p : Option ℕ) (r : Row) (rs : List Row) → row_at (next_place p) (r ∷ rs) ≡ row_at p rs
at_next None r rs = refl
at_next (Some i) r rs = refl

own-later : (b : Bool) (p : Option ℕ) (r : Row) (rs : List Row) → row_at p rs ≡ row_at (if b then next_place p else p) (if b then r ∷ rs else rs)
own-later true p r rs = sym (at_next p r rs)
own-later false p r rs = refl

-- the row in a slot, if it is the user's, is the one at its place among the user's rows
pub own-place : (u k : ℕ) (rows : List Row) → own_row u (slice_get rows k) ≡ row_at (user_place u k rows) (rows_of u rows)
own-place u k [] = refl
own-place u zero (r ∷ rs) = own-here (r.user == u) r (rows_of u rs)
own-place u (suc k) (r ∷ rs) = own-place u k rs ∙ own-later (r.user == u) (user_place u k rs) r (rows_of u rs)

-- A CHANGED ROW

changed-here : (b : Bool) (f : Row → Row) (r : Row) (rs : List Row) → (if b then f r ∷ rs else rs)
    ≡ change_at (if b then Some 0 else None) f (if b then r ∷ rs else rs)
changed-here true f r rs = refl
changed-here false f r rs = refl

changed_next : (p : Option ℕ) (f : Row → Row) (r : Row) (rs : List Row) → change_at (next_place p) f (r ∷ rs) ≡ r ∷ change_at p f rs
changed_next None f r rs = refl
changed_next (Some i) f r rs = refl

changed-later : (b : Bool) (p : Option ℕ) (f : Row → Row) (r : Row) (rs : List Row)
    → (if b then r ∷ change_at p f rs else change_at p f rs) ≡ change_at (if b then next_place p else p) f (if b then r ∷ rs else rs)
changed-later true p f r rs = sym (changed_next p f r rs)
changed-later false p f r rs = refl

-- the rows of a user, after one row changed: the one at its place did, if it is the user's
pub rows-changed : (u k : ℕ) (f : Row → Row) (rows : List Row) → ((r : Row) → (f r).user ≡ r.user) → rows_of u (change_row k f rows)
    ≡ change_at (user_place u k rows) f (rows_of u rows)
rows-changed u k f [] h = refl
rows-changed u zero f (r ∷ rs) h =
    subst (λ v. (if v == u then f r ∷ rows_of u rs else rows_of u rs)
    ≡ change_at (if r.user == u then Some 0 else None) f (rows_of u (r ∷ rs))) (sym (h r)) (changed-here (r.user == u) f r (rows_of u rs))
rows-changed u (suc k) f (r ∷ rs) h = ap (λ xs. if r.user == u then r ∷ xs else xs) (rows-changed u k f rs h)
    ∙ changed-later (r.user == u) (user_place u k rs) f r (rows_of u rs)

-- A ROW OF ANOTHER USER

other-here : (b : Bool) (i : ℕ) → b ≡ false → (if b then Some i else None) ≡ None
other-here b i h = rw h refl

own-user : (b : Bool) (r q : Row) → (if b then Some r else None) ≡ Some q → b ≡ true
own-user true r q h = refl
own-user false r q h = absurd cc

different : (m u v : ℕ) → (m == v) ≡ true → (v == u) ≡ false → (m == u) ≡ false
different m u v h d = subst (λ x. (x == u) ≡ false) (sym (are_equal m v h)) d

not_next : (b : Bool) (p : Option ℕ) → p ≡ None → (if b then next_place p else p) ≡ None
not_next true p h = rw h refl
not_next false p h = h

-- a row of another user has no place among this user's
pub other-place : (u v k : ℕ) (rows : List Row) (q : Row) → own_row v (slice_get rows k) ≡ Some q → (v == u) ≡ false → user_place u k rows ≡ None
other-place u v k [] q h d = refl
other-place u v zero (r ∷ rs) q h d = other-here (r.user == u) 0 (different r.user u v (own-user (r.user == v) r q h) d)
other-place u v (suc k) (r ∷ rs) q h d = not_next (r.user == u) (user_place u k rs) (other-place u v k rs q h d)

-- A NEW ROW

added-mine : (u : ℕ) (r : Row) → (r.user == u) ≡ true → rows_of u (r ∷ []) ≡ r ∷ []
added-mine u r h = rw h refl

added-others : (u : ℕ) (r : Row) → (r.user == u) ≡ false → rows_of u (r ∷ []) ≡ []
added-others u r h = rw h refl

append-nothing : (xs : List Row) → xs ++ [] ≡ xs
append-nothing [] = refl
append-nothing (x ∷ xs) = ap (λ ys. x ∷ ys) (append-nothing xs)

pub rows-added : (u : ℕ) (rows : List Row) (r : Row) → (r.user == u) ≡ true → rows_of u (rows ++ r ∷ []) ≡ rows_of u rows ++ r ∷ []
rows-added u rows r h = filter-append (λ (x : Row). x.user == u) rows (r ∷ []) ∙ ap (λ ys. rows_of u rows ++ ys) (added-mine u r h)

pub rows-others : (u : ℕ) (rows : List Row) (r : Row) → (r.user == u) ≡ false → rows_of u (rows ++ r ∷ []) ≡ rows_of u rows
rows-others u rows r h = filter-append (λ (x : Row). x.user == u) rows (r ∷ []) ∙ ap (λ ys. rows_of u rows ++ ys) (added-others u r h)
    ∙ append-nothing (rows_of u rows)
