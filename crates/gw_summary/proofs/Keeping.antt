-- One line more at its place.
use Rattle.std.proofs.Common.{◌≡◌, ◌∙◌, ◌<◌, ◌++◌, ℕ, zero, suc, List, [], ◌∷◌, length, get_or, take, drop}
use Rattle.std.proofs.Common.{set, Option, Some, None, Vec, Bool, true, false, cond, refl, arith, sym, ap, subst}
use Rattle.std.specs.Prelude.{◌≢◌, slice_get}
use Rattle.std.specs.Global.{Global}
use Rattle.std.specs.List.{Contains}
use Rattle.std.specs.Str.{bytes_eq}
use Rattle.std.proofs.lemmas.List.{append_assoc}
use Rattle.std.proofs.lemmas.List.Elements.{Contains-append_left, Contains-append_right}
use Rattle.std.proofs.lemmas.Slice.Eq.{bytes_eq-Decides}
use Rattle.gw_summary.specs.Adding.{Line, addition_to, has}
use Rattle.gw_summary.specs.Keeping.{AddsLine, OneMore, lines_at, lines_of}
use Rattle.gw_summary.specs.declared.point.Adding.{Adding}
use Rattle.gw_summary.specs.declared.point.Adding.TheVariants.{New, Again, Unlike}
use Rattle.gw_summary.specs.declared.point.PointRows.{PointRows}

-- PLACES

pub lines_append : (xs ys : List Line) → lines_at (xs ++ ys) ≡ lines_at xs ++ lines_at ys
lines_append [] ys = refl
lines_append (None ∷ xs) ys = lines_append xs ys
lines_append (Some l ∷ xs) ys = ap (λ ls. l.items ∷ ls) (lines_append xs ys)

-- one place more without a line
pub lines_pushed : (xs : List Line) → lines_at (xs ++ None ∷ []) ≡ lines_at xs
lines_pushed [] = refl
lines_pushed (None ∷ xs) = lines_pushed xs
lines_pushed (Some l ∷ xs) = ap (λ ls. l.items ∷ ls) (lines_pushed xs)

pub has_pushed : (xs : List Line) (n : ℕ) → has (slice_get (xs ++ None ∷ []) n) ≡ has (slice_get xs n)
has_pushed [] zero = refl
has_pushed [] (suc n) = refl
has_pushed (x ∷ xs) zero = refl
has_pushed (x ∷ xs) (suc n) = has_pushed xs n

-- a line at a place where none was
pub line_set : (xs : List Line) (place : ℕ) (line : Vec ℕ Global) → place < length xs → has (slice_get xs place) ≡ false
    → OneMore line.items (lines_at xs) (lines_at (set xs place (Some line)))
line_set [] place line h free = absurd (omega (arith, h))
line_set (None ∷ xs) zero line h free = ([], lines_at xs, refl, refl)
line_set (Some x ∷ xs) zero line h free = absurd cc
line_set (None ∷ xs) (suc n) line h free = line_set xs n line (omega (arith, h)) free
line_set (Some x ∷ xs) (suc n) line h free =
    let more = line_set xs n line (omega (arith, h)) free in
    (x.items ∷ more.0, more.1, ap (λ ls. x.items ∷ ls) more.2, ap (λ ls. x.items ∷ ls) more.3)

-- where a line is new, none was there
pub was_free : (place : Option Line) (line : List ℕ) → addition_to place line ≡ New → has place ≡ false
was_free None line new = refl
was_free (Some None) line new = refl
was_free (Some (Some known)) line new = by_test (bytes_eq known.items line) new
  where
    by_test : (b : Bool) → cond b Again Unlike ≡ New → true ≡ false
    by_test true new = absurd cc
    by_test false new = absurd cc

first_is : (x : List ℕ) (xs : List (List ℕ)) → Contains (x ∷ xs) x
first_is x xs = (0, omega arith, refl)

known_is : (known line : List ℕ) (rest : List (List ℕ)) (a : Adding) (b : Bool) → bytes_eq known line ≡ b → a ≡ cond b Again Unlike
    → AddsLine a line (known ∷ rest) (known ∷ rest)
known_is known line rest a true same is =
    let alike : known ≡ line = (bytes_eq-Decides known line).0 same in
    subst (λ k. AddsLine k line (known ∷ rest) (known ∷ rest)) (sym is) (subst (λ l. Contains (known ∷ rest) l) alike (first_is known rest), refl)
known_is known line rest a false same is = subst (λ k. AddsLine k line (known ∷ rest) (known ∷ rest)) (sym is) refl

behind : (x line : List ℕ) (xs : List (List ℕ)) (a : Adding) → (a ≢ New) → AddsLine a line xs xs → AddsLine a line (x ∷ xs) (x ∷ xs)
behind x line xs New other h = absurd (other refl)
behind x line xs Again other h = (Contains-append_right (x ∷ []) xs line h.0, refl)
behind x line xs Unlike other h = refl

-- where it isn't new, the others are as they were, and it is one of them if it comes again
pub kept_as_is : (xs : List Line) (n : ℕ) (line : List ℕ) (a : Adding) → a ≡ addition_to (slice_get xs n) line → (a ≢ New)
    → AddsLine a line (lines_at xs) (lines_at xs)
kept_as_is [] n line a is other = absurd (other is)
kept_as_is (None ∷ xs) zero line a is other = absurd (other is)
kept_as_is (Some x ∷ xs) zero line a is other = known_is x.items line (lines_at xs) a (bytes_eq x.items line) refl is
kept_as_is (None ∷ xs) (suc n) line a is other = kept_as_is xs n line a is other
kept_as_is (Some x ∷ xs) (suc n) line a is other = behind x.items line (lines_at xs) a other (kept_as_is xs n line a is other)

-- POINTS

more_before : (front : List (List ℕ)) (line : List ℕ) (old new : List (List ℕ)) → OneMore line old new → OneMore line (front ++ old) (front ++ new)
more_before front line old new (before, after, is, now) = (
  front ++ before,
  after,
  ap (λ ls. front ++ ls) is ∙ sym (append_assoc front before after),
  ap (λ ls. front ++ ls) now ∙ sym (append_assoc front before (line ∷ after)),
)

pub more_behind : (rest : List (List ℕ)) (line : List ℕ) (old new : List (List ℕ)) → OneMore line old new → OneMore line (old ++ rest) (new ++ rest)
more_behind rest line old new (before, after, is, now) = (
  before,
  after ++ rest,
  ap (λ ls. ls ++ rest) is ∙ append_assoc before after rest,
  ap (λ ls. ls ++ rest) now ∙ append_assoc before (line ∷ after) rest,
)

add_before : (front : List (List ℕ)) (a : Adding) (line : List ℕ) (old new : List (List ℕ)) → AddsLine a line old new
    → AddsLine a line (front ++ old) (front ++ new)
add_before front New line old new h = more_before front line old new h
add_before front Again line old new h = (Contains-append_right front old line h.0, ap (λ ls. front ++ ls) h.1)
add_before front Unlike line old new h = ap (λ ls. front ++ ls) h

pub add_behind : (rest : List (List ℕ)) (a : Adding) (line : List ℕ) (old new : List (List ℕ)) → AddsLine a line old new
    → AddsLine a line (old ++ rest) (new ++ rest)
add_behind rest New line old new h = more_behind rest line old new h
add_behind rest Again line old new h = (Contains-append_left old rest line h.0, ap (λ ls. ls ++ rest) h.1)
add_behind rest Unlike line old new h = ap (λ ls. ls ++ rest) h

-- what is added to the lines of a point is added to those of all
pub point_set : (points : List PointRows) (place : ℕ) (x y : PointRows) (a : Adding) (line : List ℕ) → place < length points → x ≡ get_or points place x
    → AddsLine a line (lines_at x.lines.items) (lines_at y.lines.items) → AddsLine a line (lines_of points) (lines_of (set points place y))
point_set [] place x y a line h is adds = absurd (omega (arith, h))
point_set (p ∷ points) zero x y a line h is adds =
    add_behind (lines_of points) a line (lines_at p.lines.items) (lines_at y.lines.items)
    (subst (λ (q : PointRows). AddsLine a line (lines_at q.lines.items) (lines_at y.lines.items)) is adds)
point_set (p ∷ points) (suc n) x y a line h is adds =
    add_before (lines_at p.lines.items) a line (lines_of points) (lines_of (set points n y)) (point_set points n x y a line (omega (arith, h)) is adds)

-- a point without a line
pub point_inserted : (points : List PointRows) (place : ℕ) (p : PointRows) → lines_at p.lines.items ≡ []
    → lines_of (take place points ++ p ∷ drop place points) ≡ lines_of points
point_inserted points zero p none = ap (λ ls. ls ++ lines_of points) none
point_inserted [] (suc n) p none = ap (λ ls. ls ++ []) none
point_inserted (q ∷ points) (suc n) p none = ap (λ ls. lines_at q.lines.items ++ ls) (point_inserted points n p none)
