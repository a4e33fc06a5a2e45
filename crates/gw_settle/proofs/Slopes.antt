-- Rows whose amounts fall by as much in each round.
use Rattle.std.proofs.Common.{◌≡◌, ⊎_elim, ℕ, zero, suc, ◌+◌, ◌-◌, ◌*◌, ◌≤◌, ◌<◌, ◌≢◌, List, [], ◌∷◌, ◌++◌, drop, length, Option, Some, None, refl}
use Rattle.std.proofs.Common.{sym, ap, ap₂, subst, ◌∙◌, arith, suc-mul, zero-mul, mul-le-mul_right}
use Rattle.std.specs.Prelude.{All, IfSome, unwrap_or}
use Rattle.std.proofs.lemmas.Bool.{cases_lt}
use Rattle.std.proofs.lemmas.List.{length-map}
use Rattle.std.proofs.lemmas.List.Elements.{All-nil, All-cons, All-head, All-tail}
use Rattle.gw_rules.specs.Entries.{entry}
use Rattle.gw_rules.specs.Rows.{Row, units_of, nonzero, IsOrdered}
use Rattle.gw_settle.specs.Jumps.{fall_of, amount_after, row_after, place_after, places_after, FallsOn, PlaceFallsOn, PlacesFallOn, row_in}
use Rattle.gw_settle.proofs.Joining.{only_if, entry-keep, nonzero_is}
use Rattle.gw_settle.proofs.Ordering.{keep_ascends, given_all, not_zero}
use Rattle.gw_settle.proofs.Alike.{row_same}
use Rattle.gw_settle.proofs.Courses.{Course, Declines}
use Rattle.gw_settle.proofs.CourseRounds.{PlaceDeclines, place_at, places_at, course_in, looked_up, declines_in}
use Rattle.gw_settle.proofs.Lowered.{IsLower}

-- AMOUNTS

amount_left : (o : Option ℕ) (n m : ℕ) → unwrap_or (only_if o (nonzero (unwrap_or o 0 - n * (unwrap_or o 0 - m)))) 0 ≡ unwrap_or o 0 - n * (unwrap_or o 0 - m)
amount_left None n m = omega arith
amount_left (Some k) n m = nonzero_is (k - n * (k - m))

pub units_are_after : (n : ℕ) (row next : Row) (e : ℕ) → units_of (row_after n row next) e ≡ amount_after n row next e
units_are_after n row next e = ap (λ o. unwrap_or o 0) (entry-keep (λ x. nonzero (amount_after n row next x)) row.units e)
    ∙ amount_left (entry row.units e) n (units_of next e)

pub after_ordered : (n : ℕ) (row next : Row) → IsOrdered row → IsOrdered (row_after n row next)
after_ordered n row next h = record {
  params = h.params;
  returns = h.returns;
  facilities = h.facilities;
  units = keep_ascends (λ e. nonzero (amount_after n row next e)) row.units h.units;
  amounts = given_all (λ k. k ≢ 0) (λ e. nonzero (amount_after n row next e)) row.units (λ e v is. not_zero (amount_after n row next e) v is);
}

-- there is room for so many falls
falls_room : (t n d a : ℕ) → t ≤ n → (0 < d → n * d ≤ a) → t * d ≤ a
falls_room t n d a le room =
    ⊎_elim
    (λ (lt : 0 < d). omega (arith, room lt, mul-le-mul_right d le))
    (λ (none : d ≤ 0). let zero_d : d ≡ 0 = omega (arith, none) in let nothing : t * 0 ≡ 0 = omega arith in omega (arith, ap (λ k. t * k) zero_d, nothing))
    (cases_lt 0 d)

-- where a row falls it keeps something to the last
abbrev pub LeavesSome : ℕ → Row → Row → Type 0
LeavesSome n row next = (e : ℕ) → units_of next e < units_of row e → 0 < amount_after n row next e

row_room : (t n : ℕ) (row next : Row) (e : ℕ) → t ≤ n → LeavesSome n row next → t * fall_of row next e ≤ units_of row e
row_room t n row next e le some = falls_room t n (fall_of row next e) (units_of row e) le (λ lt. omega (arith, some e (omega (arith, lt))))

pub after_declines : (n : ℕ) (row next : Row) → IsOrdered row → LeavesSome n row next → Declines n (λ t. row_after t row next)
after_declines n row next h some = record {
  params = λ t. refl;
  facilities = λ t. refl;
  ordered = λ t. after_ordered t row next h;
  falls = λ t e le. omega (arith, units_are_after t row next e, units_are_after (suc t) row next e, suc-mul t (fall_of row next e));
  slows = λ t e le. omega (
    arith,
    units_are_after t row next e,
    units_are_after (suc t) row next e,
    units_are_after (suc (suc t)) row next e,
    suc-mul t (fall_of row next e),
    suc-mul (suc t) (fall_of row next e),
    row_room (suc (suc t)) n row next e le some,
  );
}

-- after no fall a row is what it was
pub after_none : (row next : Row) → IsOrdered row → row_after 0 row next ≡ row
after_none row next h = row_same (row_after 0 row next) row (after_ordered 0 row next h) h refl refl
    (λ e. omega (arith, units_are_after 0 row next e, zero-mul (fall_of row next e)))

-- SEQUENCES

-- amounts that fall by d in each of two rounds, and not more by the last, where they fall no slower from round to round
pub record IsStraight (n a d : ℕ) (g : ℕ → ℕ) : Type 0 where
  pub first : g 0 + d ≡ a
  pub second : g 1 + (d + d) ≤ a
  pub last : a ≤ g n + suc n * d
  pub slows : (t : ℕ) → suc (suc t) ≤ n → g t + g (suc (suc t)) ≤ g (suc t) + g (suc t)

-- what is left with what was to be lost
abbrev height : ℕ → (ℕ → ℕ) → ℕ → ℕ
height d g t = g t + suc t * d

height_falls : (n a d : ℕ) (g : ℕ → ℕ) → IsStraight n a d g → (t : ℕ) → suc t ≤ n → height d g (suc t) ≤ height d g t
height_falls n a d g h zero le = omega (arith, h.first, h.second, suc-mul 0 d, suc-mul 1 d, zero-mul d)
height_falls n a d g h (suc t) le = omega (arith, height_falls n a d g h t (omega (arith, le)), h.slows t le, suc-mul (suc t) d, suc-mul (suc (suc t)) d)

height_first : (n a d : ℕ) (g : ℕ → ℕ) → IsStraight n a d g → height d g 0 ≡ a
height_first n a d g h = omega (arith, h.first, suc-mul 0 d, zero-mul d)

height_below : (n a d : ℕ) (g : ℕ → ℕ) → IsStraight n a d g → (t : ℕ) → t ≤ n → height d g t ≤ a
height_below n a d g h zero le = omega (arith, height_first n a d g h)
height_below n a d g h (suc t) le = omega (arith, height_below n a d g h t (omega (arith, le)), height_falls n a d g h t le)

height_above : (n a d : ℕ) (g : ℕ → ℕ) → IsStraight n a d g → (k t : ℕ) → k + t ≡ n → a ≤ height d g t
height_above n a d g h zero t is = let same : n ≡ t = omega (arith, is) in subst (λ m. a ≤ height d g m) same h.last
height_above n a d g h (suc k) t is = omega (arith, height_above n a d g h k (suc t) (omega (arith, is)), height_falls n a d g h t (omega (arith, is)))

-- they fall by d in each round
pub straight : (n a d : ℕ) (g : ℕ → ℕ) → IsStraight n a d g → (t : ℕ) → t ≤ n → g t + suc t * d ≡ a
straight n a d g h t le = omega (arith, height_below n a d g h t le, height_above n a d g h (n - t) t (omega (arith, le)))

-- ONE PLACE

-- a row that falls on has after each round what its course says
row_falls_on : (n : ℕ) (row next second last : Row) (g : Course) → 0 < n → IsOrdered row → Declines n g → FallsOn n row next second last
    → IsLower (Some next) (Some row) → g 0 ≡ next → g 1 ≡ second → g n ≡ last → (t : ℕ) → suc t ≤ n → row_after (suc t) row next ≡ g t
row_falls_on n row next second last g some up h falls lower is0 is1 isn t le =
    row_same (row_after (suc t) row next) (g t) (after_ordered (suc t) row next up) (h.ordered t)
    (sym falls.params ∙ ap (λ (r : Row). r.params) (sym is0) ∙ sym (h.params t))
    (sym falls.facilities ∙ ap (λ (r : Row). r.facilities) (sym is0) ∙ sym (h.facilities t))
    (λ e.
    let d = fall_of row next e in
    let amounts : ℕ → ℕ = λ s. units_of (g s) e in
    let at0 : units_of (g 0) e ≡ units_of next e = ap (λ (r : Row). units_of r e) is0 in
    let at1 : units_of (g 1) e ≡ units_of second e = ap (λ (r : Row). units_of r e) is1 in
    let atn : units_of (g n) e ≡ units_of last e = ap (λ (r : Row). units_of r e) isn in
    let line : IsStraight n (units_of row e) d amounts = record {
      first = omega (arith, at0, lower e);
      second = omega (arith, at0, at1, lower e, (falls.amounts e).again, h.falls 0 e (omega (arith, some)));
      last = omega (arith, atn, (falls.amounts e).still, suc-mul n d);
      slows = λ s fits. h.slows s e fits;
    } in
    omega (arith, units_are_after (suc t) row next e, straight n (units_of row e) d amounts line t (omega (arith, le))))

pub place_falls_on : (n : ℕ) (row next second last : Option Row) (g : Option Course) → 0 < n → IfSome row IsOrdered → PlaceDeclines n g
    → PlaceFallsOn n row next second last → IsLower next row → place_at 0 g ≡ next → place_at 1 g ≡ second → place_at n g ≡ last → (t : ℕ)
    → suc t ≤ n → place_after (suc t) row next ≡ place_at t g
place_falls_on n None None second last None some up h falls lower is0 is1 isn t le = refl
place_falls_on n None None second last (Some g) some up h falls lower is0 is1 isn t le = absurd (cc)
place_falls_on n None (Some next) second last g some up h falls lower is0 is1 isn t le = absurd falls
place_falls_on n (Some row) None second last g some up h falls lower is0 is1 isn t le = absurd falls
place_falls_on n (Some row) (Some next) None last g some up h falls lower is0 is1 isn t le = absurd falls
place_falls_on n (Some row) (Some next) (Some second) None g some up h falls lower is0 is1 isn t le = absurd falls
place_falls_on n (Some row) (Some next) (Some second) (Some last) None some up h falls lower is0 is1 isn t le = absurd (cc)
place_falls_on n (Some row) (Some next) (Some second) (Some last) (Some g) some up h falls lower is0 is1 isn t le =
    let at0 : g 0 ≡ next = cc in
    let at1 : g 1 ≡ second = cc in
    let atn : g n ≡ last = cc in
    ap Some (row_falls_on n row next second last g some up h falls lower at0 at1 atn t le)

-- after one fall a row is the next
pub place_once : (n : ℕ) (row next second last : Option Row) → IfSome row IsOrdered → IfSome next IsOrdered
    → PlaceFallsOn n row next second last → IsLower next row → place_after 1 row next ≡ next
place_once n None None second last up also falls lower = refl
place_once n None (Some next) second last up also falls lower = absurd falls
place_once n (Some row) None second last up also falls lower = absurd falls
place_once n (Some row) (Some next) None last up also falls lower = absurd falls
place_once n (Some row) (Some next) (Some second) None up also falls lower = absurd falls
place_once n (Some row) (Some next) (Some second) (Some last) up also falls lower =
    ap Some (row_same (row_after 1 row next) next (after_ordered 1 row next up) also (sym falls.params) (sym falls.facilities)
    (λ e. omega (arith, units_are_after 1 row next e, lower e)))

-- PLACES

-- the course of a place whose row falls as to the next
abbrev pub place_course : Option Row → Option Row → Option Course
place_course (Some row) (Some next) = Some (λ t. row_after t row next)
place_course (Some row) None = Some (λ t. row)
place_course None next = None

abbrev pub courses_after : List (Option Row) → List (Option Row) → List (Option Course)
courses_after [] nexts = []
courses_after (row ∷ rows) [] = place_course row None ∷ courses_after rows []
courses_after (row ∷ rows) (next ∷ nexts) = place_course row next ∷ courses_after rows nexts

place_is : (t : ℕ) (row next : Option Row) → place_at t (place_course row next) ≡ place_after t row next
place_is t (Some row) (Some next) = refl
place_is t (Some row) None = refl
place_is t None next = refl

pub places_are : (t : ℕ) (rows nexts : List (Option Row)) → places_at t (courses_after rows nexts) ≡ places_after t rows nexts
places_are t [] nexts = refl
places_are t (row ∷ rows) [] = ap₂ (λ x xs. x ∷ xs) (place_is t row None) (places_are t rows [])
places_are t (row ∷ rows) (next ∷ nexts) = ap₂ (λ x xs. x ∷ xs) (place_is t row next) (places_are t rows nexts)

pub course_in_after : (rows nexts : List (Option Row)) (i : ℕ) → course_in (courses_after rows nexts) i ≡ place_course (row_in rows i) (row_in nexts i)
course_in_after [] nexts i = refl
course_in_after (row ∷ rows) [] zero = refl
course_in_after (row ∷ rows) [] (suc i) = course_in_after rows [] i
course_in_after (row ∷ rows) (next ∷ nexts) zero = refl
course_in_after (row ∷ rows) (next ∷ nexts) (suc i) = course_in_after rows nexts i

-- the rows that were made so far, and those of what is left, are all
abbrev pub PlacesSoFar : ℕ → List (Option Row) → List (Option Row) → List (Option Row) → ℕ → Type 0
PlacesSoFar t rows nexts all i = all ++ places_after t (drop i rows) (drop i nexts) ≡ places_after t rows nexts

pub row_in_after : (t : ℕ) (rows nexts : List (Option Row)) (i : ℕ) → row_in (places_after t rows nexts) i ≡ place_after t (row_in rows i) (row_in nexts i)
row_in_after t [] nexts i = refl
row_in_after t (row ∷ rows) [] zero = refl
row_in_after t (row ∷ rows) [] (suc i) = row_in_after t rows [] i
row_in_after t (row ∷ rows) (next ∷ nexts) zero = refl
row_in_after t (row ∷ rows) (next ∷ nexts) (suc i) = row_in_after t rows nexts i

pub length-after : (t : ℕ) (rows nexts : List (Option Row)) → length (places_after t rows nexts) ≡ length rows
length-after t [] nexts = refl
length-after t (row ∷ rows) [] = omega (arith, length-after t rows [])
length-after t (row ∷ rows) (next ∷ nexts) = omega (arith, length-after t rows nexts)

abbrev pub PlaceLeaves : ℕ → Option Row → Option Row → Type 0
PlaceLeaves n (Some row) (Some next) = LeavesSome n row next
PlaceLeaves n (Some row) None = Unit {0}
PlaceLeaves n None next = Unit {0}

pub leaves_if_falls : (n : ℕ) (row next second last : Option Row) → PlaceFallsOn n row next second last → PlaceLeaves n row next
leaves_if_falls n None next second last h = tt
leaves_if_falls n (Some row) None second last h = tt
leaves_if_falls n (Some row) (Some next) None last h = absurd h
leaves_if_falls n (Some row) (Some next) (Some second) None h = absurd h
leaves_if_falls n (Some row) (Some next) (Some second) (Some last) h = λ e. (h.amounts e).left

abbrev pub Ordered : Option Row → Type 0
Ordered row = IfSome row IsOrdered

place_declines : (n : ℕ) (row next : Option Row) → Ordered row → PlaceLeaves n row next → PlaceDeclines n (place_course row next)
place_declines n (Some row) (Some next) up some = after_declines n row next up some
place_declines n (Some row) None up some =
    record { params = λ t. refl; facilities = λ t. refl; ordered = λ t. up; falls = λ t e le. omega arith; slows = λ t e le. omega arith }
place_declines n None next up some = tt

pub places_decline : (n : ℕ) (rows nexts : List (Option Row)) → All Ordered rows
    → ((i : ℕ) → PlaceLeaves n (row_in rows i) (row_in nexts i)) → All (PlaceDeclines n) (courses_after rows nexts)
places_decline n [] nexts up some = All-nil (PlaceDeclines n)
places_decline n (row ∷ rows) [] up some =
    All-cons (PlaceDeclines n) (place_course row None) (courses_after rows [])
    (place_declines n row None (All-head Ordered row rows up) (some 0))
    (places_decline n rows [] (All-tail Ordered row rows up) (λ i. some (suc i)))
places_decline n (row ∷ rows) (next ∷ nexts) up some =
    All-cons (PlaceDeclines n) (place_course row next) (courses_after rows nexts)
    (place_declines n row next (All-head Ordered row rows up) (some 0))
    (places_decline n rows nexts (All-tail Ordered row rows up) (λ i. some (suc i)))

-- rows that stay as they are
place_stays : (t : ℕ) (row : Option Row) → place_after t row None ≡ row
place_stays t (Some row) = refl
place_stays t None = refl

pub places_stay : (t : ℕ) (rows : List (Option Row)) → places_after t rows [] ≡ rows
places_stay t [] = refl
places_stay t (row ∷ rows) = ap₂ (λ x xs. x ∷ xs) (place_stays t row) (places_stay t rows)

pub stay_leaves : (n : ℕ) (row : Option Row) → PlaceLeaves n row None
stay_leaves n (Some row) = tt
stay_leaves n None = tt

-- after no fall
place_not : (row next : Option Row) → Ordered row → place_after 0 row next ≡ row
place_not (Some row) (Some next) up = ap Some (after_none row next up)
place_not (Some row) None up = refl
place_not None next up = refl

-- rows that are the same at each place
pub places_same : (rows others : List (Option Row)) → length rows ≡ length others → ((i : ℕ) → row_in rows i ≡ row_in others i) → rows ≡ others
places_same [] [] same h = refl
places_same [] (other ∷ others) same h = absurd (omega (arith, same))
places_same (row ∷ rows) [] same h = absurd (omega (arith, same))
places_same (row ∷ rows) (other ∷ others) same h = ap₂ (λ x xs. x ∷ xs) (h 0) (places_same rows others (omega (arith, same)) (λ i. h (suc i)))

ordered_in : (rows : List (Option Row)) (i : ℕ) → All Ordered rows → Ordered (row_in rows i)
ordered_in [] i h = tt
ordered_in (row ∷ rows) zero h = All-head Ordered row rows h
ordered_in (row ∷ rows) (suc i) h = ordered_in rows i (All-tail Ordered row rows h)

pub places_not : (rows nexts : List (Option Row)) → All Ordered rows → places_after 0 rows nexts ≡ rows
places_not rows nexts up =
    places_same (places_after 0 rows nexts) rows (length-after 0 rows nexts)
    (λ i. row_in_after 0 rows nexts i ∙ place_not (row_in rows i) (row_in nexts i) (ordered_in rows i up))

-- after one fall the rows are the next
pub places_once : (n : ℕ) (rows nexts second last : List (Option Row)) → length rows ≡ length nexts → All Ordered rows → All Ordered nexts
    → PlacesFallOn n rows nexts second last → ((i : ℕ) → IsLower (row_in nexts i) (row_in rows i)) → places_after 1 rows nexts ≡ nexts
places_once n rows nexts second last same up also falls lower =
    places_same (places_after 1 rows nexts) nexts (length-after 1 rows nexts ∙ same)
    (λ i. row_in_after 1 rows nexts i
    ∙ place_once n (row_in rows i) (row_in nexts i) (row_in second i) (row_in last i) (ordered_in rows i up) (ordered_in nexts i also) (falls i) (lower i))

said_at : (t : ℕ) (gs : List (Option Course)) (rows : List (Option Row)) → places_at t gs ≡ rows → (i : ℕ) → place_at t (course_in gs i) ≡ row_in rows i
said_at t gs rows is i = sym (looked_up t gs i) ∙ ap (λ xs. row_in xs i) is

-- after each round the rows are what their courses say
pub places_fall_on : (n t : ℕ) (rows nexts second last : List (Option Row)) (gs : List (Option Course)) → 0 < n → suc t ≤ n → length rows
    ≡ length gs → All Ordered rows → All (PlaceDeclines n) gs → PlacesFallOn n rows nexts second last → ((i : ℕ) → IsLower (row_in nexts i) (row_in rows i)) →
    places_at 0 gs ≡ nexts → places_at 1 gs ≡ second → places_at n gs ≡ last → places_after (suc t) rows nexts ≡ places_at t gs
places_fall_on n t rows nexts second last gs some le same up h falls lower is0 is1 isn =
    places_same (places_after (suc t) rows nexts) (places_at t gs) (length-after (suc t) rows nexts ∙ same ∙ sym (length-map gs (place_at t)))
    (λ i. row_in_after (suc t) rows nexts i
    ∙ place_falls_on n (row_in rows i) (row_in nexts i) (row_in second i) (row_in last i) (course_in gs i) some (ordered_in rows i up)
    (declines_in n gs i h) (falls i) (lower i) (said_at 0 gs nexts is0 i) (said_at 1 gs second is1 i) (said_at n gs last isn i) t le
    ∙ sym (looked_up t gs i))
