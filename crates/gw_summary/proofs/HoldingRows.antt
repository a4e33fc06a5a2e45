-- Rows that hold nothing but lines of one study.
use Rattle.std.proofs.Common.{◌≡◌, ◌∙◌, ◌⊎◌, ◌<◌, ◌≤◌, ◌++◌, ℕ, zero, suc, ◌+◌, List, [], ◌∷◌, length, Option, Some, Vec, true, false}
use Rattle.std.proofs.Common.{Result, Ok, Err, IfSome, eq-eqb, refl, arith, sym, ap, subst, inl, inr}
use Rattle.std.specs.Prelude.{◌≢◌, ◌==◌, is_some, slice_get, vec_len}
use Rattle.std.specs.Global.{Global}
use Rattle.std.specs.List.{All, insert}
use Rattle.std.specs.Str.{bytes_eq}
use Rattle.std.proofs.lemmas.Bool.{true≢false}
use Rattle.std.proofs.lemmas.List.Elements.{All-cons, All-nil, All-push}
use Rattle.std.proofs.lemmas.Slice.Eq.{bytes_eq-Decides}
use Rattle.gw_figures.specs.Labels.{labels}
use Rattle.gw_figures.specs.declared.figure.Figure.{Figure}
use Rattle.gw_summary.specs.Holding.{is_called, AddsPoint, AwaitRows, BeginsWith, HasNoPointOf, HoldsAtPlace, HoldsAtPoints, IsBegun, IsHeaderRead}
use Rattle.gw_summary.specs.Holding.{StaysHeld, Succeeds}
use Rattle.gw_summary.specs.StudyRows.{StudyRuns, HasHeaderOf, HoldsMore, HoldsOnly, HoldsRows, IsHeaderIn, IsHeld, IsOfStudy, IsReadableStudy}
use Rattle.gw_summary.specs.StudyRows.{IsRowOfRun, IsSettled, IsSomeRow}
use Rattle.gw_summary.specs.declared.point.PointRows.{PointRows}
use Rattle.gw_summary.specs.declared.rows.Rows.{Rows}
use Rattle.gw_summary.specs.declared.rows.Waiting.{Waiting}
use Rattle.gw_summary.specs.declared.rows.Wrong.{Wrong}
use Rattle.gw_summary.specs.declared.rows.Wrong.TheVariants.{Fault, Memory}
use Rattle.gw_summary.specs.declared.study.Study.{Study}

-- WHERE NOTHING IS REFUSED

pub memory_ran_out : {X : Type 0} (r : Result X Wrong) (P : X → Type 0) (wrong : Wrong) → r ≡ Err wrong → wrong ≡ Memory → Succeeds r P
memory_ran_out (Ok x) P wrong is which = absurd cc
memory_ran_out (Err Memory) P wrong is which = tt
memory_ran_out (Err (Fault why)) P wrong is which = absurd cc

-- a fault that is passed on
pub passed_on : {X Y : Type 0} (r : Result X Wrong) (P : X → Type 0) (wrong other : Wrong) (Q : Y → Type 0) → r ≡ Err wrong → wrong ≡ other
    → Succeeds {X = Y} (Err other) Q → Succeeds r P
passed_on r P wrong Memory Q is same well = memory_ran_out r P wrong is same
passed_on r P wrong (Fault why) Q is same well = absurd well

pub then_well : {X : Type 0} (r : Result X Wrong) (P Q : X → Type 0) → ((x : X) → P x → Q x) → Succeeds r P → Succeeds r Q
then_well (Ok x) P Q f well = f x well
then_well (Err Memory) P Q f well = tt
then_well (Err (Fault why)) P Q f well = well

-- PARTS OF ROWS

-- rows have the same header, figures and points, the same lines wait, and they have the same in common
pub record HaveSameParts (old new : Rows) : Type 0 where
  pub header : new.header ≡ old.header
  pub figures : new.figures ≡ old.figures
  pub waiting : new.waiting ≡ old.waiting
  pub study : new.study ≡ old.study
  pub refused : new.refused ≡ old.refused
  pub points : new.points ≡ old.points

module _ (s : StudyRuns) (old new : Rows) where
  pub has_header : new.header ≡ old.header → new.figures ≡ old.figures → HasHeaderOf s old → HasHeaderOf s new
  has_header same figures has = record {
    text = subst (λ (v : Vec ℕ Global). IsHeaderIn s v.items) (sym same) has.text;
    figures = ap (λ (v : Vec Figure Global). labels v.items) figures ∙ has.figures;
  }

  pub header_by : new.header ≡ old.header → new.figures ≡ old.figures → (old.header.items ≡ []) ⊎ HasHeaderOf s old
      → (new.header.items ≡ []) ⊎ HasHeaderOf s new
  header_by same figures (inl none) = inl (ap (λ (v : Vec ℕ Global). v.items) same ∙ none)
  header_by same figures (inr has) = inr (has_header same figures has)

  -- with other points
  pub holds_points : new.header ≡ old.header → new.figures ≡ old.figures → new.waiting ≡ old.waiting → new.study ≡ old.study
      → new.refused ≡ old.refused → All (HoldsRows s) new.points.items → length new.points.items ≤ 1 → HoldsOnly s old → HoldsOnly s new
  holds_points header figures waiting study refused points one holds = record {
    header = header_by header figures holds.header;
    waiting = subst (λ (v : Vec Waiting Global). All (λ w. IsSomeRow s w.line.items) v.items) (sym waiting) holds.waiting;
    study = subst (λ (o : Option Study). IfSome o (IsOfStudy s)) (sym study) holds.study;
    refused = refused ∙ holds.refused;
    points = points;
    one = one;
  }

  pub holds_by : HaveSameParts old new → HoldsOnly s old → HoldsOnly s new
  holds_by same holds =
      holds_points same.header same.figures same.waiting same.study same.refused
      (subst (λ (v : Vec PointRows Global). All (HoldsRows s) v.items) (sym same.points) holds.points)
      (subst (λ (v : Vec PointRows Global). length v.items ≤ 1) (sym same.points) holds.one) holds

settled_by : (old new : Rows) → HaveSameParts old new → IsSettled old → IsSettled new
settled_by old new same settled = record { waits = by_waits settled.waits; begun = by_begun settled.begun }
  where
    by_waits : (old.header.items ≡ []) ⊎ (old.waiting.items ≡ []) → (new.header.items ≡ []) ⊎ (new.waiting.items ≡ [])
    by_waits (inl none) = inl (ap (λ (v : Vec ℕ Global). v.items) same.header ∙ none)
    by_waits (inr none) = inr (ap (λ (v : Vec Waiting Global). v.items) same.waiting ∙ none)

    by_begun : (old.points.items ≡ []) ⊎ (is_some old.study ≡ true) → (new.points.items ≡ []) ⊎ (is_some new.study ≡ true)
    by_begun (inl none) = inl (ap (λ (v : Vec PointRows Global). v.items) same.points ∙ none)
    by_begun (inr some) = inr (ap (λ (o : Option Study). is_some o) same.study ∙ some)

pub held_by : (s : StudyRuns) (old new : Rows) → HaveSameParts old new → IsHeld s old → IsHeld s new
held_by s old new same held = record { holds = holds_by s old new same held.holds; settled = settled_by old new same held.settled }

pub has_its_header : (s : StudyRuns) (rows : Rows) → (rows.header.items ≢ []) → HoldsOnly s rows → HasHeaderOf s rows
has_its_header s rows some holds = by_header holds.header
  where
    by_header : (rows.header.items ≡ []) ⊎ HasHeaderOf s rows → HasHeaderOf s rows
    by_header (inl none) = absurd (some none)
    by_header (inr has) = has

-- ONE LINE AFTER ANOTHER

pub stays_then : (s : StudyRuns) (a b c d : Rows) → StaysHeld s a b → c.header ≡ b.header → StaysHeld s c d → StaysHeld s a d
stays_then s a b c d first same second = record {
  held = second.held;
  header = second.header ∙ ap (λ (v : Vec ℕ Global). v.items) same ∙ first.header;
}

-- one more line waits
pub one_waits : (s : StudyRuns) (line : List ℕ) (old new : Rows) (w : Waiting) → new.waiting.items ≡ old.waiting.items ++ w ∷ [] → w.line.items ≡ line
    → new ≡ record old { waiting = new.waiting } → IsSomeRow s line → old.header.items ≡ [] → IsHeld s old → StaysHeld s old new
one_waits s line old new w pushed is others row none held = record {
  held = record {
    holds = record {
      header = header_by s old new header (ap (λ (r : Rows). r.figures) others) held.holds.header;
      waiting = subst (λ ws. All (λ x. IsSomeRow s x.line.items) ws) (sym pushed)
          (All-push (λ x. IsSomeRow s x.line.items) old.waiting.items w held.holds.waiting (subst (IsSomeRow s) (sym is) row));
      study = subst (λ (r : Rows). IfSome r.study (IsOfStudy s)) (sym others) held.holds.study;
      refused = ap (λ (r : Rows). r.refused) others ∙ held.holds.refused;
      points = subst (λ (r : Rows). All (HoldsRows s) r.points.items) (sym others) held.holds.points;
      one = subst (λ (r : Rows). length r.points.items ≤ 1) (sym others) held.holds.one;
    };
    settled = record {
      waits = inl (ap (λ (v : Vec ℕ Global). v.items) header ∙ none);
      begun = subst (λ (r : Rows). (r.points.items ≡ []) ⊎ (is_some r.study ≡ true)) (sym others) held.settled.begun;
    };
  };
  header = ap (λ (v : Vec ℕ Global). v.items) header;
}
  where
    header : new.header ≡ old.header
    header = ap (λ (r : Rows). r.header) others

-- all that waited are taken out
pub waiting_taken : (s : StudyRuns) (old new : Rows) → new.waiting.items ≡ [] → new ≡ record old { waiting = new.waiting } → IsBegun old
    → HoldsOnly s old → IsHeld s new
waiting_taken s old new none others begun holds = record {
  holds = record {
    header = header_by s old new (ap (λ (r : Rows). r.header) others) (ap (λ (r : Rows). r.figures) others) holds.header;
    waiting = subst (λ ws. All (λ x. IsSomeRow s x.line.items) ws) (sym none) (All-nil (λ (x : Waiting). IsSomeRow s x.line.items));
    study = subst (λ (r : Rows). IfSome r.study (IsOfStudy s)) (sym others) holds.study;
    refused = ap (λ (r : Rows). r.refused) others ∙ holds.refused;
    points = subst (λ (r : Rows). All (HoldsRows s) r.points.items) (sym others) holds.points;
    one = subst (λ (r : Rows). length r.points.items ≤ 1) (sym others) holds.one;
  };
  settled = record {
    waits = inr none;
    begun = subst (λ (r : Rows). (r.points.items ≡ []) ⊎ (is_some r.study ≡ true)) (sym others) begun;
  };
}

-- POINTS

called_so : (s : StudyRuns) (p : PointRows) (name : List ℕ) → name ≡ [] → HoldsRows s p → bytes_eq p.name.items name ≡ true
called_so s p name none holds = (bytes_eq-Decides p.name.items name).1 (holds.name ∙ sym none)

-- where none is called so, there is none
pub no_points : (s : StudyRuns) (name : List ℕ) (points : List PointRows) → name ≡ [] → HasNoPointOf name points → All (HoldsRows s) points → points ≡ []
no_points s name [] none other holds = refl
no_points s name (p ∷ points) none other holds = absurd (true≢false (sym (called_so s p name none (holds 0 p (omega arith))) ∙ other 0))

-- the first
pub point_added : (s : StudyRuns) (name : List ℕ) (old new : Rows) → name ≡ [] → old.points.items ≡ [] → AddsPoint name old new → HoldsOnly s old
    → HoldsAtPoints s old new
point_added s name old new empty none adds holds = record {
  holds = holds_points s old new (ap (λ (r : Rows). r.header) adds.others) (ap (λ (r : Rows). r.figures) adds.others)
      (ap (λ (r : Rows). r.waiting) adds.others) (ap (λ (r : Rows). r.study) adds.others) (ap (λ (r : Rows). r.refused) adds.others)
      (subst (All (HoldsRows s)) (sym one) (All-cons (HoldsRows s) adds.point [] point (All-nil (HoldsRows s))))
      (subst (λ (ps : List PointRows). length ps ≤ 1) (sym one) (omega arith)) holds;
  others = adds.others;
}
  where
    at_first : (place : ℕ) (p : PointRows) → insert [] place p ≡ p ∷ []
    at_first zero p = refl
    at_first (suc place) p = refl

    one : new.points.items ≡ adds.point ∷ []
    one = adds.points ∙ ap (λ ps. insert ps adds.place adds.point) none ∙ at_first adds.place adds.point

    point : HoldsRows s adds.point
    point = record {
      name = adds.name_is ∙ empty;
      lines = λ n l h. none_at n l (subst (λ ls. slice_get ls n ≡ Some (Some l)) adds.none h);
      few = subst (λ ls. length ls ≤ s.first + length s.runs) (sym adds.none) (omega arith);
    }
      where
        none_at : (n : ℕ) (l : Vec ℕ Global) → slice_get [] n ≡ Some (Some l) → IsRowOfRun s n l.items
        none_at zero l h = absurd cc
        none_at (suc n) l h = absurd cc

-- WHAT ROWS HAVE IN COMMON

pub study_begun : (s : StudyRuns) (old new : Rows) → new ≡ record old { study = new.study } → IfSome new.study (IsOfStudy s) → HoldsOnly s old
    → HoldsOnly s new
study_begun s old new others study holds = record {
  header = header_by s old new (ap (λ (r : Rows). r.header) others) (ap (λ (r : Rows). r.figures) others) holds.header;
  waiting = subst (λ (r : Rows). All (λ w. IsSomeRow s w.line.items) r.waiting.items) (sym others) holds.waiting;
  study = study;
  refused = ap (λ (r : Rows). r.refused) others ∙ holds.refused;
  points = subst (λ (r : Rows). All (HoldsRows s) r.points.items) (sym others) holds.points;
  one = subst (λ (r : Rows). length r.points.items ≤ 1) (sym others) holds.one;
}

-- a point, what rows have in common, and a row at the point
pub row_added : (s : StudyRuns) (old placed begun new : Rows) → placed ≡ record old { points = placed.points }
    → begun ≡ record placed { study = begun.study } → is_some begun.study ≡ true → HoldsAtPlace s begun new → IsHeld s old → StaysHeld s old new
row_added s old placed begun new first second some third held = record {
  held = record {
    holds = third.holds;
    settled = record {
      waits = by_waits held.settled.waits;
      begun = inr (ap (λ (r : Rows). is_some r.study) third.others ∙ some);
    };
  };
  header = ap (λ (v : Vec ℕ Global). v.items) header;
}
  where
    header : new.header ≡ old.header
    header = ap (λ (r : Rows). r.header) third.others ∙ ap (λ (r : Rows). r.header) second ∙ ap (λ (r : Rows). r.header) first

    waiting : new.waiting ≡ old.waiting
    waiting = ap (λ (r : Rows). r.waiting) third.others ∙ ap (λ (r : Rows). r.waiting) second ∙ ap (λ (r : Rows). r.waiting) first

    by_waits : (old.header.items ≡ []) ⊎ (old.waiting.items ≡ []) → (new.header.items ≡ []) ⊎ (new.waiting.items ≡ [])
    by_waits (inl none) = inl (ap (λ (v : Vec ℕ Global). v.items) header ∙ none)
    by_waits (inr none) = inr (ap (λ (v : Vec Waiting Global). v.items) waiting ∙ none)

-- THE HEADER

-- a header that is read
pub header_begun : (s : StudyRuns) (line : List ℕ) (figures : Vec Figure Global) (old new : Rows) → labels figures.items ≡ s.labels
    → BeginsWith line figures old new → IsHeaderIn s line → IsHeaderRead s line old new
header_begun s line figures old new same begins is = record {
  line_is = is;
  has = record {
    text = subst (IsHeaderIn s) (sym begins.header) is;
    figures = ap (λ (r : Rows). labels r.figures.items) begins.others ∙ same;
  };
  others = begins.others ∙ ap (λ (f : Vec Figure Global). record old { header = new.header; figures = f }) (sym (ap (λ (r : Rows). r.figures) begins.others));
}

-- rows that hold nothing else hold a header too
pub holds_header : (s : StudyRuns) (line : List ℕ) (old new : Rows) → IsHeaderRead s line old new → HoldsOnly s old → HoldsOnly s new
holds_header s line old new read holds = record {
  header = inr read.has;
  waiting = subst (λ (r : Rows). All (λ w. IsSomeRow s w.line.items) r.waiting.items) (sym read.others) holds.waiting;
  study = subst (λ (r : Rows). IfSome r.study (IsOfStudy s)) (sym read.others) holds.study;
  refused = ap (λ (r : Rows). r.refused) read.others ∙ holds.refused;
  points = subst (λ (r : Rows). All (HoldsRows s) r.points.items) (sym read.others) holds.points;
  one = subst (λ (r : Rows). length r.points.items ≤ 1) (sym read.others) holds.one;
}

pub begun_by : (old new : Rows) → new.points ≡ old.points → new.study ≡ old.study → IsBegun old → IsBegun new
begun_by old new points study (inl none) = inl (ap (λ (v : Vec PointRows Global). v.items) points ∙ none)
begun_by old new points study (inr some) = inr (ap (λ (o : Option Study). is_some o) study ∙ some)

-- THE PLACE OF A POINT

-- where no point before a place is called so, and there is none behind it, none is
pub none_called : (name : List ℕ) (points : List PointRows) (n : ℕ) → length points ≤ n
    → ((k : ℕ) → k < n → is_called (slice_get points k) name ≡ false) → HasNoPointOf name points
none_called name [] n few other place = refl
none_called name (p ∷ points) n few other zero = other 0 (omega (arith, few))
none_called name (p ∷ points) zero few other (suc place) = absurd (omega (arith, few))
none_called name (p ∷ points) (suc n) few other (suc place) =
    none_called name points n (omega (arith, few)) (λ k less. other (suc k) (omega (arith, less))) place

-- LINES THAT WAITED

-- so far, rows hold nothing but lines of a study
abbrev pub HoldsOn : StudyRuns → List Waiting → Rows → Rows → Type 0
HoldsOn s waiting old now = IsReadableStudy s → AwaitRows s waiting old → StaysHeld s old now

pub stays_so_far : (s : StudyRuns) (waiting : List Waiting) (first now middle new : Rows) → HoldsOn s waiting first now
    → HaveSameParts now middle
    → (IsReadableStudy s → AwaitRows s waiting first → (middle.header.items ≢ []) → IsHeld s middle → StaysHeld s middle new)
    → HoldsOn s waiting first new
stays_so_far s waiting first now middle new so_far same added readable await =
    let held = so_far readable await in
    let header : middle.header.items ≡ first.header.items = ap (λ (v : Vec ℕ Global). v.items) same.header ∙ held.header in
    stays_then s first now middle new held same.header
    (added readable await (λ none. await.header (sym header ∙ none)) (held_by s now middle same held.held))

-- A LINE

pub more_by : (s : StudyRuns) (line : List ℕ) (old middle new : Rows) → middle.header ≡ old.header → HoldsMore s line middle new → HoldsMore s line old new
more_by s line old middle new same more = record {
  held = more.held;
  header = more.header;
  stays = λ some. more.stays (λ none. some (ap (λ (v : Vec ℕ Global). v.items) (sym same) ∙ none));
}

-- behind the header
pub header_then : (s : StudyRuns) (line : List ℕ) (old middle new : Rows) → (middle.header.items ≢ []) → StaysHeld s middle new → HoldsMore s line old new
header_then s line old middle new some stays = record {
  held = stays.held;
  header = λ is none. some (sym stays.header ∙ none);
  stays = λ was none. some (sym stays.header ∙ none);
}

-- a row
pub row_then : (s : StudyRuns) (line : List ℕ) (old middle new : Rows) → ¬ IsHeaderIn s line → middle ≡ old → StaysHeld s middle new
    → HoldsMore s line old new
row_then s line old middle new other same stays = record {
  held = stays.held;
  header = λ is. absurd (other is);
  stays = λ some none. some (ap (λ (r : Rows). r.header.items) (sym same) ∙ sym stays.header ∙ none);
}

pub adds_point : (name : List ℕ) (old new : Rows) (place : ℕ) (point : PointRows) → place ≤ length old.points.items
    → new.points.items ≡ insert old.points.items place point → point.name.items ≡ name → point.lines.items ≡ []
    → new ≡ record old { points = new.points } → AddsPoint name old new
adds_point name old new place point within points name_is none others = record {
  place = place;
  within = within;
  point = point;
  points = points;
  name_is = name_is;
  none = none;
  others = others;
}

pub some_by_test : (v : Vec ℕ Global) → false ≡ (vec_len v == 0) → (v.items ≢ [])
some_by_test v test none =
    let zero : vec_len v ≡ 0 = omega (arith, v.ok.0, ap length none) in
    true≢false (sym (eq-eqb (vec_len v) 0 zero) ∙ sym test)
