-- Lines that are taken.
use Rattle.std.proofs.Common.{◌≡◌, ◌∙◌, ◌⊎◌, ◌++◌, ℕ, List, [], ◌∷◌, Result, Ok, Err, OnOk, Vec, true, refl, arith, sym, ap, subst, inl, inr}
use Rattle.std.specs.Prelude.{is_some}
use Rattle.std.specs.Global.{Global}
use Rattle.std.specs.List.{Contains}
use Rattle.std.proofs.lemmas.List.{append_assoc, append-nil, map-append}
use Rattle.std.proofs.lemmas.List.Elements.{Contains-append_left, Contains-append_right, Contains-append_cases, Contains-push_cases}
use Rattle.gw_summary.specs.Keeping.{OneMore, HaveSame, IsHeader, IsRefusal, IsTaken, Takes, kept_lines, lines_of, waiting_lines}
use Rattle.gw_summary.specs.declared.point.PointRows.{PointRows}
use Rattle.gw_summary.specs.declared.rows.Rows.{Rows}
use Rattle.gw_summary.specs.declared.rows.Waiting.{Waiting}

pub then_ok : {T E A B : Type 0} (r : Result T E) → (A → B) → OnOk r A → OnOk r B
then_ok (Ok x) f h = f h
then_ok (Err e) f h = tt

pub none_there : {A : Type 0} (line : List ℕ) → Contains [] line → A
none_there line h = absurd (omega (arith, h.1))

pub itself : (line : List ℕ) (rest : List (List ℕ)) → Contains (line ∷ rest) line
itself line rest = (0, omega arith, refl)

-- the one of one
pub only : (line t : List ℕ) → Contains (line ∷ []) t → line ≡ t
only line t h = by_cases (Contains-push_cases [] line t h)
  where
    by_cases : Contains [] t ⊎ (line ≡ t) → line ≡ t
    by_cases (inl none) = none_there t none
    by_cases (inr is) = is

-- what was taken stays taken
stays : (old new : Rows) → ((t : List ℕ) → Contains (kept_lines old) t → Contains (kept_lines new) t)
    → (is_some old.refused ≡ true → is_some new.refused ≡ true) → (t : List ℕ) → IsTaken old t → IsTaken new t
stays old new more told t (inl header) = inl header
stays old new more told t (inr (inl kept)) = inr (inl (more t kept))
stays old new more told t (inr (inr refusal)) = inr (inr (refusal.0, told refusal.1))

takes_one : (line : List ℕ) (old new : Rows) → ((t : List ℕ) → Contains (kept_lines new) t → Contains (kept_lines old) t ⊎ Contains (line ∷ []) t)
    → ((t : List ℕ) → Contains (kept_lines old) t → Contains (kept_lines new) t)
    → (is_some old.refused ≡ true → is_some new.refused ≡ true) → IsTaken new line → Takes (line ∷ []) old new
takes_one line old new from more told taken = record {
  from = from;
  stay = stays old new more told;
  each = λ t h. subst (λ l. IsTaken new l) (only line t h) taken;
}

-- what is among others and one more is among the others, or it is that one
one_of : (before after : List (List ℕ)) (line t : List ℕ) → Contains (before ++ line ∷ after) t → Contains (before ++ after) t ⊎ Contains (line ∷ []) t
one_of before after line t h = by_front (Contains-append_cases before (line ∷ after) t h)
  where
    by_rest : Contains (line ∷ []) t ⊎ Contains after t → Contains (before ++ after) t ⊎ Contains (line ∷ []) t
    by_rest (inl here) = inr here
    by_rest (inr rest) = inl (Contains-append_right before after t rest)

    by_front : Contains before t ⊎ Contains (line ∷ after) t → Contains (before ++ after) t ⊎ Contains (line ∷ []) t
    by_front (inl front) = inl (Contains-append_left before after t front)
    by_front (inr rest) = by_rest (Contains-append_cases (line ∷ []) after t rest)

one_stays : (before after : List (List ℕ)) (line t : List ℕ) → Contains (before ++ after) t → Contains (before ++ line ∷ after) t
one_stays before after line t h = by_front (Contains-append_cases before after t h)
  where
    by_front : Contains before t ⊎ Contains after t → Contains (before ++ line ∷ after) t
    by_front (inl front) = Contains-append_left before (line ∷ after) t front
    by_front (inr rest) = Contains-append_right before (line ∷ after) t (Contains-append_right (line ∷ []) after t rest)

pub takes_more : (line : List ℕ) (old new : Rows) → OneMore line (kept_lines old) (kept_lines new) → new.refused ≡ old.refused → Takes (line ∷ []) old new
takes_more line old new (before, after, is, now) refused =
    takes_one line old new
    (λ t h. subst (λ ls. Contains ls t ⊎ Contains (line ∷ []) t) (sym is) (one_of before after line t (subst (λ ls. Contains ls t) now h)))
    (λ t h. subst (λ ls. Contains ls t) (sym now) (one_stays before after line t (subst (λ ls. Contains ls t) is h)))
    (λ some. ap is_some refused ∙ some)
    (inr (inl (subst (λ ls. Contains ls line) (sym now)
    (Contains-append_right before (line ∷ after) line (Contains-append_left (line ∷ []) after line (itself line []))))))

-- where the lines are the same, and this one is taken
takes_as_is : (line : List ℕ) (old new : Rows) → kept_lines new ≡ kept_lines old → (is_some old.refused ≡ true → is_some new.refused ≡ true) →
    IsTaken new line
    → Takes (line ∷ []) old new
takes_as_is line old new same told taken =
    takes_one line old new (λ t h. inl (subst (λ ls. Contains ls t) same h)) (λ t h. subst (λ ls. Contains ls t) (sym same) h) told taken

pub takes_again : (line : List ℕ) (old new : Rows) → Contains (kept_lines old) line → kept_lines new ≡ kept_lines old → new.refused ≡ old.refused
    → Takes (line ∷ []) old new
takes_again line old new there same refused =
    takes_as_is line old new same (λ some. ap is_some refused ∙ some) (inr (inl (subst (λ ls. Contains ls line) (sym same) there)))

takes_refusal : (line : List ℕ) (old new : Rows) → IsRefusal line → kept_lines new ≡ kept_lines old → is_some new.refused ≡ true
    → Takes (line ∷ []) old new
takes_refusal line old new refusal same some = takes_as_is line old new same (λ was. some) (inr (inr (refusal, some)))

pub takes_header : (line : List ℕ) (old new : Rows) → IsHeader line → HaveSame old new → Takes (line ∷ []) old new
takes_header line old new header same = takes_as_is line old new same.0 (λ some. ap is_some same.1 ∙ some) (inl header)

-- nothing, and then lines
pub same_then : (lines : List (List ℕ)) (a b c : Rows) → HaveSame a b → Takes lines b c → Takes lines a c
same_then lines a b c same takes = record {
  from = λ t h. subst (λ ls. Contains ls t ⊎ Contains lines t) same.0 (takes.from t h);
  stay = λ t h. takes.stay t (stays a b (λ u k. subst (λ ls. Contains ls u) (sym same.0) k) (λ some. ap is_some same.1 ∙ some) t h);
  each = takes.each;
}

pub none_taken : (a : Rows) → Takes [] a a
none_taken a = record {
  from = λ t h. inl h;
  stay = λ t h. h;
  each = λ t h. none_there t h;
}

pub takes_then : (xs ys : List (List ℕ)) (a b c : Rows) → Takes xs a b → Takes ys b c → Takes (xs ++ ys) a c
takes_then xs ys a b c first second = record {
  from = λ t h. by_second t (second.from t h);
  stay = λ t h. second.stay t (first.stay t h);
  each = λ t h. by_lines t (Contains-append_cases xs ys t h);
}
  where
    by_first : (t : List ℕ) → Contains (kept_lines a) t ⊎ Contains xs t → Contains (kept_lines a) t ⊎ Contains (xs ++ ys) t
    by_first t (inl there) = inl there
    by_first t (inr one) = inr (Contains-append_left xs ys t one)

    by_second : (t : List ℕ) → Contains (kept_lines b) t ⊎ Contains ys t → Contains (kept_lines a) t ⊎ Contains (xs ++ ys) t
    by_second t (inl there) = by_first t (first.from t there)
    by_second t (inr one) = inr (Contains-append_right xs ys t one)

    by_lines : (t : List ℕ) → Contains xs t ⊎ Contains ys t → IsTaken c t
    by_lines t (inl one) = second.stay t (first.each t one)
    by_lines t (inr one) = second.each t one

-- those that waited
pub waited : (old middle new : Rows) → kept_lines middle ≡ lines_of old.points.items → middle.refused ≡ old.refused
    → Takes (waiting_lines old.waiting.items) middle new → Takes [] old new
waited old middle new same refused takes = record {
  from = λ t h. inl (by_from t (takes.from t h));
  stay = by_taken;
  each = λ t h. none_there t h;
}
  where
    by_from : (t : List ℕ) → Contains (kept_lines middle) t ⊎ Contains (waiting_lines old.waiting.items) t → Contains (kept_lines old) t
    by_from t (inl there) =
        Contains-append_left (lines_of old.points.items) (waiting_lines old.waiting.items) t (subst (λ ls. Contains ls t) same there)
    by_from t (inr one) = Contains-append_right (lines_of old.points.items) (waiting_lines old.waiting.items) t one

    by_kept : (t : List ℕ) → Contains (lines_of old.points.items) t ⊎ Contains (waiting_lines old.waiting.items) t → IsTaken new t
    by_kept t (inl there) = takes.stay t (inr (inl (subst (λ ls. Contains ls t) (sym same) there)))
    by_kept t (inr one) = takes.each t one

    by_taken : (t : List ℕ) → IsTaken old t → IsTaken new t
    by_taken t (inl header) = inl header
    by_taken t (inr (inl kept)) = by_kept t (Contains-append_cases (lines_of old.points.items) (waiting_lines old.waiting.items) t kept)
    by_taken t (inr (inr refusal)) = takes.stay t (inr (inr (refusal.0, ap is_some refused ∙ refusal.1)))

-- one more that waits
pub takes_pushed : (line : List ℕ) (old new : Rows) (one : Waiting) → new.waiting.items ≡ old.waiting.items ++ one ∷ [] → one.line.items ≡ line
    → new.points ≡ old.points → new.refused ≡ old.refused → Takes (line ∷ []) old new
takes_pushed line old new one pushed is points refused =
    let front = lines_of old.points.items in
    let waiting = waiting_lines old.waiting.items in
    let now : waiting_lines new.waiting.items ≡ waiting ++ line ∷ [] =
    ap waiting_lines pushed ∙ map-append (λ (w : Waiting). w.line.items) old.waiting.items (one ∷ []) ∙ ap (λ l. waiting ++ l ∷ []) is in
    takes_more line old new (
      front ++ waiting,
      [],
      sym (append-nil (front ++ waiting)),
      ap (λ (ps : Vec PointRows Global). lines_of ps.items ++ waiting_lines new.waiting.items) points
          ∙ ap (λ ls. front ++ ls) now ∙ sym (append_assoc front waiting (line ∷ [])),
    ) refused

-- a refusal is added
pub refusal_added : {T E : Type 0} (r : Result T E) (line : List ℕ) (old new : Rows) → IsRefusal line → OnOk r (kept_lines new ≡ kept_lines old)
    → OnOk r (is_some new.refused ≡ true) → OnOk r (Takes (line ∷ []) old new)
refusal_added (Ok x) line old new refusal same some = takes_refusal line old new refusal same some
refusal_added (Err e) line old new refusal same some = tt
