-- Points that hold nothing but lines of one study.
use Rattle.std.proofs.Common.{◌≡◌, ◌∙◌, ◌⊎◌, ◌≤◌, ◌+◌, ◌++◌, ℕ, zero, suc, List, [], ◌∷◌, length, set, Some, None, Vec, Bool, true, false, cond}
use Rattle.std.proofs.Common.{refl, arith, sym, ap, subst, inl, inr}
use Rattle.std.specs.Prelude.{◌≢◌, max, slice_get}
use Rattle.std.specs.Global.{Global}
use Rattle.std.specs.Str.{bytes_eq}
use Rattle.std.proofs.Math.ListN.{length-set}
use Rattle.std.proofs.lemmas.List.{same_from_push}
use Rattle.std.proofs.lemmas.Slice.Eq.{bytes_eq-Decides}
use Rattle.gw_figures.specs.declared.run.Run.{Run}
use Rattle.gw_rows.specs.Rows.{row}
use Rattle.gw_summary.specs.Adding.{Line, Place, addition_to}
use Rattle.gw_summary.specs.Holding.{HasNoOtherLines, HasNoOthersBut}
use Rattle.gw_summary.specs.StudyRows.{StudyRuns, IsRowOfRun}
use Rattle.gw_summary.specs.declared.point.Adding.TheVariants.{Again, Unlike}

-- PLACES

-- one place more without a line has none
pub known_pushed : (xs : List Line) (n : ℕ) (l : Vec ℕ Global) → slice_get (xs ++ None ∷ []) n ≡ Some (Some l) → slice_get xs n ≡ Some (Some l)
known_pushed [] zero l h = absurd cc
known_pushed [] (suc n) l h = h
known_pushed (x ∷ xs) zero l h = h
known_pushed (x ∷ xs) (suc n) l h = known_pushed xs n l h

-- a line that is put at a place stands there, and the others where they were
known_set : (xs : List Line) (place : ℕ) (line : Vec ℕ Global) (n : ℕ) (l : Vec ℕ Global) → slice_get (set xs place (Some line)) n ≡ Some (Some l)
    → (slice_get xs n ≡ Some (Some l)) ⊎ ((n ≡ place) × (l ≡ line))
known_set [] zero line n l h = inl h
known_set [] (suc place) line n l h = inl h
known_set (x ∷ xs) zero line zero l h =
    let same : l ≡ line = cc in
    inr (refl, same)
known_set (x ∷ xs) zero line (suc n) l h = inl h
known_set (x ∷ xs) (suc place) line zero l h = inl h
known_set (x ∷ xs) (suc place) line (suc n) l h = by_place (known_set xs place line n l h)
  where
    by_place : (slice_get xs n ≡ Some (Some l)) ⊎ ((n ≡ place) × (l ≡ line)) → (slice_get xs n ≡ Some (Some l)) ⊎ ((suc n ≡ suc place) × (l ≡ line))
    by_place (inl known) = inl known
    by_place (inr (is, same)) = inr (ap suc is, same)

pub no_others_but : (number : ℕ) (line : List ℕ) (copy : Vec ℕ Global) (old filled new : List Line) → copy.items ≡ line → HasNoOtherLines filled old
    → new ≡ set filled number (Some copy) → HasNoOthersBut number line new old
no_others_but number line copy old filled new is known made =
    λ n l h. by_place n l (known_set filled number copy n l (subst (λ ls. slice_get ls n ≡ Some (Some l)) made h))
  where
    by_place : (n : ℕ) (l : Vec ℕ Global) → (slice_get filled n ≡ Some (Some l)) ⊎ ((n ≡ number) × (l ≡ copy))
        → (slice_get old n ≡ Some (Some l)) ⊎ ((n ≡ number) × (l.items ≡ line))
    by_place n l (inl there) = inl (known n l there)
    by_place n l (inr (at, same)) = inr (at, ap (λ (v : Vec ℕ Global). v.items) same ∙ is)

pub few_places : (number end : ℕ) (copy : Vec ℕ Global) (old filled new : List Line) → length filled ≤ max (length old) end
    → new ≡ set filled number (Some copy) → length new ≤ max (length old) end
few_places number end copy old filled new few made =
    let same : length new ≡ length filled = ap length made ∙ length-set filled number (Some copy) in
    subst (λ n. n ≤ max (length old) end) (sym same) few

-- RUNS

some_same : (a b : Run) → Some a ≡ Some b → a ≡ b
some_same a b h = cc

-- the rows of one run are one
pub same_line : (s : StudyRuns) (number : ℕ) (a b : List ℕ) → IsRowOfRun s number a → IsRowOfRun s number b → a ≡ b
same_line s number a b one other =
    let at : one.place ≡ other.place = omega (arith, one.number_is, other.number_is) in
    let run = some_same one.run other.run (sym one.at ∙ ap (λ n. slice_get s.runs n) at ∙ other.at) in
    let text = ap (λ n. row s.labels s.source (s.first + n) one.run) at ∙ ap (λ r. row s.labels s.source (s.first + other.place) r) run in
    (same_from_push a b 10 10 (sym one.row_is ∙ text ∙ other.row_is)).0

-- A POINT

-- a row of a run isn't unlike another of it
pub never_unlike : (s : StudyRuns) (number : ℕ) (line : List ℕ) (place : Place)
    → ((known : Vec ℕ Global) → place ≡ Some (Some known) → IsRowOfRun s number known.items) → IsRowOfRun s number line
    → (addition_to place line ≢ Unlike)
never_unlike s number line None holds is other = absurd cc
never_unlike s number line (Some None) holds is other = absurd cc
never_unlike s number line (Some (Some known)) holds is other =
    let same = (bytes_eq-Decides known.items line).1 (same_line s number known.items line (holds known refl) is) in
    by_test (bytes_eq known.items line) same other
  where
    by_test : (b : Bool) → b ≡ true → cond b Again Unlike ≡ Unlike → ⊥
    by_test true same other = absurd cc
    by_test false same other = absurd cc
