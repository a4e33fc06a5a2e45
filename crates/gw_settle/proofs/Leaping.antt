-- What comes of rounds and leaps.
use Rattle.std.proofs.Common.{◌≡◌, ◌≢◌, ◌⊎◌, inl, inr, ℕ, zero, suc, ◌+◌, ◌≤◌, ◌<◌, length, refl, sym, ap, subst, ◌∙◌, arith}
use Rattle.gw_object.specs.declared.parts.Parts.{Parts}
use Rattle.gw_settle.specs.declared.table.Change.{Change}
use Rattle.gw_settle.specs.declared.table.Change.TheVariants.{Same, Less, More}
use Rattle.gw_settle.specs.Rounds.{TableRows, round, change_in, AreReached}
use Rattle.gw_settle.specs.Keeps.{HasShape, IsWell, AreSound, absent}
use Rattle.gw_settle.specs.Jumps.{further, AreLater, rows_after, HasJumped, Advances}
use Rattle.gw_settle.proofs.Kept.{visited_sound}
use Rattle.gw_settle.proofs.Falling.{size, Falls, falls_to}
use Rattle.gw_settle.proofs.Reached.{reached_sound, reached_next}
use Rattle.gw_settle.proofs.Far.{after_sound}

-- REACHED

reached_further : (p : Parts) (n : ℕ) (rows : TableRows) → AreReached p rows → AreReached p (further p n rows)
reached_further p zero rows h = h
reached_further p (suc n) rows h = reached_next p (further p n rows) (further p (suc n) rows) (reached_further p n rows h) refl

-- what is later than reached rows is reached
pub reached_later : (p : Parts) (rows new : TableRows) → AreReached p rows → AreLater p rows new → AreReached p new
reached_later p rows new h later = subst (AreReached p) (sym later.1) (reached_further p later.0 rows h)

-- WHAT SINKS

-- more rows are there, or as many, and these may lose no more
abbrev Sinks : ℕ → TableRows → TableRows → Type 0
Sinks n s t = (absent t < absent s) ⊎ ((absent t ≡ absent s) × (size n t ≤ size n s))

sinks_on : (n : ℕ) (r s t : TableRows) → Sinks n r s → Sinks n s t → Sinks n r t
sinks_on n r s t (inl h) (inl g) = inl (omega (arith, h, g))
sinks_on n r s t (inl h) (inr g) = inl (omega (arith, h, g.0))
sinks_on n r s t (inr h) (inl g) = inl (omega (arith, h.0, g))
sinks_on n r s t (inr h) (inr g) = inr (g.0 ∙ h.0, omega (arith, h.1, g.1))

sinks_by : (n : ℕ) (change : Change) (s t : TableRows) → Falls n change s t → Sinks n s t
sinks_by n Same s t h = inr (ap absent h, omega (arith, ap (size n) h))
sinks_by n Less s t h = inr (h.0, omega (arith, h.1))
sinks_by n More s t h = inl h

further_sound : (p : Parts) (n : ℕ) (rows : TableRows) → IsWell p → AreSound p rows → AreSound p (further p n rows)
further_sound p zero rows well sound = sound
further_sound p (suc n) rows well sound = visited_sound p (length p.blocks) (further p n rows) well (further_sound p n rows well sound)

sinks_further : (p : Parts) (n : ℕ) (rows : TableRows) → IsWell p → AreSound p rows → Sinks (length p.blocks + 1) rows (further p n rows)
sinks_further p zero rows well sound = inr (refl, omega arith)
sinks_further p (suc n) rows well sound =
    let before = further p n rows in
    sinks_on (length p.blocks + 1) rows before (round p before)
    (sinks_further p n rows well sound)
    (sinks_by (length p.blocks + 1) (change_in p before) before (round p before) (falls_to p (length p.blocks) before well (further_sound p n rows well sound)))

later_smaller : (n : ℕ) (s t : TableRows) → Sinks n s t → absent t ≡ absent s → size n t ≤ size n s
later_smaller n s t (inl lt) same = absurd (omega (arith, lt, same))
later_smaller n s t (inr h) same = h.1

-- ONE ROUND

fell_by : (p : Parts) (rows : TableRows) (change : Change) → IsWell p → AreReached p rows → change_in p rows ≡ change
    → Falls (length p.blocks + 1) change rows (round p rows)
fell_by p rows change well reached is =
    subst (λ d. Falls (length p.blocks + 1) d rows (round p rows)) is (falls_to p (length p.blocks) rows well (reached_sound p rows well reached))

one_round : (p : Parts) (rows : TableRows) (change : Change) → IsWell p → AreReached p rows → change_in p rows ≡ change → Advances p change rows (round p rows)
one_round p rows Same well reached is = (is, refl)
one_round p rows Less well reached is = (is, record { later = (0, refl); absent = (fell_by p rows Less well reached is).0 })
one_round p rows More well reached is = ((1, refl), fell_by p rows More well reached is)

-- a round advances
pub advances_once : (p : Parts) (rows new : TableRows) (change : Change) → IsWell p → AreReached p rows → new ≡ round p rows → change
    ≡ change_in p rows → Advances p change rows new
advances_once p rows new change well reached is changes = subst (Advances p change rows) (sym is) (one_round p rows change well reached (sym changes))

absent_by : (p : Parts) (rows : TableRows) (change : Change) → IsWell p → AreReached p rows → change_in p rows ≡ change → change ≢ More
    → absent (round p rows) ≡ absent rows
absent_by p rows Same well reached is ne = ap absent (fell_by p rows Same well reached is)
absent_by p rows Less well reached is ne = (fell_by p rows Less well reached is).0
absent_by p rows More well reached is ne = absurd (ne refl)

-- TWO ROUNDS

module _ (p : Parts) (rows next second : TableRows) (well : IsWell p) (reached : AreReached p rows) (is_next : next ≡ round p rows)
    (less : change_in p rows ≡ Less) (is_second : second ≡ round p next) where
  next_reached : AreReached p next
  next_reached = reached_next p rows next reached is_next

  next_absent : absent next ≡ absent rows
  next_absent = ap absent is_next ∙ (fell_by p rows Less well reached less).0

  -- a second round adds a row
  pub advances_more : change_in p next ≡ More → Advances p More rows second
  advances_more more = (
    (2, is_second ∙ ap (round p) is_next),
    (let fell = fell_by p next More well next_reached more in let same = ap absent is_second in omega (arith, fell, same, next_absent)),
  )

  -- or it doesn't, and what comes then adds none
  pub advances_less : (change : Change) (new : TableRows) → change_in p next ≡ change → change ≢ More → HasJumped p next second new → Advances p Less rows new
  advances_less change new is ne h = (
    less,
    record {
      later = subst (λ r. AreLater p r new) is_next h.later;
      absent = h.absent ∙ ap absent is_second ∙ absent_by p next change well next_reached is ne ∙ next_absent;
    },
  )

-- where nothing is jumped over
pub jumps_none : (p : Parts) (next second : TableRows) → second ≡ round p next → HasJumped p next second second
jumps_none p next second is = record { later = (1, is); absent = refl }

-- WHAT ADVANCES

pub advance_reached : (p : Parts) (rows new : TableRows) → AreReached p rows → Advances p Less rows new → AreReached p new
advance_reached p rows new reached h = reached_later p (round p rows) new (reached_next p rows (round p rows) reached refl) h.1.later

pub advance_smaller : (p : Parts) (rows new : TableRows) → IsWell p → AreReached p rows → Advances p Less rows new
    → size (length p.blocks + 1) new < size (length p.blocks + 1) rows
advance_smaller p rows new well reached h =
    let fell = fell_by p rows Less well reached h.0 in
    let later = h.1.later in
    let next_reached = reached_next p rows (round p rows) reached refl in
    let sinks = subst (Sinks (length p.blocks + 1) (round p rows)) (sym later.1)
    (sinks_further p later.0 (round p rows) well (reached_sound p (round p rows) well next_reached)) in
    omega (arith, fell.1, later_smaller (length p.blocks + 1) (round p rows) new sinks (h.1.absent ∙ sym fell.0))

-- SHAPES

pub reached_shape : (p : Parts) (rows : TableRows) → IsWell p → AreReached p rows → HasShape p rows
reached_shape p rows well reached = (reached_sound p rows well reached).shape

pub next_shape : (p : Parts) (rows next : TableRows) → IsWell p → AreReached p rows → next ≡ round p rows → HasShape p next
next_shape p rows next well reached is = reached_shape p next well (reached_next p rows next reached is)

pub second_shape : (p : Parts) (rows next second : TableRows) → IsWell p → AreReached p rows → next ≡ round p rows → second ≡ round p next → HasShape p second
second_shape p rows next second well reached is after = next_shape p next second well (reached_next p rows next reached is) after

pub far_sound : (p : Parts) (n : ℕ) (rows next far : TableRows) → IsWell p → AreReached p rows → far ≡ rows_after n rows next → AreSound p far
far_sound p n rows next far well reached is = subst (AreSound p) (sym is) (after_sound p n rows next (reached_sound p rows well reached))

-- the round after a jump
pub last_shape : (p : Parts) (n : ℕ) (rows next far last : TableRows) → IsWell p → AreReached p rows → far ≡ rows_after n rows next → last
    ≡ round p far → HasShape p last
last_shape p n rows next far last well reached is after =
    subst (HasShape p) (sym after) (visited_sound p (length p.blocks) far well (far_sound p n rows next far well reached is)).shape
