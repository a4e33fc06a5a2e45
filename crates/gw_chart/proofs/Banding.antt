-- The least and the greatest of what stands, as a run goes on.
use Rattle.std.proofs.Common.{◌≡◌, ◌<◌, ◌+◌, ℕ, zero, suc, ℤ, ◌≤ℤ◌, ◌<ℤ◌, Bool, true, false, cond, List, [], ◌∷◌, length, map, arith, refl, sym, ap}
use Rattle.std.proofs.Common.{◌∙◌, subst, inl, inr}
use Rattle.std.specs.Prelude.{int_lt}
use Rattle.std.specs.Int.{int_min, int_max}
use Rattle.std.proofs.lemmas.Int.{ints, by_lt_z, int_min_is, int_max_is}
use Rattle.std.proofs.lemmas.Bool.{cases_lt}
use Rattle.std.proofs.lemmas.List.{length-map}
use Rattle.gw_object.specs.declared.parts.Entity.{Entity}
use Rattle.gw_step.specs.State.{State}
use Rattle.gw_step.specs.Job.{Job, Alone}
use Rattle.gw_answers.specs.Running.{AreStillAt, IsStillAt, IsOver}
use Rattle.gw_answers.proofs.Lasting.{still_on, still_later}
use Rattle.gw_chart.specs.declared.bands.Band.{Band}
use Rattle.gw_chart.specs.Contents.{contents_from, value_in}
use Rattle.gw_chart.specs.Bands.{band_of, band_in, widen, widened_from}
use Rattle.gw_chart.specs.Samples.{StoodAt, HasStood, IsBand, AreBands}
use Rattle.gw_chart.specs.Looks.{HasLooked}

-- WHAT STOOD

-- what is over at a time isn't still there
not_both : (time : ℤ) (s : State) → IsOver time s → IsStillAt time s → ⊥
not_both time s (inl final) still = let none = rw still.runs at final in cc
not_both time s (inr past) still = omega (arith, ints, past, still.clock)

-- at one time one row stood
pub stood_once : (j : Job) (time : ℤ) (a b : List ℤ) → StoodAt j time a → StoodAt j time b → a ≡ b
stood_once j time a b x y =
    elim (cases_lt x.steps y.steps) as (λ _. a ≡ b) [
      | inl less ↦ absurd (not_both time x.state x.over (y.first x.steps x.state (omega arith) less x.alone))
      | inr not_less ↦ elim (cases_lt y.steps x.steps) as (λ _. a ≡ b) [
        | inl more ↦ absurd (not_both time y.state y.over (x.first y.steps y.state (omega arith) more y.alone))
        | inr not_more ↦
            let steps : x.steps ≡ y.steps = omega (arith, not_less, not_more) in
            x.contents ∙ ap (λ (s : State). contents_from s 0 j.parts.entities)
            (one_state j x.steps y.steps x.state y.state steps x.alone y.alone) ∙ sym y.contents
      ]
    ]
  where
    one_state : (j : Job) (m n : ℕ) (s t : State) → m ≡ n → Alone j m s → Alone j n t → s ≡ t
    one_state j m n s t e h k = let there : Alone j n s = subst (λ (i : ℕ). Alone j i s) e h in cc

-- what stood at a time stood later, where its state is over then too
pub stood_later : (j : Job) (time later : ℤ) (row : List ℤ) (h : StoodAt j time row) → time ≤ℤ later → IsOver later h.state → StoodAt j later row
stood_later j time later row h order over =
    record {
      steps = h.steps;
      state = h.state;
      alone = h.alone;
      over = over;
      first = still_later j time later 0 h.steps order h.first;
      contents = h.contents;
    }

-- BANDS

-- one of two
least_of : (P : ℤ → Type 0) (x y : ℤ) → P x → P y → P (int_min x y)
least_of P x y h k = by (int_lt y x)
  where
    by : (t : Bool) → P (cond t y x)
    by true = k
    by false = h

greatest_of : (P : ℤ → Type 0) (x y : ℤ) → P x → P y → P (int_max x y)
greatest_of P x y h k = by (int_lt y x)
  where
    by : (t : Bool) → P (cond t x y)
    by true = h
    by false = k

-- what stood up to a time stood up to a later one
stood_within : (j : Job) (from to later : ℤ) (e : ℕ) (value : ℤ) → to ≤ℤ later → HasStood j from to e value → HasStood j from later e value
stood_within j from to later e value order h =
    record {
      time = h.time;
      least = h.least;
      most = omega (arith, ints, h.most, order);
      row = h.row;
      stood = h.stood;
      value_is = h.value_is;
    }

-- that of one time
pub band_begun : (j : Job) (time : ℤ) (e : ℕ) (row : List ℤ) → StoodAt j time row → IsBand j time time e (band_of (value_in row e))
band_begun j time e row h =
    record {
      covered = λ value k.
          let there : k.time ≡ time = omega (arith, ints, k.least, k.most) in
          let same : k.row ≡ row = stood_once j time k.row row (subst (λ t. StoodAt j t k.row) there k.stood) h in
          let is : value_in row e ≡ value = ap (λ r. value_in r e) (sym same) ∙ k.value_is in
          subst (λ v. (value_in row e ≤ℤ v) × (v ≤ℤ value_in row e)) is (omega (arith, ints), omega (arith, ints));
      least = here;
      greatest = here;
    }
  where
    here : HasStood j time time e (value_in row e)
    here = record { time = time; least = omega (arith, ints); most = omega (arith, ints); row = row; stood = h; value_is = refl }

-- it lasts while what stands doesn't change
pub band_lasts : (j : Job) (from time later : ℤ) (e : ℕ) (band : Band) (row : List ℤ) → from ≤ℤ time → time ≤ℤ later → StoodAt j time row
    → ((t : ℤ) → time ≤ℤ t → t ≤ℤ later → StoodAt j t row) → IsBand j from time e band → IsBand j from later e band
band_lasts j from time later e band row begun order here lasting h =
    record {
      covered = λ value k. by_lt_z time k.time (λ past.
          let same : k.row ≡ row = stood_once j k.time k.row row k.stood (lasting k.time (omega (arith, ints, past)) k.most) in
          h.covered value (record {
            time = time;
            least = begun;
            most = omega (arith, ints);
            row = row;
            stood = here;
            value_is =
                ap (λ r. value_in r e) (sym same) ∙ k.value_is;
          }))
          (λ before. h.covered value (record { time = k.time; least = k.least; most = before; row = k.row; stood = k.stood; value_is = k.value_is }));
      least = stood_within j from time later e band.least order h.least;
      greatest = stood_within j from time later e band.greatest order h.greatest;
    }

-- and widens by what stands next
pub band_widens : (j : Job) (from time next : ℤ) (e : ℕ) (band : Band) (row more : List ℤ) → from ≤ℤ time → time <ℤ next → StoodAt j time row
    → ((t : ℤ) → time ≤ℤ t → t <ℤ next → StoodAt j t row) → StoodAt j next more → IsBand j from time e band
    → IsBand j from next e (widen band (value_in more e))
band_widens j from time next e band row more begun order here lasting stood h =
    record {
      covered = λ value k. by_lt_z k.time next
          (λ before. wider value (by_lt_z time k.time
          (λ past.
          let same : k.row ≡ row = stood_once j k.time k.row row k.stood (lasting k.time (omega (arith, ints, past)) before) in
          h.covered value (record {
            time = time;
            least = begun;
            most = omega (arith, ints);
            row = row;
            stood = here;
            value_is =
                ap (λ r. value_in r e) (sym same) ∙ k.value_is;
          }))
          (λ early. h.covered value (record { time = k.time; least = k.least; most = early; row = k.row; stood = k.stood; value_is = k.value_is }))))
          (λ there.
          let at : k.time ≡ next = omega (arith, ints, there, k.most) in
          let same : k.row ≡ more = stood_once j next k.row more (subst (λ t. StoodAt j t k.row) at k.stood) stood in
          let is : value_in more e ≡ value = ap (λ r. value_in r e) (sym same) ∙ k.value_is in
          subst (λ v. ((widen band (value_in more e)).least ≤ℤ v) × (v ≤ℤ (widen band (value_in more e)).greatest)) is
          (omega (arith, ints, int_min_is band.least (value_in more e)), omega (arith, ints, int_max_is band.greatest (value_in more e))));
      least = least_of (HasStood j from next e) band.least (value_in more e)
          (stood_within j from time next e band.least (omega (arith, ints, order)) h.least) last;
      greatest = greatest_of (HasStood j from next e) band.greatest (value_in more e)
          (stood_within j from time next e band.greatest (omega (arith, ints, order)) h.greatest) last;
    }
  where
    last : HasStood j from next e (value_in more e)
    last = record { time = next; least = omega (arith, ints, begun, order); most = omega (arith, ints); row = more; stood = stood; value_is = refl }

    wider : (value : ℤ) → (band.least ≤ℤ value) × (value ≤ℤ band.greatest)
        → ((widen band (value_in more e)).least ≤ℤ value) × (value ≤ℤ (widen band (value_in more e)).greatest)
    wider value b = (omega (arith, ints, b.0, int_min_is band.least (value_in more e)), omega (arith, ints, b.1, int_max_is band.greatest (value_in more e)))

-- THE SAME FOR ALL ENTITIES

-- each entity has its own
pub begun_in : (row : List ℤ) (e : ℕ) → band_in (map band_of row) e ≡ band_of (value_in row e)
begun_in [] e = refl
begun_in (x ∷ xs) zero = refl
begun_in (x ∷ xs) (suc e) = begun_in xs e

pub widened_in : (s : State) (k : ℕ) (entities : List Entity) (bands : List Band) (e : ℕ) → length bands ≡ length entities → e < length entities
    → band_in (widened_from s k entities bands) e ≡ widen (band_in bands e) (value_in (contents_from s k entities) e)
unfolding widened_from contents_from
widened_in s k [] bands e count h = absurd (omega (arith, h))
widened_in s k (x ∷ xs) [] e count h = absurd (omega (arith, count))
widened_in s k (x ∷ xs) (b ∷ bs) zero count h = refl
widened_in s k (x ∷ xs) (b ∷ bs) (suc e) count h = widened_in s (k + 1) xs bs e (omega (arith, count)) (omega (arith, h))

-- there are as many contents as entities
pub contents_count : (s : State) (k : ℕ) (entities : List Entity) → length (contents_from s k entities) ≡ length entities
unfolding contents_from
contents_count s k [] = refl
contents_count s k (x ∷ xs) = ap suc (contents_count s (k + 1) xs)

pub widened_count : (s : State) (k : ℕ) (entities : List Entity) (bands : List Band) → length bands ≡ length entities
    → length (widened_from s k entities bands) ≡ length entities
unfolding widened_from
widened_count s k [] bands count = count
widened_count s k (x ∷ xs) [] count = count
widened_count s k (x ∷ xs) (b ∷ bs) count =
    let rest = widened_count s (k + 1) xs bs (omega (arith, count)) in
    omega (arith, rest)

-- what stands
standing : (j : Job) (time : ℤ) (s : State) → Alone j s.steps s → IsOver time s → AreStillAt j time 0 s.steps
    → StoodAt j time (contents_from s 0 j.parts.entities)
standing j time s alone over still = record { steps = s.steps; state = s; alone = alone; over = over; first = still; contents = refl }

pub looked_first : (j : Job) (from to : ℤ) (s : State) (bands : List Band) → from ≤ℤ to → Alone j s.steps s → IsOver from s → AreStillAt j from 0 s.steps
    → bands ≡ map band_of (contents_from s 0 j.parts.entities) → HasLooked j from to s bands
looked_first j from to s bands order alone over still are =
    record {
      count = ap length are ∙ length-map (contents_from s 0 j.parts.entities) band_of ∙ contents_count s 0 j.parts.entities;
      alone = alone;
      time = from;
      begun = omega (arith, ints);
      within = order;
      over = over;
      still = still;
      bands_are = λ e h.
          subst (IsBand j from from e) (sym (ap (λ b. band_in b e) are ∙ begun_in (contents_from s 0 j.parts.entities) e))
          (band_begun j from e (contents_from s 0 j.parts.entities) (standing j from s alone over still));
    }

-- what runs and is over at a time is past it
past_it : (time : ℤ) (s : State) (to : ℤ) → IsOver time s → IsStillAt to s → time <ℤ s.clock
past_it time s to (inl final) still = let none = rw still.runs at final in cc
past_it time s to (inr past) still = past

pub looked_more : (j : Job) (from to : ℤ) (s t : State) (bands more : List Band) → HasLooked j from to s bands → IsStillAt to s → Alone j t.steps t
    → IsOver s.clock t → AreStillAt j s.clock s.steps t.steps → more ≡ widened_from t 0 j.parts.entities bands → HasLooked j from to t more
unfolding standing
looked_more j from to s t bands more h runs alone over still are =
    let past = past_it h.time s to h.over runs in
    let behind : h.time ≤ℤ s.clock = omega (arith, ints, past) in
    let first = still_on j s.clock 0 s.steps t.steps (still_later j h.time s.clock 0 s.steps behind h.still) still in
    let here = standing j h.time s h.alone h.over h.still in
    record {
      count = ap length are ∙ widened_count t 0 j.parts.entities bands h.count;
      alone = alone;
      time = s.clock;
      begun = omega (arith, ints, h.begun, behind);
      within = runs.clock;
      over = over;
      still = first;
      bands_are = λ e k.
          subst (IsBand j from s.clock e) (sym (ap (λ b. band_in b e) are ∙ widened_in t 0 j.parts.entities bands e h.count k))
          (band_widens j from h.time s.clock e (band_in bands e) (contents_from s 0 j.parts.entities) (contents_from t 0 j.parts.entities) h.begun past here
          (λ at order before. stood_later j h.time at (contents_from s 0 j.parts.entities) here order (inr before))
          (standing j s.clock t alone over first) (h.bands_are e k));
    }

-- where it is over, the bands are those of all times
over_then : (time at to : ℤ) (s : State) → at ≤ℤ to → IsOver to s → IsOver at s
over_then time at to s order (inl final) = inl final
over_then time at to s order (inr past) = inr (omega (arith, ints, past, order))

pub looked_over : (j : Job) (from to : ℤ) (s : State) (bands : List Band) → HasLooked j from to s bands → IsOver to s → AreBands j from to bands
unfolding standing
looked_over j from to s bands h over e k =
    let here = standing j h.time s h.alone h.over h.still in
    band_lasts j from h.time to e (band_in bands e) (contents_from s 0 j.parts.entities) h.begun h.within here
    (λ at order most. stood_later j h.time at (contents_from s 0 j.parts.entities) here order (over_then h.time at to s most over)) (h.bands_are e k)

pub looked_still : (j : Job) (from to : ℤ) (s : State) (bands : List Band) → HasLooked j from to s bands → AreStillAt j to 0 s.steps
looked_still j from to s bands h = still_later j h.time to 0 s.steps h.within h.still

-- each look makes a step
pub looked_on : (j : Job) (from to : ℤ) (s t : State) (bands : List Band) → HasLooked j from to s bands → IsStillAt to s → Alone j t.steps t → IsOver s.clock t
    → s.steps < t.steps
looked_on j from to s t bands h runs alone over =
    elim (cases_lt s.steps t.steps) as (λ _. s.steps < t.steps) [
      | inl less ↦ less
      | inr not_less ↦ absurd (elim (cases_lt t.steps s.steps) as (λ _. ⊥) [
        | inl back ↦
            let past = past_it h.time s to h.over runs in
            let at : IsStillAt h.time t = h.still t.steps t (omega arith) back alone in
            not_both s.clock t over (record { runs = at.runs; clock = omega (arith, ints, at.clock, past) })
        | inr not_back ↦
            let steps : t.steps ≡ s.steps = omega (arith, not_less, not_back) in
            let same : t ≡ s = one j t s t.steps s.steps steps alone h.alone in
            not_both s.clock s (subst (IsOver s.clock) same over) (record { runs = runs.runs; clock = omega (arith, ints) })
      ])
    ]
  where
    one : (j : Job) (s t : State) (m n : ℕ) → m ≡ n → Alone j m s → Alone j n t → s ≡ t
    one j s t m n e a b = let there : Alone j n s = subst (λ (i : ℕ). Alone j i s) e a in cc

-- the same for equal jobs
pub looked_next : (j k l : Job) (from to at : ℤ) (s t : State) (bands more : List Band) → k ≡ j → l ≡ k → at ≡ s.clock
    → HasLooked j from to s bands → IsStillAt to s
    → Alone l t.steps t → IsOver at t → AreStillAt k at s.steps t.steps → more ≡ widened_from t 0 l.parts.entities bands
    → HasLooked j from to t more × s.steps < t.steps
looked_next j k l from to at s t bands more same also here h runs alone over still are =
    let alone_too = subst (λ (i : Job). Alone i t.steps t) (also ∙ same) alone in
    let over_too = subst (λ (c : ℤ). IsOver c t) here over in
    let still_too = subst (λ (i : Job). AreStillAt i s.clock s.steps t.steps) same (subst (λ (c : ℤ). AreStillAt k c s.steps t.steps) here still) in (
      looked_more j from to s t bands more h runs alone_too over_too still_too
          (subst (λ (i : Job). more ≡ widened_from t 0 i.parts.entities bands) (also ∙ same) are),
      looked_on j from to s t bands h runs alone_too over_too,
    )
