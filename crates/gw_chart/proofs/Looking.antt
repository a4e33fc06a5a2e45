-- What is seen of a run that has ended.
use Rattle.std.proofs.Common.{◌≡◌, ◌≤◌, ◌<◌, ◌+◌, ◌*◌, ◌/◌, ◌-◌, ◌^◌, min, ◌++◌, ℕ, ℤ, ◌≤ℤ◌, Some, List, [], ◌∷◌, length, get_or, arith, refl, sym}
use Rattle.std.proofs.Common.{ap, ◌∙◌, subst, below_more}
use Rattle.std.proofs.lemmas.List.{get_or_append_left}
use Rattle.std.specs.Prelude.{Result, Ok, Err, OnOk}
use Rattle.std.proofs.lemmas.Int.{ints}
use Rattle.gw_step.specs.State.{State}
use Rattle.gw_step.specs.Job.{Job, Alone, IsFinal, start_of}
use Rattle.gw_step.proofs.Rests.{start_steps}
use Rattle.gw_answers.specs.Running.{AreStillAt, IsOver}
use Rattle.gw_answers.proofs.Lasting.{still_none, still_on}
use Rattle.gw_answers.proofs.Endings.{one_ending, final_has_no_step}
use Rattle.gw_chart.specs.Contents.{contents_from}
use Rattle.gw_chart.specs.Charts.{EndsAt}
use Rattle.gw_chart.specs.declared.window.Window.{Window}
use Rattle.gw_chart.specs.Windows.{clip, moment}
use Rattle.gw_chart.specs.declared.bands.Band.{Band}
use Rattle.gw_chart.specs.Samples.{StoodAt, AreBands}

-- what holds is said of any outcome
pub on_any : {X E : Type 0} (r : Result X E) (P : Type 0) → P → OnOk r P
on_any (Ok x) P h = h
on_any (Err e) P h = tt

-- a run ends at one clock
pub same_end : (j : Job) (end : ℤ) (n : ℕ) (s : State) → EndsAt j end → Alone j n s → IsFinal s → s.clock ≡ end
same_end j end n s e alone final =
    let same = one_ending j (start_of j) s e.state n e.steps alone (final_has_no_step j s final) e.alone (final_has_no_step j e.state e.final) in
    ap (λ (t : State). t.clock) same ∙ e.clock_is

-- what is said of the part of a window that a run has, which ends at a clock, is said of it by its last state
pub seen_of : (Says : Job → Window → Type 0) (j k : Job) (end : ℤ) (n : ℕ) (s : State) (w : Window) → k ≡ j → EndsAt j end → Alone k n s → IsFinal s
    → Says j (clip w end) → Says k (clip w s.clock)
seen_of Says j k end n s w same ends alone final said =
    let clock = same_end j end n s ends (subst (λ (i : Job). Alone i n s) same alone) final in
    subst (λ (i : Job). Says i (clip w s.clock)) (sym same) (subst (λ (c : ℤ). Says j (clip w c)) (sym clock) said)

-- what stands in a run that has just gone past a time stood at it
pub stood_here : (j k : Job) (time : ℤ) (from : ℕ) (s : State) (row : List ℤ) → k ≡ j → AreStillAt j time 0 from → AreStillAt j time from s.steps
    → Alone k s.steps s → IsOver time s → row ≡ contents_from s 0 k.parts.entities → StoodAt j time row
stood_here j k time from s row same before still alone over contents =
    record {
      steps = s.steps;
      state = s;
      alone = subst (λ (i : Job). Alone i s.steps s) same alone;
      over = over;
      first = still_on j time 0 from s.steps before still;
      contents = subst (λ (i : Job). row ≡ contents_from s 0 i.parts.entities) same contents;
    }

-- the same for an equal job and an equal time
pub still_of : (j k : Job) (time other : ℤ) (to : ℕ) → k ≡ j → other ≡ time → AreStillAt j time 0 to → AreStillAt k other 0 to
still_of j k time other to same is h =
    subst (λ (i : Job). AreStillAt i other 0 to) (sym same) (subst (λ (t : ℤ). AreStillAt j t 0 to) (sym is) h)

pub stood_of : (j k : Job) (time other : ℤ) (row : List ℤ) → k ≡ j → other ≡ time → StoodAt k other row → StoodAt j time row
stood_of j k time other row same is h = subst (λ (i : Job). StoodAt i time row) same (subst (λ (t : ℤ). StoodAt k t row) is h)

-- moments ascend
pub moments_ascend : (w : Window) (n : ℕ) → moment w n ≤ℤ moment w (n + 1)
moments_ascend w n =
    let a = w.to - w.from in
    let order : a * n / 499 ≤ a * (n + 1) / 499 = omega arith in
    let least : min (w.from + a * n / 499) (2 ^ 63 - 1) ≤ min (w.from + a * (n + 1) / 499) (2 ^ 63 - 1) = omega (arith, order) in
    omega (arith, ints, least)

-- no step is made before the start
pub still_first : (j : Job) (time : ℤ) (s : State) → start_of j ≡ Some s → AreStillAt j time 0 s.steps
still_first j time s started = subst (λ (n : ℕ). AreStillAt j time 0 n) (sym (start_steps j s started)) (still_none j time 0)

-- what is said of each of a list and of one behind it is said of all
pub listed_more : {X : Type 0} (P : ℕ → X → Type 0) (d : X) (n : ℕ) (xs : List X) (x : X) → length xs ≡ n → ((i : ℕ) → i < n → P i (get_or xs i d)) → P n x
    → (i : ℕ) → i < n + 1 → P i (get_or (xs ++ x ∷ []) i d)
listed_more {X} P d n xs x count each last =
    below_more _ _
    (λ i h. let in_front : i < length xs = omega (arith, count, h) in subst (P i) (sym (get_or_append_left xs (x ∷ []) d i in_front)) (each i h))
    (let there : get_or (xs ++ x ∷ []) n d ≡ x = ap (λ (k : ℕ). get_or (xs ++ x ∷ []) k d) (sym count) ∙ at_end xs in subst (P n) (sym there) last)
  where
    at_end : (ys : List X) → get_or (ys ++ x ∷ []) (length ys) d ≡ x
    at_end [] = refl
    at_end (y ∷ ys) = at_end ys

-- bands of an equal job from and to equal times
pub bands_of : (j k : Job) (from to first last : ℤ) (bands : List Band) → k ≡ j → first ≡ from → last ≡ to → AreBands k first last bands
    → AreBands j from to bands
bands_of j k from to first last bands same is also h =
    subst (λ (i : Job). AreBands i from to bands) same
    (subst (λ (t : ℤ). AreBands k from t bands) also (subst (λ (t : ℤ). AreBands k t last bands) is h))

-- times in the order of their moments
pub in_order : (w : Window) (n : ℕ) (from to : ℤ) → from ≡ moment w n → to ≡ moment w (n + 1) → from ≤ℤ to
in_order w n from to is also =
    subst (λ (t : ℤ). t ≤ℤ to) (sym is) (subst (λ (t : ℤ). moment w n ≤ℤ t) (sym also) (moments_ascend w n))
