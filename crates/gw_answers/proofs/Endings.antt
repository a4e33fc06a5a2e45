-- A lone run has at most one state without a step.
use Rattle.std.proofs.Common.{◌≡◌, ◌+◌, ◌<◌, ◌-◌, ℕ, zero, suc, Option, Some, None, Bool, true, false, IsTrue, is_some, is_none, nat_lt, arith, refl, ap, ◌∙◌}
use Rattle.std.proofs.lemmas.Bool.Decides.{nat_tests}
use Rattle.gw_step.specs.declared.ends.End.{End}
use Rattle.gw_step.specs.State.{State}
use Rattle.gw_step.specs.Step.{step}
use Rattle.gw_step.specs.Job.{Job, IsFinal, after, then_step}

not_running : (ended : Option End) → IsTrue (is_some ended) → is_none ended ≡ false
not_running None h = cc
not_running (Some end) h = refl

pub final_has_no_step : (j : Job) (s : State) → IsFinal s → step j.parts j.budget s ≡ None
unfolding step
final_has_no_step j s h = let ends = not_running s.ended h in rw (ends, step) refl

-- there is no state after one that has no step
none_after : (j : Job) (start : Option State) (s : State) (m n k : ℕ) → after j m start ≡ Some s → step j.parts j.budget s ≡ None → n
    ≡ suc (k + m) → after j n start ≡ None
unfolding after
none_after j start s m n zero h last e =
    let next : n ≡ suc m = omega (arith, e) in
    ap (λ i. after j i start) next ∙ ap (then_step j) h ∙ last
none_after j start s m n (suc k) h last e =
    let next : n ≡ suc (suc (k + m)) = omega (arith, e) in
    ap (λ i. after j i start) next ∙ ap (then_step j) (none_after j start s m (suc (k + m)) k h last refl)

-- so a state without a step isn't reached later than another
not_later : (j : Job) (start : Option State) (s t : State) (m n : ℕ) → after j m start ≡ Some s → step j.parts j.budget s ≡ None
    → after j n start ≡ Some t → m < n → ⊥
not_later j start s t m n h last k later =
    let between : (i : ℕ) × (n ≡ suc (i + m)) = (n - suc m, omega arith) in
    let none = none_after j start s m n between.0 h last between.1 in
    cc

cases : {P : Type 0} (b : Bool) → (b ≡ true → P) → (b ≡ false → P) → P
cases true f g = f refl
cases false f g = g refl

pub one_ending : (j : Job) (start : Option State) (s t : State) (m n : ℕ) → after j m start ≡ Some s → step j.parts j.budget s ≡ None
    → after j n start ≡ Some t → step j.parts j.budget t ≡ None → s ≡ t
one_ending j start s t m n h s_last k t_last = cases (nat_lt m n)
    (λ yes. let before : m < n = grind (arith, nat_tests, yes) in absurd (not_later j start s t m n h s_last k before))
    (λ no. cases (nat_lt n m)
    (λ yes. let behind : n < m = grind (arith, nat_tests, yes) in absurd (not_later j start t s n m k t_last h behind))
    (λ neither. let same : m ≡ n = grind (arith, nat_tests, no, neither) in let there = rw same at h in cc))
