-- A trace grows by the line of each step.
use Rattle.std.proofs.Common.{◌≡◌, ◌≢◌, ◌+◌, ◌++◌, ℕ, ℤ, suc, List, Option, Some, None, is_some, IsTrue, arith, refl, sym, ap, ◌∙◌, append_assoc, append-nil}
use Rattle.gw_step.specs.declared.ends.End.{End}
use Rattle.gw_step.specs.State.{State}
use Rattle.gw_step.specs.Job.{Job, Progress, Step, Alone, after, then_step, start_of}
use Rattle.gw_step.proofs.LeftByEnds.{steps_are_counted}
use Rattle.gw_step.proofs.Rests.{start_steps}
use Rattle.gw_trace.specs.Trace.{line_within, line_between, lines_of_steps, heading, HasTraced}

-- the lines of one step more
line_is : (j : Job) (from to : ℤ) (s t : State) (n : ℕ) → Alone j n s → Step j s t
    → lines_of_steps j from to (suc n) ≡ lines_of_steps j from to n ++ line_within j.parts from to s t
unfolding lines_of_steps after
line_is j from to s t n alone step =
    let next : then_step j (after j n (start_of j)) ≡ Some t = ap (then_step j) alone ∙ step in
    ap (λ (o : Option State). lines_of_steps j from to n ++ line_between j.parts from to o (then_step j (after j n (start_of j)))) alone
    ∙ ap (λ (o : Option State). lines_of_steps j from to n ++ line_between j.parts from to (Some s) o) next

-- a step more, and its line
pub traced_more : (from to : ℤ) (j k : Job) (s t : State) (old new : List ℕ) → k ≡ j → Alone j s.steps s → Step j s t
    → HasTraced from to (record { job = j; state = s }) old → new ≡ old ++ line_within j.parts from to s t
    → HasTraced from to (record { job = k; state = t }) new
traced_more from to j k s t old new same alone step traced is =
    let counted : t.steps ≡ s.steps + 1 = steps_are_counted j s t step in
    let next : t.steps ≡ suc s.steps = omega (arith, counted) in
    is ∙ ap (λ (xs : List ℕ). xs ++ line_within j.parts from to s t) traced
    ∙ append_assoc heading (lines_of_steps j from to s.steps) (line_within j.parts from to s t)
    ∙ ap (λ (xs : List ℕ). heading ++ xs) (sym (line_is j from to s t s.steps alone step))
    ∙ ap (λ (n : ℕ). heading ++ lines_of_steps j from to n) (sym next)
    ∙ ap (λ (i : Job). heading ++ lines_of_steps i from to t.steps) (sym same)

-- before the first step there is the heading alone
pub traced_first : (from to : ℤ) (j : Job) (s : State) (text : List ℕ) → start_of j ≡ Some s → text ≡ heading
    → HasTraced from to (record { job = j; state = s }) text
unfolding lines_of_steps
traced_first from to j s text started is =
    let none : s.steps ≡ 0 = start_steps j s started in
    is ∙ sym (ap (λ (n : ℕ). heading ++ lines_of_steps j from to n) none ∙ append-nil heading)

-- the start state is that of the lone run after no step
pub alone_first : (j : Job) (s : State) → start_of j ≡ Some s → Alone j s.steps s
unfolding after
alone_first j s started = ap (λ (n : ℕ). after j n (start_of j)) (start_steps j s started) ∙ started

-- what isn't running has ended
pub not_running : (o : Option End) → (o ≡ None → ⊥) → IsTrue (is_some o)
not_running None h = absurd (h refl)
not_running (Some end) h = refl
