use Rattle.std.proofs.Common.{rules, ◌≡◌, ◌∷◌, [], ◌++◌, ◌-◌, ◌∙◌, ap, sym, subst, ◌≤ℤ◌, ℤ}
use Rattle.std.specs.Prelude.{AllPairs}
use Rattle.gw_members.specs.declared.tx.Event.{Event}
use Rattle.gw_plain_chains.proofs.Merging.{settling, settling_round, rest_ordered}
use Rattle.gw_plain_chains.proofs.runs.settle.Goals as goal

pub loop-event-preserved : goal.loop-event-preserved
loop-event-preserved c =
    let time : Event → ℤ = λ e. e.time in
    let xs = c.loop-event.settled.items in
    let unseen = c.loop-event.unseen in
    let passed = c.count_passed-passed.result in
    let event = c.in-Some.event in
    let left = c.pop_front.new.self.items in
    let recent : c.loop-event.recent.items ≡ event ∷ left = c.in-Some.ensures.items in
    let ordered : AllPairs (λ (x y : Event). x.time ≤ℤ y.time) (event ∷ left) =
    subst (AllPairs (λ (x y : Event). x.time ≤ℤ y.time)) recent c.loop-event.invariant.ordered in
    record {
      same = ap (λ ws. settling time (unseen - passed) ws left) (c.push_back_reserved.ensures.items ∙ ap (λ ws. ws ++ event ∷ []) c.rotate_left.ensures.items)
          ∙ settling_round time xs unseen passed event left c.count_passed-passed.ensures.bound (search rules)
          c.count_passed-passed.ensures.passed (λ d few. c.count_passed-passed.ensures.next d few) ordered
          ∙ ap (λ ws. settling time unseen xs ws) (sym recent)
          ∙ c.loop-event.invariant.same;
      ordered = rest_ordered time event left ordered;
      unseen = search rules;
      len = search rules;
      settled = search rules;
      recent = search rules;
    }
