-- An object that is refused though all but its weights pass: no weights do.
use Rattle.std.proofs.Common.{◌≡◌, ◌⊎◌, inl, inr, ◌+◌, Some, Result, Ok, Err, IfErr, refl, sym, ◌∙◌, subst}
use Rattle.gw_object.specs.Limits.{most_parameters}
use Rattle.gw_object.specs.Grammar.{HasSpelling}
use Rattle.gw_object.specs.declared.fault.Fault.{Fault}
use Rattle.gw_object.specs.declared.parts.Parts.{Parts}
use Rattle.gw_rules.specs.Pass.{KindsPass}
use Rattle.gw_rules.specs.PlusChecks.{PlusPasses}
use Rattle.gw_rules.specs.Flow.{own_table, FlowPasses}
use Rattle.gw_rules.specs.Weights.{WeightsPass}
use Rattle.gw_rules.specs.Accepted.{Accepted, IsRefusedFor, fault_of}
use Rattle.gw_rules.proofs.AllPass.{checked_where_all_pass, accepted_where_checked_and_weighted}
use Rattle.gw_weighing.specs.Certificates.{DifferInWeights, HasLeastWeights}
use Rattle.gw_slopes.specs.Found.{AreAlike, DifferInSlopes, IsEnded, IsWeighed, FailsAtNoEdge, HelpNoneBefore, IsRefusal}
use Rattle.gw_slopes.specs.declared.weighing.Refusal.{Refusal}
use Rattle.gw_slopes.specs.declared.weighing.Refusal.TheVariants.{OutOfMemory, PastLimit}
use Rattle.gw_assemble.specs.Completion.{IsSettlement, FailsByWeights, IsUnweighed, HasNoCompletion, fault_without}
use Rattle.gw_assemble.proofs.Reweighed.{kinds_same, plus_same, flow_same_to}

-- parts that differ in weights, and then in slopes, are alike
pub weights_alike : (p q : Parts) → DifferInWeights p q → AreAlike p q
weights_alike p q h = subst (AreAlike p) h refl

pub slopes_alike : (p base q : Parts) → DifferInWeights p base → DifferInSlopes base q → AreAlike p q
slopes_alike p base q rest slopes =
    let from_base : AreAlike base q = subst (AreAlike base) slopes refl in
    let with_others : Parts → Parts = λ x. record x { version = q.version; weights = q.weights; slopes = q.slopes; chain_weights = q.chain_weights } in
    subst (λ (x : Parts). with_others x ≡ q) (sym rest) from_base

accepted : (p : Parts) → KindsPass p → PlusPasses p → FlowPasses p (own_table p) → WeightsPass p → Accepted p
accepted p kinds code flow weights = (accepted_where_checked_and_weighted p).1 ((checked_where_all_pass p).1 (kinds, code, flow), weights)

module _ (p : Parts) (kinds : KindsPass p) (code : PlusPasses p) (flow : FlowPasses p (own_table p)) where
  -- where all but weights pass in an object, one that is alike and whose weights pass is accepted
  alike_accepted : (q : Parts) → AreAlike p q → WeightsPass q → Accepted q
  alike_accepted q alike weights =
      accepted q
      (subst KindsPass alike (kinds_same p q.version q.weights q.slopes q.chain_weights kinds))
      (subst PlusPasses alike (plus_same p q.version q.weights q.slopes q.chain_weights code))
      (subst (λ (x : Parts). FlowPasses x (own_table x)) alike (flow_same_to p q.version q.weights q.slopes q.chain_weights (own_table p) flow))
      weights

  -- one that is refused has no slopes but its own
  pub still : (base q : Parts) → DifferInWeights p base → IsEnded base q → (fault : Fault) → fault_of q ≡ Some fault → (q ≡ base)
      × (FailsAtNoEdge base ⊎ HelpNoneBefore base (most_parameters + 1))
  still base q rest (inl (elsewhere, same)) fault refused = (same, inl elsewhere)
  still base q rest (inr (edge, inl (same, none))) fault refused = (same, inr none)
  still base q rest (inr (edge, inr (has, least))) fault refused =
      absurd (let clash = sym refused ∙ alike_accepted q (slopes_alike p base q rest has.rest) has.passes in cc)

  pub still_weighed : (q : Parts) → IsWeighed p q → (fault : Fault) → fault_of q ≡ Some fault → DifferInWeights p q
  still_weighed q w fault refused = subst (DifferInWeights p) (sym (still w.base q w.rest w.ended fault refused).0) w.rest

  -- where any weights pass in one with the least, they make it an accepted one
  fails_by_weights : (q : Parts) → DifferInWeights p q → HasLeastWeights q → HasSpelling q → FailsAtNoEdge q
      ⊎ HelpNoneBefore q (most_parameters + 1) → (fault : Fault) → fault_of q ≡ Some fault → FailsByWeights q fault
  fails_by_weights q differ least spelled slopes fault refused = record {
    spelled = spelled;
    refused = refused;
    none = λ us cs c. absurd (let clash = sym refused ∙ alike_accepted q (weights_alike p q differ) (least us cs c).0 in cc);
    slopes = slopes;
  }

  pub fails : (q : Parts) → IsWeighed p q → HasSpelling q → (fault : Fault) → IsRefusedFor q fault → IsUnweighed p fault
  fails q w spelled fault (inl refused) =
      let s = still w.base q w.rest w.ended fault refused in
      let least : HasLeastWeights q = subst HasLeastWeights (sym s.0) w.least in
      let slopes : FailsAtNoEdge q ⊎ HelpNoneBefore q (most_parameters + 1) =
      subst (λ (x : Parts). FailsAtNoEdge x ⊎ HelpNoneBefore x (most_parameters + 1)) (sym s.0) s.1 in
      inl (q, w, fails_by_weights q (still_weighed q w fault refused) least spelled slopes fault refused)
  fails q w spelled fault (inr memory) = inr (inr memory)

-- where no weights are found, that is why
pub unweighed : (p : Parts) (refusal : Refusal) (fault : Fault) → fault ≡ fault_without refusal → IsRefusal p refusal → IsUnweighed p fault
unweighed p OutOfMemory fault is h = inr (inr is)
unweighed p PastLimit fault is h = inr (inl (is, h))

-- where no weights pass in an object with the assembler's table, or it is too long with slopes, or memory is wanted, that is why there is no completion
pub no_completion : {A : Type 0} (r : Result A Fault) (p settled : Parts) → IsSettlement p settled → IfErr r (IsUnweighed settled) → IfErr r (HasNoCompletion p)
no_completion (Ok x) p settled settlement h = tt
no_completion (Err fault) p settled settlement (inl (q, weights, fails)) =
    inr (inr (inr (inl (q, record { settled = settled; settlement = settlement; weights = weights }, fails))))
no_completion (Err fault) p settled settlement (inr (inl (is, long))) =
    inr (inr (inr (inr (inl (record { is = is; settled = settled; settlement = settlement; long = long })))))
no_completion (Err fault) p settled settlement (inr (inr memory)) = inr (inr (inr (inr (inr memory))))
