-- The checks of one procedure after the other.
use Rattle.std.proofs.Common.{◌≡◌, ℕ, suc, ◌+◌, ◌<◌, ◌≤◌, List, [], ◌∷◌, ◌++◌, length, drop, get_or, Option, Some, None, sym, ap, ◌∙◌, arith, drop-cons}
use Rattle.std.proofs.lemmas.List.{drop_all}
use Rattle.gw_object.specs.declared.code.Procedure.{Procedure}
use Rattle.gw_object.specs.declared.fault.Fault.{Fault}
use Rattle.gw_object.specs.declared.parts.Parts.{Parts}
use Rattle.gw_rules.specs.Checks.{first_broken}
use Rattle.gw_rules.proofs.Broken.{first, first_broken-append}
use Rattle.gw_rules.specs.Code.{cost_of_code}
use Rattle.gw_rules.specs.PlusChecks.{procedure_checks, checks_from}

module _ (p : Parts) (costs : List ℕ) (prs : List Procedure) (n : ℕ) (pr : Procedure) (within : n < length prs) (here : pr ≡ get_or prs n pr) where
  -- the first fault of the procedures from number n on
  abbrev pub found : Option Fault
  found = first_broken (checks_from p costs n (drop n prs))

  one : found ≡ first (first_broken (procedure_checks p costs n pr))
      (first_broken (checks_from p (costs ++ cost_of_code p.entities costs pr.code ∷ []) (n + 1) (drop (suc n) prs)))
  one =
      let split : drop n prs ≡ pr ∷ drop (suc n) prs = drop-cons prs n pr within ∙ ap (λ (x : Procedure). x ∷ drop (suc n) prs) (sym here) in
      ap (λ (xs : List Procedure). first_broken (checks_from p costs n xs)) split
      ∙ first_broken-append (procedure_checks p costs n pr) (checks_from p (costs ++ cost_of_code p.entities costs pr.code ∷ []) (n + 1) (drop (suc n) prs))

  -- nothing is broken at this procedure: the first fault is that of the later ones
  pub goes_on : (more : List ℕ) (cost : ℕ) → first_broken (procedure_checks p costs n pr) ≡ None → cost
      ≡ cost_of_code p.entities costs pr.code → more ≡ costs ++ cost ∷ [] → first_broken (checks_from p more (n + 1) (drop (n + 1) prs)) ≡ found
  goes_on more cost none is added =
      let next : n + 1 ≡ suc n = omega arith in
      let same : more ≡ costs ++ cost_of_code p.entities costs pr.code ∷ [] = added ∙ ap (λ x. costs ++ x ∷ []) is in
      ap (λ (xs : List ℕ). first_broken (checks_from p xs (n + 1) (drop (n + 1) prs))) same
      ∙ ap (λ k. first_broken (checks_from p (costs ++ cost_of_code p.entities costs pr.code ∷ []) (n + 1) (drop k prs))) next
      ∙ ap (λ (o : Option Fault). first o
      (first_broken (checks_from p (costs ++ cost_of_code p.entities costs pr.code ∷ []) (n + 1) (drop (suc n) prs)))) (sym none)
      ∙ sym one

  -- the first fault is at this procedure
  pub stops : (fault : Fault) → first_broken (procedure_checks p costs n pr) ≡ Some fault → found ≡ Some fault
  stops fault is = one ∙ ap
      (λ (o : Option Fault). first o (first_broken (checks_from p (costs ++ cost_of_code p.entities costs pr.code ∷ []) (n + 1) (drop (suc n) prs)))) is

-- no procedure is left
pub is_done : (p : Parts) (costs : List ℕ) (prs : List Procedure) (n : ℕ) → length prs ≤ n → first_broken (checks_from p costs n (drop n prs)) ≡ None
is_done p costs prs n past = ap (λ (xs : List Procedure). first_broken (checks_from p costs n xs)) (drop_all n prs past)
