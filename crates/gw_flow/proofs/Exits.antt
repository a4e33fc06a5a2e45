-- The first broken check of the edges along exits, of one exit after the other.
use Rattle.std.proofs.Common.{◌≡◌, ℕ, ◌+◌, ◌≤◌, ◌<◌, List, length, map, drop, get_or, Option, Some, None, sym, ap, ◌∙◌}
use Rattle.std.proofs.lemmas.List.{drop_all, drop_more, map-append}
use Rattle.gw_object.specs.declared.fault.Fault.{Fault}
use Rattle.gw_rules.specs.declared.ways.Exit.{Exit}
use Rattle.gw_rules.specs.Checks.{Check, first_broken}
use Rattle.gw_rules.proofs.Broken.{first, first_broken-append}
use Rattle.gw_rules.specs.Blocks.{FlowEdge, edge_along, edges_along}
use Rattle.gw_rules.specs.Rows.{Row}

module _ (check : FlowEdge → Check) (b : ℕ) (passed : Row) where
  -- the checks of the edges along exits
  abbrev pub along : List Exit → List Check
  along exits = map check (edges_along b exits passed)

  module _ (exits : List Exit) (i : ℕ) (d : Exit) (total : Option Fault) (below : i < length exits) (so_far : first_broken (along (drop i exits)) ≡ total) where
    one : first (first_broken (map check (edge_along b passed (get_or exits i d)))) (first_broken (along (drop (i + 1) exits))) ≡ total
    one =
        sym (ap (λ (es : List Exit). first_broken (along es)) (drop_more exits i d below)
        ∙ ap first_broken (map-append check (edge_along b passed (get_or exits i d)) (edges_along b (drop (i + 1) exits) passed))
        ∙ first_broken-append (map check (edge_along b passed (get_or exits i d))) (along (drop (i + 1) exits)))
        ∙ so_far

    -- nothing is broken along this exit: the first fault is that of the later ones
    pub goes_along : first_broken (map check (edge_along b passed (get_or exits i d))) ≡ None → first_broken (along (drop (i + 1) exits)) ≡ total
    goes_along h = sym (ap (λ o. first o (first_broken (along (drop (i + 1) exits)))) h) ∙ one

    -- the first fault is along this exit
    pub stops_along : (fault : Fault) → first_broken (map check (edge_along b passed (get_or exits i d))) ≡ Some fault → total ≡ Some fault
    stops_along fault h = sym one ∙ ap (λ o. first o (first_broken (along (drop (i + 1) exits)))) h

  -- no exit is left
  pub all_along : (exits : List Exit) (i : ℕ) (total : Option Fault) → length exits ≤ i → first_broken (along (drop i exits)) ≡ total → total ≡ None
  all_along exits i total past so_far = sym so_far ∙ ap (λ (es : List Exit). first_broken (along es)) (drop_all i exits past)
