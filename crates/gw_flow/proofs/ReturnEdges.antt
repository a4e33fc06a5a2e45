-- Returns that may be passed: which blocks have them, and which follow from others.
use Rattle.std.proofs.Common.{◌≡◌, ◌≢◌, ⊎_elim, ℕ, ◌+◌, List, [], ◌∷◌, map, Some, true, refl, sym, ap, subst, ◌∙◌}
use Rattle.std.specs.Prelude.{All, IsSomeAnd, IsTrue, is_some}
use Rattle.std.specs.List.{list_all}
use Rattle.std.proofs.lemmas.Bool.{cases_eq, ne_eqb, and_parts, false≢true}
use Rattle.std.proofs.lemmas.List.Elements.{All-nil, All-cons, All-head, All-tail, All-append}
use Rattle.gw_object.specs.declared.blocks.Block.TheVariants as blocks
use Rattle.gw_object.specs.declared.parts.Parts.{Parts}
use Rattle.gw_rules.specs.Exits.{returns_to}
use Rattle.gw_rules.proofs.Each.{Hold}
use Rattle.gw_rules.specs.Blocks.{FlowEdge, Table, Rule, rule, move, edges_along, edges_from, chain_edges}
use Rattle.gw_rules.specs.declared.edges.Target.TheVariants as targets
use Rattle.gw_rules.specs.FlowCodes as codes
use Rattle.gw_rules.specs.Entries.{lists}
use Rattle.gw_rules.specs.Rows.{Row, ParamKind, Num, Ret, kind_of, kind_fits, is_return, return_blocks, Fits}
use Rattle.gw_rules.specs.Flow.{checks_in}
use Rattle.gw_flow.specs.ReturnEdges.{MayReturn}
use Rattle.gw_rules.proofs.EachBlock.{All-front}
use Rattle.gw_rules.proofs.Passing.{may_pass, may_pass_holds}
use Rattle.gw_rules.proofs.Monotone.{on}

-- what holds of each listed number holds of one that is listed
of_listed : (P : ℕ → Type 0) (cs : List ℕ) (c : ℕ) → lists cs c ≡ true → All P cs → P c
of_listed P [] c there all = absurd (false≢true there)
of_listed P (d ∷ cs) c there all =
    ⊎_elim
    (λ (same : d ≡ c). subst P same (All-head P d cs all))
    (λ (other : d ≢ c). of_listed P cs c (rw (ne_eqb d c other) at there) (All-tail P d cs all))
    (cases_eq d c)

module _ (table : Table) where
  -- the block after one has a row that a state fits
  abbrev After : Row → ℕ → Type 0
  After state b = IsSomeAnd (table (targets.Block (b + 1))) (Fits state)

  abbrev Arrives : FlowEdge → Type 0
  Arrives edge = IsSomeAnd (table edge.target) (Fits edge.state)

  -- FOLLOWING

  -- a state that fits another fits each row that this one fits, after fewer blocks
  after_fewer : (bs cs : List ℕ) (state row : Row) → list_all (λ b. lists cs b) bs ≡ true → Fits state row → All (After row) cs → All (After state) bs
  after_fewer [] cs state row among h all = All-nil (After state)
  after_fewer (b ∷ bs) cs state row among h all =
      let parts = and_parts (lists cs b) (list_all (λ b. lists cs b) bs) among in
      All-cons (After state) b bs
      (on table (table (targets.Block (b + 1))) state row h (of_listed (After row) cs b parts.0 all))
      (after_fewer bs cs state row parts.1 h all)

  -- who fits another state by a return that fits passes where that one does
  pub returns_like : (held said : ParamKind) (state row : Row) → IsTrue (kind_fits (Some held) (Some said)) → Fits state row
      → MayReturn table row said → MayReturn table state held
  returns_like (Ret bs) (Ret cs) state row kinds h pass = record { by_return = refl; each_block = after_fewer bs cs state row kinds h pass.each_block }
  returns_like Num (Ret cs) state row kinds h pass = absurd (false≢true kinds)
  returns_like held Num state row kinds h pass = absurd (false≢true pass.by_return)

  -- EDGES

  edges_arrive : (b : ℕ) (bs : List ℕ) (state : Row) → All (After state) bs → All Arrives (edges_along b (map returns_to bs) state)
  edges_arrive b [] state all = All-nil Arrives
  edges_arrive b (c ∷ bs) state all =
      All-cons Arrives (move (c + 1) state) (edges_along b (map returns_to bs) state) (All-head (After state) c bs all)
      (edges_arrive b bs state (All-tail (After state) c bs all))

  blocks_after : (b : ℕ) (bs : List ℕ) (state : Row) → All Arrives (edges_along b (map returns_to bs) state) → All (After state) bs
  blocks_after b [] state all = All-nil (After state)
  blocks_after b (c ∷ bs) state all =
      All-cons (After state) c bs
      (All-head Arrives (move (c + 1) state) (edges_along b (map returns_to bs) state) all)
      (blocks_after b bs state (All-tail Arrives (move (c + 1) state) (edges_along b (map returns_to bs) state) all))

  module _ (p : Parts) (b q : ℕ) (state : Row) (kind : ParamKind) (held : kind_of state q ≡ Some kind) where
    abbrev Holds : Rule → Type 0
    Holds rule = rule.holds ≡ true

    -- a TRANSFER in parameter mode whose parameter holds a return that may be passed breaks no check
    pub return_holds : MayReturn table state kind → Hold (checks_in p table b (blocks.TransferByParameter q) (Some state))
    return_holds pass =
        let set = rule codes.unset_param (is_some (kind_of state q)) in
        let returns = rule codes.param_kind (is_return (kind_of state q)) in
        may_pass_holds p table b (blocks.TransferByParameter q) state (record {
          each_rule = All-cons Holds set (returns ∷ []) (ap is_some held) (All-cons Holds returns [] (ap is_return held ∙ pass.by_return) (All-nil Holds));
          each_edge = All-append Arrives (edges_from b (blocks.TransferByParameter q) state) []
              (edges_arrive b (return_blocks (kind_of state q)) state (rw held pass.each_block)) (All-nil Arrives);
        })

    -- and one that breaks no check has such a return
    pub return_passes : Hold (checks_in p table b (blocks.TransferByParameter q) (Some state)) → MayReturn table state kind
    return_passes h =
        let pass = may_pass p table b (blocks.TransferByParameter q) state h in
        let set = rule codes.unset_param (is_some (kind_of state q)) in
        let returns = rule codes.param_kind (is_return (kind_of state q)) in
        let edges = All-front Arrives (edges_from b (blocks.TransferByParameter q) state)
        (chain_edges table (blocks.TransferByParameter q) state) pass.each_edge in
        record {
          by_return = sym (ap is_return held) ∙ All-head Holds returns [] (All-tail Holds set (returns ∷ []) pass.each_rule);
          each_block = subst (λ k. All (After state) (return_blocks k)) held (blocks_after b (return_blocks (kind_of state q)) state edges);
        }
