-- An object with the assembler's table.
use Rattle.std.proofs.Common.{◌≡◌, ◌⊎◌, inl, inr, ℕ, zero, suc, List, [], ◌∷◌, ◌++◌, map, length, option_map, Option, Some, None, Bool, true, false}
use Rattle.std.proofs.Common.{if◌then◌else◌, refl, sym, ap, ap₂, subst, ◌∙◌}
use Rattle.std.specs.Prelude.{All, IfSome, slice_get, nat_eq}
use Rattle.std.specs.List.{list_any}
use Rattle.std.specs.Option.{option_flatten}
use Rattle.std.specs.Cmp.Lexicographic.{pointwise}
use Rattle.std.proofs.lemmas.List.Elements.{All-nil, All-cons, All-head, All-tail, All-push}
use Rattle.gw_object.specs.declared.blocks.Block.{Block}
use Rattle.gw_object.specs.Reading.{out_of_memory}
use Rattle.gw_object.specs.declared.fault.Fault.{Fault}
use Rattle.gw_object.specs.declared.parts.Entity.{Entity}
use Rattle.gw_object.specs.declared.parts.TableState.{TableState}
use Rattle.gw_object.specs.declared.parts.ReturnRow.{ReturnRow}
use Rattle.gw_object.specs.declared.parts.Parts.{Parts}
use Rattle.gw_rules.specs.Checks.{first_broken}
use Rattle.gw_rules.specs.Kinds.{is_call_at, chain_place, chain_row}
use Rattle.gw_rules.specs.Pass.{KindsPass}
use Rattle.gw_rules.specs.declared.edges.Target.TheVariants as targets
use Rattle.gw_rules.specs.Rows.{Row, ParamKind, Num, Ret}
use Rattle.gw_rules.specs.Seen.{row_meaning}
use Rattle.gw_rules.specs.Flow.{own_table, flow_checks, FlowPasses}
use Rattle.gw_flow.proofs.Ascending.{All-from_map}
use Rattle.gw_settle.specs.declared.written.Written.{Written}
use Rattle.gw_settle.specs.Rounds.{as_table, own_rows, AreSettled}
use Rattle.gw_settle.specs.Keeps.{NoneChanged, IsByPlace, IsNamed, KindNamesCalls, NamesCalls, IsWell, AreKept, IsSettled}
use Rattle.gw_settle.specs.Numbers.{with_kind, with_params, with_row, with_rows, sets_in}
use Rattle.gw_settle.specs.Written.{NamesRows}
use Rattle.gw_settle.specs.Settles.{with_table, Passes, HasAssemblersTable, IsNoFlowFault, IsRefused, IsComplete, IsGreatest, IsTableOf}
use Rattle.gw_settle.proofs.Rows.{by_place, all_at}
use Rattle.gw_settle.proofs.Complete.{settled_passes}
use Rattle.gw_settle.proofs.Tabled.{flow_same_from, flow_same_to}
use Rattle.gw_settle.proofs.KindsStay.{IsRowWell, kinds_with, written_well}

-- SETS

module _ (bs : List Block) where
  abbrev AllCall : List ℕ → Type 0
  AllCall cs = All (λ c. is_call_at bs c ≡ true) cs

  set_if : (b : Bool) (sets : List (List ℕ)) (cs : List ℕ) → All AllCall sets → AllCall cs → All AllCall (if b then sets else sets ++ cs ∷ [])
  set_if true sets cs h g = h
  set_if false sets cs h g = All-push AllCall sets cs h g

  kind_sets : (sets : List (List ℕ)) (kind : ParamKind) → All AllCall sets → KindNamesCalls bs kind → All AllCall (with_kind sets kind)
  kind_sets sets Num h g = h
  kind_sets sets (Ret cs) h g = set_if (list_any (λ ds. pointwise nat_eq ds cs) sets) sets cs h g

  params_sets : (sets : List (List ℕ)) (ps : List (ℕ × ParamKind)) → All AllCall sets
      → All (λ (e : ℕ × ParamKind). KindNamesCalls bs e.1) ps → All AllCall (with_params sets ps)
  params_sets sets [] h g = h
  params_sets sets (p ∷ ps) h g =
      params_sets (with_kind sets p.1) ps (kind_sets sets p.1 h (All-head (λ (e : ℕ × ParamKind). KindNamesCalls bs e.1) p ps g))
      (All-tail (λ (e : ℕ × ParamKind). KindNamesCalls bs e.1) p ps g)

  row_sets : (sets : List (List ℕ)) (row : Option Row) → All AllCall sets → IfSome row (NamesCalls bs) → All AllCall (with_row sets row)
  row_sets sets None h g = h
  row_sets sets (Some row) h g = params_sets sets row.params h g

  rows_sets : (sets : List (List ℕ)) (rows : List (Option Row)) → All AllCall sets → All (λ row. IfSome row (NamesCalls bs)) rows
      → All AllCall (with_rows sets rows)
  rows_sets sets [] h g = h
  rows_sets sets (row ∷ rows) h g =
      rows_sets (with_row sets row) rows (row_sets sets row h (All-head (λ r. IfSome r (NamesCalls bs)) row rows g))
      (All-tail (λ r. IfSome r (NamesCalls bs)) row rows g)

-- ROWS

all_from_at : (P : Row → Type 0) (rows : List (Option Row)) → ((k : ℕ) → IfSome (option_flatten (slice_get rows k)) P) → All (λ r. IfSome r P) rows
all_from_at P [] h = All-nil (λ r. IfSome r P)
all_from_at P (row ∷ rows) h = All-cons (λ r. IfSome r P) row rows (h zero) (all_from_at P rows (λ k. h (suc k)))

one_well : (es : List Entity) (returns : List ReturnRow) (n : ℕ) (o : Option TableState)
    → IfSome (option_map (row_meaning returns) o) (IsNamed es) → IfSome o (NamesRows n) → IfSome o (IsRowWell es n)
one_well es returns n None h g = tt
one_well es returns n (Some state) h g = written_well es returns n state h g

list_well : (es : List Entity) (returns : List ReturnRow) (n : ℕ) (states : List (Option TableState))
    → All (λ r. IfSome r (IsNamed es)) (map (option_map (row_meaning returns)) states) → All (λ s. IfSome s (NamesRows n)) states
    → All (λ s. IfSome s (IsRowWell es n)) states
list_well es returns n [] h g = All-nil (λ s. IfSome s (IsRowWell es n))
list_well es returns n (s ∷ states) h g =
    All-cons (λ s. IfSome s (IsRowWell es n)) s states
    (one_well es returns n s
    (All-head (λ r. IfSome r (IsNamed es)) (option_map (row_meaning returns) s) (map (option_map (row_meaning returns)) states) h)
    (All-head (λ s. IfSome s (NamesRows n)) s states g))
    (list_well es returns n states
    (All-tail (λ r. IfSome r (IsNamed es)) (option_map (row_meaning returns) s) (map (option_map (row_meaning returns)) states) h)
    (All-tail (λ s. IfSome s (NamesRows n)) s states g))

at_map : (returns : List ReturnRow) (states : List (Option TableState)) (k : ℕ)
    → option_flatten (slice_get (map (option_map (row_meaning returns)) states) k) ≡ option_map (row_meaning returns) (option_flatten (slice_get states k))
at_map returns [] k = refl
at_map returns (s ∷ states) zero = refl
at_map returns (s ∷ states) (suc k) = at_map returns states k

module _ (p : Parts) (w : Written) (well : IsWell p) (t : IsTableOf p w) where
  abbrev q : Parts
  q = with_table p w.returns w.states w.chain_states

  calls : All (λ (row : ReturnRow). All (λ b. is_call_at p.blocks b ≡ true) row.blocks) w.returns
  calls =
      All-from_map (λ cs. All (λ b. is_call_at p.blocks b ≡ true) cs) (λ (row : ReturnRow). row.blocks) w.returns
      (subst (All (λ cs. All (λ b. is_call_at p.blocks b ≡ true) cs)) (sym t.says.returns)
      (rows_sets p.blocks (with_rows [] t.rows.blocks) t.rows.chains
      (rows_sets p.blocks [] t.rows.blocks (All-nil (λ cs. All (λ b. is_call_at p.blocks b ≡ true) cs)) t.final.kept.block_calls) t.final.kept.chain_calls))

  block_rows : All (λ s. IfSome s (IsRowWell p.entities (length w.returns))) w.states
  block_rows =
      list_well p.entities w.returns (length w.returns) w.states
      (subst (All (λ r. IfSome r (IsNamed p.entities))) (sym t.says.blocks)
      (all_from_at (IsNamed p.entities) t.rows.blocks (λ k. t.final.kept.named (targets.Block (suc k)))))
      t.says.block_numbers

  chain_rows : (e : ℕ) → IfSome (chain_row q e) (IsRowWell p.entities (length w.returns))
  chain_rows e =
      let k = chain_place p.entities e in
      let named : IfSome (option_map (row_meaning w.returns) (option_flatten (slice_get w.chain_states k))) (IsNamed p.entities) =
      subst (λ o. IfSome o (IsNamed p.entities))
      (ap (λ (rows : List (Option Row)). option_flatten (slice_get rows k)) (sym t.says.chains) ∙ at_map w.returns w.chain_states k)
      (t.final.kept.named (targets.Chain e)) in
      one_well p.entities w.returns (length w.returns) (option_flatten (slice_get w.chain_states k)) named
      (all_at (NamesRows (length w.returns)) w.chain_states k t.says.chain_numbers)

  pub kinds_settled : KindsPass q
  kinds_settled = kinds_with p w.returns w.states w.chain_states well.kinds calls block_rows chain_rows

  rows_are : t.rows ≡ own_rows q
  rows_are = ap₂ (λ (bs cs : List (Option Row)). record { blocks = bs; chains = cs }) (sym t.says.blocks) (sym t.says.chains)

  pub table_settled : HasAssemblersTable p q
  table_settled = record { rows = subst (AreSettled p) rows_are t.final.table; returns = t.says.returns ∙ ap sets_in rows_are }

  kept : AreKept p (own_rows q)
  kept = subst (AreKept p) rows_are t.final.kept

  settled : IsSettled p (own_rows q)
  settled = subst (IsSettled p) rows_are t.final.settled

  -- the table of another object with these blocks, as one of this object's
  other_passes : (o : Parts) → Passes p o → FlowPasses p (own_table o) × IsByPlace p (own_table o)
  other_passes o h =
      let r = o.returns in
      let s = o.states in
      let c = o.chain_states in
      let other = with_table p r s c in
      let flow : FlowPasses other (own_table other) = subst (λ x. FlowPasses x (own_table x)) h.same h.flow in
      subst (λ x. FlowPasses p (own_table x) × IsByPlace p (own_table x)) (sym h.same)
      (flow_same_from p r s c (own_table other) flow, by_place p (own_rows other))

  pub greatest_settled : IsGreatest p q
  greatest_settled none o h = let other = other_passes o h in kept.good.below none (own_table o) other.1 other.0

  pub passes_where_any : NoneChanged p → (o : Parts) → Passes p o → FlowPasses q (own_table q)
  passes_where_any none o h =
      let other = other_passes o h in
      flow_same_to p w.returns w.states w.chain_states (own_table q)
      (settled_passes p (as_table p (own_rows q)) (own_table o) none kept.good settled.each other.1 other.0)

  fault_or : (fault : Fault) → (first_broken (flow_checks q (own_table q)) ≡ Some fault) ⊎ (fault ≡ out_of_memory)
      → FlowPasses q (own_table q) → IsNoFlowFault p fault
  fault_or fault (inl h) pass = absurd (let none : Some fault ≡ None = sym h ∙ pass in cc)
  fault_or fault (inr h) pass = inl h

  pub complete_settled : (fault : Fault) → (first_broken (flow_checks q (own_table q)) ≡ Some fault) ⊎ (fault ≡ out_of_memory) → IsComplete p fault
  complete_settled fault h none o passes = fault_or fault h (passes_where_any none o passes)

  pub refused_settled : (fault : Fault) → (first_broken (flow_checks q (own_table q)) ≡ Some fault) ⊎ (fault ≡ out_of_memory) → IsRefused p fault
  refused_settled fault (inl h) = inr (q, refl, table_settled, h)
  refused_settled fault (inr h) = inl (inl h)

-- an object with its own table once more is what it was
pub back : (p q : Parts) (returns own_returns : List ReturnRow)
    (states own_states chain_states own_chain_states : List (Option TableState)) → q ≡ with_table p returns states chain_states
    → own_returns ≡ p.returns → own_states ≡ p.states → own_chain_states ≡ p.chain_states →
    with_table q own_returns own_states own_chain_states ≡ p
back p q returns own_returns states own_states chain_states own_chain_states is a b c = rw (is, a, b, c) refl

-- a refusal that is no fault of flow
pub refused_otherwise : (p : Parts) (fault : Fault) → IsNoFlowFault p fault → IsRefused p fault
refused_otherwise p fault h = inl h

pub complete_otherwise : (p : Parts) (fault : Fault) → IsNoFlowFault p fault → IsComplete p fault
complete_otherwise p fault h none q passes = h
