use Rattle.std.proofs.Common.{rules, ◌≡◌, inl, inr, refl, sym, subst, ◌∙◌}
use Rattle.std.proofs.lemmas.Result.{IfOk-weaker, IfErr-weaker}
use Rattle.gw_object.specs.Grammar.{HasSpelling}
use Rattle.gw_object.specs.declared.parts.Parts.{Parts}
use Rattle.gw_rules.specs.Pass.{KindsPass}
use Rattle.gw_rules.specs.PlusChecks.{PlusPasses}
use Rattle.gw_rules.specs.Flow.{own_table, FlowPasses}
use Rattle.gw_settle.specs.Keeps.{IsWell}
use Rattle.gw_settle.specs.Settles.{with_written, IsFlowFault, Passes, HasAssemblersTable, IsGreatest}
use Rattle.gw_settle.proofs.Tabled.{plus_same}
use Rattle.gw_settle.proofs.Answered.{kinds_settled, table_settled, greatest_settled, complete_settled, refused_settled}
use Rattle.gw_settle.proofs.Spelled.{too_large_written}
use Rattle.gw_settle.proofs.settling.settle.Goals as goal

well : (p : Parts) → KindsPass p → HasSpelling p → IsWell p
well p kinds spelled = record { spelled = spelled; kinds = kinds }

pub checked-requires-clause-kinds : goal.checked-requires-clause-kinds
checked-requires-clause-kinds c =
    let same : c.in-Ok-with_table.settled ≡ with_written c.args.object c.in-Ok.table = search rules in
    subst KindsPass (sym same) (kinds_settled c.args.object c.in-Ok.table (well c.args.object c.requires.kinds (search rules)) (search rules))

pub returns-in-Ok-with_table-clause-accepted : goal.returns-in-Ok-with_table-clause-accepted
returns-in-Ok-with_table-clause-accepted c =
    let same : c.in-Ok-with_table.settled ≡ with_written c.args.object c.in-Ok.table = search rules in
    IfOk-weaker c.checked.result _ _ (λ o h. subst (Passes c.args.object) (sym (h.0 ∙ same)) (record {
      same = refl;
      kinds = kinds_settled c.args.object c.in-Ok.table (well c.args.object c.requires.kinds (search rules)) (search rules);
      flow = subst (λ x. FlowPasses x (own_table x)) same h.1;
    })) c.checked.ensures.passed

pub returns-in-Ok-with_table-clause-code : goal.returns-in-Ok-with_table-clause-code
returns-in-Ok-with_table-clause-code c =
    let same : c.in-Ok-with_table.settled ≡ with_written c.args.object c.in-Ok.table = search rules in
    IfOk-weaker c.checked.result _ _
    (λ o h. subst PlusPasses (sym (h.0 ∙ same))
    (plus_same c.args.object c.in-Ok.table.returns c.in-Ok.table.states c.in-Ok.table.chain_states c.requires.code)) c.checked.ensures.passed

pub returns-in-Ok-with_table-clause-table : goal.returns-in-Ok-with_table-clause-table
returns-in-Ok-with_table-clause-table c =
    let same : c.in-Ok-with_table.settled ≡ with_written c.args.object c.in-Ok.table = search rules in
    IfOk-weaker c.checked.result _ _
    (λ o h. subst (HasAssemblersTable c.args.object) (sym (h.0 ∙ same))
    (table_settled c.args.object c.in-Ok.table (well c.args.object c.requires.kinds (search rules)) (search rules))) c.checked.ensures.passed

pub returns-in-Ok-with_table-clause-greatest : goal.returns-in-Ok-with_table-clause-greatest
returns-in-Ok-with_table-clause-greatest c =
    let same : c.in-Ok-with_table.settled ≡ with_written c.args.object c.in-Ok.table = search rules in
    IfOk-weaker c.checked.result _ _
    (λ o h. subst (IsGreatest c.args.object) (sym (h.0 ∙ same))
    (greatest_settled c.args.object c.in-Ok.table (well c.args.object c.requires.kinds (search rules)) (search rules))) c.checked.ensures.passed

pub returns-in-Ok-with_table-clause-refused : goal.returns-in-Ok-with_table-clause-refused
returns-in-Ok-with_table-clause-refused c =
    let same : c.in-Ok-with_table.settled ≡ with_written c.args.object c.in-Ok.table = search rules in
    IfErr-weaker c.checked.result _ _
    (λ e h. refused_settled c.args.object c.in-Ok.table (well c.args.object c.requires.kinds (search rules)) (search rules) e.1
    (subst (λ x. IsFlowFault x e.1) same h)) c.checked.ensures.refused

pub returns-in-Ok-with_table-clause-complete : goal.returns-in-Ok-with_table-clause-complete
returns-in-Ok-with_table-clause-complete c =
    let same : c.in-Ok-with_table.settled ≡ with_written c.args.object c.in-Ok.table = search rules in
    IfErr-weaker c.checked.result _ _
    (λ e h. complete_settled c.args.object c.in-Ok.table (well c.args.object c.requires.kinds (search rules)) (search rules) e.1
    (subst (λ x. IsFlowFault x e.1) same h)) c.checked.ensures.refused

pub returns-in-Err-with_table-clause-refused : goal.returns-in-Err-with_table-clause-refused
returns-in-Err-with_table-clause-refused c = inl (inr (too_large_written c.args.object c.in-Ok.table _ (search rules) c.in-Err-with_table.ensures.refused refl))

pub returns-in-Err-with_table-clause-complete : goal.returns-in-Err-with_table-clause-complete
returns-in-Err-with_table-clause-complete c =
    λ none q passes. inr (too_large_written c.args.object c.in-Ok.table _ (search rules) c.in-Err-with_table.ensures.refused refl)
