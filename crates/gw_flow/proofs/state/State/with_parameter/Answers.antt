use Rattle.std.proofs.Common.{rules, ◌≡◌, Some, sym, ap, subst, ◌∙◌}
use Rattle.gw_flow.specs.declared.state.Param.{Param}
use Rattle.gw_rules.specs.Entries.{in_place, with_entry}
use Rattle.gw_rules.specs.Rows.{IsOrdered, with_parameter}
use Rattle.gw_flow.specs.Viewed.{kind_viewed, params_viewed, row_view}
use Rattle.gw_rules.proofs.Entries.{entries-in_place}
use Rattle.gw_flow.proofs.Ordered.{with_parameter_ordered}
use Rattle.gw_flow.proofs.state.State.with_parameter.Goals as goal

made : (c : goal.In_ok-copy_of-2) → row_view c.from_vec.result c.in_ok-copy_of.field-0 c.in_ok-copy_of-2.field-0
    ≡ with_parameter c.args.number (kind_viewed c.args.kind) c.args.self.now
made c =
    let one : Param = record { number = c.args.number; kind = c.args.kind } in
    let items : c.from_vec.result ≡ in_place (λ (p : Param). p.number) one c.self.inside.params =
    c.from_vec.ensures ∙ c.in_ok-params.ensures ∙ ap (in_place (λ (p : Param). p.number) one) c.as_slice.ensures in
    let params : params_viewed c.from_vec.result ≡ with_entry c.args.number (Some (kind_viewed c.args.kind)) (params_viewed c.self.inside.params) =
    ap params_viewed items ∙ entries-in_place (λ (p : Param). p.number) (λ (p : Param). kind_viewed p.kind) one c.self.inside.params in
    search rules

pub invariant_of-result : goal.invariant_of-result
invariant_of-result c = subst IsOrdered (sym (made c))
    (with_parameter_ordered c.args.self.now (subst IsOrdered c.self.view_is c.self.invariant) c.args.number (kind_viewed c.args.kind) c.requires)

pub returns : goal.returns
returns c = made c
