use Rattle.std.proofs.Common.{rules, ◌≡◌, ◌≢◌, ℕ, ◌<◌, [], map, sym, subst, ap, ◌∙◌}
use Rattle.std.specs.Prelude.{All, AllPairs}
use Rattle.std.proofs.lemmas.List.Elements.{All-nil}
use Rattle.gw_object.specs.Grammar.{AreAscending}
use Rattle.gw_flow.specs.declared.abstract_state.Amount.{Amount}
use Rattle.gw_rules.specs.Seen.{units_seen, params_said}
use Rattle.gw_flow.specs.Known.{parameter_carried, amounts_of, params_of}
use Rattle.gw_flow.proofs.Ascending.{AllPairs-from_map, All-from_map}
use Rattle.gw_flow.proofs.Ordered.{row_ordered}
use Rattle.gw_flow.proofs.Carried.{carried_ascends, carried_says}
use Rattle.gw_flow.proofs.abstract_state.AbsState.of_row.Goals as goal

pub of-requires : goal.of-requires
of-requires c =
    let row = c.args.row.now in
    let ordered = row_ordered [] (All-nil AreAscending) row c.requires.ascending c.requires.amounts in
    let amounts : amounts_of c.from_vec-2.result ≡ units_seen row.units = search rules in
    let parameters : c.from_vec.result ≡ map parameter_carried row.parameters = search rules in
    record {
      parameters = rw parameters (carried_ascends row.parameters c.requires.ascending.parameters);
      facilities = rw c.in_ok-copy_of.ensures c.requires.ascending.facilities;
      units = AllPairs-from_map (λ (a b : ℕ × ℕ). a.0 < b.0) (λ (u : Amount). (u.entity, u.number)) c.from_vec-2.result
          (subst (AllPairs (λ (a b : ℕ × ℕ). a.0 < b.0)) (sym amounts) ordered.units);
      amounts = All-from_map (λ (e : ℕ × ℕ). e.1 ≢ 0) (λ (u : Amount). (u.entity, u.number)) c.from_vec-2.result
          (subst (All (λ (e : ℕ × ℕ). e.1 ≢ 0)) (sym amounts) ordered.amounts);
    }

pub returns : goal.returns
returns c rows =
    let row = c.args.row.now in
    let parameters : c.from_vec.result ≡ map parameter_carried row.parameters = search rules in
    let says : params_of rows c.from_vec.result ≡ params_said rows row.parameters = ap (params_of rows) parameters ∙ carried_says rows row.parameters in
    search (rules, says)
