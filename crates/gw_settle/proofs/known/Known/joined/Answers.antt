use Rattle.std.proofs.Common.{rules, ◌≡◌, ◌<◌, ℕ, sym, subst}
use Rattle.std.specs.Prelude.{All, AllPairs}
use Rattle.gw_rules.specs.Rows.{ParamKind, KindAscends, IsOrdered}
use Rattle.gw_flow.proofs.Ascending.{All-from_map, AllPairs-from_map}
use Rattle.gw_settle.specs.declared.known.KnownParam.{KnownParam}
use Rattle.gw_settle.specs.Joins.{join_rows}
use Rattle.gw_settle.specs.Known.{kind_known, known_viewed}
use Rattle.gw_settle.proofs.Keeping.{amounts_ascend}
use Rattle.gw_settle.proofs.Ordering.{join_is_ordered}
use Rattle.gw_settle.proofs.known.Known.joined.Goals as goal

pub params_joined-requires-clause-params : goal.params_joined-requires-clause-params
params_joined-requires-clause-params c =
    let is : c.as_slice.result.now ≡ c.self.inside.lists.value.params = search rules in
    subst (AllPairs (λ (a b : KnownParam). a.number < b.number)) (sym is)
    (AllPairs-from_map (λ (a b : ℕ × ParamKind). a.0 < b.0) (λ (p : KnownParam). (p.number, kind_known p.kind))
    c.self.inside.lists.value.params c.self.invariant.params)

pub params_joined-requires-clause-kinds : goal.params_joined-requires-clause-kinds
params_joined-requires-clause-kinds c =
    let is : c.as_slice.result.now ≡ c.self.inside.lists.value.params = search rules in
    subst (All (λ (p : KnownParam). KindAscends (kind_known p.kind))) (sym is)
    (All-from_map (λ (e : ℕ × ParamKind). KindAscends e.1) (λ (p : KnownParam). (p.number, kind_known p.kind))
    c.self.inside.lists.value.params c.self.invariant.returns)

pub units_joined-requires-clause-units : goal.units_joined-requires-clause-units
units_joined-requires-clause-units c = amounts_ascend c.as_slice-3.result.now c.self.inside.lists.value.units (search rules) c.self.invariant.units

pub of_lists-requires : goal.of_lists-requires
of_lists-requires c =
    let all : known_viewed c.lists_of.result ≡ join_rows c.args.self.now c.args.state.now = search rules in
    subst IsOrdered (sym all) (join_is_ordered c.args.self.now c.args.state.now (subst IsOrdered c.self.view_is c.self.invariant) c.params.ensures.ordered)
