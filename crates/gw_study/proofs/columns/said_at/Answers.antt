use Rattle.std.proofs.Common.{◌∙◌, sym, subst, refl, inl, inr, None}
use Rattle.std.specs.Prelude.{Contains}
use Rattle.gw_study.specs.Table.{value_at}
use Rattle.gw_study.proofs.Mapping.{map_map}
use Rattle.gw_study.proofs.columns.said_at.Goals as goal

pub returns-in-Some : goal.returns-in-Some
returns-in-Some c =
    let numbers = rw c.in-Some.is at c.in_ok-values.ensures.column in
    let same = sym (map_map (value_at c.args.place) (λ row. row.now) c.args.rows.now) ∙ numbers in
    inl (c.in-Some.values.items, same, rw c.deref.ensures.value at c.summarize.ensures)

pub returns-in-None : goal.returns-in-None
returns-in-None c =
    let none = rw c.in-None.is at c.in_ok-values.ensures.column in
    inr (subst (λ xs. Contains xs None) (map_map (value_at c.args.place) (λ row. row.now) c.args.rows.now) none, refl)
