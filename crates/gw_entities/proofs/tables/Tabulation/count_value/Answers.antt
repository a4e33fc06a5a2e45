use Rattle.std.proofs.Common.{◌∙◌, w64, refl}
use Rattle.std.proofs.lemmas.Int.{to_z-of_z}
use Rattle.std.proofs.lemmas.List.{with_items_is}
use Rattle.gw_entities.proofs.tables.Tabulation.count_value.Goals as goal

pub invariant_of-self : goal.invariant_of-self
invariant_of-self c =
    rw (with_items_is c.self.inside.classes c.count_in.new.classes (c.count_in.ensures.count ∙ c.deref_mut.ensures.len))
    (c.self.invariant.0, c.count_in.ensures.most c.self.inside.count (rw c.deref_mut.ensures.value c.self.invariant.1))

pub returns : goal.returns
returns c =
    let s = c.self.inside in
    let class = rw (to_z-of_z w64 c.args.value c.ranges.value, ← c.self.view_is) at c.class_of-class.ensures in
    let classes = rw (c.deref_mut.ensures.value, class) at c.count_in.ensures.value in
    rw (
      with_items_is s.classes c.count_in.new.classes (c.count_in.ensures.count ∙ c.deref_mut.ensures.len),
      to_z-of_z w64 c.args.sum c.ranges.sum,
      ← c.self.view_is,
    )
    (rw classes refl)
