use Rattle.std.proofs.Common.{◌∙◌, List, ◌++◌, reverse, ap, sym, subst}
use Rattle.std.specs.Prelude.{IsPermutation}
use Rattle.std.proofs.lemmas.List.{reverse-reverse}
use Rattle.std.proofs.lemmas.List.Sorted.{IsPermutation-reverse, IsPermutation-append_left}
use Rattle.gw_members.specs.Chain.{Chain}
use Rattle.gw_members.specs.declared.tx.Event.{Event}
use Rattle.gw_chains.proofs.fec.Fec.iter.Goals as goal

pub returns : goal.returns
returns c =
    let few = c.self.inside.few.items in
    let many = c.self.inside.many.items in
    let turned : IsPermutation (reverse few) few = subst (IsPermutation (reverse few)) (reverse-reverse few) (IsPermutation-reverse (reverse few)) in
    let yields = ap (λ (es : List Event). es ++ c.iter-2.result) (c.iter.ensures.rest ∙ c.deref.ensures.value)
    ∙ ap (λ (es : List Event). few ++ es) c.iter-2.ensures in
    rw (← ap (λ (v : Chain Event). v.items) c.self.view_is)
    (subst (IsPermutation (reverse few ++ many)) (sym yields) (IsPermutation-append_left many (reverse few) few turned))
