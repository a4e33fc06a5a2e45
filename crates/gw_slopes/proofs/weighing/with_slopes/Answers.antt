use Rattle.std.proofs.Common.{◌≡◌, ◌+◌, sym, ap, ◌∙◌, subst, inl, inr}
use Rattle.std.proofs.lemmas.Result.{IfOk-weaker, IfErr-weaker}
use Rattle.gw_object.specs.Limits.{most_parameters}
use Rattle.gw_object.specs.Grammar.{HasSpelling}
use Rattle.gw_object.specs.declared.parts.Parts.{Parts}
use Rattle.gw_rules.proofs.KindsHold.{kinds_pass_at_each_place}
use Rattle.gw_rules.proofs.Rooms.{calls_have_next}
use Rattle.gw_rules.specs.Seen.{HaveNext}
use Rattle.gw_weighing.specs.Certificates.{HasLeastWeights}
use Rattle.gw_slopes.specs.Aside.{without_slopes, own_of, with_own}
use Rattle.gw_slopes.specs.Found.{AreAlike, HasSlopes, IsSearched, IsUntried}
use Rattle.gw_slopes.proofs.Alike.{has_of_emptied, none_of_emptied, back}
use Rattle.gw_slopes.proofs.weighing.with_slopes.Goals as goal

pub search-requires-clause-next : goal.search-requires-clause-next
search-requires-clause-next c =
    let o = c.args.object in
    let next : HaveNext o.returns = calls_have_next o c.into_parts-parts.ensures.limits.limits.blocks ((kinds_pass_at_each_place o).0 c.requires.kinds).2 in
    rw (c.put_aside-own.ensures.parts, c.into_parts-parts.ensures.value) next

pub made_again-requires : goal.made_again-requires
made_again-requires c =
    let o = c.args.object in
    let x = c.search.new.parts in
    let aside : c.put_aside-own.new.parts ≡ without_slopes o = c.put_aside-own.ensures.parts ∙ ap without_slopes c.into_parts-parts.ensures.value in
    let own : c.put_aside-own.result ≡ own_of o = c.put_aside-own.ensures.own ∙ ap own_of c.into_parts-parts.ensures.value in
    let alike = subst (λ (y : Parts). AreAlike y x) aside c.in-Ok-false.ensures.alike in
    let again : c.put_back.new.parts ≡ o = c.put_back.ensures ∙ ap (with_own x) own ∙ back o x alike in
    subst HasSpelling (sym again) c.into_parts-parts.ensures.limits

pub returns-in-Ok-true-clause-tried : goal.returns-in-Ok-true-clause-tried
returns-in-Ok-true-clause-tried c =
    let o = c.args.object in
    let x = c.search.new.parts in
    let aside : c.put_aside-own.new.parts ≡ without_slopes o = c.put_aside-own.ensures.parts ∙ ap without_slopes c.into_parts-parts.ensures.value in
    let has : HasSlopes o x = has_of_emptied o x (subst (λ (y : Parts). HasSlopes y x) aside (c.in-Ok-true.ensures.has c.in-Ok-true.field-0-test)) in
    IfOk-weaker c.finished.result _ _
    (λ made h. inr (subst (λ (y : Parts). HasSlopes o y × HasLeastWeights y) (sym h.0) (has, has.least h.1))) c.finished.ensures.made

pub returns-in-Ok-true-clause-refused : goal.returns-in-Ok-true-clause-refused
returns-in-Ok-true-clause-refused c =
    let o = c.args.object in
    let x = c.search.new.parts in
    let aside : c.put_aside-own.new.parts ≡ without_slopes o = c.put_aside-own.ensures.parts ∙ ap without_slopes c.into_parts-parts.ensures.value in
    let has : HasSlopes o x = has_of_emptied o x (subst (λ (y : Parts). HasSlopes y x) aside (c.in-Ok-true.ensures.has c.in-Ok-true.field-0-test)) in
    IfErr-weaker c.finished.result _ _ (λ refusal h. subst (IsUntried o) (sym h.0) (record { sloped = x; has = has; long = h.1 })) c.finished.ensures.refused

pub returns-in-Ok-false-clause-tried : goal.returns-in-Ok-false-clause-tried
returns-in-Ok-false-clause-tried c =
    let o = c.args.object in
    let x = c.search.new.parts in
    let aside : c.put_aside-own.new.parts ≡ without_slopes o = c.put_aside-own.ensures.parts ∙ ap without_slopes c.into_parts-parts.ensures.value in
    let own : c.put_aside-own.result ≡ own_of o = c.put_aside-own.ensures.own ∙ ap own_of c.into_parts-parts.ensures.value in
    let searched = subst (λ (y : Parts). IsSearched y x c.in-Ok-false.field-0) aside c.in-Ok-false.ensures in
    let again : c.put_back.new.parts ≡ o = c.put_back.ensures ∙ ap (with_own x) own ∙ back o x searched.alike in
    inl (c.made_again.ensures ∙ again, none_of_emptied o (most_parameters + 1) (searched.none c.in-Ok-false.field-0-test))
