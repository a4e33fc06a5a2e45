use Rattle.std.proofs.Common.{refl, sym, ◌∙◌}
use Rattle.std.proofs.lemmas.List.{take_all}
use Rattle.gw_object_bytes.proofs.EntityLaws.{strangers_more, namesake_found}
use Rattle.gw_object_bytes.proofs.entities.names_are_own.Goals as goal

pub returns-then-has_namesake : goal.returns-then-has_namesake
returns-then-has_namesake c =
    let found = sym c.has_namesake.ensures ∙ c.if-has_namesake.true in
    let twice = namesake_found c.args.entities.now c.loop-number.number c.index-entities-number.result c.tag_of-tag.result
    c.as_slice.result.now c.loop-number-test.true c.index-entities-number.is c.tag_of-tag.ensures c.as_slice.ensures found in
    (λ h. absurd cc, λ own. absurd (twice own))

pub loop-number-preserved : goal.loop-number-preserved
loop-number-preserved c =
    let none = sym c.has_namesake.ensures ∙ c.if-has_namesake.false in
    strangers_more c.args.entities.now c.loop-number.number c.index-entities-number.result c.tag_of-tag.result c.as_slice.result.now
    c.loop-number-test.true c.index-entities-number.is c.tag_of-tag.ensures c.as_slice.ensures none c.loop-number.invariant

pub returns : goal.returns
returns c = (λ h. rw (← take_all c.loop-number.number c.args.entities.now c.loop-number-test.false) c.loop-number.invariant, λ own. refl)
