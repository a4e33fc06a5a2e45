use Rattle.std.proofs.Common.{rules, ◌≡◌, ◌<◌, length, get_or, false, sym, subst, arith}
use Rattle.std.proofs.lemmas.Option.{slice_get_within}
use Rattle.gw_settle.specs.Versions.{IsOneVersion, IsReturnAt}
use Rattle.gw_settle.proofs.Drafting.{already_idle}
use Rattle.gw_settle.proofs.passing.is_sent_already.Goals as goal

pub are_of_one_version-requires-clause-place : goal.are_of_one_version-requires-clause-place
are_of_one_version-requires-clause-place c =
    let within : c.args.place < length c.args.draft.now.versions.items = omega (arith, c.requires.place, c.requires.rows, c.requires.noted.versions.length) in
    subst (λ vs. c.args.place < length vs) (sym c.deref.ensures.value) within

pub are_of_one_version-requires-clause-other : goal.are_of_one_version-requires-clause-other
are_of_one_version-requires-clause-other c =
    let d = c.args.draft.now in
    let other : IsReturnAt c.args.parts.now.blocks c.in-Some.parameter d.returned = search rules in
    let there = slice_get_within c.args.parts.now.blocks d.returned _ other in
    let within : d.returned < length d.versions.items = omega (arith, there, c.requires.rows, c.requires.noted.versions.length) in
    subst (λ vs. d.returned < length vs) (sym c.deref.ensures.value) within

pub returns : goal.returns
returns c = λ is.
    let d = c.args.draft.now in
    let q = c.in-Some.parameter in
    let here : IsReturnAt c.args.parts.now.blocks q c.args.place = search rules in
    let other : IsReturnAt c.args.parts.now.blocks q d.returned = search rules in
    let unmarked : get_or d.marks.items d.returned false ≡ false = search rules in
    already_idle c.args.parts.now d c.args.place d.returned q c.requires.noted here other unmarked
    (subst (λ vs. IsOneVersion vs c.args.place d.returned) c.deref.ensures.value (c.are_of_one_version.ensures is))
