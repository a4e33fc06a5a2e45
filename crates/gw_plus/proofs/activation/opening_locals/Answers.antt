use Rattle.std.proofs.Common.{rules, ◌≡◌, ◌++◌, ◌∷◌, [], ◌∙◌, sym, ap, get_or, pos, w64}
use Rattle.std.proofs.lemmas.Int.{to_z-of_z}
use mir.Val.{SFits}
use Rattle.gw_plus.proofs.Calls.{next_local}
use Rattle.gw_plus.proofs.activation.opening_locals.Goals as goal

pub loop-i-preserved : goal.loop-i-preserved
loop-i-preserved c =
    let fits : SFits w64 c.unwrap_or.result = search rules in
    let value : c.unwrap_or.result ≡ get_or c.args.arguments.now c.loop-i.i (pos 0) = search rules in
    rw to_z-of_z at c.push.ensures.items
    ∙ ap (λ xs. xs ++ c.unwrap_or.result ∷ []) c.loop-i.invariant
    ∙ rw value (sym (next_local c.args.arguments.now c.args.count c.loop-i.i c.requires.arguments c.loop-i-test.true))
