use Rattle.std.proofs.Common.{rules, get_or, pos, w64, ap}
use Rattle.std.proofs.lemmas.Int.{to_z-of_z}
use mir.Val.{SFits}
use Rattle.gw_plus.specs.Activation.{frame_of}
use Rattle.gw_plus.proofs.Steps.{gets_is}
use Rattle.gw_plus.proofs.activation.Activation.get.Goals as goal

pub returns : goal.returns
returns c =
    let value = get_or c.deref.result.now c.args.local (pos 0) in
    let fits : SFits w64 value = search rules in
    let is = gets_is c.args.local (frame_of c.args.self.now) value c.requires.going (ap (λ xs. get_or xs c.args.local (pos 0)) c.deref.ensures.0) in
    λ p i. rw is (rw to_z-of_z at (c.push_and_go.ensures p i))
