use Rattle.std.proofs.Common.{rules, w64}
use Rattle.std.proofs.lemmas.Int.{to_z-of_z}
use mir.Val.{SFits}
use Rattle.gw_plus.proofs.activation.Activation.settle.Goals as goal

pub returns-in-Ok : goal.returns-in-Ok
returns-in-Ok c =
    let fits : SFits w64 c.in-Ok.value = search rules in
    λ p i. rw c.in-Ok.is (rw to_z-of_z at (c.push_and_go.ensures p i))
