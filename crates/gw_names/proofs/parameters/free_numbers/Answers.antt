use Rattle.std.proofs.Common.{◌≡◌, map, ap, ◌∙◌, arith}
use Rattle.gw_name_uses.specs.Sites.{mention_at}
use Rattle.gw_names.specs.Sights.{free_numbers, free_up_to}
use Rattle.gw_names.proofs.parameters.free_numbers.Goals as goal

pub returns : goal.returns
unfolding free_numbers
returns c =
    let all : c.loop-below.below ≡ 64 = omega arith in
    c.loop-below.invariant ∙ ap (free_up_to (map mention_at c.args.sites.now)) all
