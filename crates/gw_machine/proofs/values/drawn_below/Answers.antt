use Rattle.std.proofs.Common.{◌≡◌, ◌-◌, ◌<◌, to_z, of_z, w64, rules, ℤ, pos, length, slice_set, ap, ◌∙◌, sym, arith}
use Rattle.gw_machine.proofs.Evaluating.{below-drawn}
use Rattle.gw_machine.proofs.values.drawn_below.Goals as goal

value_is : (c : goal.After-from) → to_z w64 (of_z w64 c.from.result) ≡ pos c.below_from-drawn.result.0
value_is c = search rules

pub returns : goal.returns
returns c =
    let within : c.args.number - 1 < length c.args.streams.now = omega arith in
    below-drawn c.args.bound c.args.number c.args.streams.now c.index-streams-place.result _ _ within c.below_from-drawn.ensures.drawn
    c.below_from-drawn.ensures.stream
    ∙ ap (λ (z : ℤ). (z, slice_set c.args.streams.now (c.args.number - 1) c.below_from-drawn.result.1)) (sym (value_is c))
