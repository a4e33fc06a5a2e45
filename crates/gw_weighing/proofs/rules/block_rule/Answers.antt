use Rattle.std.proofs.Common.{rules, ◌≡◌, ◌+◌, suc, Some, refl, arith}
use Rattle.gw_weighing.specs.Rules.{state_at}
use Rattle.gw_weighing.proofs.rules.block_rule.Goals as goal

pub returns-in-Some : goal.returns-in-Some
returns-in-Some c =
    let here : state_at c.args.parts.now c.args.place ≡ Some c.in-Some.row.now = search rules in
    let number : c.args.place + 1 ≡ suc c.args.place = omega arith in
    rw (here, c.first_sum.ensures, c.second_sum.ensures, number) refl
