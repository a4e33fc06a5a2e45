use Rattle.std.proofs.Common.{rules, ◌≡◌, ℕ, ℤ, List, ◌∙◌, refl}
use Rattle.gw_rules.specs.Values.{with_first}
use Rattle.gw_step.specs.Outcome.{Gives, EndsBy}
use Rattle.gw_step.specs.Times.{environment_of}
use Rattle.gw_machine.specs.Spans.{spread_of}
use Rattle.gw_machine.specs.View.{state_of}
use Rattle.gw_scan.proofs.BlocksWithValue.{advanced, act-advance}
use Rattle.gw_scan.proofs.visit.Visit.advance_within.Goals as goal

pub returns-in-Err : goal.returns-in-Err
returns-in-Err c =
    let v = c.args.self.now in
    let s = state_of c.args.machine.now in
    let is = c.in-Err.ensures v.verified.now (environment_of v.tx.number v.transaction s) in
    ((act-advance v.verified.now v.tx.number v.transaction s (spread_of c.args.span) (EndsBy c.in-Err.end) is, refl), refl)

pub returns : goal.returns
returns c =
    let v = c.args.self.now in
    let s = state_of c.args.machine.now in
    let drawn : ℤ × List ℕ = (c.in-Ok.drawn.0, with_first c.in-Ok.drawn.1 s.streams) in
    let is = c.in-Ok.ensures v.verified.now (environment_of v.tx.number v.transaction s) in
    let made : advanced v.verified.now v.tx.number v.transaction s drawn ≡ Gives (state_of c.pass_until_after.new.machine) = search rules in
    (act-advance v.verified.now v.tx.number v.transaction s (spread_of c.args.span) (Gives drawn) is ∙ made, search rules)
