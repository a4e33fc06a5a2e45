use Rattle.std.proofs.Common.{rules, ◌≡◌, ℕ, ℤ, List, ◌∙◌, refl}
use Rattle.gw_rules.specs.Values.{with_first}
use Rattle.gw_step.specs.Outcome.{Gives, EndsBy}
use Rattle.gw_step.specs.Times.{environment_of_next}
use Rattle.gw_step.specs.declared.ends.End.TheVariants.{Live}
use Rattle.gw_machine.specs.View.{state_of}
use Rattle.gw_scan.proofs.Arriving.{arriving, act-generate}
use Rattle.gw_scan.specs.Origins.{generate_of}
use Rattle.gw_scan.proofs.visit.Visit.arrive_within.Goals as goal

pub returns-in-Err : goal.returns-in-Err
returns-in-Err c =
    let v = c.args.self.now in
    let s = state_of c.args.machine.now in
    let is = c.in-Err.ensures v.verified.now (environment_of_next c.args.g.priority s) in
    ((act-generate v.verified.now v.tx.number v.transaction (generate_of c.args.g) s (EndsBy c.in-Err.end) c.requires.owed is, refl), refl)

pub returns-then-not-may_live : goal.returns-then-not-may_live
returns-then-not-may_live c =
    let v = c.args.self.now in
    let s = state_of c.args.machine.now in
    let drawn : ℤ × List ℕ = (c.in-Ok.drawn.0, with_first c.in-Ok.drawn.1 s.streams) in
    let is = c.in-Ok.ensures v.verified.now (environment_of_next c.args.g.priority s) in
    let full : arriving v.verified.now v.tx.number v.transaction (generate_of c.args.g) s (Gives drawn) ≡ EndsBy Live = search rules in
    ((act-generate v.verified.now v.tx.number v.transaction (generate_of c.args.g) s (Gives drawn) c.requires.owed is ∙ full, refl), refl)

pub returns : goal.returns
returns c =
    let v = c.args.self.now in
    let s = state_of c.args.machine.now in
    let drawn : ℤ × List ℕ = (c.in-Ok.drawn.0, with_first c.in-Ok.drawn.1 s.streams) in
    let is = c.in-Ok.ensures v.verified.now (environment_of_next c.args.g.priority s) in
    let made : arriving v.verified.now v.tx.number v.transaction (generate_of c.args.g) s (Gives drawn)
    ≡ Gives (state_of c.enter_and_arrive.new.machine) = search rules in
    (act-generate v.verified.now v.tx.number v.transaction (generate_of c.args.g) s (Gives drawn) c.requires.owed is ∙ made, search rules)
