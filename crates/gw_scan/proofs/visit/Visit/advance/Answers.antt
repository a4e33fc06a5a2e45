use Rattle.std.proofs.Common.{rules, ◌≡◌, Err, ◌∙◌, refl, subst}
use Rattle.gw_step.specs.Outcome.{Gives}
use Rattle.gw_step.specs.Times.{drawn_moment}
use Rattle.gw_machine.specs.declared.values.Subject.{Subject}
use Rattle.gw_machine.specs.View.{state_of}
use Rattle.gw_machine.specs.Evaluating.{environment_for, time_of}
use Rattle.gw_scan.specs.Visiting.{environment_in}
use Rattle.gw_scan.proofs.BlocksWithValue.{advanced, act-advance}
use Rattle.gw_scan.proofs.Meeting.{time_may}
use Rattle.gw_scan.proofs.Subjects.{can_evaluate}
use Rattle.gw_scan.proofs.visit.Visit.advance.Goals as goal

ended_is : (c : goal.In-Err)
    → drawn_moment c.args.self.now.verified.now (environment_in c.args.self.now c.args.machine.now) c.args.time c.args.machine.now.clock
    c.args.machine.now.streams ≡ time_of (Err c.in-Err.end) c.drawn_moment.new.streams
ended_is c = subst (λ (x : Subject). drawn_moment c.args.self.now.verified.now (environment_for x (state_of c.args.machine.now))
    c.args.time c.args.machine.now.clock c.args.machine.now.streams ≡ time_of (Err c.in-Err.end) c.drawn_moment.new.streams)
    c.active_subject-subject.ensures (rw c.streams-streams.ensures at c.in-Err.ensures)

pub returns-in-Err : goal.returns-in-Err
returns-in-Err c =
    let v = c.args.self.now in (
      (
        act-advance v.verified.now v.tx.number v.transaction (state_of c.args.machine.now) c.args.time
            (time_of (Err c.in-Err.end) c.drawn_moment.new.streams) (ended_is c),
        refl,
      ),
      refl,
    )

moment_is : (c : goal.In_ok-pass_until)
    → drawn_moment c.args.self.now.verified.now (environment_in c.args.self.now c.args.machine.now) c.args.time c.args.machine.now.clock
    c.args.machine.now.streams ≡ Gives (c.in-Ok.moment, c.drawn_moment.new.streams)
moment_is c = subst (λ (x : Subject). drawn_moment c.args.self.now.verified.now (environment_for x (state_of c.args.machine.now))
    c.args.time c.args.machine.now.clock c.args.machine.now.streams ≡ Gives (c.in-Ok.moment, c.drawn_moment.new.streams))
    c.active_subject-subject.ensures (rw c.streams-streams.ensures at c.in-Ok.ensures)

made : (c : goal.In_ok-pass_until)
    → advanced c.args.self.now.verified.now c.args.self.now.tx.number c.args.self.now.transaction (state_of c.args.machine.now)
    (c.in-Ok.moment, c.drawn_moment.new.streams) ≡ Gives (state_of c.pass_until.new.machine)
made c = search rules

pub returns : goal.returns
returns c =
    let v = c.args.self.now in (
      act-advance v.verified.now v.tx.number v.transaction (state_of c.args.machine.now) c.args.time
          (Gives (c.in-Ok.moment, c.drawn_moment.new.streams)) (moment_is c) ∙ made c,
      search rules,
    )

pub drawn_moment-requires-clause-subject : goal.drawn_moment-requires-clause-subject
drawn_moment-requires-clause-subject c =
    rw c.active_subject-subject.ensures (can_evaluate c.args.self.now c.args.machine.now c.requires.visit)

pub drawn_moment-requires-clause-spread : goal.drawn_moment-requires-clause-spread
drawn_moment-requires-clause-spread c =
    rw c.active_subject-subject.ensures (time_may c.args.self.now.verified.now _ c.args.time c.requires.values)
