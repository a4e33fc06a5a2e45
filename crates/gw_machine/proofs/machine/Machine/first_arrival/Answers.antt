use Rattle.std.proofs.Common.{◌≡◌, ◌∙◌, None, Some, length, ap, arith}
use Rattle.std.specs.Prelude.{sum}
use Rattle.gw_num.proofs.Tables.{length-put_next}
use Rattle.gw_step.specs.State.{State, with_one_more_at}
use Rattle.gw_machine.specs.View.{state_of}
use Rattle.gw_step.specs.Times.{environment_of_next}
use Rattle.gw_step.proofs.Within.{sum-raised, length-raised}
use Rattle.gw_step.proofs.Suffices.{intervals_ask_for_nothing}
use Rattle.gw_machine.proofs.machine.Machine.first_arrival.Goals as goal
use Rattle.gw_machine.proofs.machine.Machine.first_arrival.Goals.{After-arrive}

scheduled : (c : After-arrive) → c.arrive.new.self.scheduled ≡ with_one_more_at c.args.number c.args.self.now.scheduled
scheduled c =
    ap (λ (s : State). s.scheduled) c.arrive.ensures.state
    ∙ ap (with_one_more_at c.args.number)
    (ap (λ (s : State). s.scheduled) c.set_streams.ensures.state ∙ ap (λ (s : State). s.scheduled) c.in_ok-parameters-in-Ok.ensures.state)

pub returns-in_ok-parameters-in-Ok-clause-scheduled : goal.returns-in_ok-parameters-in-Ok-clause-scheduled
returns-in_ok-parameters-in-Ok-clause-scheduled c =
    let is = scheduled c in (
      ap length is ∙ length-raised c.args.number c.args.self.now.scheduled c.requires.block,
      omega (arith, ap sum is, sum-raised c.args.number c.args.self.now.scheduled),
    )

pub returns-in_ok-parameters-in-Ok-clause-made_by : goal.returns-in_ok-parameters-in-Ok-clause-made_by
returns-in_ok-parameters-in-Ok-clause-made_by c =
    let before = ap (λ (s : State). length s.transactions) c.set_streams.ensures.state
    ∙ ap (λ (s : State). length s.transactions) c.in_ok-parameters-in-Ok.ensures.state in
    let after = ap (λ (s : State). length s.transactions) c.arrive.ensures.state ∙ length-put_next None (state_of c.set_streams.new.self).transactions _ in
    omega (arith, before, after)

pub first_moment-requires-clause-interval : goal.first_moment-requires-clause-interval
first_moment-requires-clause-interval c =
    let there = c.requires.there ∙ ap Some c.in-Generate.is in
    intervals_ask_for_nothing c.args.verified.now c.args.number c.in-Generate.g
    (environment_of_next c.in-Generate.g.priority (state_of c.args.self.now)) c.requires.checked c.requires.spelled there
