use Rattle.std.proofs.Common.{rules, ◌≡◌, subst, arith, w64, Err}
use Rattle.std.proofs.lemmas.Int.{to_z-of_z}
use Rattle.std.proofs.lemmas.Option.{slice_get_within}
use mir.Val.{SFits}
use Rattle.gw_rules.specs.Meaning.{Derives}
use Rattle.gw_plus.specs.Activation.{frame_of, first_frame}
use Rattle.gw_plus.specs.Reading.{environment_of}
use Rattle.gw_plus.proofs.Calls.{procedure_read}
use Rattle.gw_plus.proofs.Runs.{begin, inside, moves, place, holds, room, went, went_less, returned, ended, called_lower, called_begins}
use Rattle.gw_plus.proofs.Runs.{received_moves, called_ended, called_gave, called_less}
use Rattle.gw_plus.proofs.evaluation.+activate.Goals as goal

pub loop-called-init : goal.loop-called-init
loop-called-init t c =
    let parts = c.args.parts.now in
    let pr = c.index-as_slice-number.result in
    let begins = c.requires.begins in
    let within = slice_get_within parts.procedures c.args.number begins.procedure begins.may.there in
    let there = procedure_read parts c.args.number pr within (rw c.as_slice.ensures at c.index-as_slice-number.is) in
    begin parts (environment_of c.args.env.now) c.args.number pr c.as_slice-code.result.now c.args.locals.items
    (frame_of c.begin-activation.result) c.requires.code there c.as_slice-code.ensures begins c.begin-activation.ensures

pub offset_bounds-code-activation : goal.offset_bounds-code-activation
offset_bounds-code-activation t c =
    let few = place c.args.parts.now (environment_of c.args.env.now) c.args.number c.as_slice-code.result.now c.args.locals.items
    (frame_of c.loop-called.activation) c.requires.code c.loop-called.invariant in
    omega (arith, few)

pub bounds-code-activation : goal.bounds-code-activation
bounds-code-activation t c =
    inside c.args.parts.now (environment_of c.args.env.now) c.args.number c.as_slice-code.result.now c.args.locals.items
    (frame_of c.loop-called.activation) c.loop-called.invariant

pub step-requires-clause-holds : goal.step-requires-clause-holds
step-requires-clause-holds t c = (
  c.loop-called.invariant.procedure.locals,
  holds c.args.parts.now (environment_of c.args.env.now) c.args.number c.as_slice-code.result.now c.args.locals.items
      (frame_of c.loop-called.activation) c.requires.code c.loop-called.invariant,
)

pub step-requires-clause-going : goal.step-requires-clause-going
step-requires-clause-going t c =
    moves c.args.parts.now (environment_of c.args.env.now) c.args.number c.as_slice-code.result.now c.args.locals.items
    (frame_of c.loop-called.activation) c.requires.code c.loop-called.invariant

pub step-requires-clause-place : goal.step-requires-clause-place
step-requires-clause-place t c =
    place c.args.parts.now (environment_of c.args.env.now) c.args.number c.as_slice-code.result.now c.args.locals.items
    (frame_of c.loop-called.activation) c.requires.code c.loop-called.invariant

pub step-requires-clause-room : goal.step-requires-clause-room
step-requires-clause-room t c =
    room c.args.parts.now (environment_of c.args.env.now) c.args.number c.as_slice-code.result.now c.args.locals.items
    (frame_of c.loop-called.activation) c.requires.code c.loop-called.invariant

pub loop-called-smaller-in-Went : goal.loop-called-smaller-in-Went
loop-called-smaller-in-Went t c =
    went_less c.args.parts.now (environment_of c.args.env.now) c.args.number c.as_slice-code.result.now c.args.locals.items
    (frame_of c.loop-called.activation) c.requires.code c.loop-called.invariant (frame_of c.step.new.self) c.in-Went.ensures

pub loop-called-preserved-in-Went : goal.loop-called-preserved-in-Went
loop-called-preserved-in-Went t c =
    went c.args.parts.now (environment_of c.args.env.now) c.args.number c.as_slice-code.result.now c.args.locals.items
    (frame_of c.loop-called.activation) c.requires.code c.loop-called.invariant (frame_of c.step.new.self) c.in-Went.ensures

pub activate-requires : goal.activate-requires
activate-requires t c =
    let lower = called_lower c.args.parts.now (environment_of c.args.env.now) c.args.number c.as_slice-code.result.now c.args.locals.items
    (frame_of c.loop-called.activation) c.requires.code c.loop-called.invariant c.in-Called.called c.in-Called.locals
    (frame_of c.step.new.self) c.in-Called.ensures in (
      omega (arith, lower),
      (
        c.requires.code,
        (
          c.requires.environment,
          called_begins c.args.parts.now (environment_of c.args.env.now) c.args.number c.as_slice-code.result.now c.args.locals.items
              (frame_of c.loop-called.activation) c.requires.code c.loop-called.invariant c.in-Called.called c.in-Called.locals
              (frame_of c.step.new.self) c.in-Called.ensures,
        ),
      ),
    )

pub returns-in_err-value-in-Called : goal.returns-in_err-value-in-Called
returns-in_err-value-in-Called t c =
    let end = c.in_err-value-in-Called.field-0.0 in
    let came = subst (λ r. Derives c.args.parts.now (environment_of c.args.env.now) c.in-Called.called
    (first_frame c.in-Called.locals.items) c.activate.ensures.0 r) c.in_err-value-in-Called.was c.activate.ensures.1 in
    let all = called_ended c.args.parts.now (environment_of c.args.env.now) c.args.number c.as_slice-code.result.now c.args.locals.items
    (frame_of c.loop-called.activation) c.requires.code c.loop-called.invariant c.in-Called.called c.in-Called.locals
    (frame_of c.step.new.self) c.in-Called.ensures c.activate.ensures.0 end came in
    let is : c.from_residual.result ≡ Err end = search rules in
    rw is all

pub push-requires : goal.push-requires
push-requires t c = received_moves c.args.parts.now (environment_of c.args.env.now) c.args.number c.as_slice-code.result.now
    c.args.locals.items (frame_of c.loop-called.activation) c.requires.code c.loop-called.invariant c.in-Called.called c.in-Called.locals
    (frame_of c.step.new.self) c.in-Called.ensures _

pub loop-called-smaller : goal.loop-called-smaller
loop-called-smaller t c =
    called_less c.args.parts.now (environment_of c.args.env.now) c.args.number c.as_slice-code.result.now c.args.locals.items
    (frame_of c.loop-called.activation) c.requires.code c.loop-called.invariant c.in-Called.called c.in-Called.locals
    (frame_of c.step.new.self) c.in-Called.ensures _ (frame_of c.push.new.self) c.push.ensures

pub loop-called-preserved : goal.loop-called-preserved
loop-called-preserved t c =
    let fits : SFits w64 c.in_ok-value-in-Called.value = search rules in
    let made : SFits w64 c.finished.result = search rules in
    let came = subst (λ r. Derives c.args.parts.now (environment_of c.args.env.now) c.in-Called.called
    (first_frame c.in-Called.locals.items) c.activate.ensures.0 r) c.in_ok-value-in-Called.was c.activate.ensures.1 in
    called_gave c.args.parts.now (environment_of c.args.env.now) c.args.number c.as_slice-code.result.now c.args.locals.items
    (frame_of c.loop-called.activation) c.requires.code c.loop-called.invariant c.in-Called.called c.in-Called.locals
    (frame_of c.step.new.self) c.in-Called.ensures c.activate.ensures.0 c.in_ok-value-in-Called.value c.finished.result
    (frame_of c.push.new.self) came (rw to_z-of_z at c.finished.ensures) (rw to_z-of_z at c.push.ensures)

pub returns-in-Returned : goal.returns-in-Returned
returns-in-Returned t c =
    let fits : SFits w64 c.in-Returned.value = search rules in
    rw to_z-of_z (returned c.args.parts.now (environment_of c.args.env.now) c.args.number c.as_slice-code.result.now c.args.locals.items
    (frame_of c.loop-called.activation) c.requires.code c.loop-called.invariant c.in-Returned.value (frame_of c.step.new.self) c.in-Returned.ensures)

pub returns-in-Ended : goal.returns-in-Ended
returns-in-Ended t c = ended c.args.parts.now (environment_of c.args.env.now) c.args.number c.as_slice-code.result.now c.args.locals.items
    (frame_of c.loop-called.activation) c.requires.code c.loop-called.invariant c.in-Ended.end (frame_of c.step.new.self) c.in-Ended.ensures
