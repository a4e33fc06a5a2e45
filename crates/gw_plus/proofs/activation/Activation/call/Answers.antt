use Rattle.std.proofs.Common.{◌≡◌, ◌≤◌, ◌-◌, Some, length, take, drop, refl, ◌∙◌, arith, length-drop}
use Rattle.std.proofs.lemmas.List.{take_all}
use Rattle.gw_object.specs.CodeGrammar.{ProcedureFits}
use Rattle.gw_rules.specs.Code.{procedure_at}
use Rattle.gw_plus.specs.Activation.{frame_of}
use Rattle.gw_plus.proofs.Calls.{procedure_read, call_within, has_arguments, did_call}
use Rattle.gw_plus.proofs.activation.Activation.call.Goals as goal
use Rattle.gw_plus.proofs.activation.Activation.call.Goals.{After-as_slice-2}

there : (c : After-as_slice-2) → procedure_at c.args.parts.now c.args.called ≡ Some c.index-as_slice-called.result
there c =
    procedure_read c.args.parts.now c.args.called c.index-as_slice-called.result
    (call_within c.args.parts.now c.args.called (frame_of c.args.self.now) c.requires.going) (rw c.as_slice.ensures at c.index-as_slice-called.is)

enough : (c : After-as_slice-2) → c.index-as_slice-called.result.arguments ≤ length c.args.self.now.stack.items
enough c = has_arguments c.args.parts.now c.args.called (frame_of c.args.self.now) c.index-as_slice-called.result (there c) c.requires.going

fits : (c : After-as_slice-2) → ProcedureFits c.index-as_slice-called.result
fits c = (c.requires.code.procedures c.args.called c.index-as_slice-called.result (there c)).0

-- the slice from the first argument on
arguments : (c : After-as_slice-2) → let base = c.len.result - c.index-as_slice-called.result.arguments in
    take (length c.as_slice-2.result.now - base) (drop base c.as_slice-2.result.now)
    ≡ drop (length c.args.self.now.stack.items - c.index-as_slice-called.result.arguments) c.args.self.now.stack.items
arguments c =
    let base = c.len.result - c.index-as_slice-called.result.arguments in
    let all = take_all (length c.as_slice-2.result.now - base) (drop base c.as_slice-2.result.now) (omega (arith, length-drop base c.as_slice-2.result.now)) in
    all ∙ rw (c.as_slice-2.ensures.value, c.len.ensures.value) refl

pub opening_locals-locals-requires-clause-arguments : goal.opening_locals-locals-requires-clause-arguments
opening_locals-locals-requires-clause-arguments c =
    let w = (goal.at.opening_locals-locals-requires-clause-arguments c).After-as_slice-2 in
    let stack = c.args.self.now.stack.items in
    rw (arguments w) (omega (arith, length-drop (length stack - c.index-as_slice-called.result.arguments) stack, enough w, (fits w).arguments))

pub opening_locals-locals-requires-clause-room : goal.opening_locals-locals-requires-clause-room
opening_locals-locals-requires-clause-room c = (fits (goal.at.opening_locals-locals-requires-clause-room c).After-as_slice-2).locals

pub returns : goal.returns
returns c =
    let w = (goal.at.returns c).After-as_slice-2 in
    did_call c.args.parts.now c.args.called (frame_of c.args.self.now) c.index-as_slice-called.result c.opening_locals-locals.result _
    c.truncate.new.self.items (there w) (enough w) (arguments w) (rw c.len.ensures.value at c.truncate.ensures.items) c.opening_locals-locals.ensures
