use Rattle.std.proofs.Common.{◌≡◌, Some}
use Rattle.gw_rules.specs.Code.{procedure_at}
use Rattle.gw_rules.specs.Meaning.{on}
use Rattle.gw_plus.specs.Activation.{frame_of}
use Rattle.gw_plus.proofs.Calls.{procedure_read, did_call_alone}
use Rattle.gw_plus.proofs.activation.Activation.call_alone.Goals as goal
use Rattle.gw_plus.proofs.activation.Activation.call_alone.Goals.{After-index-as_slice-called}

there : (c : After-index-as_slice-called) → procedure_at c.args.parts.now c.args.called ≡ Some c.index-as_slice-called.result
there c = procedure_read c.args.parts.now c.args.called c.index-as_slice-called.result c.requires.there (rw c.as_slice.ensures at c.index-as_slice-called.is)

pub opening_locals-requires-clause-room : goal.opening_locals-requires-clause-room
opening_locals-requires-clause-room c =
    (c.requires.code.procedures c.args.called c.index-as_slice-called.result
    (there (goal.at.opening_locals-requires-clause-room c).After-index-as_slice-called)).0.locals

pub returns : goal.returns
returns c = λ i. did_call_alone c.args.parts.now c.args.called (on (frame_of c.args.self.now)) c.index-as_slice-called.result
    c.opening_locals.result i (there (goal.at.returns c).After-index-as_slice-called) c.opening_locals.ensures
