use Rattle.std.proofs.Common.{◌≤◌, ◌+◌, length}
use Rattle.std.specs.Vec.{vec_len, vec_capacity}
use Rattle.gw_plain_chains.specs.Calling.{state_after, answers_in_turn}
use Rattle.gw_plain_chains.proofs.Calling.{DoTheRest}
use Rattle.gw_plain_chains.proofs.calls.make_calls.Given as goal

abbrev pub invariant-loop-i : goal.invariant-loop-i
invariant-loop-i g l = record {
  rest : DoTheRest (state_after g.K.ChainCall.after) (answers_in_turn g.K.ChainCall.after g.K.ChainCall.answer) l.calls l.i
      (g.C.ChainBody.state l.fn.chain) (g.C.ChainBody.state l.chain) l.fn.answers.items l.answers.items;
  room : (length l.calls ≤ g.C.ChainBody.room l.chain + l.i) × (vec_len l.answers + length l.calls ≤ vec_capacity l.answers + l.i);
}
