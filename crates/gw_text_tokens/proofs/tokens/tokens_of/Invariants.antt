-- each token takes at least a byte
use Rattle.std.proofs.Common.{◌≤◌, length}
use Rattle.gw_text_tokens.proofs.tokens.tokens_of.Given as goal

abbrev pub invariant-loop-token : goal.invariant-loop-token
invariant-loop-token l = length l.tokens.items ≤ l._token
