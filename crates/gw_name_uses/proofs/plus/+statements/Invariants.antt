use Rattle.std.proofs.Common.{◌≡◌, ◌++◌, drop}
use Rattle.gw_name_uses.specs.Locals.{names_of}
use Rattle.gw_name_uses.specs.Mentions.{mentions, in_sequence, scope_after_sequence}
use Rattle.gw_name_uses.proofs.plus.+statements.Given as goal

-- the statements that are left are still to come
abbrev pub invariant-put_block-loop-i : goal.invariant-put_block-loop-i
invariant-put_block-loop-i l = record {
  uses : mentions l.fn.uses.items ++ in_sequence (names_of l.fn.locals) l.block ≡ mentions l.uses.items ++ in_sequence (names_of l.locals) (drop l.i l.block);
  locals : scope_after_sequence (names_of l.fn.locals) l.block ≡ scope_after_sequence (names_of l.locals) (drop l.i l.block);
}
