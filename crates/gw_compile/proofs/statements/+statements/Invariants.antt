use Rattle.std.proofs.Common.{◌≤◌, length, true, drop}
use Rattle.gw_compile.specs.Scope.{scope_of}
use Rattle.gw_compile.specs.Statements.{sequence}
use Rattle.gw_compile.proofs.Writing.{Leads}
use Rattle.gw_compile.proofs.statements.+statements.Given as goal

-- the statements that are left are still to come
abbrev pub invariant-put_block-loop-i : goal.invariant-put_block-loop-i
invariant-put_block-loop-i g l = record {
  leads : Leads (sequence (g.N.Numbering.numbers l.names) (scope_of l.fn.locals.items) (length l.fn.code.items) true l.statements)
      (sequence (g.N.Numbering.numbers l.names) (scope_of l.locals.items) (length l.code.items) l.reached (drop l.i l.statements)) l.fn.code.items l.code.items;
  room : length l.locals.items ≤ 32;
}
