use Rattle.std.proofs.Common.{◌≡◌, ◌++◌, take, drop}
use Rattle.std.specs.List.{flat_map}
use Rattle.gw_compile.specs.Code.{expression_code}
use Rattle.gw_compile.specs.Scope.{scope_of}
use Rattle.gw_compile.specs.Unknown.{first_in}
use Rattle.gw_compile.proofs.emission.+emission.Given as goal

-- the code so far is that of the expressions so far, and who is to blame is among those to come
abbrev pub invariant-emit_all-loop-expression : goal.invariant-emit_all-loop-expression
invariant-emit_all-loop-expression g l = record {
  code : l.code.items ≡ l.fn.code.items
      ++ flat_map (expression_code (g.N.Numbering.numbers l.names) (scope_of l.locals)) (take l.expression-index l.expressions);
  blame : first_in (g.N.Numbering.numbers l.names) (scope_of l.locals) l.expressions
      ≡ first_in (g.N.Numbering.numbers l.names) (scope_of l.locals) (drop l.expression-index l.expressions);
}
