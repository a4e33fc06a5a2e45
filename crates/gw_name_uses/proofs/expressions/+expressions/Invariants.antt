use Rattle.std.proofs.Common.{◌≡◌, ◌++◌, take}
use Rattle.gw_name_uses.specs.Locals.{names_of}
use Rattle.gw_name_uses.specs.Mentions.{mentions, in_all}
use Rattle.gw_name_uses.proofs.expressions.+expressions.Given as goal

-- the uses so far are those of the expressions so far
abbrev pub invariant-put_all-loop-expression : goal.invariant-put_all-loop-expression
invariant-put_all-loop-expression l = mentions l.uses.items ≡ mentions l.fn.uses.items ++ in_all (names_of l.locals) (take l.expression-index l.expressions)
