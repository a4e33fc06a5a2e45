-- What stays while an expression is read.
use Rattle.std.specs.Prelude.{◌≡◌}
use Rattle.gw_text_expressions.specs.declared.expressions.Expressions.{Expressions}

-- the same names are known
abbrev pub KeepsNames : Expressions → Expressions → Type 0
KeepsNames old new = (new.procedures ≡ old.procedures) × (new.locals ≡ old.locals)
