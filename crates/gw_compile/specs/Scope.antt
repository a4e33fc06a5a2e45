-- The names of locals, as code keeps them.
use Rattle.std.specs.Prelude.{ℕ, List, ◌++◌, map, Option, string_bytes}
use Rattle.std.specs.Global.{Global}
use Rattle.std.specs.Borrow.{Bor}
use Rattle.std.specs.declared.string.String.{String}
use Rattle.gw_compile.specs.declared.locals.Meaning.{Meaning}
use Rattle.gw_compile.specs.Numbers.{Numbers, Scope, name_meaning}

-- the names, in order of their numbers
abbrev pub scope_of : List (Bor (List ℕ)) → Scope
scope_of locals = map (λ (name : Bor (List ℕ)). name.now) locals

-- and those of more behind them
abbrev pub scope_with : List (Bor (List ℕ)) → List (String Global) → Scope
scope_with locals more = scope_of locals ++ map string_bytes more

-- what a bare name stands for among these locals
abbrev pub meaning_among : Numbers → List (Bor (List ℕ)) → String Global → Option Meaning
meaning_among n locals name = name_meaning n (scope_of locals) (string_bytes name)
