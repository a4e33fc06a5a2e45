use Rattle.std.proofs.Common.{◌≡◌, ◌≤◌, ◌++◌, length, map, take}
use Rattle.std.specs.Prelude.{string_bytes}
use Rattle.gw_compile.specs.Scope.{scope_of}
use Rattle.gw_compile.proofs.parts.declare_all.Given as goal

-- the locals are those from before, and the names so far
abbrev pub invariant-loop-name : goal.invariant-loop-name
invariant-loop-name l = record {
  names : scope_of l.locals.items ≡ scope_of l.fn.locals.items ++ map string_bytes (take l.name-index l.names);
  room : length l.locals.items ≤ 32;
}
