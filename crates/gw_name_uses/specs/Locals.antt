-- The locals of a PROCEDURE, as code keeps them.
use Rattle.std.specs.Prelude.{◌≡◌, Result, OnOk, map, string_bytes}
use Rattle.std.specs.declared.string.String.{String}
use Rattle.indexmap.specs.IndexSet.{IndexSet}
use Rattle.gw_compile.specs.Numbers.{Scope}

-- their names
abbrev pub names_of : {Y S : Type 0} → IndexSet (String Y) S → Scope
names_of locals = map string_bytes locals.keys

-- where there is memory, the locals are these
abbrev pub Hold : {A E Y S : Type 0} → Result A E → IndexSet (String Y) S → Scope → Type 0
Hold result locals scope = OnOk result (names_of locals ≡ scope)
