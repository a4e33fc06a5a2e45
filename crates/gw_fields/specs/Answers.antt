-- What a reader answers, compared with what the bytes spell.
use Rattle.std.specs.Prelude.{◌≡◌, Result, Ok, Err}
use Rattle.gw_fields.specs.declared.error.Bad.{Bad}
use Rattle.gw_fields.specs.declared.error.ReadError.{ReadError}
use Rattle.gw_fields.specs.declared.error.ReadError.TheVariants.{OutOfMemory, Wrong}

-- this is the fault that was met, unless memory ran out
abbrev pub Fails : {Y : Type 0} → ReadError → Result Y Bad → Type 0
Fails OutOfMemory read = Unit {0}
Fails (Wrong fault) read = read ≡ Err fault

-- what a function returned, seen by view, is what was read, unless memory ran out
abbrev pub Gives : {X Y : Type 0} → (X → Y) → Result X ReadError → Result Y Bad → Type 0
Gives view (Ok x) read = read ≡ Ok (view x)
Gives view (Err e) read = Fails e read
