-- Text behind text.
use Rattle.std.specs.Prelude.{◌≡◌, ℕ, List, ◌++◌, Result, OnOk, Vec}
use Rattle.std.specs.Global.{Global}

-- this text is put behind what is there, unless there is no memory for it
abbrev pub Puts : {A E : Type 0} → Result A E → Vec ℕ Global → Vec ℕ Global → List ℕ → Type 0
Puts result old new text = OnOk result (new.items ≡ old.items ++ text)
