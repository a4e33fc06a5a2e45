-- What is so where nothing is noted.
use Rattle.std.specs.Prelude.{◌≡◌, ◌≢◌, None}
use Rattle.gw_names.specs.declared.ledger.Ledger.{Ledger}

-- something is noted
abbrev pub IsNoted : Ledger → Type 0
IsNoted ledger = ledger.least ≢ None

-- where nothing is noted after, nothing was before, and this is so
abbrev pub StaysClear : Ledger → Ledger → Type 0 → Type 0
StaysClear old new P = new.least ≡ None → (old.least ≡ None) × P
