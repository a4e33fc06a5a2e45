-- Where nothing is noted, nothing was to be noted.
use Rattle.std.proofs.Common.{◌≡◌, List, [], ◌∷◌, Option, Some, None, Bool, true, false, if◌then◌else◌, refl}
use Rattle.gw_names.specs.declared.ledger.Noted.{Noted}
use Rattle.gw_names.specs.Ledger.{is_before, with_note, with_notes}

if_some : (b : Bool) (one least : Noted) → (if b then Some one else Some least) ≡ None → ⊥
if_some true one least h = cc
if_some false one least h = cc

kept : (least : Option Noted) (one : Noted) → with_note least one ≡ None → ⊥
kept None one h = cc
kept (Some least) one h = if_some (is_before one least) one least h

pub none_noted : (least : Option Noted) (more : List Noted) → with_notes least more ≡ None → (least ≡ None) × (more ≡ [])
none_noted least [] h = (h, refl)
none_noted least (one ∷ more) h = absurd (kept least one (none_noted (with_note least one) more h).0)
