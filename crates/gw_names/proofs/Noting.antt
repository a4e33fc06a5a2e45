-- Several refusals.
use Rattle.std.proofs.Common.{◌≡◌, List, [], ◌∷◌, ◌++◌, Option, refl}
use Rattle.gw_names.specs.declared.ledger.Noted.{Noted}
use Rattle.gw_names.specs.Ledger.{with_note, with_notes}

-- one after another
pub notes_append : (least : Option Noted) (xs ys : List Noted) → with_notes least (xs ++ ys) ≡ with_notes (with_notes least xs) ys
notes_append least [] ys = refl
notes_append least (x ∷ xs) ys = notes_append (with_note least x) xs ys
