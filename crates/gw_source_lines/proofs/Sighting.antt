-- The lines of entities that were sighted.
use Rattle.std.proofs.Common.{◌≡◌, ℕ, List, [], ◌∷◌, Option, map, refl, ap, ap₂}
use Rattle.gw_text.specs.declared.model.Statement.{Statement}
use Rattle.gw_names.specs.declared.sights.Sighted.{Sighted}
use Rattle.gw_names.specs.Known.{Key}
use Rattle.gw_names.specs.Sighting.{key_of, keys_of}
use Rattle.gw_names.specs.Places.{declaration_of}
use Rattle.gw_source_lines.specs.Lines.{line_by, entity_line, sighted_line}

-- the first of some, or else this
abbrev front_of : {X : Type 0} → X → List X → X
front_of x [] = x
front_of x (y ∷ ys) = y

-- and those behind it
abbrev rest_of : {X : Type 0} → List X → List X
rest_of [] = []
rest_of (y ∷ ys) = ys

-- where what declares them is what declares their keys, they have the lines of their keys
pub lines_by_keys : (ss : List Statement) (sighted : List Sighted)
    → map (λ (s : Sighted). s.declaration) sighted ≡ map (declaration_of ss) (keys_of sighted)
    → map (sighted_line ss) sighted ≡ map (entity_line ss) (keys_of sighted)
lines_by_keys ss [] h = refl
lines_by_keys ss (s ∷ sighted) h =
    let first : s.declaration ≡ declaration_of ss (key_of s) = ap (front_of s.declaration) h in
    let line : sighted_line ss s ≡ entity_line ss (key_of s) = ap (line_by ss (key_of s)) first in
    ap₂ (λ x xs. x ∷ xs) line (lines_by_keys ss sighted (ap rest_of h))
