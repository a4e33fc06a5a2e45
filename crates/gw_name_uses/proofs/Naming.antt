-- The names of locals, as a set keeps them.
use Rattle.std.proofs.Common.{◌≡◌, ℕ, List, [], ◌∷◌, ◌++◌, map, Bool, true, false, if◌then◌else◌, ◌||◌, refl, ap, ◌∙◌}
use Rattle.std.specs.Prelude.{string_bytes}
use Rattle.std.specs.String.{string_eq}
use Rattle.std.specs.declared.string.String.{String}
use Rattle.std.specs.List.{list_any}
use Rattle.std.specs.Str.{bytes_eq}
use Rattle.indexmap.specs.IndexSet.{insert_key}
use Rattle.gw_name_uses.specs.Mentions.{is_local, with_local}

module _ {Y : Type 0} where
  -- a name that one of them has
  pub local_is : (name : List ℕ) (keys : List (String Y)) → list_any (λ (k : String Y). bytes_eq name (string_bytes k)) keys
      ≡ is_local (map string_bytes keys) name
  local_is name [] = refl
  local_is name (k ∷ keys) = ap (λ b. bytes_eq name (string_bytes k) || b) (local_is name keys)

  behind : (k : String Y) (keys : List (String Y)) → map string_bytes (keys ++ k ∷ []) ≡ map string_bytes keys ++ string_bytes k ∷ []
  behind k [] = refl
  behind k (x ∷ keys) = ap (λ l. string_bytes x ∷ l) (behind k keys)

  declared_by : (k : String Y) (keys : List (String Y)) (b : Bool) → map string_bytes (if b then keys else keys ++ k ∷ [])
      ≡ (if b then map string_bytes keys else map string_bytes keys ++ string_bytes k ∷ [])
  declared_by k keys true = refl
  declared_by k keys false = behind k keys

  -- one more
  pub declared_is : (k : String Y) (keys : List (String Y)) → map string_bytes (insert_key string_eq keys k)
      ≡ with_local (map string_bytes keys) (string_bytes k)
  declared_is k keys =
      declared_by k keys (list_any (string_eq k) keys)
      ∙ ap (λ b. if b then map string_bytes keys else map string_bytes keys ++ string_bytes k ∷ []) (local_is (string_bytes k) keys)
