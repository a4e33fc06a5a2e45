-- The numbers of named parameters.
use Rattle.std.proofs.Common.{◌≡◌, ℕ, ◌+◌, List, [], ◌∷◌, ◌++◌, length, map, cond, Option, Some, None, Bool, true, false, if◌then◌else◌, ◌||◌}
use Rattle.std.proofs.Common.{is_some, refl, sym, ap, ◌∙◌, zero-add}
use Rattle.std.specs.Prelude.{string_bytes, slice_get, option_and_then}
use Rattle.std.specs.Option.{option_or}
use Rattle.std.specs.List.{list_any, position_from}
use Rattle.std.specs.Str.{bytes_eq}
use Rattle.std.specs.String.{string_eq}
use Rattle.std.specs.Cmp.Lexicographic.{nat_list_eq_equiv}
use Rattle.std.specs.declared.string.String.{String}
use Rattle.std.specs.Map.{lookup, keys_of}
use Rattle.std.proofs.lemmas.List.{map-append, length-map}
use Rattle.indexmap.specs.IndexMap.{IndexMap, insert_entry, index_map_len}
use Rattle.indexmap.proofs.CallerLemmas.{insert_entry-new}
use Rattle.gw_names.specs.Known.{found_in}
use Rattle.gw_names.specs.Places.{Adds}
use Rattle.gw_names.specs.Sighting.{HaveNumbers, names_of}
use Rattle.gw_names.proofs.Declaring.{or_none}
use Rattle.gw_names.proofs.Seeing.{place_behind, place_there}

first_found : {X : Type 0} (b more : Bool) (x : X) (rest : Option X) → is_some rest ≡ more → is_some (cond b (Some x) rest) ≡ (b || more)
first_found true more x rest is = refl
first_found false more x rest is = is

entries_found : {Y X : Type 0} (name : List ℕ) (es : List (String Y × X))
    → is_some (lookup (λ (k : String Y). bytes_eq name (string_bytes k)) es) ≡ list_any (bytes_eq name) (map string_bytes (keys_of es))
entries_found name [] = refl
entries_found name (e ∷ es) =
    first_found (bytes_eq name (string_bytes e.0)) (list_any (bytes_eq name) (map string_bytes (keys_of es))) e.1
    (lookup (λ k. bytes_eq name (string_bytes k)) es) (entries_found name es)

is_none : (o : Option ℕ) → is_some o ≡ false → o ≡ None
is_none None is = refl
is_none (Some x) is = cc

given_by : (free : List ℕ) (b : Bool) (x count : ℕ) (before found : Option ℕ) → before ≡ option_and_then (slice_get free) found
    → slice_get free count ≡ Some x → (b ≡ true → found ≡ None) → option_or (option_or None (if b then Some x else None)) before
    ≡ option_and_then (slice_get free) (option_or found (if b then Some (0 + count) else None))
given_by free true x count before found is number none = sym number ∙ ap (slice_get free) (sym (zero-add count))
    ∙ ap (λ o. option_and_then (slice_get free) (option_or o (Some (0 + count)))) (sym (none refl))
given_by free false x count before found is number none = is ∙ ap (option_and_then (slice_get free)) (sym (or_none found))

module _ {Y S : Type 0} where
  -- a name that is found
  pub name_found : (m : IndexMap (String Y) ℕ S) (name : List ℕ) → list_any (bytes_eq name) (names_of m) ≡ is_some (found_in m name)
  name_found m name = sym (entries_found name m.entries)

  -- as many names as entries
  pub names_counted : (m : IndexMap (String Y) ℕ S) → length (names_of m) ≡ index_map_len m
  names_counted m = length-map (keys_of m.entries) string_bytes ∙ length-map m.entries (λ e. e.0)

  -- a new name goes last
  pub names_more : (m n : IndexMap (String Y) ℕ S) (k : String Y) (x : ℕ) (name : List ℕ) → string_bytes k ≡ name → found_in m name ≡ None
      → n.entries ≡ insert_entry string_eq m.entries k x → names_of n ≡ names_of m ++ name ∷ []
  names_more m n k x name is new entries =
      let absent : found_in m (string_bytes k) ≡ None = ap (found_in m) is ∙ new in
      let grown : n.entries ≡ m.entries ++ (k, x) ∷ [] = entries ∙ insert_entry-new string_eq m k x absent in
      ap (λ es. map string_bytes (keys_of es)) grown
      ∙ ap (map string_bytes) (map-append (λ e. e.0) m.entries ((k, x) ∷ []))
      ∙ map-append string_bytes (keys_of m.entries) (k ∷ [])
      ∙ ap (λ own. names_of m ++ own ∷ []) is

  -- and has the next number
  pub numbers_more : (free : List ℕ) (m n : IndexMap (String Y) ℕ S) (x : ℕ) (name : List ℕ) → HaveNumbers free m → found_in m name ≡ None
      → slice_get free (length (names_of m)) ≡ Some x → Adds ((name, x) ∷ []) (found_in m) (found_in n) → names_of n ≡ names_of m ++ name
      ∷ [] → HaveNumbers free n
  numbers_more free m n x name given new number adds grown = λ other.
      let same = bytes_eq other name in
      let found = position_from (bytes_eq other) 0 (names_of m) in
      let alike : same ≡ true → bytes_eq other ≡ bytes_eq name = λ e. λ j k. nat_list_eq_equiv.congr other name k e j in
      let none : same ≡ true → found ≡ None = λ e.
      is_none found (ap (λ test. is_some (position_from test 0 (names_of m))) (alike e) ∙ place_there (bytes_eq name) 0 (names_of m)
      ∙ name_found m name ∙ ap is_some new) in
      adds other
      ∙ given_by free same x (length (names_of m)) (found_in m other) found (given other) number none
      ∙ ap (option_and_then (slice_get free)) (sym (place_behind (bytes_eq other) 0 (names_of m) name) ∙ ap (position_from (bytes_eq other) 0) (sym grown))
