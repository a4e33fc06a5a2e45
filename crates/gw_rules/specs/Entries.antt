-- Lists of numbers, and of entries by number. They ascend; what is read of them by number doesn't depend on it.
use Rattle.std.specs.Prelude.{ℕ, List, [], ◌∷◌, ◌++◌, Option, Some, None, Bool, not, ◌&&◌, if◌then◌else◌, ◌==◌, nat_lt, filter, option_to_list}
use Rattle.std.specs.Prelude.{option_map, unwrap_or}
use Rattle.std.specs.List.{fold, list_all, list_any}
pub use Rattle.gw_object.specs.Returns.{lists}

-- a list that ascends by a key, with an element in its place; it stands there for the one of its key
abbrev pub in_place : {X : Type 0} → (X → ℕ) → X → List X → List X
in_place key x xs = filter (λ y. nat_lt (key y) (key x)) xs ++ x ∷ filter (λ y. nat_lt (key x) (key y)) xs

-- a list with a number, in its ascending place
abbrev pub with_number : ℕ → List ℕ → List ℕ
with_number n ns = in_place (λ m. m) n ns

-- numbers in ascending order, each once
abbrev pub in_order : List ℕ → List ℕ
in_order ns = fold (λ all n. with_number n all) [] ns

-- a list without a number
abbrev pub without_number : ℕ → List ℕ → List ℕ
without_number n ns = filter (λ m. not (m == n)) ns

-- for each element that is asked one of its key is held that is enough for it
abbrev pub has_each : {X : Type 0} → (X → ℕ) → (X → X → Bool) → List X → List X → Bool
has_each key enough held asked = list_all (λ a. list_any (λ h. (key h == key a) && enough h a) held) asked

-- what is entered for a number: the first entry counts
abbrev pub entry : {X : Type 0} → List (ℕ × X) → ℕ → Option X
entry [] n = None
entry (e ∷ es) n = if e.0 == n then Some e.1 else entry es n

-- the number entered for a number; 0 where there is no entry
abbrev pub amount_of : List (ℕ × ℕ) → ℕ → ℕ
amount_of es n = unwrap_or (entry es n) 0

-- the entries with this value for a number, in its ascending place; without a value it has no entry
abbrev pub with_entry : {X : Type 0} → ℕ → Option X → List (ℕ × X) → List (ℕ × X)
with_entry n value es = filter (λ e. nat_lt e.0 n) es ++ option_to_list (option_map (λ v. (n, v)) value) ++ filter (λ e. nat_lt n e.0) es
