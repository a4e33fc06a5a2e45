-- What is held, and whether it suffices for what is asked: both lists ascend, so each is walked once.
use Rattle.std.proofs.Common.{◌≡◌, ◌≢◌, ℕ, ◌+◌, ◌≤◌, ◌<◌, Bool, true, false, ◌==◌, ◌&&◌, ◌||◌, List, [], ◌∷◌, length, get_or, drop, drop_of_length-le}
use Rattle.std.proofs.Common.{Option, Some, None, map, refl, sym, ap, ap₂, subst, ◌∙◌, ⊎_elim, arith}
use Rattle.std.specs.Prelude.{All}
use Rattle.std.specs.List.{list_all, list_any}
use Rattle.std.proofs.lemmas.Bool.{cases_eq, eq-eqb, ne_eqb}
use Rattle.std.proofs.lemmas.List.{drop_more}
use Rattle.std.proofs.lemmas.List.Elements.{All-head, All-tail, All-cons}
use Rattle.std.proofs.lemmas.List.Folds.{list_all-map, list_any_none}
use Rattle.gw_rules.specs.Entries.{entry}
use Rattle.gw_rules.specs.Entries as entries
use Rattle.gw_flow.proofs.Ascending.{Ascends, AllPairs-head, AllPairs-tail, AllPairs-drop}

or_false : (b : Bool) → (b || false) ≡ b
or_false true = refl
or_false false = refl

all_same : {X : Type 0} (p q : X → Bool) (xs : List X) → All (λ x. p x ≡ q x) xs → list_all p xs ≡ list_all q xs
all_same p q [] h = refl
all_same p q (x ∷ xs) h = ap₂ (λ a b. a && b) (All-head (λ x. p x ≡ q x) x xs h) (all_same p q xs (All-tail (λ x. p x ≡ q x) x xs h))

-- THE WALK

module _ {X : Type 0} (key : X → ℕ) (enough : X → X → Bool) where
  -- an entry of this one's number is held that suffices
  abbrev pub has : List X → X → Bool
  has held a = list_any (λ h. (key h == key a) && enough h a) held

  -- for each that is asked one is held that suffices
  abbrev pub has_each : List X → List X → Bool
  has_each held asked = entries.has_each key enough held asked

  other : (h a : X) → key h ≢ key a → ((key h == key a) && enough h a) ≡ false
  other h a ne = rw (ne_eqb (key h) (key a) ne) refl

  none_above : (hs : List X) (a : X) → All (λ h. key a < key h) hs → has hs a ≡ false
  none_above hs a above = list_any_none (λ h. (key h == key a) && enough h a) hs (λ i d within. other (get_or hs i d) a (λ e. omega (arith, above i d within)))

  -- what is below all that is asked isn't needed
  not_needed : (h : X) (hs asked : List X) → All (λ a. key h < key a) asked → has_each (h ∷ hs) asked ≡ has_each hs asked
  not_needed h hs asked above =
      all_same (λ a. has (h ∷ hs) a) (λ a. has hs a) asked
      (λ i d within. ap (λ b. b || has hs (get_or asked i d)) (other h (get_or asked i d) (λ e. omega (arith, above i d within))))

  -- the first that is held is above the first that is asked
  lacks : (h a : X) (hs later : List X) → Ascends key (h ∷ hs) → key a < key h → has_each (h ∷ hs) (a ∷ later) ≡ false
  lacks h a hs later up below =
      let first = AllPairs-head (λ x y. key x < key y) h hs up in
      ap (λ b. b && has_each (h ∷ hs) later)
      (none_above (h ∷ hs) a (All-cons (λ x. key a < key x) h hs below (λ i d within. omega (arith, below, first i d within))))

  -- it is of the same number
  meets : (h a : X) (hs later : List X) → Ascends key (h ∷ hs) → Ascends key (a ∷ later) → key a ≡ key h → has_each (h ∷ hs) (a ∷ later)
      ≡ (enough h a && has_each hs later)
  meets h a hs later up up_asked same =
      let first = AllPairs-head (λ x y. key x < key y) h hs up in
      let asked = AllPairs-head (λ x y. key x < key y) a later up_asked in
      ap₂ (λ b c. b && c)
      (ap₂ (λ b c. (b && enough h a) || c) (eq-eqb (key h) (key a) (sym same))
      (none_above hs a (λ i d within. omega (arith, same, first i d within))) ∙ or_false (enough h a))
      (not_needed h hs later (λ i d within. omega (arith, same, asked i d within)))

  -- it is below
  passes : (h a : X) (hs later : List X) → Ascends key (a ∷ later) → key h < key a → has_each (h ∷ hs) (a ∷ later) ≡ has_each hs (a ∷ later)
  passes h a hs later up below =
      let asked = AllPairs-head (λ x y. key x < key y) a later up in
      not_needed h hs (a ∷ later) (All-cons (λ x. key h < key x) a later below (λ i d within. omega (arith, below, asked i d within)))

  -- what is left at a turn suffices for what is left of what is asked, where all does for all
  pub record Left (held asked left : List X) (i : ℕ) : Type 0 where
    pub same : has_each held asked ≡ has_each (drop i held) left
    pub ascends : Ascends key left

  module _ (held asked left : List X) (i : ℕ) (l : Left held asked left i) where
    -- where nothing that is held is left, all suffices if nothing that is asked is left
    pub at_end : length held ≤ i → has_each held asked ≡ (length left == 0)
    at_end past = l.same ∙ ap (λ hs. has_each hs left) (drop_of_length-le held past) ∙ none_held left
      where
        none_held : (xs : List X) → has_each [] xs ≡ (length xs == 0)
        none_held [] = refl
        none_held (x ∷ xs) = sym (ne_eqb (length (x ∷ xs)) 0 (λ e. omega arith))

    module _ (h a : X) (later : List X) (inside : i < length held) (item : h ≡ get_or held i h) (first : left ≡ a ∷ later) (up : Ascends key held) where
      rest : drop i held ≡ h ∷ drop (i + 1) held
      rest = drop_more held i h inside ∙ ap (λ x. x ∷ drop (i + 1) held) (sym item)

      here : has_each held asked ≡ has_each (h ∷ drop (i + 1) held) (a ∷ later)
      here = l.same ∙ ap₂ has_each rest first

      ascending : Ascends key (h ∷ drop (i + 1) held)
      ascending = subst (Ascends key) rest (AllPairs-drop (λ x y. key x < key y) i held up)

      ascending_asked : Ascends key (a ∷ later)
      ascending_asked = subst (Ascends key) first l.ascends

      -- the turn's entry is above the next that is asked: none of its number is held
      pub lacking : key a < key h → has_each held asked ≡ false
      lacking below = here ∙ lacks h a (drop (i + 1) held) later ascending below

      -- it is of its number, and doesn't suffice
      pub not_enough : key a ≡ key h → enough h a ≡ false → has_each held asked ≡ false
      not_enough same fails = here ∙ meets h a (drop (i + 1) held) later ascending ascending_asked same
          ∙ ap (λ b. b && has_each (drop (i + 1) held) later) fails

      -- it is of its number, and suffices
      pub met : key a ≡ key h → enough h a ≡ true → Left held asked later (i + 1)
      met same suffice = record {
        same = here ∙ meets h a (drop (i + 1) held) later ascending ascending_asked same ∙ ap (λ b. b && has_each (drop (i + 1) held) later) suffice;
        ascends = AllPairs-tail (λ x y. key x < key y) a later ascending_asked;
      }

      -- it is below
      pub passed : key h < key a → Left held asked left (i + 1)
      passed below = record {
        same = here ∙ passes h a (drop (i + 1) held) later ascending_asked below ∙ ap (has_each (drop (i + 1) held)) (sym first);
        ascends = l.ascends;
      }

-- BY ENTRIES

module _ {X V : Type 0} (key : X → ℕ) (value : X → V) (fit : Option V → Option V → Bool) where
  abbrev entries_of : List X → List (ℕ × V)
  entries_of xs = map (λ x. (key x, value x)) xs

  -- whether the one that is held suffices for the one that is asked
  abbrev pub suffices : X → X → Bool
  suffices h a = fit (Some (value h)) (Some (value a))

  not_first : (x y : X) (xs : List X) → key x < key y → entry (entries_of xs) (key y) ≡ Some (value y) → entry (entries_of (x ∷ xs)) (key y) ≡ Some (value y)
  not_first x y xs lt e = rw (ne_eqb (key x) (key y) (λ same. omega (arith, lt, same))) e

  -- what is entered for the number of each that is asked is that one
  own : (xs : List X) → Ascends key xs → All (λ x. entry (entries_of xs) (key x) ≡ Some (value x)) xs
  own [] up = λ i d within. absurd (omega arith)
  own (x ∷ xs) up =
      let first = AllPairs-head (λ a b. key a < key b) x xs up in
      let later = own xs (AllPairs-tail (λ a b. key a < key b) x xs up) in
      All-cons (λ y. entry (entries_of (x ∷ xs)) (key y) ≡ Some (value y)) x xs (rw (eq-eqb (key x) (key x) refl) refl)
      (λ i d within. not_first x (get_or xs i d) xs (first i d within) (later i d within))

  by_entry : (held : List X) (a : X) → Ascends key held → fit None (Some (value a)) ≡ false
      → fit (entry (entries_of held) (key a)) (Some (value a)) ≡ has key suffices held a
  by_entry [] a up none = none
  by_entry (h ∷ hs) a up none =
      let first = AllPairs-head (λ x y. key x < key y) h hs up in
      ⊎_elim
      (λ (same : key h ≡ key a). rw (eq-eqb (key h) (key a) same)
      (sym (ap (λ b. suffices h a || b) (none_above key suffices hs a (λ i d within. omega (arith, same, first i d within))) ∙ or_false (suffices h a))))
      (λ (ne : key h ≢ key a). rw (ne_eqb (key h) (key a) ne) (by_entry hs a (AllPairs-tail (λ x y. key x < key y) h hs up) none))
      (cases_eq (key h) (key a))

  -- for each that is asked one is held that suffices, exactly where what is entered for its number fits
  pub each_by_entry : (held asked : List X) → Ascends key held → Ascends key asked → All (λ a. fit None (Some (value a)) ≡ false) asked →
      has_each key suffices held asked ≡ list_all (λ e. fit (entry (entries_of held) e.0) (entry (entries_of asked) e.0)) (entries_of asked)
  each_by_entry held asked up up_asked none =
      all_same (λ a. has key suffices held a) (λ a. fit (entry (entries_of held) (key a)) (entry (entries_of asked) (key a))) asked
      (λ i d within. sym (ap (fit (entry (entries_of held) (key (get_or asked i d)))) (own asked up_asked i d within)
      ∙ by_entry held (get_or asked i d) up (none i d within)))
      ∙ sym (list_all-map (λ (e : ℕ × V). fit (entry (entries_of held) e.0) (entry (entries_of asked) e.0)) (λ x. (key x, value x)) asked)
