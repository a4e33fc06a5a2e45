-- Loops over the places of tables.
use Rattle.std.proofs.Common.{◌≡◌, ◌≢◌, ⊎_elim, ℕ, zero, suc, ◌+◌, ◌<◌, ◌≤◌, List, [], ◌∷◌, ◌++◌, length, get_or, drop, Option, Some, None, refl, sym}
use Rattle.std.proofs.Common.{ap, ap₂, subst, append_assoc, ◌∙◌, arith}
use Rattle.std.specs.Prelude.{All, slice_get}
use Rattle.std.proofs.lemmas.Option.{slice_get_within, get_or_from_slice_get}
use Rattle.gw_rules.specs.Flow.{row_at}
use Rattle.std.proofs.lemmas.Bool.{cases_lt, cases_eq, eq-eqb, ne_eqb}
use Rattle.std.proofs.lemmas.List.Elements.{All-head, All-tail}
use Rattle.gw_object.specs.declared.blocks.Block.{Block}
use Rattle.gw_object.specs.declared.parts.Parts.{Parts}
use Rattle.gw_rules.specs.Kinds.{block_at}
use Rattle.gw_rules.specs.Rows.{Row, units_of}
use Rattle.gw_rules.specs.Entries.{amount_of}
use Rattle.gw_flow.specs.Known.{amounts_of}
use Rattle.gw_flow.specs.declared.abstract_state.Amount.{Amount}
use Rattle.gw_settle.specs.Jumps.{place_after, places_after, row_in, IsBlockDecided, FallsAlike, AmountFallsOn, PlaceFallsOn, PlacesFallOn}
use Rattle.gw_settle.proofs.Uniting.{drop_at}

-- ROWS AFTER

-- one place more
pub places_more : (n : ℕ) (rows next all new : List (Option Row)) (i : ℕ) (d : Option Row) → i < length rows → length next ≡ length rows
    → new ≡ all ++ place_after n (get_or rows i d) (get_or next i d) ∷ [] →
    all ++ places_after n (drop i rows) (drop i next) ≡ places_after n rows next → new
    ++ places_after n (drop (i + 1) rows) (drop (i + 1) next) ≡ places_after n rows next
places_more n rows next all new i d lt same is h =
    let first = place_after n (get_or rows i d) (get_or next i d) in
    let later = places_after n (drop (i + 1) rows) (drop (i + 1) next) in
    ap (λ xs. xs ++ later) is
    ∙ append_assoc all (first ∷ []) later
    ∙ ap₂ (λ xs ys. all ++ places_after n xs ys) (sym (drop_at rows i d lt)) (sym (drop_at next i d (omega (arith, lt, same))))
    ∙ h

-- ROWS THAT FALL ON

pub row_in_is : (rows : List (Option Row)) (i : ℕ) (d : Option Row) → i < length rows → row_in rows i ≡ get_or rows i d
row_in_is [] i d lt = absurd (omega (arith, lt))
row_in_is (row ∷ rows) zero d lt = refl
row_in_is (row ∷ rows) (suc i) d lt = row_in_is rows i d (omega (arith, lt))

row_in_past : (rows : List (Option Row)) (i : ℕ) → length rows ≤ i → row_in rows i ≡ None
row_in_past [] i le = refl
row_in_past (row ∷ rows) zero le = absurd (omega (arith, le))
row_in_past (row ∷ rows) (suc i) le = row_in_past rows i (omega (arith, le))

module _ (n : ℕ) (rows next second last : List (Option Row)) where
  abbrev FallsOnAt : ℕ → Type 0
  FallsOnAt k = PlaceFallsOn n (row_in rows k) (row_in next k) (row_in second k) (row_in last k)

  -- the places before one fall on
  abbrev pub FallOnTo : ℕ → Type 0
  FallOnTo i = (k : ℕ) → k < i → FallsOnAt k

  -- one place more
  pub fall_on_more : (i : ℕ) (d : Option Row) → i < length rows → length next ≡ length rows → length second ≡ length rows → length last ≡ length rows →
      PlaceFallsOn n (get_or rows i d) (get_or next i d) (get_or second i d) (get_or last i d) → FallOnTo i → FallOnTo (i + 1)
  fall_on_more i d lt b c e here h k le =
      ⊎_elim
      (λ (q : k ≡ i).
      let there : FallsOnAt i =
      rw (
        row_in_is rows i d lt,
        row_in_is next i d (omega (arith, lt, b)),
        row_in_is second i d (omega (arith, lt, c)),
        row_in_is last i d (omega (arith, lt, e)),
      ) here in
      subst FallsOnAt (sym q) there)
      (λ (ne : k ≢ i). h k (omega (arith, le, ne)))
      (cases_eq k i)

  -- all places
  pub fall_on_all : (i : ℕ) → length rows ≤ i → length next ≡ length rows → FallOnTo i → PlacesFallOn n rows next second last
  fall_on_all i le same h k =
      ⊎_elim
      (λ (lt : k < length rows). h k (omega (arith, lt, le)))
      (λ (past : length rows ≤ k). rw (row_in_past rows k past, row_in_past next k (omega (arith, past, same))) tt)
      (cases_lt k (length rows))

-- AMOUNTS

falls_zero : (n next second last : ℕ) → FallsAlike n 0 next second last
falls_zero n next second last = record { again = omega arith; left = λ lt. absurd (omega (arith, lt)); still = omega arith }

-- what holds of each amount of a list, and of none, holds of what is read of each entity
amounts_read : (P : ℕ → ℕ → Type 0) → ((e : ℕ) → P e 0) → (us : List Amount) → All (λ (a : Amount). P a.entity a.number) us → (e : ℕ)
    → P e (amount_of (amounts_of us) e)
amounts_read P none [] h e = none e
amounts_read P none (u ∷ us) h e =
    ⊎_elim
    (λ (q : u.entity ≡ e). rw (eq-eqb u.entity e q) (subst (λ m. P m u.number) q (All-head (λ (a : Amount). P a.entity a.number) u us h)))
    (λ (ne : u.entity ≢ e). rw (ne_eqb u.entity e ne) (amounts_read P none us (All-tail (λ (a : Amount). P a.entity a.number) u us h) e))
    (cases_eq u.entity e)

-- a row falls on where each amount of its list does
pub amounts_fall_on : (n : ℕ) (row next second last : Row) (us : List Amount) → amounts_of us ≡ row.units
    → All (λ (a : Amount). FallsAlike n a.number (units_of next a.entity) (units_of second a.entity) (units_of last a.entity)) us → (e : ℕ)
    → AmountFallsOn n row next second last e
amounts_fall_on n row next second last us is h e =
    subst (λ es. FallsAlike n (amount_of es e) (units_of next e) (units_of second e) (units_of last e)) is
    (amounts_read (λ x m. FallsAlike n m (units_of next x) (units_of second x) (units_of last x))
    (λ x. falls_zero n (units_of next x) (units_of second x) (units_of last x)) us h e)

-- RULES ON UNITS

-- the rules of the blocks before a place are decided
abbrev pub DecidedTo : List Block → List (Option Row) → List (Option Row) → ℕ → Type 0
DecidedTo bs near last i = (k : ℕ) → k < i → (block : Block) → slice_get bs k ≡ Some block → IsBlockDecided block (row_in near k) (row_in last k)

-- one block more
pub decided_more : (bs : List Block) (near last : List (Option Row)) (i : ℕ) (b : Block) (x y : Option Row) → i < length near → i
    < length last → b ≡ get_or bs i b → x ≡ get_or near i x → y ≡ get_or last i y → IsBlockDecided b x y →
    DecidedTo bs near last i → DecidedTo bs near last (i + 1)
decided_more bs near last i b x y ltn ltl eb ex ey here h k le block is =
    ⊎_elim
    (λ (q : k ≡ i).
    let at_i : slice_get bs i ≡ Some block = subst (λ m. slice_get bs m ≡ Some block) q is in
    let same : b ≡ block = eb ∙ get_or_from_slice_get bs i block b at_i in
    let near_is : x ≡ row_in near i = ex ∙ sym (row_in_is near i x ltn) in
    let last_is : y ≡ row_in last i = ey ∙ sym (row_in_is last i y ltl) in
    subst (λ m. IsBlockDecided block (row_in near m) (row_in last m)) (sym q)
    (subst (λ z. IsBlockDecided block (row_in near i) z) last_is (subst (λ z. IsBlockDecided block z y) near_is (subst (λ z. IsBlockDecided z x y) same here))))
    (λ (ne : k ≢ i). h k (omega (arith, le, ne)) block is)
    (cases_eq k i)

-- all blocks
pub decided_all : (p : Parts) (near last : List (Option Row)) (i : ℕ) → length p.blocks ≤ i →
    DecidedTo p.blocks near last i →
    (b : ℕ) (block : Block) → block_at p.blocks b ≡ Some block → IsBlockDecided block (row_at near b) (row_at last b)
decided_all p near last i le h zero block is = absurd (cc)
decided_all p near last i le h (suc k) block is = h k (omega (arith, slice_get_within p.blocks k block is, le)) block is
