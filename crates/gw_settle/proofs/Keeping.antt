-- What is joined of lists, entry by entry.
use Rattle.std.proofs.Common.{◌≡◌, ℕ, zero, suc, ◌<◌, ◌+◌, List, [], ◌∷◌, ◌++◌, map, drop, get_or, length, Option, Some, None, refl, sym, ap, subst}
use Rattle.std.proofs.Common.{append_assoc, ◌∙◌, arith}
use Rattle.std.specs.Prelude.{All, AllPairs, IfSome, unwrap_or}
use Rattle.std.proofs.lemmas.Bool.{eq-eqb, ne_eqb}
use Rattle.std.proofs.lemmas.List.Elements.{All-get_or}
use Rattle.gw_flow.specs.declared.abstract_state.Amount.{Amount}
use Rattle.gw_rules.specs.Entries.{entry, amount_of}
use Rattle.gw_rules.specs.Rows.{ParamKind, KindAscends, Row, kind_of, units_of, nonzero}
use Rattle.gw_flow.specs.Known.{amounts_of}
use Rattle.gw_flow.proofs.Ascending.{AllPairs-head, AllPairs-tail, AllPairs-from_map}
use Rattle.gw_settle.specs.declared.known.KnownParam.{KnownParam}
use Rattle.gw_settle.specs.Joins.{one, keep, joined_kind, AddsJoined, AddsUnits}
use Rattle.gw_settle.specs.Known.{kind_known, params_known}
use Rattle.gw_settle.proofs.Ordering.{found}
use Rattle.gw_settle.proofs.Uniting.{drop_at}

module _ {X V : Type 0} (key : X → ℕ) (value : X → V) where
  abbrev pub entries : List X → List (ℕ × V)
  entries xs = map (λ x. (key x, value x)) xs

  -- the entry of an element of a list that ascends is its own
  pub entry_own : (xs : List X) (i : ℕ) (d : X) → AllPairs (λ a b. key a < key b) xs → i < length xs
      → entry (entries xs) (key (get_or xs i d)) ≡ Some (value (get_or xs i d))
  entry_own [] i d up lt = absurd (omega arith)
  entry_own (x ∷ xs) zero d up lt = rw (eq-eqb (key x) (key x) refl) refl
  entry_own (x ∷ xs) (suc i) d up lt =
      let over : key x < key (get_or xs i d) = All-get_or (λ y. key x < key y) xs i d (omega arith) (AllPairs-head (λ a b. key a < key b) x xs up) in
      rw (ne_eqb (key x) (key (get_or xs i d)) (λ e. omega (arith, e, over))) (entry_own xs i d (AllPairs-tail (λ a b. key a < key b) x xs up) (omega arith))

  -- what was kept so far, and what is kept of the elements that are left
  abbrev pub KeptSoFar : (ℕ → Option V) → List X → List (ℕ × V) → ℕ → Type 0
  KeptSoFar f xs all i = all ++ keep f (entries (drop i xs)) ≡ keep f (entries xs)

  pub kept_more : (f : ℕ → Option V) (xs : List X) (all more : List (ℕ × V)) (i : ℕ) (d : X) → i < length xs → more ≡ all
      ++ one (key (get_or xs i d)) (f (key (get_or xs i d))) → KeptSoFar f xs all i → KeptSoFar f xs more (i + 1)
  kept_more f xs all more i d lt is h =
      let first = one (key (get_or xs i d)) (f (key (get_or xs i d))) in
      let later = keep f (entries (drop (i + 1) xs)) in
      ap (λ ys. ys ++ later) is ∙ append_assoc all first later ∙ subst (λ ys. all ++ keep f (entries ys) ≡ keep f (entries xs)) (drop_at xs i d lt) h

-- parameters that were joined so far
abbrev pub ParamsSoFar : List KnownParam → Row → List KnownParam → ℕ → Type 0
ParamsSoFar params state all i =
    KeptSoFar (λ (p : KnownParam). p.number) (λ (p : KnownParam). kind_known p.kind)
    (λ p. joined_kind (entry (params_known params) p) (kind_of state p)) params (params_known all) i

pub params_more : (params : List KnownParam) (state : Row) (all more : List KnownParam) (i : ℕ) (d : KnownParam)
    → AllPairs (λ (a b : KnownParam). a.number < b.number) params → i < length params →
    AddsJoined (get_or params i d) state all more → ParamsSoFar params state all i → ParamsSoFar params state more (i + 1)
params_more params state all more i d up lt is h =
    let here = get_or params i d in
    let own : entry (params_known params) here.number ≡ Some (kind_known here.kind) =
    entry_own (λ (p : KnownParam). p.number) (λ (p : KnownParam). kind_known p.kind) params i d up lt in
    kept_more (λ (p : KnownParam). p.number) (λ (p : KnownParam). kind_known p.kind)
    (λ p. joined_kind (entry (params_known params) p) (kind_of state p)) params (params_known all) (params_known more) i d lt
    (is ∙ ap (λ k. params_known all ++ one here.number (joined_kind k (kind_of state here.number))) (sym own)) h

-- units that a function kept so far of those of a row, and of another's
abbrev pub UnitsSoFar : (ℕ → ℕ → ℕ) → List Amount → Row → List Amount → ℕ → Type 0
UnitsSoFar f units row all i =
    KeptSoFar (λ (a : Amount). a.entity) (λ (a : Amount). a.number) (λ e. nonzero (f (amount_of (amounts_of units) e) (units_of row e)))
    units (amounts_of all) i

pub units_more : (f : ℕ → ℕ → ℕ) (units : List Amount) (row : Row) (all more : List Amount) (i : ℕ) (d : Amount)
    → AllPairs (λ (a b : Amount). a.entity < b.entity) units → i < length units →
    (let here = get_or units i d in AddsUnits here.entity (f here.number (units_of row here.entity)) all more)
    → UnitsSoFar f units row all i → UnitsSoFar f units row more (i + 1)
units_more f units row all more i d up lt is h =
    let here = get_or units i d in
    let own : amount_of (amounts_of units) here.entity ≡ here.number =
    ap (λ o. unwrap_or o 0) (entry_own (λ (a : Amount). a.entity) (λ (a : Amount). a.number) units i d up lt) in
    kept_more (λ (a : Amount). a.entity) (λ (a : Amount). a.number) (λ e. nonzero (f (amount_of (amounts_of units) e) (units_of row e)))
    units (amounts_of all) (amounts_of more) i d lt
    (is ∙ ap (λ n. amounts_of all ++ one here.entity (nonzero (f n (units_of row here.entity)))) (sym own)) h

-- amounts ascend where they do as numbers
pub amounts_ascend : (units us : List Amount) → units ≡ us → AllPairs (λ (a b : ℕ × ℕ). a.0 < b.0) (amounts_of us)
    → AllPairs (λ (a b : Amount). a.entity < b.entity) units
amounts_ascend units us is h =
    subst (AllPairs (λ (a b : Amount). a.entity < b.entity)) (sym is)
    (AllPairs-from_map (λ (a b : ℕ × ℕ). a.0 < b.0) (λ (a : Amount). (a.entity, a.number)) us h)

-- what a parameter holds in a state whose blocks ascend has blocks that ascend
pub found_ascends : (o : Option ParamKind) (es : List (ℕ × ParamKind)) (n : ℕ) → o ≡ entry es n → All (λ e. KindAscends e.1) es → IfSome o KindAscends
found_ascends None es n is h = tt
found_ascends (Some kind) es n is h = found KindAscends es n kind h (sym is)
