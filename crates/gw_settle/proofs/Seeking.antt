-- The units of an entity, sought among amounts that ascend.
use Rattle.std.proofs.Common.{◌≡◌, ◌≢◌, ⊎_elim, ℕ, suc, ◌<◌, ◌≤◌, List, [], ◌∷◌, get_or, length, nat_lt, true, false, refl, sym, ap, arith}
use Rattle.std.specs.Prelude.{unwrap_or}
use Rattle.std.specs.List.Sorted.{IsNonDecreasingBy, IsPartitionedBy, IsPartitionPoint}
use Rattle.std.proofs.lemmas.Bool.{cases_eq, cases_lt, ne_eqb, ltb-true, ltb-false}
use Rattle.std.proofs.lemmas.List.Sorted.{IsPartitionedBy-ltb}
use Rattle.gw_flow.specs.declared.abstract_state.Amount.{Amount}
use Rattle.gw_rules.specs.Entries.{amount_of}
use Rattle.gw_flow.specs.Known.{amounts_of, AmountsAscend}
use Rattle.gw_settle.proofs.Keeping.{entry_own}

-- entities rise along the list
rising : (us : List Amount) → AmountsAscend us → IsNonDecreasingBy (λ (a : Amount). a.entity) us
rising us up i j d le within =
    ⊎_elim
    (λ (lt : i < j). omega (arith, up i j d lt within))
    (λ (ge : j ≤ i). let same : i ≡ j = omega (arith, le, ge) in rw same (omega arith))
    (cases_lt i j)

-- so a bound parts them
pub parted : (us : List Amount) (e : ℕ) → AmountsAscend us → IsPartitionedBy (λ (a : Amount). nat_lt a.entity e) us
parted us e up = IsPartitionedBy-ltb (λ (a : Amount). a.entity) us e (rising us up)

-- this place parts those below an entity from the others
abbrev pub IsPlaceFor : ℕ → List Amount → ℕ → Type 0
IsPlaceFor e us i = IsPartitionPoint (λ (a : Amount). nat_lt a.entity e ≡ true) (λ (a : Amount). nat_lt a.entity e ≡ false) us i

-- where an entity stands there are its units
pub units_there : (us : List Amount) (i e : ℕ) (d : Amount) → AmountsAscend us → i < length us → (get_or us i d).entity ≡ e
    → (get_or us i d).number ≡ amount_of (amounts_of us) e
units_there us i e d up within is =
    rw (← is) (sym (ap (λ o. unwrap_or o 0) (entry_own (λ (a : Amount). a.entity) (λ (a : Amount). a.number) us i d up within)))

-- where it stands nowhere there are none
nowhere : (us : List Amount) (e : ℕ) (d : Amount) → ((k : ℕ) → k < length us → (get_or us k d).entity ≢ e) → 0 ≡ amount_of (amounts_of us) e
nowhere [] e d h = refl
nowhere (u ∷ us) e d h = rw (ne_eqb u.entity e (h 0 (omega arith))) (nowhere us e d (λ k within. h (suc k) (omega (arith, within))))

-- it stands at its place, or nowhere
pub units_nowhere : (us : List Amount) (i e : ℕ) (d : Amount) → AmountsAscend us → IsPlaceFor e us i
    → (i < length us → (get_or us i d).entity ≢ e) → 0 ≡ amount_of (amounts_of us) e
units_nowhere us i e d up point other =
    nowhere us e d (λ k within.
    ⊎_elim
    (λ (lt : k < i). let below = ltb-true (get_or us k d).entity e (point.0 k d (omega arith) lt) in λ q. omega (arith, below, q))
    (λ (ge : i ≤ k).
    ⊎_elim
    (λ (q : k ≡ i). rw q (other (omega (arith, within, q))))
    (λ (ne : k ≢ i).
    let first = ltb-false (get_or us i d).entity e (point.1 i d (omega arith) (omega (arith, within, ge))) in
    let over = up i k d (omega (arith, ge, ne)) within in
    λ q. omega (arith, first, over, q))
    (cases_eq k i))
    (cases_lt k i))
