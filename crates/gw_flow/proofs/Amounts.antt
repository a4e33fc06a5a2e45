-- Amounts that were written.
use Rattle.std.proofs.Common.{◌≡◌, ℕ, List, [], ◌∷◌, ◌++◌, nat_lt, ◌≢◌, sym, ap, ◌∙◌}
use Rattle.std.specs.Prelude.{filter, option_to_list, option_map}
use Rattle.std.proofs.lemmas.List.{map-append, append-nil}
use Rattle.std.proofs.lemmas.Bool.{ne_eqb}
use Rattle.gw_flow.specs.declared.abstract_state.Amount.{Amount}
use Rattle.gw_rules.specs.Entries.{with_entry}
use Rattle.gw_rules.specs.Rows.{nonzero}
use Rattle.gw_flow.specs.Known.{amounts_of}
use Rattle.gw_rules.proofs.Entries.{map-filter}

-- what is entered for a number that may be 0
abbrev pub entered : ℕ → ℕ → List (ℕ × ℕ)
entered e n = option_to_list (option_map (λ v. (e, v)) (nonzero n))

-- 0 isn't entered, and another number is
pub amounts-none : (e n : ℕ) (here : List Amount) → n ≡ 0 → amounts_of here ≡ amounts_of here ++ entered e n
amounts-none e n here zero = sym (append-nil (amounts_of here)) ∙ ap (λ k. amounts_of here ++ entered e k) (sym zero)

pub amounts-one : (e n : ℕ) (here : List Amount) → n ≢ 0 → amounts_of (here ++ record { entity = e; number = n } ∷ []) ≡ amounts_of here ++ entered e n
amounts-one e n here ne = rw (ne_eqb n 0 ne) (map-append (λ (a : Amount). (a.entity, a.number)) here (record { entity = e; number = n } ∷ []))

-- the amounts below, one that may be 0, and the amounts above are the amounts with that one
pub written : (e n : ℕ) (amounts below here : List Amount) →
    below ≡ filter (λ (a : Amount). nat_lt a.entity e) amounts →
    amounts_of here ≡ amounts_of below ++ entered e n →
    amounts_of (here ++ filter (λ (a : Amount). nat_lt e a.entity) amounts) ≡ with_entry e (nonzero n) (amounts_of amounts)
written e n amounts below here is_below is_here =
    map-append (λ (a : Amount). (a.entity, a.number)) here (filter (λ (a : Amount). nat_lt e a.entity) amounts)
    ∙ ap (λ xs. xs ++ amounts_of (filter (λ (a : Amount). nat_lt e a.entity) amounts))
    (is_here ∙ ap (λ xs. amounts_of xs ++ entered e n) is_below
    ∙ ap (λ xs. xs ++ entered e n) (map-filter (λ (a : Amount). (a.entity, a.number)) (λ x. nat_lt x.0 e) amounts))
    ∙ ap (λ xs. filter (λ x. nat_lt x.0 e) (amounts_of amounts) ++ entered e n ++ xs)
    (map-filter (λ (a : Amount). (a.entity, a.number)) (λ x. nat_lt e x.0) amounts)
