-- What is written stops past a limit only where it can't be written.
use Rattle.std.proofs.Common.{◌≡◌, ◌⊎◌, inl, inr, ℕ, zero, suc, ◌<◌, ◌≤◌, ◌+◌, List, [], ◌∷◌, ◌++◌, length, take, get_or, Option, Some, None, Bool}
use Rattle.std.proofs.Common.{true, false, if◌then◌else◌, refl, sym, ap, subst, ◌∙◌, arith}
use Rattle.std.specs.Prelude.{All}
use Rattle.std.proofs.lemmas.List.Elements.{All-head, All-tail}
use Rattle.gw_object.specs.Limits.{most_return_rows, greatest_units}
use Rattle.gw_flow.specs.declared.abstract_state.Amount.{Amount}
use Rattle.gw_flow.specs.Known.{amounts_of}
use Rattle.gw_rules.specs.Rows.{ParamKind, Num, Ret, Row}
use Rattle.gw_settle.specs.declared.known.KnownParam.{KnownParam}
use Rattle.gw_settle.specs.declared.written.Stop.{Stop}
use Rattle.gw_settle.specs.declared.written.Stop.TheVariants as stops
use Rattle.gw_settle.specs.Known.{kind_known, params_known}
use Rattle.gw_settle.specs.Numbers.{has_set, with_kind, with_params, with_row, with_rows, AreFew, HasKind, HasParams}
use Rattle.gw_settle.specs.Written.{AmountsFit, StopsUnless}

-- where what can't be is part of what is asked
pub stops_weaker : (can part : Type 0) (stop : Stop) → (can → part) → StopsUnless part stop → StopsUnless can stop
stops_weaker can part stop f (inl h) = inl h
stops_weaker can part stop f (inr h) = inr (h.0, λ x. h.1 (f x))

-- SETS ONLY BECOME MORE

length_push : (sets : List (List ℕ)) (bs : List ℕ) → length sets ≤ length (sets ++ bs ∷ [])
length_push [] bs = omega arith
length_push (s ∷ sets) bs = let h = length_push sets bs in omega (arith, h)

more_if : (b : Bool) (sets : List (List ℕ)) (bs : List ℕ) → length sets ≤ length (if b then sets else sets ++ bs ∷ [])
more_if true sets bs = omega arith
more_if false sets bs = length_push sets bs

more_kind : (sets : List (List ℕ)) (kind : ParamKind) → length sets ≤ length (with_kind sets kind)
more_kind sets Num = omega arith
more_kind sets (Ret bs) = more_if (has_set sets bs) sets bs

more_params : (sets : List (List ℕ)) (ps : List (ℕ × ParamKind)) → length sets ≤ length (with_params sets ps)
more_params sets [] = omega arith
more_params sets (p ∷ ps) = let h = more_kind sets p.1 in let g = more_params (with_kind sets p.1) ps in omega (arith, h, g)

more_row : (sets : List (List ℕ)) (row : Option Row) → length sets ≤ length (with_row sets row)
more_row sets None = omega arith
more_row sets (Some row) = more_params sets row.params

more_rows : (sets : List (List ℕ)) (rows : List (Option Row)) → length sets ≤ length (with_rows sets rows)
more_rows sets [] = omega arith
more_rows sets (row ∷ rows) = let h = more_row sets row in let g = more_rows (with_row sets row) rows in omega (arith, h, g)

at_most : (a b c : ℕ) → a ≤ b → b ≤ c → a ≤ c
at_most a b c h g = omega (arith, h, g)

-- so where all are few, those on the way are
pub few_params : (sets so_far : List (List ℕ)) (ps : List KnownParam) (i : ℕ) (d : KnownParam) → i < length ps → so_far
    ≡ with_params sets (params_known (take i ps)) → AreFew (with_params sets (params_known ps)) → AreFew (with_kind so_far (kind_known (get_or ps i d).kind))
few_params sets so_far [] i d lt is few = absurd (omega (arith, lt))
few_params sets so_far (p ∷ ps) zero d lt is few =
    let more = more_params (with_kind sets (kind_known p.kind)) (params_known ps) in
    let first : AreFew (with_kind sets (kind_known p.kind)) = at_most _ _ most_return_rows more few in
    subst (λ s. AreFew (with_kind s (kind_known p.kind))) (sym is) first
few_params sets so_far (p ∷ ps) (suc i) d lt is few =
    let below : i < length ps = omega (arith, lt) in
    few_params (with_kind sets (kind_known p.kind)) so_far ps i d below is few

pub few_rows : (sets so_far : List (List ℕ)) (rows : List (Option Row)) (i : ℕ) (d : Option Row) → i < length rows → so_far
    ≡ with_rows sets (take i rows) → AreFew (with_rows sets rows) → AreFew (with_row so_far (get_or rows i d))
few_rows sets so_far [] i d lt is few = absurd (omega (arith, lt))
few_rows sets so_far (row ∷ rows) zero d lt is few =
    let more = more_rows (with_row sets row) rows in
    let first : AreFew (with_row sets row) = at_most _ _ most_return_rows more few in
    subst (λ s. AreFew (with_row s row)) (sym is) first
few_rows sets so_far (row ∷ rows) (suc i) d lt is few =
    let below : i < length rows = omega (arith, lt) in
    few_rows (with_row sets row) so_far rows i d below is few

pub few_blocks : (sets : List (List ℕ)) (rows : List (Option Row)) → AreFew (with_rows sets rows) → AreFew sets
few_blocks sets rows few = at_most (length sets) (length (with_rows sets rows)) most_return_rows (more_rows sets rows) few

-- ONE OF SEVERAL

pub param_at : (sets : List (List ℕ)) (ps : List KnownParam) (i : ℕ) (d : KnownParam) → i < length ps → HasParams sets (params_known ps)
    → HasKind sets (kind_known (get_or ps i d).kind)
param_at sets [] i d lt h = absurd (omega (arith, lt))
param_at sets (p ∷ ps) zero d lt h = All-head (λ (e : ℕ × ParamKind). HasKind sets e.1) (p.number, kind_known p.kind) (params_known ps) h
param_at sets (p ∷ ps) (suc i) d lt h =
    let below : i < length ps = omega (arith, lt) in
    param_at sets ps i d below (All-tail (λ (e : ℕ × ParamKind). HasKind sets e.1) (p.number, kind_known p.kind) (params_known ps) h)

pub amount_at : (us : List Amount) (i : ℕ) (d : Amount) → i < length us → AmountsFit (amounts_of us) → (get_or us i d).number ≤ greatest_units
amount_at [] i d lt h = absurd (omega (arith, lt))
amount_at (u ∷ us) zero d lt h = All-head (λ (e : ℕ × ℕ). e.1 ≤ greatest_units) (u.entity, u.number) (amounts_of us) h
amount_at (u ∷ us) (suc i) d lt h =
    let below : i < length us = omega (arith, lt) in
    amount_at us i d below (All-tail (λ (e : ℕ × ℕ). e.1 ≤ greatest_units) (u.entity, u.number) (amounts_of us) h)

-- WHERE A LOOP STOPS

pub stops_params : (sets so_far : List (List ℕ)) (ps : List KnownParam) (i : ℕ) (x : KnownParam) (stop : Stop) → i < length ps → x
    ≡ get_or ps i x → so_far ≡ with_params sets (params_known (take i ps)) →
    StopsUnless (AreFew (with_kind so_far (kind_known x.kind))) stop → StopsUnless (AreFew (with_params sets (params_known ps))) stop
stops_params sets so_far ps i x stop lt is so h =
    stops_weaker (AreFew (with_params sets (params_known ps))) (AreFew (with_kind so_far (kind_known x.kind))) stop
    (λ few. subst (λ (y : KnownParam). AreFew (with_kind so_far (kind_known y.kind))) (sym is) (few_params sets so_far ps i x lt so few)) h

pub stops_rows : (sets so_far : List (List ℕ)) (rows : List (Option Row)) (i : ℕ) (x : Option Row) (stop : Stop) → i < length rows → x
    ≡ get_or rows i x → so_far ≡ with_rows sets (take i rows) →
    StopsUnless (AreFew (with_row so_far x)) stop → StopsUnless (AreFew (with_rows sets rows)) stop
stops_rows sets so_far rows i x stop lt is so h =
    stops_weaker (AreFew (with_rows sets rows)) (AreFew (with_row so_far x)) stop
    (λ few. subst (λ (y : Option Row). AreFew (with_row so_far y)) (sym is) (few_rows sets so_far rows i x lt so few)) h

pub stops_param : (sets : List (List ℕ)) (ps : List KnownParam) (i : ℕ) (x : KnownParam) (stop : Stop) → i < length ps → x ≡ get_or ps i x
    → StopsUnless (HasKind sets (kind_known x.kind)) stop → StopsUnless (HasParams sets (params_known ps)) stop
stops_param sets ps i x stop lt is h =
    stops_weaker (HasParams sets (params_known ps)) (HasKind sets (kind_known x.kind)) stop
    (λ all. subst (λ (y : KnownParam). HasKind sets (kind_known y.kind)) (sym is) (param_at sets ps i x lt all)) h

pub stops_amount : (us : List Amount) (i : ℕ) (d : Amount) → i < length us → greatest_units < (get_or us i d).number
    → StopsUnless (AmountsFit (amounts_of us)) stops.Limit
stops_amount us i d lt above = inr (refl, λ all. let fits = amount_at us i d lt all in omega (arith, above, fits))
