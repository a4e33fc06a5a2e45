-- Fitting: its test decides it, each state fits itself, and what fits is carried on.
use Rattle.std.proofs.Common.{◌≡◌, ◌≢◌, ◌⊎◌, inl, inr, ⊎_elim, ℕ, ◌≤◌, List, [], ◌∷◌, Option, Some, None, Bool, true, refl, subst, ◌∙◌, arith, nat_le}
use Rattle.std.proofs.Common.{◌==◌, ◌&&◌}
use Rattle.std.specs.Prelude.{Decides, IsTrue, nat_eq}
use Rattle.std.specs.List.{list_all}
use Rattle.std.specs.Cmp.Lexicographic.{pointwise, bytes_decides}
use Rattle.std.proofs.lemmas.Bool.{cases_eq, eq-eqb, ne_eqb, and_parts, and_from, or_left, or_right, false≢true, le-leb, leb-true}
use Rattle.gw_rules.specs.Entries.{lists, entry, amount_of}
use Rattle.gw_rules.specs.Rows.{ParamKind, Num, Ret, kind_of, kind_fits, params_fit, units_fit}
use Rattle.gw_rules.specs.FlowLaws.{FitsIsDecided, FitsItself, FitsOn}

-- LISTS

-- each block of a list is in another that has them all
pub included : (bs cs : List ℕ) → list_all (λ b. lists cs b) bs ≡ true → (b : ℕ) → lists bs b ≡ true → lists cs b ≡ true
included [] cs h b q = absurd (false≢true q)
included (x ∷ bs) cs h b q =
    let p = and_parts (lists cs x) (list_all (λ b. lists cs b) bs) h in
    ⊎_elim
    (λ (e : x ≡ b). subst (λ z. lists cs z ≡ true) e p.0)
    (λ (ne : x ≢ b). included bs cs p.1 b (rw (ne_eqb x b ne) at q))
    (cases_eq x b)

included_from : (bs cs : List ℕ) → ((b : ℕ) → lists bs b ≡ true → lists cs b ≡ true) → list_all (λ b. lists cs b) bs ≡ true
included_from [] cs h = refl
included_from (x ∷ bs) cs h =
    and_from (lists cs x) (list_all (λ b. lists cs b) bs) (h x (or_left (x == x) (lists bs x) (eq-eqb x x refl)))
    (included_from bs cs (λ b q. h b (or_right (x == b) (lists bs b) q)))

-- what is tested at each number that has an entry
each_entry : {X : Type 0} (test : ℕ → Bool) (es : List (ℕ × X)) → list_all (λ e. test e.0) es ≡ true → (n : ℕ) → (entry es n ≡ None) ⊎ (test n ≡ true)
each_entry test [] h n = inl refl
each_entry test (e ∷ es) h n =
    let p = and_parts (test e.0) (list_all (λ e. test e.0) es) h in
    ⊎_elim
    (λ (q : e.0 ≡ n). inr (subst (λ z. test z ≡ true) q p.0))
    (λ (ne : e.0 ≢ n). rw (ne_eqb e.0 n ne) (each_entry test es p.1 n))
    (cases_eq e.0 n)

each_entry_from : {X : Type 0} (test : ℕ → Bool) (es : List (ℕ × X)) → ((n : ℕ) → test n ≡ true) → list_all (λ e. test e.0) es ≡ true
each_entry_from test [] h = refl
each_entry_from test (e ∷ es) h = and_from (test e.0) (list_all (λ e. test e.0) es) (h e.0) (each_entry_from test es h)

-- KINDS

pub kind_itself : (kind : Option ParamKind) → IsTrue (kind_fits kind kind)
kind_itself None = refl
kind_itself (Some Num) = refl
kind_itself (Some (Ret bs)) = included_from bs bs (λ b h. h)

kind_on : (j k l : Option ParamKind) → IsTrue (kind_fits j k) → IsTrue (kind_fits k l) → IsTrue (kind_fits j l)
kind_on j k None h g = refl
kind_on (Some Num) (Some Num) (Some Num) h g = refl
kind_on (Some (Ret bs)) (Some (Ret cs)) (Some (Ret ds)) h g = included_from bs ds (λ b q. included cs ds g b (included bs cs h b q))
kind_on None (Some k) (Some l) h g = absurd (false≢true h)
kind_on (Some Num) (Some (Ret cs)) (Some l) h g = absurd (false≢true h)
kind_on (Some (Ret bs)) (Some Num) (Some l) h g = absurd (false≢true h)
kind_on (Some Num) (Some Num) (Some (Ret ds)) h g = absurd (false≢true g)
kind_on (Some (Ret bs)) (Some (Ret cs)) (Some Num) h g = absurd (false≢true g)
kind_on j None (Some l) h g = absurd (false≢true g)

-- ROWS

params_decided : (held said : List (ℕ × ParamKind)) → Decides (params_fit held said) ((p : ℕ) → IsTrue (kind_fits (entry held p) (entry said p)))
params_decided held said = (
  λ h p. ⊎_elim
      (λ (none : entry said p ≡ None). rw none refl)
      (λ (fits : kind_fits (entry held p) (entry said p) ≡ true). fits)
      (each_entry (λ p. kind_fits (entry held p) (entry said p)) said h p),
  λ h. each_entry_from (λ p. kind_fits (entry held p) (entry said p)) said h,
)

units_decided : (held said : List (ℕ × ℕ)) → Decides (units_fit held said) ((e : ℕ) → amount_of said e ≤ amount_of held e)
units_decided held said = (
  λ h e. ⊎_elim
      (λ (none : entry said e ≡ None). rw none (omega arith))
      (λ (fits : nat_le (amount_of said e) (amount_of held e) ≡ true). leb-true (amount_of said e) (amount_of held e) fits)
      (each_entry (λ e. nat_le (amount_of said e) (amount_of held e)) said h e),
  λ h. each_entry_from (λ e. nat_le (amount_of said e) (amount_of held e)) said (λ e. le-leb (amount_of said e) (amount_of held e) (h e)),
)

pub fits_is_decided : FitsIsDecided
fits_is_decided state row = (
  λ h.
      let p = and_parts (params_fit state.params row.params && pointwise nat_eq state.facilities row.facilities) (units_fit state.units row.units) h in
      let q = and_parts (params_fit state.params row.params) (pointwise nat_eq state.facilities row.facilities) p.0 in
      record {
        params = (params_decided state.params row.params).0 q.0;
        facilities = (bytes_decides state.facilities row.facilities).0 q.1;
        units = (units_decided state.units row.units).0 p.1;
      },
  λ h.
      and_from (params_fit state.params row.params && pointwise nat_eq state.facilities row.facilities) (units_fit state.units row.units)
      (and_from (params_fit state.params row.params) (pointwise nat_eq state.facilities row.facilities)
      ((params_decided state.params row.params).1 h.params)
      ((bytes_decides state.facilities row.facilities).1 h.facilities))
      ((units_decided state.units row.units).1 h.units),
)

pub fits_itself : FitsItself
fits_itself state = record { params = λ p. kind_itself (kind_of state p); facilities = refl; units = λ e. omega arith }

pub fits_on : FitsOn
fits_on state row other h g = record {
  params = λ p. kind_on (kind_of state p) (kind_of row p) (kind_of other p) (h.params p) (g.params p);
  facilities = h.facilities ∙ g.facilities;
  units = λ e. omega (arith, h.units e, g.units e);
}
