-- The first of what is noted.
use Rattle.std.proofs.Common.{◌≡◌, ℕ, zero, suc, List, [], ◌∷◌, Some, None, Bool, true, false, if◌then◌else◌, refl, subst, arith}
use Rattle.std.specs.Prelude.{slice_get}
use Rattle.std.proofs.lemmas.Bool.Decides.{nat_tests}
use Rattle.std.proofs.lemmas.List.Elements.{All-nil, All-cons, All-head, All-tail}
use Rattle.gw_names.specs.declared.ledger.Noted.{Noted}
use Rattle.gw_names.specs.Ledger.{is_before, with_notes}
use Rattle.gw_names.specs.Laws.{IsFirst}

follows : (a b c : Noted) → is_before b a ≡ false → is_before c b ≡ false → is_before c a ≡ false
follows a b c first second = grind (arith, nat_tests)

goes_behind : (a b : Noted) → is_before a b ≡ true → is_before b a ≡ false
goes_behind a b is = grind (arith, nat_tests)

not_itself : (a : Noted) → is_before a a ≡ false
not_itself a = grind (arith, nat_tests)

-- the place of one where another stands behind the first
abbrev pushed : ℕ → ℕ
pushed zero = zero
pushed (suc k) = suc (suc k)

pushed_is : (x y one : Noted) (ns : List Noted) (k : ℕ) → slice_get (x ∷ ns) k ≡ Some one → slice_get (x ∷ y ∷ ns) (pushed k) ≡ Some one
pushed_is x y one ns zero is = is
pushed_is x y one ns (suc k) is = is

first_by : (x y one : Noted) (ns : List Noted) (b : Bool) → is_before y x ≡ b → with_notes (if b then Some y else Some x) ns ≡ Some one
    → (with_notes (Some y) ns ≡ Some one → IsFirst one (y ∷ ns)) → (with_notes (Some x) ns ≡ Some one → IsFirst one (x ∷ ns)) → IsFirst one (x ∷ y ∷ ns)
first_by x y one ns true before is later stays =
    let f = later is in
    let own = follows one y x (All-head (λ (other : Noted). is_before other one ≡ false) y ns f.first) (goes_behind y x before) in
    record {
      place = suc f.place;
      among = f.among;
      first = All-cons (λ (other : Noted). is_before other one ≡ false) x (y ∷ ns) own f.first;
    }
first_by x y one ns false before is later stays =
    let f = stays is in
    let own = All-head (λ (other : Noted). is_before other one ≡ false) x ns f.first in
    let others = All-tail (λ (other : Noted). is_before other one ≡ false) x ns f.first in
    record {
      place = pushed f.place;
      among = pushed_is x y one ns f.place f.among;
      first = All-cons (λ (other : Noted). is_before other one ≡ false) x (y ∷ ns) own
          (All-cons (λ (other : Noted). is_before other one ≡ false) y ns (follows one x y own before) others);
    }

first_of_more : (x one : Noted) (ns : List Noted) → with_notes (Some x) ns ≡ Some one → IsFirst one (x ∷ ns)
first_of_more x one [] is =
    let same : x ≡ one = cc in
    record {
      place = zero;
      among = is;
      first = All-cons (λ (other : Noted). is_before other one ≡ false) x [] (subst (λ a. is_before x a ≡ false) same (not_itself x))
          (All-nil (λ (other : Noted). is_before other one ≡ false));
    }
first_of_more x one (y ∷ ns) is = first_by x y one ns (is_before y x) refl is (first_of_more y one ns) (first_of_more x one ns)

pub first_kept : (noted : List Noted) (one : Noted) → with_notes None noted ≡ Some one → IsFirst one noted
first_kept [] one is = absurd (cc)
first_kept (x ∷ ns) one is = first_of_more x one ns is
