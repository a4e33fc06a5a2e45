-- Parameters as they are kept: slots and a mask.
use Rattle.std.proofs.Common.{◌≡◌, ◌≢◌, ℕ, zero, suc, ◌+◌, ◌-◌, ◌<◌, ◌≤◌, ◌==◌, if◌then◌else◌, ℤ, pos, List, [], ◌∷◌, length, replicate, set, get_or}
use Rattle.std.proofs.Common.{Some, None, Bool, true, false, refl, sym, ap, ◌∙◌, subst, arith}
use Rattle.std.specs.Prelude.{unwrap_or}
use Rattle.std.specs.Option.{IsSome}
use Rattle.std.specs.Int.{bit_at}
use Rattle.std.proofs.lemmas.Nat.Bits.{bit_at-zero, bit_at-lt}
use Rattle.gw_num.specs.Table.{at, put}
use Rattle.gw_num.proofs.Tables.{at-replicate}
use Rattle.gw_transactions.specs.Parameters.{slot, shown_from}

-- READING

some_slot : (b : Bool) (v : ℤ) → IsSome (if b then Some v else None) → (if b then Some v else None) ≡ Some v
some_slot true v set = refl
some_slot false v set = absurd (cc)

-- a parameter that is set has its slot's value
pub set_value : (k m p : ℕ) (vs : List ℤ) → IsSome (at None (shown_from k m vs) p) → (p < length vs) × (at None (shown_from k m vs) p ≡ Some (at (pos 0) vs p))
set_value k m p [] set = absurd (let none = subst IsSome (at-replicate None (64 - k) p) set in cc)
set_value k m zero (v ∷ vs) set = (omega arith, some_slot (bit_at m k == 1) v set)
set_value k m (suc p) (v ∷ vs) set = let later = set_value (suc k) m p vs set in (omega (arith, later.0), later.1)

bit_slot : (bit : ℕ) (v : ℤ) → bit < 2 → (bit ≡ 0 → v ≡ pos 0) → unwrap_or (slot bit v) (pos 0) ≡ v
bit_slot zero v few unset = sym (unset refl)
bit_slot (suc zero) v few unset = refl
bit_slot (suc (suc bit)) v few unset = absurd (omega (arith, few))

-- a slot that isn't set is 0, so that no test tells the two apart
pub value_or_zero : (k m p : ℕ) (vs : List ℤ) → p < length vs → ((i : ℕ) → bit_at m (k + i) ≡ 0 → at (pos 0) vs i ≡ pos 0)
    → unwrap_or (at None (shown_from k m vs) p) (pos 0) ≡ at (pos 0) vs p
value_or_zero k m p [] below unset = absurd (omega (arith, below))
value_or_zero k m zero (v ∷ vs) below unset =
    let here : k + 0 ≡ k = omega arith in bit_slot (bit_at m k) v (bit_at-lt m k) (λ none. unset 0 (ap (bit_at m) here ∙ none))
value_or_zero k m (suc p) (v ∷ vs) below unset =
    value_or_zero (suc k) m p vs (omega (arith, below)) (λ i none. unset (suc i) (let next : k + suc i ≡ suc k + i = omega arith in ap (bit_at m) next ∙ none))

-- WRITING

same_shown : (k m n : ℕ) (vs : List ℤ) → ((i : ℕ) → k ≤ i → bit_at n i ≡ bit_at m i) → shown_from k n vs ≡ shown_from k m vs
same_shown k m n [] same = refl
same_shown k m n (v ∷ vs) same =
    ap (λ b. slot b v ∷ shown_from (suc k) n vs) (same k (omega arith))
    ∙ ap (λ xs. slot (bit_at m k) v ∷ xs) (same_shown (suc k) m n vs (λ i past. same i (omega (arith, past))))

pub put-shown : (k m n p : ℕ) (x : ℤ) (vs : List ℤ) → p < length vs → bit_at n (k + p) ≡ 1
    → ((i : ℕ) → i ≢ k + p → bit_at n i ≡ bit_at m i) → shown_from k n (set vs p x) ≡ put None (shown_from k m vs) p (Some x)
put-shown k m n p x [] below one others = absurd (omega (arith, below))
put-shown k m n zero x (v ∷ vs) below one others =
    let here : k + 0 ≡ k = omega arith in
    ap (λ b. slot b x ∷ shown_from (suc k) n vs) (ap (bit_at n) (sym here) ∙ one)
    ∙ ap (λ xs. Some x ∷ xs) (same_shown (suc k) m n vs (λ i past. others i (λ is. absurd (omega (arith, is, past)))))
put-shown k m n (suc p) x (v ∷ vs) below one others =
    let next : suc k + p ≡ k + suc p = omega arith in
    ap (λ b. slot b v ∷ shown_from (suc k) n (set vs p x)) (others k (λ is. absurd (omega (arith, is))))
    ∙ ap (λ xs. slot (bit_at m k) v ∷ xs)
    (put-shown (suc k) m n p x vs (omega (arith, below)) (ap (bit_at n) next ∙ one) (λ i other. others i (λ is. other (is ∙ sym next))))

-- a slot that isn't set stays 0
pub set-unset : (m n p : ℕ) (x : ℤ) (vs : List ℤ) → bit_at n p ≡ 1 → ((i : ℕ) → i ≢ p → bit_at n i ≡ bit_at m i)
    → ((i : ℕ) → bit_at m i ≡ 0 → at (pos 0) vs i ≡ pos 0) → (i : ℕ) → bit_at n i ≡ 0 → at (pos 0) (set vs p x) i ≡ pos 0
set-unset m n p x vs one others unset i none = elsewhere vs p i (λ is. absurd (omega (arith, ap (bit_at n) is, one, none)))
    ∙ unset i (sym (others i (λ is. absurd (omega (arith, ap (bit_at n) is, one, none)))) ∙ none)
  where
    elsewhere : (vs : List ℤ) (p i : ℕ) → i ≢ p → at (pos 0) (set vs p x) i ≡ at (pos 0) vs i
    elsewhere [] p i other = refl
    elsewhere (v ∷ vs) zero zero other = absurd (other refl)
    elsewhere (v ∷ vs) zero (suc i) other = refl
    elsewhere (v ∷ vs) (suc p) zero other = refl
    elsewhere (v ∷ vs) (suc p) (suc i) other = elsewhere vs p i (λ is. other (ap suc is))

-- NONE IS SET

pub none_shown : (k n : ℕ) → n + k ≤ 64 → shown_from k 0 (replicate n (pos 0)) ≡ replicate (64 - k) None
none_shown k zero few = refl
none_shown k (suc n) few =
    let left : 64 - k ≡ suc (64 - suc k) = omega (arith, few) in
    ap (λ b. slot b (pos 0) ∷ shown_from (suc k) 0 (replicate n (pos 0))) (bit_at-zero k)
    ∙ ap (λ xs. None ∷ xs) (none_shown (suc k) n (omega (arith, few)))
    ∙ ap (λ j. replicate j None) (sym left)

pub zero_at : (n i : ℕ) → at (pos 0) (replicate n (pos 0)) i ≡ pos 0
zero_at n i = at-replicate (pos 0) n i

-- BY NUMBER, FROM 1 ON

at_slot : (vs : List ℤ) (p : ℕ) (v : ℤ) → p < length vs → v ≡ get_or vs p v → at (pos 0) vs p ≡ v
at_slot [] p v below is = absurd (omega (arith, below))
at_slot (x ∷ vs) zero v below is = sym is
at_slot (x ∷ vs) (suc p) v below is = at_slot vs p v (omega (arith, below)) is

pub is_there : (m number : ℕ) (vs : List ℤ) → IsSome (at None (None ∷ shown_from 0 m vs) number) → (0 < number) × (number - 1 < length vs)
is_there m zero vs set = absurd (cc)
is_there m (suc p) vs set = let within = (set_value 0 m p vs set).0 in (omega arith, omega (arith, within))

pub value_is : (m number : ℕ) (vs : List ℤ) (v : ℤ) → IsSome (at None (None ∷ shown_from 0 m vs) number) → v ≡ get_or vs (number - 1) v
    → at None (None ∷ shown_from 0 m vs) number ≡ Some v
value_is m zero vs v set is = absurd (cc)
value_is m (suc p) vs v set is =
    let at_place : suc p - 1 ≡ p = omega arith in
    let read = set_value 0 m p vs set in
    read.1 ∙ ap (λ x. Some x) (at_slot vs p v read.0 (rw at_place at is))

pub zero_or_value : (m number : ℕ) (vs : List ℤ) (v : ℤ) → 1 ≤ number → number ≤ length vs
    → ((i : ℕ) → bit_at m i ≡ 0 → at (pos 0) vs i ≡ pos 0) → v ≡ get_or vs (number - 1) v → v ≡ unwrap_or (at None (None ∷ shown_from 0 m vs) number) (pos 0)
zero_or_value m zero vs v some few unset is = absurd (omega (arith, some))
zero_or_value m (suc p) vs v some few unset is =
    let at_place : suc p - 1 ≡ p = omega arith in
    let within : p < length vs = omega (arith, few) in
    sym (at_slot vs p v within (rw at_place at is))
    ∙ sym (value_or_zero 0 m p vs within (λ i none. unset i (let here : 0 + i ≡ i = omega arith in ap (bit_at m) (sym here) ∙ none)))

-- a number whose bit isn't 1 is of no parameter that is set
pub without_bit : (m number : ℕ) (vs : List ℤ) → 1 ≤ number → bit_at m (number - 1) ≢ 1 → at None (None ∷ shown_from 0 m vs) number ≡ None
without_bit m zero vs some unset = absurd (omega (arith, some))
without_bit m (suc p) vs some unset = none_at 0 p vs (λ one. unset (let here : suc p - 1 ≡ 0 + p = omega arith in ap (bit_at m) here ∙ one))
  where
    no_slot : (bit : ℕ) (v : ℤ) → bit < 2 → bit ≢ 1 → slot bit v ≡ None
    no_slot zero v few other = refl
    no_slot (suc zero) v few other = absurd (other refl)
    no_slot (suc (suc bit)) v few other = absurd (omega (arith, few))

    none_at : (k p : ℕ) (vs : List ℤ) → bit_at m (k + p) ≢ 1 → at None (shown_from k m vs) p ≡ None
    none_at k p [] unset = at-replicate None (64 - k) p
    none_at k zero (v ∷ vs) unset = no_slot (bit_at m k) v (bit_at-lt m k) (λ one. unset (let here : k + 0 ≡ k = omega arith in ap (bit_at m) here ∙ one))
    none_at k (suc p) (v ∷ vs) unset = none_at (suc k) p vs (λ one. unset (let next : k + suc p ≡ suc k + p = omega arith in ap (bit_at m) next ∙ one))

-- a number without a slot is of no parameter that is set
pub without_slot : (m number : ℕ) (vs : List ℤ) → (1 ≤ number → length vs < number) → at None (None ∷ shown_from 0 m vs) number ≡ None
without_slot m zero vs past = refl
without_slot m (suc p) vs past = none_past 0 p vs (omega (arith, past (omega arith)))
  where
    none_past : (k p : ℕ) (vs : List ℤ) → length vs ≤ p → at None (shown_from k m vs) p ≡ None
    none_past k p [] past = at-replicate None (64 - k) p
    none_past k zero (v ∷ vs) past = absurd (omega (arith, past))
    none_past k (suc p) (v ∷ vs) past = none_past (suc k) p vs (omega (arith, past))

-- a number with a slot has its value, where its bit says that it is set
pub with_slot : (m number : ℕ) (vs : List ℤ) (v : ℤ) → 1 ≤ number → number ≤ length vs → v ≡ get_or vs (number - 1) v
    → at None (None ∷ shown_from 0 m vs) number ≡ slot (bit_at m (number - 1)) v
with_slot m zero vs v some few is = absurd (omega (arith, some))
with_slot m (suc p) vs v some few is =
    let at_place : suc p - 1 ≡ p = omega arith in
    let here : 0 + p ≡ p = omega arith in
    let within : p < length vs = omega (arith, few) in
    slot_at 0 p vs within
    ∙ ap (λ x. slot (bit_at m (0 + p)) x) (at_slot vs p v within (rw at_place at is))
    ∙ ap (λ i. slot (bit_at m i) v) (here ∙ sym at_place)
  where
    slot_at : (k p : ℕ) (vs : List ℤ) → p < length vs → at None (shown_from k m vs) p ≡ slot (bit_at m (k + p)) (at (pos 0) vs p)
    slot_at k p [] below = absurd (omega (arith, below))
    slot_at k zero (v ∷ vs) below = let here : k + 0 ≡ k = omega arith in ap (λ i. slot (bit_at m i) v) (sym here)
    slot_at k (suc p) (v ∷ vs) below =
        let next : suc k + p ≡ k + suc p = omega arith in
        slot_at (suc k) p vs (omega (arith, below)) ∙ ap (λ i. slot (bit_at m i) (at (pos 0) vs p)) next

pub set-number : (m n number : ℕ) (x : ℤ) (vs : List ℤ) → 1 ≤ number → number ≤ length vs → bit_at n (number - 1) ≡ 1
    → ((i : ℕ) → i ≢ number - 1 → bit_at n i ≡ bit_at m i) → None ∷ shown_from 0 n (set vs (number - 1) x) ≡ put None (None ∷ shown_from 0 m vs) number (Some x)
set-number m n zero x vs some few one others = absurd (omega (arith, some))
set-number m n (suc p) x vs some few one others =
    let at_place : suc p - 1 ≡ p = omega arith in
    let here : 0 + p ≡ p = omega arith in
    ap (λ i. None ∷ shown_from 0 n (set vs i x)) at_place
    ∙ ap (λ xs. None ∷ xs) (put-shown 0 m n p x vs (omega (arith, few)) (ap (bit_at n) (here ∙ sym at_place) ∙ one)
    (λ i other. others i (λ is. other (is ∙ at_place ∙ sym here))))
