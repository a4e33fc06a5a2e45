-- Words with bits set, and what words have in common, bit by bit.
use Rattle.std.proofs.Common.{◌≡◌, ◌≢◌, ℕ, zero, suc, ◌<◌, ◌^◌, ◌-◌, ◌*◌, ◌%◌, List, [], ◌∷◌, length, get_or, set, replicate, min, Bool, true, false}
use Rattle.std.proofs.Common.{◌==◌, ◌&&◌, ◌||◌, refl, sym, ap, ap₂, subst, ◌∙◌}
use Rattle.std.proofs.Common.{⊎_elim}
use Rattle.std.proofs.lemmas.Bool.{cases_eq, eq-eqb, ne_eqb}
use Rattle.std.specs.Prelude.{All}
use Rattle.std.specs.Int.{bit_at, w64}
use Rattle.std.specs.Int.Bits.{bit_and, bit_or}
use Rattle.std.specs.List.{fold, list_all}
use Rattle.std.proofs.lemmas.List.{get_or-set_same, get_or-set_other, length-set}
use Rattle.std.proofs.lemmas.List.Elements.{All-head, All-tail}
use Rattle.std.proofs.lemmas.Nat.Bits.{bit_at-zero, bit_at_and, bit_at_ones, bit_at_set_same, bit_at_set_other}
use Rattle.std.proofs.Math.Bool.{or-true}
use Rattle.gw_object.specs.Returns.{lists}
use Rattle.gw_returns.specs.Words.{bit_of, word_at, with_bit, with_bits, common}

-- ONE BIT

-- a bit that is set stays out of the other places
pub other_place : (place : ℕ) (words : List ℕ) (c b i : ℕ) → place < 64 → c < length words → i ≢ place
    → bit_at (word_at (with_bit place words c) b) i ≡ bit_at (word_at words b) i
other_place place words c b i small within apart =
    ⊎_elim
    (λ (same : b ≡ c). rw same
    (ap (λ w. bit_at w i) (get_or-set_same words c (bit_or (word_at words c) (1 * 2 ^ place % 2 ^ 64)) 0 within)
    ∙ bit_at_set_other w64 (word_at words c) place small i apart))
    (λ (ne : b ≢ c). ap (λ w. bit_at w i) (get_or-set_other words c b (bit_or (word_at words c) (1 * 2 ^ place % 2 ^ 64)) 0 ne))
    (cases_eq b c)

-- in its own place it tells of one more block
pub same_place : (place : ℕ) (words : List ℕ) (c b : ℕ) (had : Bool) → place < 64 → c < length words → bit_at (word_at words b) place
    ≡ bit_of had → bit_at (word_at (with_bit place words c) b) place ≡ bit_of ((c == b) || had)
same_place place words c b had small within before =
    ⊎_elim
    (λ (same : c ≡ b). rw (eq-eqb c b same) (subst (λ x. bit_at (word_at (with_bit place words c) x) place ≡ 1) same
    (ap (λ w. bit_at w place) (get_or-set_same words c (bit_or (word_at words c) (1 * 2 ^ place % 2 ^ 64)) 0 within)
    ∙ bit_at_set_same w64 (word_at words c) place small)))
    (λ (ne : c ≢ b). rw (ne_eqb c b ne)
    (ap (λ w. bit_at w place) (get_or-set_other words c b (bit_or (word_at words c) (1 * 2 ^ place % 2 ^ 64)) 0 (λ e. ne (sym e))) ∙ before))
    (cases_eq c b)

-- BITS OF BLOCKS

below_set : (words : List ℕ) (c n : ℕ) (bs : List ℕ) → All (λ b. b < length words) bs → All (λ b. b < length (set words c n)) bs
below_set words c n bs h = rw (length-set words c n) h

pub other_places : (place : ℕ) (bs words : List ℕ) (b i : ℕ) → place < 64 → All (λ c. c < length words) bs → i ≢ place
    → bit_at (word_at (with_bits place words bs) b) i ≡ bit_at (word_at words b) i
other_places place [] words b i small within apart = refl
other_places place (c ∷ cs) words b i small within apart =
    other_places place cs (with_bit place words c) b i small
    (below_set words c (bit_or (word_at words c) (1 * 2 ^ place % 2 ^ 64)) cs (All-tail (λ x. x < length words) c cs within)) apart
    ∙ other_place place words c b i small (All-head (λ x. x < length words) c cs within) apart

or_swap : (x y z : Bool) → (y || (x || z)) ≡ ((x || y) || z)
or_swap true y z = or-true y
or_swap false y z = refl

pub same_places : (place : ℕ) (bs words : List ℕ) (b : ℕ) (had : Bool) → place < 64 → All (λ c. c < length words) bs
    → bit_at (word_at words b) place ≡ bit_of had → bit_at (word_at (with_bits place words bs) b) place ≡ bit_of (lists bs b || had)
same_places place [] words b had small within before = before
same_places place (c ∷ cs) words b had small within before =
    same_places place cs (with_bit place words c) b ((c == b) || had) small
    (below_set words c (bit_or (word_at words c) (1 * 2 ^ place % 2 ^ 64)) cs (All-tail (λ x. x < length words) c cs within))
    (same_place place words c b had small (All-head (λ x. x < length words) c cs within) before)
    ∙ ap bit_of (or_swap (c == b) (lists cs b) had)

pub length_with : (place : ℕ) (bs words : List ℕ) → length (with_bits place words bs) ≡ length words
length_with place [] words = refl
length_with place (c ∷ cs) words = length_with place cs (with_bit place words c) ∙ length-set words c (bit_or (word_at words c) (1 * 2 ^ place % 2 ^ 64))

-- no bit is set in words of 0
pub no_bit : (n b i : ℕ) → bit_at (word_at (replicate n zero) b) i ≡ zero
no_bit n b i = ap (λ w. bit_at w i) (zeros n b) ∙ bit_at-zero i
  where
    zeros : (n b : ℕ) → get_or (replicate n zero) b zero ≡ zero
    zeros zero b = refl
    zeros (suc n) zero = refl
    zeros (suc n) (suc b) = zeros n b

-- IN COMMON

min_of : (x y : Bool) → min (bit_of x) (bit_of y) ≡ bit_of (x && y)
min_of true true = refl
min_of true false = refl
min_of false true = refl
min_of false false = refl

and_swap : (x y z : Bool) → ((x && y) && z) ≡ (x && (y && z))
and_swap true y z = refl
and_swap false y z = refl

module _ (words : List ℕ) (i : ℕ) (told : ℕ → Bool) (tell : (b : ℕ) → bit_at (word_at words b) i ≡ bit_of (told b)) where
  common_from : (all : ℕ) (had : Bool) (bs : List ℕ) → bit_at all i ≡ bit_of had
      → bit_at (fold (λ a b. bit_and a (word_at words b)) all bs) i ≡ bit_of (had && list_all told bs)
  common_from all had [] before = before ∙ ap bit_of (and_end had)
    where
      and_end : (x : Bool) → x ≡ (x && true)
      and_end true = refl
      and_end false = refl
  common_from all had (b ∷ bs) before =
      common_from (bit_and all (word_at words b)) (had && told b) bs (bit_at_and all (word_at words b) i ∙ ap₂ min before (tell b) ∙ min_of had (told b))
      ∙ ap bit_of (and_swap had (told b) (list_all told bs))

  -- a place is set in common where it is in each word
  pub in_common : (bs : List ℕ) → i < 64 → bit_at (common words bs) i ≡ bit_of (list_all told bs)
  in_common bs small = common_from (2 ^ 64 - 1) true bs (bit_at_ones 64 i small)
