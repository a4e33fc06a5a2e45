-- What grows by one at a time.
use Rattle.std.proofs.Common.{◌≡◌, ◌+◌, ◌++◌, ℕ, drop, suc, max, List, [], arith, refl, sym, ap, ◌∙◌, append_assoc, append-nil}
use Rattle.gw_drawing.specs.Numbers.{greatest, total}
use Rattle.gw_drawing.specs.Text.{upto}

pub upto_more : (f : ℕ → List ℕ) (i : ℕ) → upto f (i + 1) ≡ upto f i ++ f i
unfolding upto
upto_more f i = let e : i + 1 ≡ suc i = omega arith in ap (upto f) e

-- a text has so many of them behind what was there
abbrev pub HasUpto : (ℕ → List ℕ) → ℕ → List ℕ → List ℕ → Type 0
HasUpto f i old new = new ≡ old ++ upto f i

-- a text, and what is written of those that are left, are what was there and what is written of all
abbrev pub Lacks : (List ℕ → List ℕ) → List ℕ → ℕ → List ℕ → List ℕ → Type 0
Lacks f xs i old new = new ++ f (drop i xs) ≡ old ++ f xs

-- a text that has the first of them, and the next
pub grown : (f : ℕ → List ℕ) (i : ℕ) (start old new : List ℕ) → old ≡ start ++ upto f i → new ≡ old ++ f i → new ≡ start ++ upto f (i + 1)
grown f i start old new h e =
    e ∙ ap (λ (xs : List ℕ). xs ++ f i) h ∙ append_assoc start (upto f i) (f i) ∙ ap (λ (xs : List ℕ). start ++ xs) (sym (upto_more f i))

pub begun : (f : ℕ → List ℕ) (start : List ℕ) → start ≡ start ++ upto f 0
unfolding upto
begun f start = sym (append-nil start)

pub greatest_more : (f : ℕ → ℕ) (i : ℕ) → greatest f (i + 1) ≡ max (greatest f i) (f i)
unfolding greatest
greatest_more f i = let e : i + 1 ≡ suc i = omega arith in ap (greatest f) e

pub greatest_none : (f : ℕ → ℕ) → greatest f 0 ≡ 1
unfolding greatest
greatest_none f = refl

pub total_more : (f : ℕ → ℕ) (i : ℕ) → total f (i + 1) ≡ total f i + f i
unfolding total
total_more f i = let e : i + 1 ≡ suc i = omega arith in ap (total f) e

pub total_none : (f : ℕ → ℕ) → total f 0 ≡ 0
unfolding total
total_none f = refl

-- texts written one after the other are what was there and all of them
pub chain3 : (o p q a b c : List ℕ) → p ≡ o ++ a → q ≡ p ++ b → q ++ c ≡ o ++ (a ++ b ++ c)
chain3 o p q a b c h k = rw (k, h) (simp append_assoc)

pub chain5 : (o p q r s a b c d e : List ℕ) → p ≡ o ++ a → q ≡ p ++ b → r ≡ q ++ c → s ≡ r ++ d → s ++ e ≡ o ++ (a ++ b ++ c ++ d ++ e)
chain5 o p q r s a b c d e h k l m = rw (m, l, k, h) (simp append_assoc)

pub chain7 : (o p q r s t u a b c d e f g : List ℕ) → p ≡ o ++ a → q ≡ p ++ b → r ≡ q ++ c → s ≡ r ++ d → t ≡ s ++ e → u ≡ t ++ f
    → u ++ g ≡ o ++ (a ++ b ++ c ++ d ++ e ++ f ++ g)
chain7 o p q r s t u a b c d e f g h k l m n x = rw (x, n, m, l, k, h) (simp append_assoc)

pub chain2 : (o p a b : List ℕ) → p ≡ o ++ a → p ++ b ≡ o ++ (a ++ b)
chain2 o p a b h = rw h (append_assoc o a b)

pub chain6 : (o p q r s t a b c d e f : List ℕ) → p ≡ o ++ a → q ≡ p ++ b → r ≡ q ++ c → s ≡ r ++ d → t ≡ s ++ e
    → t ++ f ≡ o ++ (a ++ b ++ c ++ d ++ e ++ f)
chain6 o p q r s t a b c d e f h k l m n = rw (n, m, l, k, h) (simp append_assoc)
