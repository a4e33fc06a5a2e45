-- How texts begin and end, letter by letter.
use Rattle.std.proofs.Common.{◌≡◌, ◌∙◌, ◌-◌, ◌==◌, ◌&&◌, ℕ, List, [], ◌∷◌, ◌++◌, length, take, drop, reverse, Bool, true, false, refl, sym, ap, arith}
use Rattle.std.specs.Prelude.{codes}
use Rattle.std.proofs.lemmas.Bool.{and_from, and_parts, eq-eqb, eqb-true, le-leb, true≢false}
use Rattle.std.proofs.lemmas.List.{drop_at, length-append, reverse-append, reverse-reverse, take-append-drop, take_at}
use Rattle.std.proofs.lemmas.Slice.Eq.{bytes_eq-Decides}
use Rattle.gw_rows.specs.Names.{begins, ends}

-- letters are the first of a text
abbrev pub is_front : List ℕ → List ℕ → Bool
is_front [] text = true
is_front (x ∷ front) [] = false
is_front (x ∷ front) (y ∷ text) = (x == y) && is_front front text

-- what is behind them
behind : (front text : List ℕ) → is_front front text ≡ true → (rest : List ℕ) × (text ≡ front ++ rest)
behind [] text is = (text, refl)
behind (x ∷ front) [] is = absurd (true≢false (sym is))
behind (x ∷ front) (y ∷ text) is =
    let parts = and_parts (x == y) (is_front front text) is in
    let more = behind front text parts.1 in
    (more.0, ap (λ c. c ∷ text) (sym (eqb-true x y parts.0)) ∙ ap (λ ls. x ∷ ls) more.1)

in_front : (front rest : List ℕ) → is_front front (front ++ rest) ≡ true
in_front [] rest = refl
in_front (x ∷ front) rest = and_from (x == x) (is_front front (front ++ rest)) (eq-eqb x x refl) (in_front front rest)

same_test : (a b : Bool) → (a ≡ true → b ≡ true) → (b ≡ true → a ≡ true) → a ≡ b
same_test true b there back = sym (there refl)
same_test false true there back = back refl
same_test false false there back = refl

begins_at : (front rest text : List ℕ) → text ≡ front ++ rest → begins front text ≡ true
begins_at front rest text is =
    ap (begins front) is
    ∙ and_from _ _ (le-leb (length front) (length (front ++ rest)) (omega (arith, length-append front rest)))
    ((bytes_eq-Decides (take (length front) (front ++ rest)) front).1 (take_at front rest (length front) (omega arith)))

-- a text begins so where these are its first letters
pub begins_is : (front text : List ℕ) → begins front text ≡ is_front front text
begins_is front text = same_test (begins front text) (is_front front text) (λ is.
    let n = length front in
    let parts = and_parts _ _ is in
    let same = (bytes_eq-Decides (take n text) front).0 parts.1 in
    let whole : text ≡ front ++ drop n text = sym (take-append-drop n text) ∙ ap (λ ls. ls ++ drop n text) same in
    ap (is_front front) whole ∙ in_front front (drop n text))
    (λ is. let rest = behind front text is in begins_at front rest.0 text rest.1)

ends_at : (front end text : List ℕ) → text ≡ front ++ end → ends end text ≡ true
ends_at front end text is =
    let n = length (front ++ end) - length end in
    let many = length-append front end in
    ap (ends end) is
    ∙ and_from _ _ (le-leb (length end) (length (front ++ end)) (omega (arith, many)))
    ((bytes_eq-Decides (drop n (front ++ end)) end).1 (drop_at front end n (omega (arith, many))))

-- and ends so where they are its last ones
pub ends_is : (end text : List ℕ) → ends end text ≡ is_front (reverse end) (reverse text)
ends_is end text = same_test (ends end text) (is_front (reverse end) (reverse text)) (λ is.
    let n = length text - length end in
    let parts = and_parts _ _ is in
    let same = (bytes_eq-Decides (drop n text) end).0 parts.1 in
    let whole : text ≡ take n text ++ end = sym (take-append-drop n text) ∙ ap (λ ls. take n text ++ ls) same in
    ap (λ ls. is_front (reverse end) (reverse ls)) whole ∙ ap (is_front (reverse end)) (reverse-append (take n text) end)
    ∙ in_front (reverse end) (reverse (take n text)))
    (λ is.
    let rest = behind (reverse end) (reverse text) is in
    let back : text ≡ reverse rest.0 ++ end = sym (reverse-reverse text) ∙ ap reverse rest.1 ∙ reverse-append (reverse end) rest.0
    ∙ ap (λ ls. reverse rest.0 ++ ls) (reverse-reverse end) in
    ends_at (reverse rest.0) end text back)

-- the letters of a text from the last on, where a blank and a word end it
pub from_last : (front word text : List ℕ) → text ≡ (front ++ codes " ") ++ word → reverse text ≡ reverse word ++ 32 ∷ reverse front
from_last front word text is =
    ap reverse is ∙ reverse-append (front ++ codes " ") word ∙ ap (λ ls. reverse word ++ ls) (reverse-append front (codes " "))
