-- What the field of streams tells.
use Rattle.std.proofs.Common.{◌≡◌, ◌∙◌, ◌<◌, ◌≤◌, ◌+◌, ◌^◌, ℕ, suc, List, [], ◌∷◌, ◌++◌, drop, map, length, refl, sym, ap, arith, lit<, lit≤, Bool}
use Rattle.std.proofs.Common.{false, cond, ◌==◌}
use Rattle.std.specs.Prelude.{codes}
use Rattle.std.specs.List.{list_any, slice_split, onto_first, before_first, after_first, All}
use Rattle.std.specs.Fmt.{decimal}
use Rattle.std.proofs.lemmas.Bool.{or_parts, ne_eqb, true≢false}
use Rattle.std.proofs.lemmas.List.{append_assoc, append-nil, nil_from_length}
use Rattle.std.proofs.Math.Nat.{pow-le-pow_right}
use Rattle.std.proofs.lemmas.List.Elements.{All-head, All-tail}
use Rattle.gw_figures.specs.declared.run.Overdraw.{Overdraw}
use Rattle.std.specs.Prelude.{Result, Ok, Err, IfOk, Vec}
use Rattle.std.specs.Global.{Global}
use Rattle.gw_rows.specs.Reading.{IsStreamInRange, ReadsStreamField, ReadsStreams}
use Rattle.gw_rows.specs.Rows.{overdraw_text, overdraws_text}
use Rattle.gw_rows.proofs.Decimals.{onto, number_of_decimal, FailsAtDigits, each_digit, none_in_decimal, any_append, before_at, after_at}

abbrev pub is_blank : ℕ → Bool
is_blank b = b == 32

abbrev pub is_equals : ℕ → Bool
is_equals b = b == 61

abbrev pub is_slash : ℕ → Bool
is_slash b = b == 47

no_blank : FailsAtDigits is_blank
no_blank = each_digit (λ d. is_blank (48 + d) ≡ false) refl refl refl refl refl refl refl refl refl refl

no_equals : FailsAtDigits is_equals
no_equals = each_digit (λ d. is_equals (48 + d) ≡ false) refl refl refl refl refl refl refl refl refl refl

no_slash : FailsAtDigits is_slash
no_slash = each_digit (λ d. is_slash (48 + d) ≡ false) refl refl refl refl refl refl refl refl refl refl

-- what a text tells
abbrev pub stream_in : List ℕ → ℕ
stream_in text = onto 0 (drop 1 (drop 1 (before_first is_equals text)))

abbrev pub most_in : List ℕ → ℕ
most_in text = onto 0 (before_first is_slash (after_first is_equals text))

abbrev pub own_in : List ℕ → ℕ
own_in text = onto 0 (after_first is_slash (after_first is_equals text))

abbrev pub overdraw_in : List ℕ → Overdraw
overdraw_in text = record { stream = stream_in text; most = most_in text; own = own_in text }

-- the text in three parts
text_is : (o : Overdraw) → overdraw_text o ≡ (codes "RN" ++ decimal o.stream) ++ 61 ∷ (decimal o.most ++ 47 ∷ decimal o.own)
unfolding overdraw_text
text_is o =
    let front = codes "RN" ++ decimal o.stream in
    append_assoc ((front ++ 61 ∷ []) ++ decimal o.most) (47 ∷ []) (decimal o.own)
    ∙ append_assoc (front ++ 61 ∷ []) (decimal o.most) (47 ∷ decimal o.own)
    ∙ append_assoc front (61 ∷ []) (decimal o.most ++ 47 ∷ decimal o.own)

-- its numbers are short enough
wide : (n k : ℕ) → k ≤ 200 → n < 2 ^ k → n < 10 ^ 64
wide n k few h = let p : 2 ^ k ≤ 2 ^ 200 = pow-le-pow_right {n = 2} (lit< tt) few in omega arith

before_equals : (o : Overdraw) → o.stream < 10 ^ 64 → list_any is_equals (codes "RN" ++ decimal o.stream) ≡ false
before_equals o h = any_append is_equals (codes "RN") (decimal o.stream) refl (none_in_decimal is_equals no_equals o.stream h)

pub made_of : (a b c : ℕ) (o : Overdraw) → a ≡ o.stream → b ≡ o.most → c ≡ o.own → record { stream = a; most = b; own = c } ≡ o
made_of a b c o one two three =
    let make = λ (x y z : ℕ). let it : Overdraw = record { stream = x; most = y; own = z } in it in
    ap (λ x. make x b c) one ∙ ap (λ y. make o.stream y c) two ∙ ap (λ z. make o.stream o.most z) three

-- the digits of the three numbers
pub stream_digits : (o : Overdraw) → IsStreamInRange o → drop 1 (drop 1 (before_first is_equals (overdraw_text o))) ≡ decimal o.stream
stream_digits o h =
    let front = codes "RN" ++ decimal o.stream in
    let rest = decimal o.most ++ 47 ∷ decimal o.own in
    ap (λ ls. drop 1 (drop 1 (before_first is_equals ls))) (text_is o)
    ∙ ap (λ ls. drop 1 (drop 1 ls)) (before_at is_equals front 61 rest (before_equals o (wide o.stream 8 (lit≤ tt) h.stream)) refl)

behind_equals : (o : Overdraw) → IsStreamInRange o → after_first is_equals (overdraw_text o) ≡ decimal o.most ++ 47 ∷ decimal o.own
behind_equals o h =
    let front = codes "RN" ++ decimal o.stream in
    let rest = decimal o.most ++ 47 ∷ decimal o.own in
    ap (after_first is_equals) (text_is o) ∙ after_at is_equals front 61 rest (before_equals o (wide o.stream 8 (lit≤ tt) h.stream)) refl

no_slash_in : (o : Overdraw) → IsStreamInRange o → list_any is_slash (decimal o.most) ≡ false
no_slash_in o h = none_in_decimal is_slash no_slash o.most (wide o.most 128 (lit≤ tt) h.most)

pub most_digits : (o : Overdraw) → IsStreamInRange o → before_first is_slash (after_first is_equals (overdraw_text o)) ≡ decimal o.most
most_digits o h = ap (before_first is_slash) (behind_equals o h) ∙ before_at is_slash (decimal o.most) 47 (decimal o.own) (no_slash_in o h) refl

pub own_digits : (o : Overdraw) → IsStreamInRange o → after_first is_slash (after_first is_equals (overdraw_text o)) ≡ decimal o.own
own_digits o h = ap (after_first is_slash) (behind_equals o h) ∙ after_at is_slash (decimal o.most) 47 (decimal o.own) (no_slash_in o h) refl

pub overdraw_of_text : (o : Overdraw) → IsStreamInRange o → overdraw_in (overdraw_text o) ≡ o
overdraw_of_text o h =
    let text = overdraw_text o in
    made_of (stream_in text) (most_in text) (own_in text) o
    (ap (onto 0) (stream_digits o h) ∙ number_of_decimal o.stream (wide o.stream 8 (lit≤ tt) h.stream))
    (ap (onto 0) (most_digits o h) ∙ number_of_decimal o.most (wide o.most 128 (lit≤ tt) h.most))
    (ap (onto 0) (own_digits o h) ∙ number_of_decimal o.own (wide o.own 64 (lit≤ tt) h.own))

no_blank_in : (o : Overdraw) → IsStreamInRange o → list_any is_blank (overdraw_text o) ≡ false
no_blank_in o h =
    let stream = none_in_decimal is_blank no_blank o.stream (wide o.stream 8 (lit≤ tt) h.stream) in
    let most = none_in_decimal is_blank no_blank o.most (wide o.most 128 (lit≤ tt) h.most) in
    let own = none_in_decimal is_blank no_blank o.own (wide o.own 64 (lit≤ tt) h.own) in
    ap (list_any is_blank) (text_is o)
    ∙ any_append is_blank (codes "RN" ++ decimal o.stream) (61 ∷ (decimal o.most ++ 47 ∷ decimal o.own))
    (any_append is_blank (codes "RN") (decimal o.stream) refl stream) (any_append is_blank (decimal o.most) (47 ∷ decimal o.own) most own)

-- the streams that a field tells
abbrev pub overdraws_in : List ℕ → List Overdraw
overdraws_in [] = []
overdraws_in (b ∷ bs) = map overdraw_in (slice_split is_blank (b ∷ bs))

split_front : (x : List ℕ) (text : List ℕ) → list_any is_blank x ≡ false → slice_split is_blank (x ++ 32 ∷ text) ≡ x ∷ slice_split is_blank text
split_front [] text none = refl
split_front (b ∷ x) text none =
    let parts = or_parts (is_blank b) (list_any is_blank x) none in rw parts.0 (ap (onto_first b) (split_front x text parts.1))

split_last : (x : List ℕ) → list_any is_blank x ≡ false → slice_split is_blank x ≡ x ∷ []
split_last [] none = refl
split_last (b ∷ x) none =
    let parts = or_parts (is_blank b) (list_any is_blank x) none in rw parts.0 (ap (onto_first b) (split_last x parts.1))

-- those of several that follow one
pub split_texts : (o : Overdraw) (rest : List Overdraw) (place : ℕ) → IsStreamInRange o → All IsStreamInRange rest
    → slice_split is_blank (overdraw_text o ++ overdraws_text (suc place) rest) ≡ overdraw_text o ∷ map overdraw_text rest
unfolding overdraws_text
split_texts o [] place h more = ap (slice_split is_blank) (append-nil (overdraw_text o)) ∙ split_last (overdraw_text o) (no_blank_in o h)
split_texts o (p ∷ rest) place h more =
    let next : suc place + 1 ≡ suc (suc place) = omega arith in
    let one = All-head IsStreamInRange p rest more in
    let others = All-tail IsStreamInRange p rest more in
    let more_text = overdraws_text (suc place + 1) rest in
    ap (λ b. slice_split is_blank (overdraw_text o ++ ((cond b [] (codes " ") ++ overdraw_text p) ++ more_text))) (ne_eqb (suc place) 0 (λ z. omega (arith, z)))
    ∙ ap (λ n. slice_split is_blank (overdraw_text o ++ 32 ∷ (overdraw_text p ++ overdraws_text n rest))) next
    ∙ split_front (overdraw_text o) (overdraw_text p ++ overdraws_text (suc (suc place)) rest) (no_blank_in o h)
    ∙ ap (λ ls. overdraw_text o ∷ ls) (split_texts p rest (suc place) one others)

texts_tell : (os : List Overdraw) → All IsStreamInRange os → map overdraw_in (map overdraw_text os) ≡ os
texts_tell [] h = refl
texts_tell (o ∷ os) h =
    ap (λ p. p ∷ map overdraw_in (map overdraw_text os)) (overdraw_of_text o (All-head IsStreamInRange o os h))
    ∙ ap (λ ps. o ∷ ps) (texts_tell os (All-tail IsStreamInRange o os h))

not_empty : (o : Overdraw) (rest : List ℕ) → overdraws_in (overdraw_text o ++ rest) ≡ map overdraw_in (slice_split is_blank (overdraw_text o ++ rest))
unfolding overdraw_text
not_empty o rest = refl

pub overdraws_of_text : (os : List Overdraw) → All IsStreamInRange os → overdraws_in (overdraws_text 0 os) ≡ os
unfolding overdraws_text
overdraws_of_text [] h = refl
overdraws_of_text (o ∷ os) h = not_empty o (overdraws_text 1 os)
    ∙ ap (map overdraw_in) (split_texts o os 0 (All-head IsStreamInRange o os h) (All-tail IsStreamInRange o os h)) ∙ texts_tell (o ∷ os) h

-- no stream is told by no text
pub none_in_empty : (field : List ℕ) (os : List Overdraw) → length field ≡ 0 → field ≡ overdraws_text 0 os → [] ≡ os
unfolding overdraws_text overdraw_text
none_in_empty field [] empty is = refl
none_in_empty field (o ∷ os) empty is = absurd (cc (sym (nil_from_length field empty) ∙ is))

-- the texts between the blanks of a field
pub texts_in : (os : List Overdraw) → All IsStreamInRange os → 0 < length os → slice_split is_blank (overdraws_text 0 os) ≡ map overdraw_text os
unfolding overdraws_text
texts_in [] each some = absurd (omega arith)
texts_in (o ∷ os) each some = split_texts o os 0 (All-head IsStreamInRange o os each) (All-tail IsStreamInRange o os each)

pub texts_in_field : (field : List ℕ) (os : List Overdraw) → All IsStreamInRange os → (length field == 0) ≡ false → field ≡ overdraws_text 0 os
    → slice_split is_blank field ≡ map overdraw_text os
unfolding overdraws_text
texts_in_field field [] each some is = absurd (true≢false (sym (ap (λ (ls : List ℕ). length ls == 0) is) ∙ some))
texts_in_field field (o ∷ os) each some is = ap (slice_split is_blank) is ∙ texts_in (o ∷ os) each (omega arith)

-- the streams of a field are those of its texts
pub of_texts : {E : Type 0} (r : Result (Vec Overdraw Global) E) (texts : List (List ℕ)) (field : List ℕ) → (length field == 0) ≡ false
    → texts ≡ slice_split is_blank field → IfOk r (λ told. ReadsStreams texts told.items) → IfOk r (λ told. ReadsStreamField field told.items)
of_texts (Ok told) texts field some split reads = λ os each is. reads os each (split ∙ texts_in_field field os each some is)
of_texts (Err e) texts field some split reads = tt
