-- Bytes are lines with their line feeds in one way only.
use Rattle.std.proofs.Common.{◌≡◌, ◌∙◌, ◌++◌, ◌≤◌, ℕ, List, [], ◌∷◌, length, refl, sym, ap, arith}
use Rattle.std.specs.Prelude.{◌≢◌}
use Rattle.std.specs.List.{All, flat_map}
use Rattle.std.proofs.lemmas.List.{append_assoc, append-nil}
use Rattle.std.proofs.lemmas.List.Elements.{All-head, All-tail}
use Rattle.gw_rows.specs.Reading.{IsWithoutFeed}
use Rattle.gw_summary.specs.Keeping.{AreLines}

-- lines, each with its line feed
abbrev pub bytes_of : List (List ℕ) → List ℕ
bytes_of lines = flat_map (λ l. l ++ 10 ∷ []) lines

-- what has no line feed ends before the first one
pub within_line : (x y a b : List ℕ) → IsWithoutFeed x → x ++ a ≡ y ++ 10 ∷ b → length x ≤ length y
within_line [] y a b none is = omega arith
within_line (c ∷ x) [] a b none is =
    let first : c ≡ 10 = cc in
    absurd (All-head (λ n. n ≢ 10) c x none first)
within_line (c ∷ x) (d ∷ y) a b none is =
    let rest : x ++ a ≡ y ++ 10 ∷ b = cc in
    let less = within_line x y a b (All-tail (λ n. n ≢ 10) c x none) rest in
    omega arith

-- a line ends at the first line feed
pub same_line : (x y a b : List ℕ) → IsWithoutFeed x → IsWithoutFeed y → x ++ 10 ∷ a ≡ y ++ 10 ∷ b → (x ≡ y) × (a ≡ b)
same_line [] [] a b none none' is = (refl, cc)
same_line [] (d ∷ y) a b none none' is =
    let first : d ≡ 10 = cc in
    absurd (All-head (λ n. n ≢ 10) d y none' first)
same_line (c ∷ x) [] a b none none' is =
    let first : c ≡ 10 = cc in
    absurd (All-head (λ n. n ≢ 10) c x none first)
same_line (c ∷ x) (d ∷ y) a b none none' is =
    let first : c ≡ d = cc in
    let rest : x ++ 10 ∷ a ≡ y ++ 10 ∷ b = cc in
    let same = same_line x y a b (All-tail (λ n. n ≢ 10) c x none) (All-tail (λ n. n ≢ 10) d y none') rest in
    (ap (λ n. n ∷ x) first ∙ ap (λ ns. d ∷ ns) same.0, same.1)

pub some_bytes : (x a : List ℕ) → (x ++ 10 ∷ a) ≢ []
some_bytes [] a is = absurd cc
some_bytes (c ∷ x) a is = absurd cc

pub line_first : (x : List ℕ) (xs : List (List ℕ)) (rest : List ℕ) → bytes_of (x ∷ xs) ++ rest ≡ x ++ 10 ∷ (bytes_of xs ++ rest)
line_first x xs rest = append_assoc (x ++ 10 ∷ []) (bytes_of xs) rest ∙ append_assoc x (10 ∷ []) (bytes_of xs ++ rest)

-- all lines are these and others, and a rest is the bytes of the others
pub record HasOthers (lines all : List (List ℕ)) (rest : List ℕ) : Type 0 where
  pub others : List (List ℕ)
  pub all_are : all ≡ lines ++ others
  pub rest_is : rest ≡ bytes_of others

-- where lines and a rest are lines, these go on the first ones
pub others_of : (xs ys : List (List ℕ)) (rest : List ℕ) → All IsWithoutFeed xs → All IsWithoutFeed ys → bytes_of xs ++ rest ≡ bytes_of ys → HasOthers xs ys rest
others_of [] ys rest each each' is = record { others = ys; all_are = refl; rest_is = is }
others_of (x ∷ xs) [] rest each each' is = absurd (some_bytes x (bytes_of xs ++ rest) (sym (line_first x xs rest) ∙ is))
others_of (x ∷ xs) (y ∷ ys) rest each each' is =
    let one = same_line x y (bytes_of xs ++ rest) (bytes_of ys) (All-head IsWithoutFeed x xs each) (All-head IsWithoutFeed y ys each')
    (sym (line_first x xs rest) ∙ is ∙ append_assoc y (10 ∷ []) (bytes_of ys)) in
    let more = others_of xs ys rest (All-tail IsWithoutFeed x xs each) (All-tail IsWithoutFeed y ys each') one.1 in
    record {
      others = more.others;
      all_are = ap (λ l. l ∷ ys) (sym one.0) ∙ ap (λ ls. x ∷ ls) more.all_are;
      rest_is = more.rest_is;
    }

-- where what has no line feed goes on others and is all lines, there are no more of these
pub none_more : (others : List (List ℕ)) (rest : List ℕ) → IsWithoutFeed rest → rest ≡ bytes_of others → others ≡ []
none_more [] rest none is = refl
none_more (x ∷ xs) rest none is = absurd (has_feed x (bytes_of xs) rest none (is ∙ append_assoc x (10 ∷ []) (bytes_of xs)))
  where
    has_feed : (x a rest : List ℕ) → IsWithoutFeed rest → rest ≢ (x ++ 10 ∷ a)
    has_feed [] a [] none is = absurd cc
    has_feed (c ∷ x) a [] none is = absurd cc
    has_feed [] a (d ∷ rest) none is =
        let first : d ≡ 10 = cc in
        All-head (λ n. n ≢ 10) d rest none first
    has_feed (c ∷ x) a (d ∷ rest) none is =
        let more : rest ≡ x ++ 10 ∷ a = cc in
        has_feed x a rest (All-tail (λ n. n ≢ 10) d rest none) more

-- bytes that are lines and a rest, and lines alone, are the same lines, and there is no rest
pub all_lines : (bytes rest : List ℕ) (lines all : List (List ℕ)) → AreLines bytes lines rest → AreLines bytes all [] → (all ≡ lines) × (rest ≡ [])
all_lines bytes rest lines all split split' =
    let same : bytes_of lines ++ rest ≡ bytes_of all = sym split.whole ∙ split'.whole ∙ append-nil (bytes_of all) in
    let more = others_of lines all rest split.each split'.each same in
    let none = none_more more.others rest split.last more.rest_is in
    (more.all_are ∙ ap (λ ls. lines ++ ls) none ∙ append-nil lines, more.rest_is ∙ ap bytes_of none)
