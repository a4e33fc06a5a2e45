-- The line before rows.
use Rattle.std.proofs.Common.{◌≡◌, ◌∙◌, ◌<◌, ◌≤◌, ◌+◌, ◌++◌, ℕ, List, [], ◌∷◌, length, get_or, map, drop, Bool, true, false, cond, refl, sym, ap, arith}
use Rattle.std.specs.Prelude.{codes}
use Rattle.std.specs.Borrow.{Bor}
use Rattle.std.specs.List.{All, slice_split}
use Rattle.std.proofs.lemmas.Bool.{and_from, le-leb}
use Rattle.std.proofs.lemmas.List.{append_assoc, append-nil, drop_more, drop_all, get_or-map, length-map, map_push, same_from_push}
use Rattle.std.proofs.lemmas.List.Elements.{All-cons, All-head, All-tail}
use Rattle.gw_figures.specs.Labels.{Label, label_of, labels as labels_of}
use Rattle.gw_figures.specs.declared.figure.Figure.{Figure}
use Rattle.gw_rows.specs.Names.{begins, has_trend, header, label_of_name, labels_named, names, trend_front, trend_name, trend_names}
use Rattle.gw_rows.specs.Reading.{IsByName, IsLine, IsPlain}
use Rattle.gw_rows.proofs.Parting.{ArePlain, behind_commas, is_comma, parts_are_fields, plain_row}
use Rattle.gw_rows.proofs.PlainFields.{plain_append, plain_both}
use Rattle.gw_rows.proofs.Telling.{Begin, changes_begin}

-- FIGURES OF NAMES

pub named_are_by_name : (names : List (List ℕ)) → All IsByName (labels_named names)
unfolding labels_named
named_are_by_name [] = λ k d h. absurd (omega (arith, h))
named_are_by_name (name ∷ names) = by_test (begins trend_front name) refl (named_are_by_name names)
  where
    by_test : (b : Bool) → begins trend_front name ≡ b → All IsByName (labels_named names)
        → All IsByName (cond b [] (label_of_name name ∷ labels_named names))
    by_test true is rest = λ k d h. absurd (omega (arith, h))
    by_test false is rest = All-cons IsByName (label_of_name name) (labels_named names) (record { label_is = refl; no_change = is }) rest

-- the figures of the names of figures are these, where names of changes follow
pub named_again : (ls : List Label) (us : List (List ℕ)) → All IsByName ls → Begin true us → labels_named (map (λ l. l.name) ls ++ us) ≡ ls
unfolding labels_named
named_again [] [] h k = refl
named_again [] (u ∷ us) h k = ap (λ b. cond b [] (label_of_name u ∷ labels_named us)) k.0
named_again (l ∷ ls) us h k =
    let one = All-head IsByName l ls h in
    ap (λ b. cond b [] (label_of_name l.name ∷ labels_named (map (λ x. x.name) ls ++ us))) one.no_change
    ∙ ap (λ x. x ∷ labels_named (map (λ x. x.name) ls ++ us)) (sym one.label_is)
    ∙ ap (λ xs. l ∷ xs) (named_again ls us (All-tail IsByName l ls h) k)

-- one name more
left_at : (xs : List (Bor (List ℕ))) (i : ℕ) (d : Bor (List ℕ)) → i < length xs
    → drop i (map (λ n. n.now) xs) ≡ (get_or xs i d).now ∷ drop (i + 1) (map (λ n. n.now) xs)
left_at xs i d h =
    let many : i < length (map (λ n. n.now) xs) = omega (arith, length-map xs (λ n. n.now)) in
    drop_more (map (λ n. n.now) xs) i [] many ∙ ap (λ l. l ∷ drop (i + 1) (map (λ n. n.now) xs)) (get_or-map (λ n. n.now) xs i d [] h)

pub at_change : (figures : List Label) (xs : List (Bor (List ℕ))) (i : ℕ) (d : Bor (List ℕ)) → i < length xs → begins trend_front (get_or xs i d).now ≡ true
    → figures ++ labels_named (drop i (map (λ n. n.now) xs)) ≡ labels_named (map (λ n. n.now) xs)
    → figures ≡ labels_named (map (λ n. n.now) xs)
unfolding labels_named
at_change figures xs i d h is so_far =
    let rest = drop (i + 1) (map (λ n. n.now) xs) in
    let left = left_at xs i d h in
    sym (append-nil figures) ∙ sym (ap (λ b. figures ++ cond b [] (label_of_name (get_or xs i d).now ∷ labels_named rest)) is)
    ∙ sym (ap (λ ls. figures ++ labels_named ls) left) ∙ so_far

pub at_figure : (figures : List Label) (xs : List (Bor (List ℕ))) (i : ℕ) (d : Bor (List ℕ)) (label : Label) → i < length xs
    → begins trend_front (get_or xs i d).now ≡ false → label ≡ label_of_name (get_or xs i d).now
    → figures ++ labels_named (drop i (map (λ n. n.now) xs)) ≡ labels_named (map (λ n. n.now) xs)
    → (figures ++ label ∷ []) ++ labels_named (drop (i + 1) (map (λ n. n.now) xs)) ≡ labels_named (map (λ n. n.now) xs)
unfolding labels_named
at_figure figures xs i d label h is by_name so_far =
    let rest = drop (i + 1) (map (λ n. n.now) xs) in
    let left = left_at xs i d h in
    append_assoc figures (label ∷ []) (labels_named rest) ∙ ap (λ l. figures ++ l ∷ labels_named rest) by_name
    ∙ sym (ap (λ b. figures ++ cond b [] (label_of_name (get_or xs i d).now ∷ labels_named rest)) is)
    ∙ sym (ap (λ ls. figures ++ labels_named ls) left) ∙ so_far

-- and one figure more
pub at_pushed : (old new : List Figure) (figure : Figure) (xs : List (Bor (List ℕ))) (i : ℕ) (d : Bor (List ℕ)) → i < length xs
    → begins trend_front (get_or xs i d).now ≡ false → label_of figure ≡ label_of_name (get_or xs i d).now → new ≡ old ++ figure ∷ []
    → labels_of old ++ labels_named (drop i (map (λ n. n.now) xs)) ≡ labels_named (map (λ n. n.now) xs)
    → labels_of new ++ labels_named (drop (i + 1) (map (λ n. n.now) xs)) ≡ labels_named (map (λ n. n.now) xs)
at_pushed old new figure xs i d h is by_name pushed so_far =
    ap (λ ls. ls ++ labels_named (drop (i + 1) (map (λ n. n.now) xs))) (ap labels_of pushed ∙ map_push label_of old figure)
    ∙ at_figure (labels_of old) xs i d (label_of figure) h is by_name so_far

-- THE LINE

plain_names : (ls : List Label) → All (λ l. IsPlain l.name) ls → ArePlain (map (λ l. l.name) ls)
plain_names [] h = tt
plain_names (l ∷ ls) h = (All-head (λ x. IsPlain x.name) l ls h, plain_names ls (All-tail (λ x. IsPlain x.name) l ls h))

plain_changes : (ls : List Label) → All (λ l. IsPlain l.name) ls → ArePlain (trend_names ls)
unfolding trend_names
plain_changes [] h = tt
plain_changes (l ∷ ls) h = by_test (has_trend l) (plain_changes ls (All-tail (λ x. IsPlain x.name) l ls h))
  where
    by_test : (b : Bool) → ArePlain (trend_names ls) → ArePlain (cond b (trend_name l.name ∷ []) [] ++ trend_names ls)
    by_test true rest = (plain_append trend_front l.name refl (All-head (λ x. IsPlain x.name) l ls h), rest)
    by_test false rest = rest

pub all_plain : (ls : List Label) → All (λ l. IsPlain l.name) ls → ArePlain (names ls)
all_plain ls h = (
  refl,
  (
    refl,
    (
      refl,
      (
        refl,
        (
          refl,
          (
            refl,
            (
              refl,
              (
                refl,
                (
                  refl,
                  plain_both (map (λ l. l.name) ls) (trend_names ls) (plain_names ls h) (plain_changes ls h),
                ),
              ),
            ),
          ),
        ),
      ),
    ),
  ),
)

-- the figures that are named by the line before their rows
pub named_by_header : (line : List ℕ) (ls : List Label) → All IsByName ls → All (λ l. IsPlain l.name) ls → IsLine line (header ls)
    → labels_named (drop 9 (slice_split is_comma line)) ≡ ls
unfolding header
named_by_header line ls by_name plain is =
    ap (λ parts. labels_named (drop 9 parts)) (parts_are_fields line (codes "model") _ _ (all_plain ls plain) is)
    ∙ named_again ls (trend_names ls) by_name (changes_begin ls)

-- it begins with the names of the first two fields
pub header_begins : (line : List ℕ) (ls : List Label) → All (λ l. IsPlain l.name) ls → IsLine line (header ls) → begins (codes "model,rows,") line ≡ true
unfolding header
header_begins line ls plain is =
    let front = codes "model" ++ behind_commas (drop 1 (names ls)) in
    let text = plain_row (codes "model") (codes "rows") (drop 2 (names ls)) (all_plain ls plain) in
    let whole : line ≡ front = sym (same_from_push front line 10 10 (sym text ∙ is)).0 in
    ap (begins (codes "model,rows,")) whole ∙ and_from _ _ (le-leb 11 (length front) (omega arith)) refl

-- where a line has fewer parts than a row, it names no figure
pub none_named : (figures : List Figure) (line : List ℕ) (parts : List (Bor (List ℕ))) → figures ≡ [] → map (λ p. p.now) parts ≡ slice_split is_comma line
    → length parts < 9 → labels_of figures ≡ labels_named (drop 9 (slice_split is_comma line))
unfolding labels_named
none_named figures line parts none are few =
    let short : length (slice_split is_comma line) ≤ 9 = omega (arith, ap length are, length-map parts (λ p. p.now)) in
    ap labels_of none ∙ sym (ap labels_named (drop_all 9 (slice_split is_comma line) short))
