-- Bytes that are read.
use Rattle.std.proofs.Common.{◌≡◌, ◌∙◌, ◌⊎◌, ◌++◌, ◌<◌, ◌≤◌, ◌+◌, ◌-◌, ℕ, zero, suc, List, [], ◌∷◌, length, get_or, take, drop, arith, sym, ap, subst, inl, inr}
use Rattle.std.specs.Prelude.{◌≢◌}
use Rattle.std.specs.List.{Contains, flat_map, between}
use Rattle.std.proofs.lemmas.Grind.{common_steps}
use Rattle.std.proofs.lemmas.List.{append_assoc, append-nil, take_more}
use Rattle.std.proofs.lemmas.List.Concat.{flat_map-append}
use Rattle.std.proofs.lemmas.List.Edits.{between_more, between_none}
use Rattle.std.proofs.lemmas.List.Elements.{All-append, All-push, Contains-append_left, Contains-append_right, Contains-append_cases}
use Rattle.gw_rows.specs.Reading.{IsWithoutFeed}
use Rattle.gw_summary.specs.Keeping.{IsRead, IsTaken, Takes, kept_lines}
use Rattle.gw_summary.specs.declared.pieces.Pieces.{Pieces}
use Rattle.gw_summary.specs.declared.rows.Rows.{Rows}

unfoldable pub read_on : (before bytes : List ℕ) (old new : Pieces) → new.rows ≡ old.rows → new.rest.items ≡ old.rest.items ++ bytes → IsWithoutFeed bytes
    → IsRead before old → IsRead (before ++ bytes) new
read_on before bytes old new same rest none read = record {
  lines = read.lines;
  split = record {
    whole = ap (λ bs. bs ++ bytes) read.split.whole ∙ append_assoc (flat_map (λ l. l ++ 10 ∷ []) read.lines) old.rest.items bytes
        ∙ ap (λ bs. flat_map (λ l. l ++ 10 ∷ []) read.lines ++ bs) (sym rest);
    each = read.split.each;
    last = subst IsWithoutFeed (sym rest) (All-append (λ b. b ≢ 10) old.rest.items bytes read.split.last none);
  };
  from = λ t h. read.from t (subst (λ (r : Rows). Contains (kept_lines r) t) same h);
  each = λ t h. subst (λ (r : Rows). IsTaken r t) (sym same) (read.each t h);
}

unfoldable pub line_ended : (before : List ℕ) (old new : Pieces) → new.rest.items ≡ [] → Takes (old.rest.items ∷ []) old.rows new.rows
    → IsRead before old → IsRead (before ++ 10 ∷ []) new
line_ended before old new rest takes read = record {
  lines = read.lines ++ old.rest.items ∷ [];
  split = record {
    whole = ap (λ bs. bs ++ 10 ∷ []) read.split.whole
        ∙ append_assoc (flat_map (λ l. l ++ 10 ∷ []) read.lines) old.rest.items (10 ∷ [])
        ∙ sym (ap (λ bs. flat_map (λ l. l ++ 10 ∷ []) read.lines ++ bs) (append-nil (old.rest.items ++ 10 ∷ [])))
        ∙ sym (flat_map-append (λ l. l ++ 10 ∷ []) read.lines (old.rest.items ∷ []))
        ∙ sym (append-nil (flat_map (λ l. l ++ 10 ∷ []) (read.lines ++ old.rest.items ∷ [])))
        ∙ ap (λ bs. flat_map (λ l. l ++ 10 ∷ []) (read.lines ++ old.rest.items ∷ []) ++ bs) (sym rest);
    each = All-push IsWithoutFeed read.lines old.rest.items read.split.each read.split.last;
    last = subst IsWithoutFeed (sym rest) (λ k d h. absurd (omega (arith, h)));
  };
  from = λ t h. by_from t (takes.from t h);
  each = λ t h. by_line t (Contains-append_cases read.lines (old.rest.items ∷ []) t h);
}
  where
    by_from : (t : List ℕ) → Contains (kept_lines old.rows) t ⊎ Contains (old.rest.items ∷ []) t → Contains (read.lines ++ old.rest.items ∷ []) t
    by_from t (inl there) = Contains-append_left read.lines (old.rest.items ∷ []) t (read.from t there)
    by_from t (inr one) = Contains-append_right read.lines (old.rest.items ∷ []) t one

    by_line : (t : List ℕ) → Contains read.lines t ⊎ Contains (old.rest.items ∷ []) t → IsTaken new.rows t
    by_line t (inl there) = takes.stay t (read.each t there)
    by_line t (inr one) = takes.each t one

none_between : (n i : ℕ) → take (i - n) [] ≡ take {A = ℕ} i []
none_between n i = grind (arith, common_steps)

-- a front goes on to a place behind it
pub front_on : (xs : List ℕ) (start i : ℕ) → start ≤ i → take start xs ++ between start i xs ≡ take i xs
front_on xs zero i h =
    let same : i - 0 ≡ i = omega arith in
    ap (λ k. take k xs) same
front_on [] (suc start) i h = none_between (suc start) i
front_on (x ∷ xs) (suc start) zero h = absurd (omega (arith, h))
front_on (x ∷ xs) (suc start) (suc i) h =
    let same : suc i - suc start ≡ i - start = omega arith in
    ap (λ k. x ∷ (take start xs ++ take k (drop start xs))) same ∙ ap (λ ls. x ∷ ls) (front_on xs start i (omega (arith, h)))

-- a piece is read up to a line that begins at a place, and there is no line feed in it up to another
abbrev pub IsReadTo : List ℕ → ℕ → ℕ → Pieces → Pieces → Type 0
IsReadTo piece start i first now =
    (start ≤ i) × ((before : List ℕ) → IsRead before first → IsRead (before ++ take start piece) now) × IsWithoutFeed (between start i piece)

pub front_ended : (before piece : List ℕ) (start i : ℕ) → start ≤ i → i < length piece → get_or piece i 0 ≡ 10
    → ((before ++ take start piece) ++ between start i piece) ++ 10 ∷ [] ≡ before ++ take (i + 1) piece
front_ended before piece start i h below feed =
    ap (λ bs. bs ++ 10 ∷ []) (append_assoc before (take start piece) (between start i piece))
    ∙ append_assoc before (take start piece ++ between start i piece) (10 ∷ [])
    ∙ ap (λ (bs : List ℕ). before ++ (bs ++ 10 ∷ [])) (front_on piece start i h)
    ∙ ap (λ (b : ℕ). before ++ (take i piece ++ b ∷ [])) (sym feed)
    ∙ ap (λ bs. before ++ bs) (sym (take_more piece i 0 below))

pub at_feed : (piece : List ℕ) (start i now : ℕ) (first old middle new kept : Pieces) → i < length piece → get_or piece i 0 ≡ 10
    → IsReadTo piece start i first old → ((before : List ℕ) → IsRead before old → IsRead (before ++ between start i piece) middle)
    → ((before : List ℕ) → IsRead before middle → IsRead (before ++ 10 ∷ []) new) → kept ≡ new → now ≡ i + 1
    → IsReadTo piece now (i + 1) first kept
at_feed piece start i now first old middle new kept below feed so_far put ended is begins =
    subst (λ (p : Pieces). IsReadTo piece now (i + 1) first p) (sym is)
    (subst (λ n. IsReadTo piece n (i + 1) first new) (sym begins) (
      omega arith,
      λ before read. subst (λ bs. IsRead bs new) (front_ended before piece start i so_far.0 below feed)
          (ended _ (put _ (so_far.1 before read))),
      subst IsWithoutFeed (sym (between_none piece (i + 1))) (λ k d h. absurd (omega (arith, h))),
    ))

pub at_other : (piece : List ℕ) (start i now : ℕ) (first old kept : Pieces) → i < length piece → (get_or piece i 0 ≢ 10)
    → IsReadTo piece start i first old → kept ≡ old → now ≡ start → IsReadTo piece now (i + 1) first kept
at_other piece start i now first old kept below other so_far is begins =
    subst (λ (p : Pieces). IsReadTo piece now (i + 1) first p) (sym is)
    (subst (λ n. IsReadTo piece n (i + 1) first old) (sym begins) (
      omega (arith, so_far.0),
      so_far.1,
      subst IsWithoutFeed (sym (between_more piece start i 0 so_far.0 below))
          (All-push (λ b. b ≢ 10) (between start i piece) (get_or piece i 0) so_far.2 other),
    ))
