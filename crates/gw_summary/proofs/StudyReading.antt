-- Bytes of a study that are read.
use Rattle.std.proofs.Common.{◌≡◌, ◌∙◌, ◌⊎◌, ◌++◌, ◌≤◌, ◌<◌, ◌+◌, ℕ, List, [], ◌∷◌, length, get_or, take, drop, Result, Ok, OnOk}
use Rattle.std.proofs.Common.{sym, ap, subst, arith, inl, inr}
use Rattle.std.specs.Prelude.{◌≢◌}
use Rattle.std.specs.List.{All, Contains, between}
use Rattle.std.proofs.lemmas.List.{append_assoc, append-nil, length-append, take-append-drop}
use Rattle.std.proofs.lemmas.List.Elements.{All-append, All-drop, All-head, Contains-append_cases}
use Rattle.gw_rows.specs.Reading.{IsWithoutFeed}
use Rattle.gw_summary.specs.Keeping.{AreLines, Takes, kept_lines}
use Rattle.gw_summary.specs.StudyRows.{StudyRuns, AreLinesIn, HoldsMore, IsFrontIn, IsHeaderIn, IsHeld, IsLineIn, IsNoFault, IsReadableStudy, IsReadOf, ReadsOn}
use Rattle.gw_summary.specs.declared.fault.NoRow.{NoRow}
use Rattle.gw_summary.specs.declared.pieces.Pieces.{Pieces}
use Rattle.gw_summary.specs.declared.rows.Rows.{Rows}
use Rattle.gw_summary.proofs.Reading.{front_ended, front_on, line_ended, read_on}
use Rattle.gw_summary.proofs.Splitting.{bytes_of, others_of, same_line, some_bytes, within_line}
use Rattle.gw_summary.proofs.Taking.{none_there, only}

-- a front of a front is one
pub front_of_front : (s : StudyRuns) (bytes more : List ℕ) → IsFrontIn s (bytes ++ more) → IsFrontIn s bytes
front_of_front s bytes more front = (more ++ front.0, subst (λ bs. AreLinesIn s bs) (append_assoc bytes more front.0) front.1)

-- bytes are the beginning of lines of a study
record BeginsLines (s : StudyRuns) (began : List ℕ) : Type 0 where
  pub rest : List ℕ
  pub others : List (List ℕ)
  pub each : All (IsLineIn s) others
  pub whole : All IsWithoutFeed others
  pub bytes_are : began ++ rest ≡ bytes_of others

begins_lines : (s : StudyRuns) (before bytes rest : List ℕ) (lines : List (List ℕ)) → AreLines before lines rest → IsFrontIn s (before ++ bytes)
    → BeginsLines s (rest ++ bytes)
begins_lines s before bytes rest lines split front =
    let all = front.1 in
    let same : bytes_of lines ++ ((rest ++ bytes) ++ front.0) ≡ bytes_of all.lines =
    sym (append_assoc (bytes_of lines) (rest ++ bytes) front.0) ∙ ap (λ bs. bs ++ front.0) (sym (append_assoc (bytes_of lines) rest bytes))
    ∙ ap (λ bs. (bs ++ bytes) ++ front.0) (sym split.whole) ∙ all.split.whole ∙ append-nil (bytes_of all.lines) in
    let more = others_of lines all.lines ((rest ++ bytes) ++ front.0) split.each all.split.each same in
    record {
      rest = front.0;
      others = more.others;
      each = behind (IsLineIn s) lines more.others (subst (λ ls. All (IsLineIn s) ls) more.all_are all.each);
      whole = behind IsWithoutFeed lines more.others (subst (λ ls. All IsWithoutFeed ls) more.all_are all.split.each);
      bytes_are = more.rest_is;
    }
  where
    behind : (P : List ℕ → Type 0) (xs ys : List (List ℕ)) → All P (xs ++ ys) → All P ys
    behind P [] ys each = each
    behind P (x ∷ xs) ys each = behind P xs ys (All-drop P 1 (x ∷ xs ++ ys) each)

short_line : (s : StudyRuns) (began rest : List ℕ) (others : List (List ℕ)) → IsReadableStudy s → All (IsLineIn s) others → IsWithoutFeed began
    → began ++ rest ≡ bytes_of others → length began ≤ 16777216
short_line s began rest [] readable each none is = omega (arith, length-append began rest, ap length is)
short_line s began rest (line ∷ lines) readable each none is =
    let within = within_line began line rest (bytes_of lines) none (is ∙ append_assoc line (10 ∷ []) (bytes_of lines)) in
    let short = readable.short line (All-head (IsLineIn s) line lines each) in
    omega (arith, within, short)

-- the line at hand is no longer than any line of a study
pub short_rest : (s : StudyRuns) (before bytes rest : List ℕ) (lines : List (List ℕ)) → IsReadableStudy s → AreLines before lines rest
    → IsFrontIn s (before ++ bytes) → IsWithoutFeed bytes → length rest + length bytes ≤ 16777216
short_rest s before bytes rest lines readable split front none =
    let on = begins_lines s before bytes rest lines split front in
    let short = short_line s (rest ++ bytes) on.rest on.others readable on.each (All-append (λ b. b ≢ 10) rest bytes split.last none) on.bytes_are in
    omega (arith, short, length-append rest bytes)

ended_line : (s : StudyRuns) (line rest : List ℕ) (others : List (List ℕ)) → All (IsLineIn s) others → All IsWithoutFeed others → IsWithoutFeed line
    → (line ++ 10 ∷ []) ++ rest ≡ bytes_of others → IsLineIn s line
ended_line s line rest [] each whole none is = absurd (some_bytes line rest (sym (append_assoc line (10 ∷ []) rest) ∙ is))
ended_line s line rest (other ∷ others) each whole none is =
    let same = same_line line other rest (bytes_of others) none (All-head IsWithoutFeed other others whole)
    (sym (append_assoc line (10 ∷ []) rest) ∙ is ∙ append_assoc other (10 ∷ []) (bytes_of others)) in
    subst (λ l. IsLineIn s l) (sym same.0) (All-head (IsLineIn s) other others each)

-- where a line feed ends the line at hand, it is one of a study
pub line_is : (s : StudyRuns) (before rest : List ℕ) (lines : List (List ℕ)) → AreLines before lines rest → IsFrontIn s (before ++ 10 ∷ []) → IsLineIn s rest
line_is s before rest lines split front =
    let on = begins_lines s before (10 ∷ []) rest lines split front in
    ended_line s rest on.rest on.others on.each on.whole split.last on.bytes_are

-- nothing is read
pub nothing_read : (s : StudyRuns) (p : Pieces) → p.rest.items ≡ [] → kept_lines p.rows ≡ [] → IsHeld s p.rows → IsReadOf s [] p
nothing_read s p rest kept held = record {
  read = record {
    lines = [];
    split = record {
      whole = sym rest;
      each = λ k d h. absurd (omega (arith, h));
      last = subst IsWithoutFeed (sym rest) (λ k d h. absurd (omega (arith, h)));
    };
    from = λ t h. none_there t (subst (λ ls. Contains ls t) kept h);
    each = λ t h. none_there t h;
  };
  held = held;
  header = λ line h is. none_there line h;
}

-- bytes without a line feed are read
pub part_read : (s : StudyRuns) (before bytes : List ℕ) (old new : Pieces) → new.rows ≡ old.rows → new.rest.items ≡ old.rest.items ++ bytes
    → IsWithoutFeed bytes → IsReadOf s before old → IsReadOf s (before ++ bytes) new
unfolding read_on
part_read s before bytes old new same rest none was = record {
  read = read_on before bytes old new same rest none was.read;
  held = subst (λ (r : Rows). IsHeld s r) (sym same) was.held;
  header = λ line there is. subst (λ (r : Rows). r.header.items ≢ []) (sym same) (was.header line there is);
}

-- a line feed is
pub end_read : (s : StudyRuns) (before : List ℕ) (old new : Pieces) → new.rest.items ≡ [] → Takes (old.rest.items ∷ []) old.rows new.rows
    → HoldsMore s old.rest.items old.rows new.rows → IsReadOf s before old → IsReadOf s (before ++ 10 ∷ []) new
unfolding line_ended
end_read s before old new rest takes more was = record {
  read = line_ended before old new rest takes was.read;
  held = more.held;
  header = λ line there is. by_line line is (Contains-append_cases was.read.lines (old.rest.items ∷ []) line there);
}
  where
    by_line : (line : List ℕ) → IsHeaderIn s line → Contains was.read.lines line ⊎ Contains (old.rest.items ∷ []) line → new.rows.header.items ≢ []
    by_line line is (inl before) = more.stays (was.header line before is)
    by_line line is (inr one) = more.header (subst (λ l. IsHeaderIn s l) (sym (only old.rest.items line one)) is)

-- PIECES OF BYTES

-- bytes of a study are read up to a line that begins at a place of a piece
abbrev pub IsReadOfTo : List ℕ → ℕ → Pieces → Pieces → Type 0
IsReadOfTo piece start first now =
    (s : StudyRuns) (before : List ℕ) → IsReadableStudy s → IsFrontIn s (before ++ piece) → IsReadOf s before first
    → IsReadOf s (before ++ take start piece) now

-- all went well, and bytes of a study are read
abbrev pub IsReadOn : List ℕ → Pieces → Pieces → Type 0
IsReadOn bytes old new = (s : StudyRuns) → ReadsOn {X = Unit {0}} s bytes (Ok tt) old new

to_place : (before piece : List ℕ) (n : ℕ) → (before ++ take n piece) ++ drop n piece ≡ before ++ piece
to_place before piece n = append_assoc before (take n piece) (drop n piece) ∙ ap (λ bs. before ++ bs) (take-append-drop n piece)

between_places : (before piece : List ℕ) (start i : ℕ) → start ≤ i → (before ++ take start piece) ++ between start i piece ≡ before ++ take i piece
between_places before piece start i h = append_assoc before (take start piece) (between start i piece) ∙ ap (λ bs. before ++ bs) (front_on piece start i h)

front_to : (s : StudyRuns) (before piece : List ℕ) (n : ℕ) → IsFrontIn s (before ++ piece) → IsFrontIn s (before ++ take n piece)
front_to s before piece n front =
    front_of_front s (before ++ take n piece) (drop n piece) (subst (λ bs. IsFrontIn s bs) (sym (to_place before piece n)) front)

-- what goes on a front up to a place is one
pub front_between : (s : StudyRuns) (before piece : List ℕ) (start i : ℕ) → start ≤ i → IsFrontIn s (before ++ piece)
    → IsFrontIn s ((before ++ take start piece) ++ between start i piece)
front_between s before piece start i h front =
    subst (λ bs. IsFrontIn s bs) (sym (between_places before piece start i h)) (front_to s before piece i front)

pub front_feed : (s : StudyRuns) (before piece : List ℕ) (start i : ℕ) → start ≤ i → i < length piece → get_or piece i 0 ≡ 10
    → IsFrontIn s (before ++ piece) → IsFrontIn s (((before ++ take start piece) ++ between start i piece) ++ 10 ∷ [])
front_feed s before piece start i h below feed front =
    subst (λ bs. IsFrontIn s bs) (sym (front_ended before piece start i h below feed)) (front_to s before piece (i + 1) front)

pub study_at_feed : (piece : List ℕ) (start i now : ℕ) (first old middle new kept : Pieces) → start ≤ i → i < length piece → get_or piece i 0 ≡ 10
    → IsReadOfTo piece start first old → IsReadOn (between start i piece) old middle → IsReadOn (10 ∷ []) middle new → kept ≡ new → now ≡ i + 1
    → IsReadOfTo piece now first kept
study_at_feed piece start i now first old middle new kept h below feed so_far put ended is begins =
    subst (λ (p : Pieces). IsReadOfTo piece now first p) (sym is)
    (subst (λ n. IsReadOfTo piece n first new) (sym begins)
    (λ s before readable front was.
    let part = put s (before ++ take start piece) readable (front_between s before piece start i h front) (so_far s before readable front was) in
    let line = ended s ((before ++ take start piece) ++ between start i piece) readable (front_feed s before piece start i h below feed front) part.1 in
    subst (λ bs. IsReadOf s bs new) (front_ended before piece start i h below feed) line.1))

pub study_at_other : (piece : List ℕ) (start now : ℕ) (first old kept : Pieces) → IsReadOfTo piece start first old → kept ≡ old → now ≡ start
    → IsReadOfTo piece now first kept
study_at_other piece start now first old kept so_far is begins =
    subst (λ (p : Pieces). IsReadOfTo piece now first p) (sym is) (subst (λ n. IsReadOfTo piece n first old) (sym begins) so_far)

-- the last part of a piece is read
pub study_at_end : (s : StudyRuns) (before piece : List ℕ) (start : ℕ) (result : Result (Unit {0}) NoRow) (first old new : Pieces)
    → IsReadableStudy s → IsFrontIn s (before ++ piece) → IsReadOf s before first → IsReadOfTo piece start first old
    → ReadsOn s (drop start piece) result old new → IsNoFault result × OnOk result (IsReadOf s (before ++ piece) new)
study_at_end s before piece start result first old new readable front was so_far put =
    let all = to_place before piece start in
    subst (λ bs. IsNoFault result × OnOk result (IsReadOf s bs new)) all
    (put (before ++ take start piece) readable (subst (λ bs. IsFrontIn s bs) (sym all) front) (so_far s before readable front was))
