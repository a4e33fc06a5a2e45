-- Statements in the order of their lines, as they are read line by line.
use Rattle.std.proofs.Common.{◌≡◌, ℕ, ◌+◌, ◌<◌, ◌≤◌, List, [], ◌∷◌, ◌++◌, length, get_or, Bool, true, false, ◌||◌, arith, refl, ap, ◌∙◌, below_more}
use Rattle.std.proofs.Common.{zero, suc, Option, Some, None, AllPairs}
use Rattle.std.specs.List.{All, list_any}
use Rattle.std.proofs.lemmas.List.Folds.{list_any-append}
use Rattle.std.proofs.lemmas.List.Elements.{All-append}
use Rattle.std.proofs.lemmas.List.{get_or_default}
use Rattle.gw_text.specs.declared.model.Statement.{Statement}
use Rattle.gw_text_tokens.specs.Lines.{is_skipped, IsShort}
use Rattle.gw_text.specs.declared.reader.Reader.{Reader}
use Rattle.gw_text.specs.Knowing.{Admits, Knows, KnowsMore}
use Rattle.gw_text.specs.Reading.{stands_on, GoesOnAsItMay, HasItsWord, BeginsAt, IsFoundAt, with_found, last_with_found, IsInOrder, label_of}
use Rattle.gw_text.specs.Reading.{LabelsDiffer, MayFollow, StandOn}
use Rattle.gw_text.proofs.Known.{labels_differ_push, may_follow_push}

-- the last line of statements, or the line before them
abbrev pub last_of : ℕ → List Statement → ℕ
last_of before [] = before
last_of before (s ∷ statements) = last_of s.last_line statements

in_order_push : (before : ℕ) (statements : List Statement) (s : Statement) → IsInOrder before statements
    → last_of before statements < s.line → s.line ≤ s.last_line → IsInOrder before (statements ++ s ∷ [])
in_order_push before [] s h a b = (a, b, tt)
in_order_push before (x ∷ statements) s h a b = (h.0, h.1, in_order_push x.last_line statements s h.2 a b)

last_of_push : (before : ℕ) (statements : List Statement) (s : Statement) → last_of before (statements ++ s ∷ []) ≡ s.last_line
last_of_push before [] s = refl
last_of_push before (x ∷ statements) s = last_of_push x.last_line statements s

-- what is read of the lines before line i: the statements, the last of which ends before line `next`, so that no line is skipped
pub record Reads (lines : List (List ℕ)) (i next : ℕ) (statements : List Statement) : Type 0 where
  pub order : IsInOrder 0 statements
  pub last : last_of 0 statements ≡ next
  pub within : All (λ (s : Statement). s.last_line ≤ length lines) statements
  pub single : All GoesOnAsItMay statements
  pub passed : (k : ℕ) → k < i → is_skipped (get_or lines k []) ≡ false → list_any (stands_on (k + 1)) statements ≡ true
  pub ahead : (k : ℕ) → i ≤ k → k < next → list_any (stands_on (k + 1)) statements ≡ true
  pub words : All (HasItsWord lines) statements
  pub short : (k : ℕ) → k < i → IsShort (get_or lines k [])
  pub short_ahead : (k : ℕ) → i ≤ k → k < next → IsShort (get_or lines k [])
  pub labels : AllPairs LabelsDiffer statements
  pub started : AllPairs MayFollow statements

-- a statement stands on each line from its first to its last one
stands_between : (n : ℕ) (s : Statement) → s.line ≤ n → n ≤ s.last_line → stands_on n s ≡ true
stands_between n s a b = grind (arith, a, b)

-- what one of the statements passes, one of more statements passes
any_before : (p : Statement → Bool) (statements : List Statement) (s : Statement) → list_any p statements ≡ true
    → list_any p (statements ++ s ∷ []) ≡ true
any_before p statements s h = list_any-append p statements (s ∷ []) ∙ ap (λ b. b || list_any p (s ∷ [])) h

any_last : (p : Statement → Bool) (statements : List Statement) (s : Statement) → p s ≡ true → list_any p (statements ++ s ∷ []) ≡ true
any_last p [] s h = ap (λ b. b || false) h
any_last p (x ∷ statements) s h = grind (arith, any_last p statements s h)

-- what holds of a statement holds of each of it alone
all_one : (P : Statement → Type 0) (s : Statement) → P s → All P (s ∷ [])
all_one P s h zero d below = h
all_one P s h (suc k) d below = absurd (omega (arith, below))

-- nothing is read yet
pub reads_none : (lines : List (List ℕ)) → Reads lines 0 0 []
reads_none lines = record {
  order = tt;
  last = refl;
  within = λ k d below. absurd (omega (arith, below));
  single = λ k d below. absurd (omega (arith, below));
  passed = λ k below. absurd (omega (arith, below));
  ahead = λ k from below. absurd (omega (arith, below));
  words = λ k d below. absurd (omega (arith, below));
  short = λ k below. absurd (omega (arith, below));
  short_ahead = λ k from below. absurd (omega (arith, below));
  labels = λ j k d lt below. absurd (omega (arith, below));
  started = λ j k d lt below. absurd (omega (arith, below));
}

-- a line on which a statement goes on
pub reads_over : (lines : List (List ℕ)) (i next : ℕ) (statements : List Statement) → i < next → Reads lines i next statements
    → Reads lines (i + 1) next statements
reads_over lines i next statements h r = record {
  order = r.order;
  last = r.last;
  within = r.within;
  single = r.single;
  passed = below_more (λ k. is_skipped (get_or lines k []) ≡ false → list_any (stands_on (k + 1)) statements ≡ true) i r.passed
      (λ held. r.ahead i (omega arith) h);
  ahead = λ k from below. r.ahead k (omega (arith, from)) below;
  words = r.words;
  short = below_more (λ k. IsShort (get_or lines k [])) i r.short (r.short_ahead i (omega arith) h);
  short_ahead = λ k from below. r.short_ahead k (omega (arith, from)) below;
  labels = r.labels;
  started = r.started;
}

-- a line that is skipped
pub reads_skipped : (lines : List (List ℕ)) (i next : ℕ) (statements : List Statement) → next ≤ i → is_skipped (get_or lines i []) ≡ true
    → IsShort (get_or lines i []) → Reads lines i next statements → Reads lines (i + 1) next statements
reads_skipped lines i next statements behind h short r = record {
  order = r.order;
  last = r.last;
  within = r.within;
  single = r.single;
  passed = below_more (λ k. is_skipped (get_or lines k []) ≡ false → list_any (stands_on (k + 1)) statements ≡ true) i r.passed
      (λ held. grind (arith, h, held));
  ahead = λ k from below. absurd (omega (arith, from, below, behind));
  words = r.words;
  short = below_more (λ k. IsShort (get_or lines k [])) i r.short short;
  short_ahead = λ k from below. absurd (omega (arith, from, below, behind));
  labels = r.labels;
  started = r.started;
}

-- a line on which a statement begins
pub reads_more : (lines : List (List ℕ)) (i next : ℕ) (statements : List Statement) (s : Statement) (reader after : Reader) → next ≤ i
    → BeginsAt lines i s → Knows reader statements → Admits reader after s.word (label_of s) → Reads lines i next statements
    → Reads lines (i + 1) s.last_line (statements ++ s ∷ [])
reads_more lines i next statements s reader after behind b known admits r =
    let line = b.line in
    let last = b.order in
    record {
      order = in_order_push 0 statements s r.order (omega (arith, r.last, behind, line)) last;
      last = last_of_push 0 statements s;
      within = All-append (λ (x : Statement). x.last_line ≤ length lines) statements (s ∷ []) r.within
          (all_one (λ (x : Statement). x.last_line ≤ length lines) s b.within);
      single = All-append GoesOnAsItMay statements (s ∷ []) r.single (all_one GoesOnAsItMay s b.single);
      passed = below_more (λ k. is_skipped (get_or lines k []) ≡ false → list_any (stands_on (k + 1)) (statements ++ s ∷ []) ≡ true) i
          (λ k below held. any_before (stands_on (k + 1)) statements s (r.passed k below held))
          (λ held. any_last (stands_on (i + 1)) statements s (stands_between (i + 1) s (omega (arith, line)) (omega (arith, line, last))));
      ahead = λ k from below. any_last (stands_on (k + 1)) statements s
          (stands_between (k + 1) s (omega (arith, line, from)) (omega (arith, below)));
      words = All-append (HasItsWord lines) statements (s ∷ []) r.words (all_one (HasItsWord lines) s b.word);
      short = below_more (λ k. IsShort (get_or lines k [])) i r.short (b.short i (omega arith) (omega (arith, line, last)));
      short_ahead = λ k from below. b.short k (omega (arith, from)) (omega (arith, below));
      labels = labels_differ_push reader after statements s known admits r.labels;
      started = may_follow_push reader after statements s known admits r.started;
    }

-- the next line, by what was found on it
pub reads_next : (lines : List (List ℕ)) (i next : ℕ) (statements : List Statement) (found : Option Statement) (after : ℕ)
    (more : List Statement) (reader with : Reader) → next ≤ i → IsFoundAt lines i found → after ≡ last_with_found found next
    → more ≡ with_found found statements → Knows reader statements → KnowsMore reader with found → Reads lines i next statements
    → Reads lines (i + 1) after more
reads_next lines i next statements None after more reader with behind h to grown known admits r =
    rw to (rw grown (reads_skipped lines i next statements behind h.0 h.1 r))
reads_next lines i next statements (Some s) after more reader with behind h to grown known admits r =
    rw to (rw grown (reads_more lines i next statements s reader with behind h known admits r))

-- all lines are read
pub reads_all : (lines : List (List ℕ)) (i next : ℕ) (statements : List Statement) (reader : Reader) → length lines ≤ i
    → Knows reader statements → Reads lines i next statements → StandOn lines statements
reads_all lines i next statements reader h known r = record {
  order = r.order;
  within = r.within;
  single = r.single;
  none_skipped = λ k below held. r.passed k (omega (arith, below, h)) held;
  words = r.words;
  short = λ k d below. rw (get_or_default lines k d [] below) (r.short k (omega (arith, below, h)));
  labels = r.labels;
  few = omega (arith, known.few, known.blocks);
  started = r.started;
}
