-- What is known of statements with one more.
use Rattle.std.proofs.Common.{◌≡◌, ℕ, ◌+◌, ◌<◌, List, [], ◌∷◌, ◌++◌, length, get_or, Bool, true, false, ◌||◌, cond, if◌then◌else◌, arith, refl, sym}
use Rattle.std.proofs.Common.{ap, ◌∙◌, count_by, bytes_eq, Option, Some, None, AllPairs, inl, inr}
use Rattle.std.specs.List.{list_any}
use Rattle.std.specs.BTreeSet.{contains_text}
use Rattle.std.proofs.lemmas.Bool.{cases_Bool, false≢true}
use Rattle.std.proofs.lemmas.List.Folds.{list_any-append, list_any_at}
use Rattle.std.proofs.lemmas.List.Quantifiers.{all_pairs_push}
use Rattle.std.proofs.lemmas.List.Sums.{sum_by-append}
use Rattle.gw_text_tokens.specs.Words.{is_block, is_start}
use Rattle.gw_text.specs.declared.model.Statement.{Statement}
use Rattle.gw_text.specs.declared.reader.Reader.{Reader}
use Rattle.gw_text.specs.Knowing.{Labelled, Admits, Knows, KnowsMore}
use Rattle.gw_text.specs.Reading.{label_of, is_label, has_label, LabelsDiffer, is_block_statement, is_start_statement, MayFollow, with_found}

pub or_false : (b : Bool) → (b || false) ≡ b
or_false true = refl
or_false false = refl

-- what none of some passes, each of them doesn't pass
none_passes : {X : Type 0} (p : X → Bool) (xs : List X) → list_any p xs ≡ false → (k : ℕ) (d : X) → k < length xs → p (get_or xs k d) ≡ false
none_passes p xs none k d below = elim (cases_Bool (p (get_or xs k d))) [
  | inl found ↦ absurd (false≢true (sym none ∙ list_any_at p xs k d below found))
  | inr other ↦ other
]

-- whether one of some with another at their end passes
any_push : {X : Type 0} (p : X → Bool) (xs : List X) (y : X) → list_any p (xs ++ y ∷ []) ≡ (list_any p xs || p y)
any_push p xs y = list_any-append p xs (y ∷ []) ∙ ap (λ b. list_any p xs || b) (or_false (p y))

-- the labels of statements, with that of one more
labels_push : (reader after : Reader) (label : Option (List ℕ)) (others : List ℕ → Bool) (other : List ℕ)
    → contains_text reader.labels other ≡ others other → Labelled reader.labels after.labels label
    → contains_text after.labels other ≡ (others other || is_label other label)
labels_push reader after None others other known h = h other ∙ known ∙ sym (or_false (others other))
labels_push reader after (Some label) others other known h = h.1 other ∙ ap (cond (bytes_eq label other) true) known
    ∙ turned (bytes_eq label other) (others other)
  where
    turned : (a b : Bool) → cond a true b ≡ (b || a)
    turned true true = refl
    turned true false = refl
    turned false true = refl
    turned false false = refl

-- how many statements pass, with one more
count_push : (p : Statement → Bool) (xs : List Statement) (y : Statement) → count_by p (xs ++ y ∷ []) ≡ count_by p xs + (if p y then 1 else 0)
count_push p xs y = sum_by-append (λ x. cond (p x) 1 0) xs (y ∷ []) ∙ ap (λ n. count_by p xs + n) (alone (p y))
  where
    alone : (b : Bool) → 0 + cond b 1 0 ≡ (if b then 1 else 0)
    alone true = omega arith
    alone false = omega arith

-- what is known of statements with one more
pub knows_push : (reader after : Reader) (statements : List Statement) (s : Statement) → Knows reader statements
    → Admits reader after s.word (label_of s) → Knows after (statements ++ s ∷ [])
knows_push reader after statements s known h = record {
  labels = λ other. labels_push reader after (label_of s) (λ l. list_any (has_label l) statements) other (known.labels other) h.labels
      ∙ sym (any_push (has_label other) statements s);
  blocks = h.blocks ∙ ap (λ n. n + (if is_block s.word then 1 else 0)) known.blocks ∙ sym (count_push is_block_statement statements s);
  few = h.few;
  started = h.started ∙ ap (λ b. b || is_start s.word) known.started ∙ sym (any_push is_start_statement statements s);
}

-- what is known once it is seen what is found on a line
pub knows_next : (reader after : Reader) (statements more : List Statement) (found : Option Statement) → more ≡ with_found found statements
    → Knows reader statements → KnowsMore reader after found → Knows after more
knows_next reader after statements more None grown known same = rw same (rw grown known)
knows_next reader after statements more (Some s) grown known h = rw grown (knows_push reader after statements s known h)

-- its label differs from those of the statements before
new_label : (reader after : Reader) (statements : List Statement) (s : Statement) (label other : Option (List ℕ)) → Knows reader statements
    → Labelled reader.labels after.labels label → (l : List ℕ) → label ≡ Some l → list_any (has_label l) statements ≡ false
new_label reader after statements s None other known h l e = absurd (cc)
new_label reader after statements s (Some m) other known h l e =
    let same : m ≡ l = cc in
    rw (sym same) (sym (known.labels m) ∙ h.0)

pub labels_differ_push : (reader after : Reader) (statements : List Statement) (s : Statement) → Knows reader statements
    → Admits reader after s.word (label_of s) → AllPairs LabelsDiffer statements → AllPairs LabelsDiffer (statements ++ s ∷ [])
labels_differ_push reader after statements s known h pairs =
    all_pairs_push LabelsDiffer statements s pairs
    (λ k d below label e. none_passes (has_label label) statements (new_label reader after statements s (label_of s) None known h.labels label e) k d below)

-- it may stand behind each of the statements before
pub may_follow_push : (reader after : Reader) (statements : List Statement) (s : Statement) → Knows reader statements
    → Admits reader after s.word (label_of s) → AllPairs MayFollow statements → AllPairs MayFollow (statements ++ s ∷ [])
may_follow_push reader after statements s known h pairs =
    all_pairs_push MayFollow statements s pairs
    (λ k d below starts. h.order (known.started ∙ list_any_at is_start_statement statements k d below starts))
