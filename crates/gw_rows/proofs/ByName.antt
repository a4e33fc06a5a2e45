-- A figure whose name ends by a blank and a word is the one of its name, and needs no quotes.
use Rattle.std.proofs.Common.{◌≡◌, ◌∙◌, ◌&&◌, ◌||◌, not, ℕ, List, ◌∷◌, ◌++◌, reverse, Bool, false, refl, sym, ap}
use Rattle.std.specs.Prelude.{codes}
use Rattle.csv.specs.Writing.{default_writer, needs_quotes}
use Rattle.gw_figures.specs.Labels.{Label, front_of}
use Rattle.gw_rows.specs.Names.{begins, ends, is_average, is_content, is_detail, label_of_name, trend_front}
use Rattle.gw_rows.specs.Reading.{IsByName, IsPlain}
use Rattle.gw_rows.proofs.Letters.{begins_is, ends_is, from_last, is_front}
use Rattle.gw_rows.proofs.PlainFields.{plain_append}

-- BY LETTERS

-- what the first letters of a name say, and its letters from the last on
abbrev pub detail_by : List ℕ → Bool
detail_by name = is_front (codes "BLOCK ") name || is_front (codes "SWITCH ") name || is_front (codes "CHAIN ") name

abbrev pub average_by : List ℕ → Bool
average_by last =
    is_front (reverse (codes " UTIL")) last || is_front (reverse (codes " TIME")) last || is_front (reverse (codes " AVG")) last
    || is_front (reverse (codes " MEAN")) last

abbrev pub content_by : List ℕ → Bool
content_by last = is_front (reverse (codes " CONTENT")) last || is_front (reverse (codes " WAIT")) last

either : (a b c d : Bool) → a ≡ b → c ≡ d → (a || c) ≡ (b || d)
either a b c d front back = ap (λ x. x || c) front ∙ ap (λ x. b || x) back

any_of_three : (a b c d e f : Bool) → a ≡ b → c ≡ d → e ≡ f → (a || c || e) ≡ (b || d || f)
any_of_three a b c d e f one two three = ap (λ x. x || c || e) one ∙ ap (λ x. b || x || e) two ∙ ap (λ x. b || d || x) three

any_of_four : (a b c d e f g h : Bool) → a ≡ b → c ≡ d → e ≡ f → g ≡ h → (a || c || e || g) ≡ (b || d || f || h)
any_of_four a b c d e f g h one two three four =
    ap (λ x. x || c || e || g) one ∙ ap (λ x. b || x || e || g) two ∙ ap (λ x. b || d || x || g) three ∙ ap (λ x. b || d || f || x) four

detail_is : (name : List ℕ) → is_detail name ≡ detail_by name
detail_is name = any_of_three (begins (codes "BLOCK ") name) _ (begins (codes "SWITCH ") name) _ (begins (codes "CHAIN ") name) _
    (begins_is (codes "BLOCK ") name) (begins_is (codes "SWITCH ") name) (begins_is (codes "CHAIN ") name)

average_is : (name : List ℕ) → is_average name ≡ average_by (reverse name)
average_is name = any_of_four (ends (codes " UTIL") name) _ (ends (codes " TIME") name) _ (ends (codes " AVG") name) _ (ends (codes " MEAN") name) _
    (ends_is (codes " UTIL") name) (ends_is (codes " TIME") name) (ends_is (codes " AVG") name) (ends_is (codes " MEAN") name)

content_is : (name : List ℕ) → is_content name ≡ (not (detail_by name) && content_by (reverse name))
content_is name =
    ap (λ b. not b && (ends (codes " CONTENT") name || ends (codes " WAIT") name)) (detail_is name)
    ∙ ap (λ b. not (detail_by name) && b) (either (ends (codes " CONTENT") name) _ (ends (codes " WAIT") name) _
    (ends_is (codes " CONTENT") name) (ends_is (codes " WAIT") name))

-- the figure of a name, by its letters in both orders
abbrev pub by_letters : List ℕ → List ℕ → Label
by_letters name last =
    record { name = name; main = not (detail_by name); average = average_by last; content = not (detail_by name) && content_by last }

by_letters_is : (name last : List ℕ) → reverse name ≡ last → by_letters name last ≡ label_of_name name
by_letters_is name last is =
    ap (by_letters name) (sym is)
    ∙ ap (λ b. record { name = name; main = not b; average = average_by (reverse name); content = not (detail_by name) && content_by (reverse name) })
    (sym (detail_is name))
    ∙ ap (λ b. record { name = name; main = not (is_detail name); average = b; content = not (detail_by name) && content_by (reverse name) })
    (sym (average_is name))
    ∙ ap (λ b. record { name = name; main = not (is_detail name); average = is_average name; content = b }) (sym (content_is name))

-- A FIGURE

-- a figure is the one of its name, which needs no quotes
pub record IsTold (label : Label) : Type 0 where
  pub by_name : IsByName label
  pub plain : IsPlain label.name

-- one whose name ends by a blank and this word
pub by_word : (front word name : List ℕ) (label : Label) → name ≡ (front ++ codes " ") ++ word
    → label ≡ by_letters name (reverse word ++ 32 ∷ reverse front) → is_front trend_front name ≡ false → IsPlain name → IsTold label
by_word front word name label is letters no_change plain =
    let last = reverse word ++ 32 ∷ reverse front in
    let named : label.name ≡ name = ap (λ (l : Label). l.name) letters in
    record {
      by_name = record {
        label_is = letters ∙ by_letters_is name last (from_last front word name is) ∙ ap label_of_name (sym named);
        no_change = ap (begins trend_front) named ∙ begins_is trend_front name ∙ no_change;
      };
      plain = ap (needs_quotes default_writer) named ∙ plain;
    }

-- one of an entity of this name
pub of_entity : (kind name word : List ℕ) (make : List ℕ → List ℕ → Label)
    → make (front_of kind name) word ≡ by_letters (front_of kind name ++ word) (reverse word ++ 32 ∷ reverse (kind ++ name))
    → is_front trend_front (front_of kind name ++ word) ≡ false
    → IsPlain kind → IsPlain name → IsPlain word → IsTold (make (front_of kind name) word)
of_entity kind name word make letters no_change kind_is name_is word_is =
    by_word (kind ++ name) word (front_of kind name ++ word) (make (front_of kind name) word) refl letters no_change
    (plain_append (front_of kind name) word (plain_append (kind ++ name) (codes " ") (plain_append kind name kind_is name_is) refl) word_is)
