-- Lines are added to a text.
use Rattle.std.proofs.Common.{◌≡◌, ◌∙◌, ℕ, suc, ◌+◌, List, [], ◌∷◌, ◌++◌, codes, refl, sym, ap, subst}
use Rattle.std.proofs.Math.Numerals.{suc-eq-add-one}
use Rattle.std.proofs.lemmas.List.{append-nil, append_assoc}
use Rattle.gw_listing.specs.Lines.{Opening, Whole, Front, IsLine, AreWords, AreLines, AddsLines, EndsLine, openings_below}

-- words are words where they are added
pub ended : (old words new : List ℕ) → AreWords words → new ≡ old ++ words ++ codes "\n" → EndsLine old new
ended old words new h is = record { words = words; are = h; added = is }

-- no line is added to what stays as it is
pub begun : (old : List ℕ) → AddsLines [] old old
begun old = record { lines = []; are = refl; added = sym (append-nil old) }

-- one line is
one : (opening : Opening) (old line new : List ℕ) → IsLine opening line → new ≡ old ++ line → AddsLines (opening ∷ []) old new
one opening old line new h is = record { lines = line; are = (line, [], h, refl, sym (append-nil line)); added = is }

-- it is this, and no more
pub whole : (text old new : List ℕ) → new ≡ old ++ text ++ codes "\n" → AddsLines (Whole text ∷ []) old new
whole text old new is = one (Whole text) old (text ++ codes "\n") new refl (is ∙ append_assoc old text (codes "\n"))

-- it begins with this
grouped : (old front words end : List ℕ) → old ++ front ++ words ++ end ≡ old ++ (front ++ words ++ end)
grouped old front words end = ap (λ x. x ++ end) (append_assoc old front words) ∙ append_assoc old (front ++ words) end

pub fronted : (front old middle new : List ℕ) → middle ≡ old ++ front → EndsLine middle new → AddsLines (Front front ∷ []) old new
fronted front old middle new is ends =
    let line = front ++ ends.words ++ codes "\n" in
    one (Front front) old line new (ends.words, ends.are, refl)
    (ends.added ∙ ap (λ x. x ++ ends.words ++ codes "\n") is ∙ grouped old front ends.words (codes "\n"))

-- lines behind lines
appended : (some more : List Opening) (first second : List ℕ) → AreLines some first → AreLines more second → AreLines (some ++ more) (first ++ second)
appended [] more first second h others = subst (λ x. AreLines more (x ++ second)) (sym h) others
appended (opening ∷ some) more first second (line, rest, h, lines, is) others =
    (line, rest ++ second, h, appended some more rest second lines others, ap (λ x. x ++ second) is ∙ append_assoc line rest second)

pub joined : (some more : List Opening) (old middle new : List ℕ) → AddsLines some old middle → AddsLines more middle new → AddsLines (some ++ more) old new
joined some more old middle new before after = record {
  lines = before.lines ++ after.lines;
  are = appended some more before.lines after.lines before.are after.are;
  added = after.added ∙ ap (λ x. x ++ after.lines) before.added ∙ append_assoc old before.lines after.lines;
}

-- those of one number more
pub one_more : (lines : ℕ → List Opening) (n : ℕ) (old middle new : List ℕ) → AddsLines (openings_below lines n) old middle
    → AddsLines (lines n) middle new → AddsLines (openings_below lines (n + 1)) old new
one_more lines n old middle new before this =
    subst (λ k. AddsLines (openings_below lines k) old new) (suc-eq-add-one n) (joined (openings_below lines n) (lines n) old middle new before this)

-- what was added to nothing is all of a text
all : (openings : List Opening) (old text : List ℕ) → old ≡ [] → AddsLines openings old text → AreLines openings text
all openings old text none adds =
    subst (λ x. AreLines openings x) (sym (adds.added ∙ ap (λ x. x ++ adds.lines) none)) adds.are

-- six parts, one behind the other
pub listed : (a b c d e f : List Opening) (start in_a in_b in_c in_d in_e text : List ℕ) → start ≡ []
    → AddsLines a start in_a → AddsLines b in_a in_b → AddsLines c in_b in_c → AddsLines d in_c in_d → AddsLines e in_d in_e → AddsLines f in_e text
    → AreLines (a ++ b ++ c ++ d ++ e ++ f) text
listed a b c d e f start in_a in_b in_c in_d in_e text none first second third fourth fifth sixth =
    let two = joined a b start in_a in_b first second in
    let three = joined (a ++ b) c start in_b in_c two third in
    let four = joined (a ++ b ++ c) d start in_c in_d three fourth in
    let five = joined (a ++ b ++ c ++ d) e start in_d in_e four fifth in
    all (a ++ b ++ c ++ d ++ e ++ f) start text none (joined (a ++ b ++ c ++ d ++ e) f start in_e text five sixth)
