-- One more line.
use Rattle.std.proofs.Common.{◌≡◌, ◌∙◌, ◌<◌, ◌≤◌, ◌+◌, ◌++◌, ℕ, List, [], ◌∷◌, length, drop, get_or, drop-cons, suc, Option, Some, None, refl, arith, sym, ap}
use Rattle.std.proofs.Common.{subst}
use Rattle.std.proofs.Math.ListN.{drop_of_length-le}
use Rattle.std.proofs.lemmas.List.{append_assoc, append-nil}
use Rattle.gw_figures.specs.Labels.{Label}
use Rattle.gw_figures.specs.declared.run.Run.{Run}
use Rattle.gw_rows.specs.Rows.{Source}
use Rattle.gw_summary.specs.Adding.{Line}
use Rattle.gw_summary.specs.Telling.{IsRunOfLine, LinesTell, with_run}

before_rest : (run : Option Run) (rest : List Run) → with_run run [] ++ rest ≡ with_run run rest
before_rest None rest = refl
before_rest (Some run) rest = refl

line_cons : (labels : List Label) (source : Source) (i : ℕ) (line : Line) (lines : List Line) (run : Option Run) (rest : List Run)
    → IsRunOfLine labels source i line run → LinesTell labels source (i + 1) lines rest
    → LinesTell labels source i (line ∷ lines) (with_run run rest)
unfolding LinesTell
line_cons labels source i line lines run rest here more = (run, rest, here, more, refl)

pub line_more : (labels : List Label) (source : Source) (lines : List Line) (i : ℕ) (x : Line) (run : Option Run) (old new : List Run) → i < length lines
    → x ≡ get_or lines i x → IsRunOfLine labels source i x run → new ≡ old ++ with_run run []
    → ((rest : List Run) → LinesTell labels source i (drop i lines) rest → LinesTell labels source 0 lines (old ++ rest))
    → (rest : List Run) → LinesTell labels source (i + 1) (drop (i + 1) lines) rest → LinesTell labels source 0 lines (new ++ rest)
line_more labels source lines i x run old new h is here added before rest more =
    let next : i + 1 ≡ suc i = omega arith in
    let there : LinesTell labels source (i + 1) (drop (suc i) lines) rest = subst (λ k. LinesTell labels source (i + 1) (drop k lines) rest) next more in
    let left : drop i lines ≡ x ∷ drop (suc i) lines = drop-cons lines i x h ∙ ap (λ y. y ∷ drop (suc i) lines) (sym is) in
    let cons = line_cons labels source i x (drop (suc i) lines) run rest here there in
    let all = before (with_run run rest) (subst (λ xs. LinesTell labels source i xs (with_run run rest)) (sym left) cons) in
    let same : old ++ with_run run rest ≡ new ++ rest =
    ap (λ xs. old ++ xs) (sym (before_rest run rest)) ∙ sym (append_assoc old (with_run run []) rest) ∙ ap (λ xs. xs ++ rest) (sym added) in
    subst (λ xs. LinesTell labels source 0 lines xs) same all

none_left : (labels : List Label) (source : Source) (i : ℕ) (lines : List Line) → lines ≡ [] → LinesTell labels source i lines []
unfolding LinesTell
none_left labels source i lines none = subst (λ xs. LinesTell labels source i xs []) (sym none) refl

pub all_lines : (labels : List Label) (source : Source) (lines : List Line) (i : ℕ) (runs : List Run) → length lines ≤ i
    → ((rest : List Run) → LinesTell labels source i (drop i lines) rest → LinesTell labels source 0 lines (runs ++ rest)) →
    LinesTell labels source 0 lines runs
all_lines labels source lines i runs over before =
    let none : drop i lines ≡ [] = drop_of_length-le lines over in
    subst (λ xs. LinesTell labels source 0 lines xs) (append-nil runs) (before [] (none_left labels source i (drop i lines) none))
