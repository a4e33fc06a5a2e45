-- Texts that are lent.
use Rattle.std.proofs.Common.{◌≡◌, ◌∙◌, ◌<◌, ℕ, List, [], length, get_or, map, sym, ap, arith}
use Rattle.std.specs.Borrow.{Bor}
use Rattle.std.proofs.lemmas.List.{get_or-map, length-map}

-- what is lent at a place, where the texts are those of other things
pub text_at : {X : Type 0} (texts : List (Bor (List ℕ))) (f : X → List ℕ) (xs : List X) (i : ℕ) (d : Bor (List ℕ)) (e : X)
    → map (λ t. t.now) texts ≡ map f xs → i < length texts → (get_or texts i d).now ≡ f (get_or xs i e)
text_at texts f xs i d e is h =
    let same : length texts ≡ length xs = sym (length-map texts (λ t. t.now)) ∙ ap length is ∙ length-map xs f in
    sym (get_or-map (λ t. t.now) texts i d [] h) ∙ ap (λ ls. get_or ls i []) is ∙ get_or-map f xs i e [] (omega arith)

pub as_many : {X : Type 0} (texts : List (Bor (List ℕ))) (f : X → List ℕ) (xs : List X) → map (λ t. t.now) texts ≡ map f xs → length texts ≡ length xs
as_many texts f xs is = sym (length-map texts (λ t. t.now)) ∙ ap length is ∙ length-map xs f
