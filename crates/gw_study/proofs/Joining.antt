-- The parts of a table, one behind the other.
use Rattle.std.proofs.Common.{◌≡◌, ◌∙◌, ℕ, List, ◌++◌, ap, append_assoc}
use Rattle.gw_study.specs.Table.{Adds}

-- what is added by each is the whole text
pub joined : (P Q R : List ℕ → Type 0) (first ends head more a b c d e f g : List ℕ)
    → a ≡ first → b ≡ a ++ ends → c ≡ b ++ head → Adds P c d → e ≡ d ++ more → Adds Q e f → Adds R f g
    → (rows : List ℕ) × (trends : List ℕ) × (growths : List ℕ) × P rows × Q trends × R growths
    × (g ≡ first ++ ends ++ head ++ rows ++ more ++ trends ++ growths)
joined P Q R first ends head more a b c d e f g is_a is_b is_c (rows, told, is_d) is_e (trends, others, is_f) (growths, grown, is_g) =
    let to_b : b ≡ first ++ ends = is_b ∙ ap (λ x. x ++ ends) is_a in
    let to_c : c ≡ (first ++ ends) ++ head = is_c ∙ ap (λ x. x ++ head) to_b in
    let to_d : d ≡ ((first ++ ends) ++ head) ++ rows = is_d ∙ ap (λ x. x ++ rows) to_c in
    let to_e : e ≡ (((first ++ ends) ++ head) ++ rows) ++ more = is_e ∙ ap (λ x. x ++ more) to_d in
    let to_f : f ≡ ((((first ++ ends) ++ head) ++ rows) ++ more) ++ trends = is_f ∙ ap (λ x. x ++ trends) to_e in
    (rows, trends, growths, told, others, grown, is_g ∙ ap (λ x. x ++ growths) to_f)

-- an average's change, two words behind it with a number between, are one text
pub advised : (o p q a b d e : List ℕ) → p ≡ o ++ a → q ≡ p ++ (b ++ d) → q ++ e ≡ o ++ (a ++ b ++ d ++ e)
advised o p q a b d e h k = rw (k, h) (simp append_assoc)
