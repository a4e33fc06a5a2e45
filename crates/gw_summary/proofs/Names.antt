-- The same names.
use Rattle.std.proofs.Common.{◌≡◌, ◌∙◌, ◌<◌, ℕ, suc, List, [], ◌∷◌, length, get_or, Vec, refl, arith, sym, ap}
use Rattle.std.specs.Global.{Global}
use Rattle.std.proofs.lemmas.List.{get_or-map}
use Rattle.gw_rows.specs.Rows.{texts}

-- where each name is the other at its place, all are
pub same_names : (xs ys : List (Vec ℕ Global)) → length xs ≡ length ys
    → ((k : ℕ) (d e : Vec ℕ Global) → k < length xs → (get_or xs k d).items ≡ (get_or ys k e).items) → texts xs ≡ texts ys
same_names [] [] long each = refl
same_names [] (y ∷ ys) long each = absurd (omega (arith, long))
same_names (x ∷ xs) [] long each = absurd (omega (arith, long))
same_names (x ∷ xs) (y ∷ ys) long each =
    ap (λ t. t ∷ texts xs) (each 0 x y (omega arith))
    ∙ ap (λ ts. y.items ∷ ts) (same_names xs ys (omega (arith, long)) (λ k d e less. each (suc k) d e (omega (arith, less))))

-- and back
pub name_at : (xs ys : List (Vec ℕ Global)) (k : ℕ) (d e : Vec ℕ Global) → k < length xs → k < length ys → texts xs ≡ texts ys
    → (get_or xs k d).items ≡ (get_or ys k e).items
name_at xs ys k d e less few same =
    sym (get_or-map (λ (v : Vec ℕ Global). v.items) xs k d [] less) ∙ ap (λ ts. get_or ts k []) same
    ∙ get_or-map (λ (v : Vec ℕ Global). v.items) ys k e [] few
