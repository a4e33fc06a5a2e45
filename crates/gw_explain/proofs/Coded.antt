-- The table has a row for each code, and no other.
use Rattle.std.proofs.Common.{◌≡◌, ◌∙◌, ℕ, List, [], ◌∷◌, Bool, true, false, ◌==◌, ◌||◌, Option, Some, None, is_some, option_map, refl, ap, if◌then◌else◌}
use Rattle.std.specs.List.{list_any}
use Rattle.gw_explain.specs.declared.advice.TheConstants.{ADVICE}
use Rattle.gw_explain.specs.Codes.{words_in, advice_words, is_code}

-- the first row, or one behind it
either : {X : Type 0} (b : Bool) (words : X) (others : Option X) (is_there : Bool) → is_some others ≡ is_there
    → is_some (if b then Some words else others) ≡ (b || is_there)
either true words others is_there h = refl
either false words others is_there h = h

-- there are words where a row has the code
some : {R : Type 0} (key : R → ℕ) (words : R → List ℕ × List ℕ) (rows : List R) (code : ℕ) → is_some (words_in key words rows code)
    ≡ list_any (λ row. key row == code) rows
some key words [] code = refl
some key words (row ∷ rows) code = either (key row == code) _ _ _ (some key words rows code)

mapped : {A B : Type 0} (f : A → B) (o : Option A) → is_some o ≡ is_some (option_map f o)
mapped f None = refl
mapped f (Some x) = refl

-- the rows have the codes that have names, and no others
listed : (code : ℕ) → is_some (advice_words code) ≡ is_code code
unfolding advice_words is_code
listed code = some {R = ℕ × record { now : List ℕ } × record { now : List ℕ }} (λ row. row.0) (λ row. (row.1.now, row.2.now)) ADVICE code

pub coded_as : {A : Type 0} (f : A → List ℕ × List ℕ) (o : Option A) (code : ℕ) → option_map f o ≡ advice_words code → is_some o ≡ is_code code
coded_as f o code h = mapped f o ∙ ap is_some h ∙ listed code
