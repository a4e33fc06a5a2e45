-- What is put behind a text, where it is put.
use Rattle.std.proofs.Common.{◌≡◌, ◌∙◌, List, ℕ, ◌∷◌, [], ◌++◌, ap, Result, Ok, Err, OnOk}
use Rattle.std.proofs.lemmas.List.{append_assoc}
use Rattle.gw_listing.specs.Lines.{Opening, Front, AddsLines, EndsLine}
use Rattle.gw_listing.proofs.Adding.{fronted, joined}

-- a word and a number, and then an end
pub grown : {A E : Type 0} (old word number end middle new : List ℕ) (r : Result A E) → middle ≡ old ++ (word ++ number)
    → OnOk r (new ≡ middle ++ end) → OnOk r (new ≡ old ++ (word ++ number ++ end))
grown old word number end middle new (Ok x) first second =
    second ∙ ap (λ m. m ++ end) first ∙ append_assoc old (word ++ number) end
grown old word number end middle new (Err e) first second = tt

-- a line, behind its front
pub fronted_where : {A E : Type 0} (front old middle new : List ℕ) (r : Result A E) → middle ≡ old ++ front → OnOk r (EndsLine middle new)
    → OnOk r (AddsLines (Front front ∷ []) old new)
fronted_where front old middle new (Ok x) is ends = fronted front old middle new is ends
fronted_where front old middle new (Err e) is ends = tt

-- lines behind lines
pub joined_where : {A E : Type 0} (some more : List Opening) (old middle new : List ℕ) (r : Result A E) → AddsLines some old middle
    → OnOk r (AddsLines more middle new) → OnOk r (AddsLines (some ++ more) old new)
joined_where some more old middle new (Ok x) before after = joined some more old middle new before after
joined_where some more old middle new (Err e) before after = tt
