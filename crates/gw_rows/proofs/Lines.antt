-- Lines with their line feeds.
use Rattle.std.proofs.Common.{◌≡◌, ◌∙◌, ◌++◌, ◌-◌, ◌↔◌, ℕ, List, [], ◌∷◌, length, take, drop, Bool, true, false, sym, ap, arith}
use Rattle.std.specs.Prelude.{IsTrue}
use Rattle.std.specs.Str.{bytes_eq}
use Rattle.std.proofs.lemmas.Bool.{true≢false}
use Rattle.std.proofs.lemmas.List.{length_push, take-append-drop, take_at, drop_at}
use Rattle.std.proofs.lemmas.Slice.Eq.{bytes_eq-Decides}

-- what stands before the last byte of a line and its line feed
front_of : (line text : List ℕ) (n : ℕ) → n ≡ length text - 1 → text ≡ line ++ 10 ∷ [] → take n text ≡ line
front_of line text n last is =
    ap (take n) is ∙ take_at line (10 ∷ []) n (omega (arith, ap length is, length_push line 10))

end_of : (line text : List ℕ) (n : ℕ) → n ≡ length text - 1 → text ≡ line ++ 10 ∷ [] → drop n text ≡ 10 ∷ []
end_of line text n last is =
    ap (drop n) is ∙ drop_at line (10 ∷ []) n (omega (arith, ap length is, length_push line 10))

-- a text is a line and its line feed where its front is the line, and its end the line feed
pub is_line : (line text front end : List ℕ) (r : Bool) (n : ℕ) → front ≡ take n text → end ≡ drop n text → n ≡ length text - 1
    → bytes_eq front line ≡ true → r ≡ bytes_eq end (10 ∷ []) → IsTrue r ↔ (text ≡ line ++ 10 ∷ [])
is_line line text front end r n front_is end_is last same test = (
  λ holds.
      let before = (bytes_eq-Decides front line).0 same in
      let behind = (bytes_eq-Decides end (10 ∷ [])).0 (sym test ∙ holds) in
      sym (take-append-drop n text) ∙ ap (λ ls. ls ++ drop n text) (sym front_is ∙ before) ∙ ap (λ ls. line ++ ls) (sym end_is ∙ behind),
  λ is. test ∙ (bytes_eq-Decides end (10 ∷ [])).1 (end_is ∙ end_of line text n last is),
)

pub is_no_line : (line text front : List ℕ) (r : Bool) (n : ℕ) → front ≡ take n text → n ≡ length text - 1
    → r ≡ bytes_eq front line → r ≡ false → IsTrue r ↔ (text ≡ line ++ 10 ∷ [])
is_no_line line text front r n front_is last test none = (
  λ holds. absurd (true≢false (sym holds ∙ none)),
  λ is. test ∙ (bytes_eq-Decides front line).1 (front_is ∙ front_of line text n last is),
)
