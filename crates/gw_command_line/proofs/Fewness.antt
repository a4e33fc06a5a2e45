-- A command that is none of those with options is of few words.
use Rattle.std.proofs.Common.{◌≡◌, ℕ, List, [], ◌∷◌, length, None, false, refl, sym}
use Rattle.std.specs.Prelude.{codes}
use Rattle.std.specs.Str.{bytes_eq}
use Rattle.gw_command_line.specs.Words.{command_in, command_of_few, command_of_more}

pub by_few : (words : List (List ℕ)) (name : List ℕ) (behind : List (List ℕ)) → words ≡ name ∷ behind → bytes_eq name (codes "study") ≡ false
    → bytes_eq name (codes "compare") ≡ false → bytes_eq name (codes "runs") ≡ false → bytes_eq name (codes "summary") ≡ false
    → bytes_eq name (codes "object") ≡ false → bytes_eq name (codes "shard") ≡ false → command_of_few words ≡ command_in words
by_few words name behind is s c r m o h = rw is (rw (s, c, r, m, o, h) refl)

-- of more than three words five alone may name a command
pub none_of_more : (words : List (List ℕ)) → (length words ≡ 5 → ⊥) → command_of_more words ≡ None
none_of_more [] h = refl
none_of_more (a ∷ []) h = refl
none_of_more (a ∷ b ∷ []) h = refl
none_of_more (a ∷ b ∷ c ∷ []) h = refl
none_of_more (a ∷ b ∷ c ∷ d ∷ []) h = refl
none_of_more (a ∷ b ∷ c ∷ d ∷ e ∷ []) h = absurd (h refl)
none_of_more (a ∷ b ∷ c ∷ d ∷ e ∷ f ∷ rest) h = refl
