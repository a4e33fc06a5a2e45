-- The tokens at the front of a line, as far as heads are made of them.
use Rattle.std.specs.Prelude.{◌≡◌, ℕ, List, Option, Some, None}
use Rattle.gw_text_tokens.specs.declared.tokens.Token.{Token}
use Rattle.gw_text_tokens.specs.declared.tokens.Token.TheVariants.{Name, Whole}
use Rattle.gw_text_tokens.specs.Heads.{front_name, behind_label, behind_digits}

-- a token is neither a name nor a whole number
abbrev pub IsNoLabel : Token → Type 0
IsNoLabel (Name name) = ⊥
IsNoLabel (Whole number) = ⊥
IsNoLabel token = Unit {0}

-- the name that a token is, if it is one
abbrev pub name_in : Token → Option (List ℕ)
name_in (Name name) = Some name.now
name_in token = None

-- what stands at the front and what follows it: a name, a whole number, or what is no label
abbrev pub IsTokenAt : List ℕ → Token → List ℕ → Type 0
IsTokenAt bytes (Name name) rest = (front_name bytes ≡ Some name.now) × (behind_label bytes ≡ Some rest)
IsTokenAt bytes (Whole number) rest = (front_name bytes ≡ None) × (behind_label bytes ≡ Some rest)
IsTokenAt bytes token rest = (front_name bytes ≡ None) × (behind_label bytes ≡ None)

-- what stands at the front, of which this follows the digits: a whole number, or a number with a point
abbrev pub IsNumberAt : List ℕ → Token → List ℕ → Type 0
IsNumberAt behind (Name name) rest = ⊥
IsNumberAt behind (Whole number) rest = behind_digits behind ≡ Some rest
IsNumberAt behind token rest = behind_digits behind ≡ None
