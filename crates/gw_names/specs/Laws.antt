-- What holds of ledgers and of the numbers of names.
use Rattle.std.specs.Prelude.{◌≡◌, ℕ, ◌≤◌, List, Some, None, true, false}
use Rattle.std.specs.List.{All, slice_get}
use Rattle.gw_text.specs.declared.model.Statement.{Statement}
use Rattle.gw_name_uses.specs.Sites.{mentioned_in}
use Rattle.gw_names.specs.declared.ledger.Noted.{Noted}
use Rattle.gw_names.specs.declared.known.Known.{Known}
use Rattle.gw_names.specs.Ledger.{is_before, with_notes}
use Rattle.gw_names.specs.Known.{Key, is_same}
use Rattle.gw_names.specs.Sights.{number_among, parameter_of, is_used}
use Rattle.gw_names.specs.Judgement.{declared_by, refusals_by, refusals_in}
use Rattle.gw_names.specs.Naming.{Knows}

-- it is one of these refusals, and none of them goes before it
pub record IsFirst (one : Noted) (noted : List Noted) : Type 0 where
  pub place : ℕ
  pub among : slice_get noted place ≡ Some one
  pub first : All (λ (other : Noted). is_before other one ≡ false) noted

-- what a ledger keeps of refusals is the first of them
abbrev pub LedgerKeepsTheFirst : Type 0
LedgerKeepsTheFirst = (noted : List Noted) (one : Noted) → with_notes None noted ≡ Some one → IsFirst one noted

-- two entities never share a number
abbrev pub EntitiesHaveTheirOwn : Type 0
EntitiesHaveTheirOwn = (entities : List Key) (one other : Key) (number : ℕ) → number_among entities one ≡ Some number
    → number_among entities other ≡ Some number → is_same one other ≡ true

-- the number of a named parameter is from 1 to 64, and the text doesn't use it
pub record IsFree (statements : List Statement) (number : ℕ) : Type 0 where
  pub least : 1 ≤ number
  pub most : number ≤ 64
  pub unused : is_used (mentioned_in statements) number ≡ false

abbrev pub ParametersAreFree : Type 0
ParametersAreFree = (statements : List Statement) (name : List ℕ) (number : ℕ) → parameter_of statements name ≡ Some number → IsFree statements number

-- and two named parameters never share one
abbrev pub ParametersHaveTheirOwn : Type 0
ParametersHaveTheirOwn = (statements : List Statement) (one other : List ℕ) (number : ℕ) → parameter_of statements one ≡ Some number
    → parameter_of statements other ≡ Some number → one ≡ other

-- where all names are known, the uses that are refused are those of the text
abbrev pub RefusalsAreThoseOfTheText : Type 0
RefusalsAreThoseOfTheText = (statements : List Statement) (known : Known) → Knows statements known
    → refusals_by (declared_by known) statements ≡ refusals_in statements
