-- When a case passes, and how outcomes are noted.
use Rattle.std.specs.Prelude.{◌≡◌, ◌++◌, ◌∷◌, [], Bool, ◌&&◌, length, List, ◌==◌}
use Rattle.gw_cases.specs.declared.cases.Case.{Case}

-- something was asked, and nothing came otherwise than it was wanted
abbrev pub case_passes : Case → Bool
case_passes case = case.has_asked && length case.differences.items == 0

-- one outcome more is noted, and all before it stay
abbrev pub GrowsByOne : List Bool → List Bool → Type 0
GrowsByOne old new = (passes : Bool) × (new ≡ old ++ passes ∷ [])
