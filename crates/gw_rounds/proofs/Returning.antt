-- Returns as exits.
use Rattle.std.proofs.Common.{◌≡◌, ℕ, List, [], ◌∷◌, ◌||◌, map, refl, ap}
use Rattle.std.specs.List.{list_any}
use Rattle.gw_rules.specs.Exits.{returns_to}
use Rattle.gw_rounds.specs.Rounds.{is_exit_to, is_behind}

-- an exit to behind one of these callers leads to a block where that stands behind one of them
pub any_behind : (b x : ℕ) (callers : List ℕ) → list_any (is_exit_to b x) (map returns_to callers) ≡ list_any (λ caller. is_behind caller x) callers
any_behind b x [] = refl
any_behind b x (caller ∷ callers) = ap (λ rest. is_behind caller x || rest) (any_behind b x callers)
