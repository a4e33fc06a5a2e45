-- A TRANSFER in parameter mode: where its returns lead to marked blocks.
use Rattle.std.proofs.Common.{◌≡◌, ℕ, suc, ◌+◌, List, [], ◌∷◌, map, Bool, false, ◌||◌, refl, ap, ◌∙◌, arith, get_or}
use Rattle.std.specs.List.{list_any}
use Rattle.gw_object.specs.declared.blocks.Block.TheVariants as blocks
use Rattle.gw_rules.specs.Exits.{returns_to}
use Rattle.gw_slopes.specs.Sloped.{marked_at, leads_back}

-- the block behind that of number c stands at place c
marked_behind : (marks : List Bool) (c : ℕ) → marked_at marks (c + 1) ≡ get_or marks c false
marked_behind marks c = let one : c + 1 ≡ suc c = omega arith in ap (marked_at marks) one

pub any_behind : (marks : List Bool) (b parameter q : ℕ) (callers : List ℕ)
    → list_any (leads_back marks b (blocks.TransferByParameter parameter) q) (map returns_to callers) ≡ list_any (λ c. get_or marks c false) callers
any_behind marks b parameter q [] = refl
any_behind marks b parameter q (c ∷ callers) =
    ap (λ first. first || list_any (leads_back marks b (blocks.TransferByParameter parameter) q) (map returns_to callers)) (marked_behind marks c)
    ∙ ap (λ rest. get_or marks c false || rest) (any_behind marks b parameter q callers)
