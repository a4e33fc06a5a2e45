-- Sets among those of return rows.
use Rattle.std.proofs.Common.{◌≡◌, ℕ, zero, suc, List, [], ◌∷◌, Some, true, sym, ap, ◌∙◌}
use Rattle.std.specs.Prelude.{slice_get, nat_eq}
use Rattle.std.specs.List.{list_any}
use Rattle.std.specs.Cmp.Lexicographic.{pointwise}
use Rattle.std.proofs.lemmas.Bool.{or_left, or_right}
use Rattle.gw_object.specs.declared.parts.ReturnRow.{ReturnRow}
use Rattle.gw_settle.specs.Numbers.{sets_of}

-- a set that a return row has is among them
pub any_set : (returns : List ReturnRow) (bs : List ℕ) (i : ℕ) (row : ReturnRow) → slice_get returns i ≡ Some row
    → pointwise nat_eq row.blocks bs ≡ true → list_any (λ cs. pointwise nat_eq cs bs) (sets_of returns) ≡ true
any_set [] bs i row is same = absurd (cc)
any_set (x ∷ returns) bs zero row is same =
    let e : row ≡ x = cc in
    or_left (pointwise nat_eq x.blocks bs) (list_any (λ cs. pointwise nat_eq cs bs) (sets_of returns))
    (ap (λ (r : ReturnRow). pointwise nat_eq r.blocks bs) (sym e) ∙ same)
any_set (x ∷ returns) bs (suc i) row is same =
    or_right (pointwise nat_eq x.blocks bs) (list_any (λ cs. pointwise nat_eq cs bs) (sets_of returns)) (any_set returns bs i row is same)
