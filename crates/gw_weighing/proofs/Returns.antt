-- What return rows gather, and what is asked for returns.
use Rattle.std.proofs.Common.{◌≡◌, ℕ, suc, ◌+◌, ◌-◌, ◌≤◌, ◌<◌, List, [], ◌∷◌, length, map, max, Option, Some, None, Bool, true, false, All, refl, ap}
use Rattle.std.proofs.Common.{◌∙◌, subst, arith, inl, inr, if◌then◌else◌, ◌==◌, nat_lt, get_or, le_trans}
use Rattle.std.specs.List.{find}
use Rattle.std.specs.Option.{option_map, option_and_then}
use Rattle.std.proofs.Math.Nat.{max-le, le-max_left, le-max_right}
use Rattle.std.proofs.lemmas.Bool.{cases_lt, ltb-true, ltb-false, or_parts, or_cases}
use Rattle.std.proofs.lemmas.List.{get_or_past}
use Rattle.std.proofs.lemmas.List.Elements.{All-nil, All-cons, All-head, All-tail, All-weaker}
use Rattle.gw_object.specs.Returns.{row_blocks}
use Rattle.gw_object.specs.declared.parts.ReturnRow.{ReturnRow}
use Rattle.gw_object.specs.declared.parts.TableKind.{TableKind}
use Rattle.gw_object.specs.declared.parts.TableKind.TheVariants.{Num, Ret}
use Rattle.gw_object.specs.declared.parts.TableParameter.{TableParameter}
use Rattle.gw_object.specs.declared.parts.TableState.{TableState}
use Rattle.gw_object.specs.declared.parts.Parts.{Parts}
use Rattle.gw_rules.specs.Exits.{returns_to}
use Rattle.gw_rules.specs.Kinds.{return_row_of}
use Rattle.gw_rules.specs.Rows.{kind_of, return_blocks}
use Rattle.gw_rules.specs.Seen.{row_meaning, kind_said}
use Rattle.gw_rules.specs.Weights.{weight_at as weight_of_block, slope_at}
use Rattle.gw_rules.specs.WeightsLaws.{Covers, PaysTo, PaysExit}
use Rattle.gw_rules.specs.declared.ways.Way.{Way}
use Rattle.gw_rules.specs.declared.ways.Way.TheVariants.{Goes}
use Rattle.gw_object.specs.declared.blocks.Block.{Block}
use Rattle.gw_object.specs.declared.blocks.Block.TheVariants as blocks
use Rattle.gw_weights.proofs.Reading.{kind_read}
use Rattle.gw_least_weights.specs.Rules.{IsWeight, weight_at, of_sum, nothing}
use Rattle.gw_weighing.specs.Layout.{layout_of, of_row}
use Rattle.gw_weighing.specs.Sums.{with_entry, row_held, is_one_followed, for_returns}
use Rattle.gw_weighing.specs.Certificates.{with_weights}
use Rattle.gw_weighing.proofs.Exits.{with_entry_is}

-- THE BLOCKS THAT A ROW SAYS

-- the blocks of a return row that may be there
abbrev pub held_blocks : List ReturnRow → Option ℕ → List ℕ
held_blocks rows None = []
held_blocks rows (Some r) = row_blocks rows r

kind_blocks : (rows : List ReturnRow) (kind : TableKind) → return_blocks (Some (kind_said rows kind)) ≡ held_blocks rows (return_row_of kind)
kind_blocks rows Num = refl
kind_blocks rows (Ret r) = refl

found_blocks : (rows : List ReturnRow) (set : Option TableParameter)
    → return_blocks (option_map (λ (s : TableParameter). kind_said rows s.kind) set)
    ≡ held_blocks rows (option_and_then (λ (s : TableParameter). return_row_of s.kind) set)
found_blocks rows None = refl
found_blocks rows (Some set) = kind_blocks rows set.kind

-- a parameter returns to the blocks of the row that it refers to
pub blocks_held : (rows : List ReturnRow) (row : TableState) (q : ℕ) → return_blocks (kind_of (row_meaning rows row) q) ≡ held_blocks rows (row_held row q)
blocks_held rows row q = ap return_blocks (kind_read rows row q) ∙ found_blocks rows (find (λ (set : TableParameter). set.number == q) row.parameters)

-- THE GREATEST WEIGHT BEHIND SOME BLOCKS

-- the block behind that of number b stands at place b
pub weight_behind : (weights : List ℕ) (b : ℕ) → weight_of_block weights (b + 1) ≡ weight_at weights b
weight_behind weights b = let one : b + 1 ≡ suc b = omega arith in ap (weight_of_block weights) one

-- the greatest of the weights of the blocks behind these, or the least weight
abbrev pub greatest_behind : List ℕ → List ℕ → ℕ
greatest_behind weights [] = 1
greatest_behind weights (b ∷ bs) = max (weight_of_block weights (b + 1)) (greatest_behind weights bs)

pub least_behind : (weights bs : List ℕ) → 1 ≤ greatest_behind weights bs
least_behind weights [] = omega arith
least_behind weights (b ∷ bs) = omega (arith, least_behind weights bs, le-max_right (weight_of_block weights (b + 1)) (greatest_behind weights bs))

pub each_behind : (weights bs : List ℕ) → All (λ b. weight_of_block weights (b + 1) ≤ greatest_behind weights bs) bs
each_behind weights [] = All-nil (λ b. weight_of_block weights (b + 1) ≤ greatest_behind weights [])
each_behind weights (b ∷ bs) =
    All-cons (λ c. weight_of_block weights (c + 1) ≤ greatest_behind weights (b ∷ bs)) b bs
    (le-max_left (weight_of_block weights (b + 1)) (greatest_behind weights bs))
    (All-weaker _ _ (λ c h. le_trans {n = weight_of_block weights (c + 1)} h
    (le-max_right (weight_of_block weights (b + 1)) (greatest_behind weights bs))) bs (each_behind weights bs))

pub behind_most : (weights bs : List ℕ) (most : ℕ) → 1 ≤ most → All (λ b. weight_of_block weights (b + 1) ≤ most) bs → greatest_behind weights bs ≤ most
behind_most weights [] most some h = some
behind_most weights (b ∷ bs) most some h =
    max-le (All-head (λ b. weight_of_block weights (b + 1) ≤ most) b bs h)
    (behind_most weights bs most some (All-tail (λ b. weight_of_block weights (b + 1) ≤ most) b bs h))

-- WHAT IS ASKED FOR RETURNS

module _ (p : Parts) (weights bs cs : List ℕ) where
  abbrev q : Parts
  q = with_weights p bs cs

  abbrev n : ℕ
  n = length p.blocks

  -- the block of number b weighs 1 more than each block behind these
  abbrev pub PaysReturns : ℕ → List ℕ → Type 0
  PaysReturns b returns = All (λ r. 1 + weight_of_block bs (r + 1) ≤ weight_of_block bs b) returns

  -- a TRANSFER in parameter mode changes no parameter: it pays for a return as each block that keeps a slope's parameter
  abbrev returning : ℕ → Block
  returning parameter = blocks.TransferByParameter parameter

  kept_slope : (b there elsewhere : ℕ) (other : Parts) (parameter : ℕ) (way : Way) (slope : Option (ℕ × ℕ)) → slope_at other.slopes b
      ≡ slope_at p.slopes b → 1 + there ≤ weight_of_block bs b
      → PaysTo other b (returning parameter) way elsewhere slope → PaysTo q b (returning parameter) way there slope
  kept_slope b there elsewhere other parameter way None same h before = h
  kept_slope b there elsewhere other parameter way (Some slope) same h before = (h, subst (λ own. Covers own slope) same before.1)

  weighs_next : (b there parameter : ℕ) (way : Way) (slope : Option (ℕ × ℕ)) → PaysTo q b (returning parameter) way there slope → 1 + there
      ≤ weight_of_block bs b
  weighs_next b there parameter way None h = h
  weighs_next b there parameter way (Some slope) h = h.0

  module _ (us vs : List ℕ) where
    abbrev other : Parts
    other = with_weights p us vs

    pub exits_from : (b parameter : ℕ) (returns : List ℕ) → All (PaysExit other b (returning parameter)) (map returns_to returns)
        → PaysReturns b returns → All (PaysExit q b (returning parameter)) (map returns_to returns)
    exits_from b parameter [] before h = All-nil (PaysExit q b (returning parameter))
    exits_from b parameter (r ∷ returns) before h =
        let first = All-head (PaysExit other b (returning parameter)) (returns_to r) (map returns_to returns) before in
        let weighs = All-head (λ r. 1 + weight_of_block bs (r + 1) ≤ weight_of_block bs b) r returns h in
        All-cons (PaysExit q b (returning parameter)) (returns_to r) (map returns_to returns)
        (λ made. kept_slope b (weight_of_block bs (r + 1)) (weight_of_block us (r + 1)) other parameter (Goes (r + 1))
        (slope_at p.slopes (r + 1)) refl weighs (first made))
        (exits_from b parameter returns (All-tail (PaysExit other b (returning parameter)) (returns_to r) (map returns_to returns) before)
        (All-tail (λ r. 1 + weight_of_block bs (r + 1) ≤ weight_of_block bs b) r returns h))

  pub from_exits : (b parameter : ℕ) (returns : List ℕ) → All (PaysExit q b (returning parameter)) (map returns_to returns) → PaysReturns b returns
  from_exits b parameter [] h = All-nil (λ r. 1 + weight_of_block bs (r + 1) ≤ weight_of_block bs b)
  from_exits b parameter (r ∷ returns) h =
      All-cons (λ r. 1 + weight_of_block bs (r + 1) ≤ weight_of_block bs b) r returns
      (weighs_next b (weight_of_block bs (r + 1)) parameter (Goes (r + 1)) (slope_at p.slopes (r + 1))
      (All-head (PaysExit q b (returning parameter)) (returns_to r) (map returns_to returns) h refl))
      (from_exits b parameter returns (All-tail (PaysExit q b (returning parameter)) (returns_to r) (map returns_to returns) h))

  -- a return row has gathered the weights of the blocks behind these
  abbrev pub HasGathered : ℕ → List ℕ → Type 0
  HasGathered gathered returns = All (λ r. r < n → weight_of_block bs (r + 1) ≤ gathered) returns

  -- where none of these is followed by a block
  unfollowed : (returns : List ℕ) → length bs ≡ n → is_one_followed (layout_of p) returns ≡ false → All (λ r. weight_of_block bs (r + 1) ≡ 0) returns
  unfollowed [] many none = All-nil (λ r. weight_of_block bs (r + 1) ≡ 0)
  unfollowed (r ∷ returns) many none =
      let two = or_parts (nat_lt r n) (is_one_followed (layout_of p) returns) none in
      All-cons (λ r. weight_of_block bs (r + 1) ≡ 0) r returns
      (weight_behind bs r ∙ get_or_past bs r 0 (omega (arith, many, ltb-false r n two.0))) (unfollowed returns many two.1)

  pays_if : (followed : Bool) (b : ℕ) (returns : List ℕ) (place : ℕ) → is_one_followed (layout_of p) returns ≡ followed → length bs ≡ n → 1
      ≤ weight_of_block bs b → HasGathered (weight_at weights place) returns
      → of_sum weights (if followed then with_entry place else nothing) ≤ weight_of_block bs b → PaysReturns b returns
  pays_if true b returns place is many some gathered asked i d within =
      let enters = with_entry_is weights place in
      let r = get_or returns i d in
      elim (cases_lt r n) [
        | inl lt ↦ omega (arith, gathered i d within lt, enters, asked)
        | inr le ↦ omega (arith, weight_behind bs r, get_or_past bs r 0 (omega (arith, many, le)), some)
      ]
  pays_if false b returns place is many some gathered asked i d within =
      omega (arith, unfollowed returns many is i d within, some)

  pub pays_returns : (b r : ℕ) → length bs ≡ n → 1 ≤ weight_of_block bs b → HasGathered (weight_at weights (of_row (layout_of p) r)) (row_blocks p.returns r)
      → of_sum weights (for_returns (layout_of p) p.returns r) ≤ weight_of_block bs b → PaysReturns b (row_blocks p.returns r)
  pays_returns b r many some gathered asked =
      pays_if (is_one_followed (layout_of p) (row_blocks p.returns r)) b (row_blocks p.returns r) (of_row (layout_of p) r) refl many some gathered asked

  -- the other way: where one is followed by a block, that weighs 1 or more
  followed_weighs : (b : ℕ) (returns : List ℕ) → length bs ≡ n → All IsWeight bs → is_one_followed (layout_of p) returns ≡ true
      → PaysReturns b returns → 2 ≤ weight_of_block bs b
  followed_weighs b [] many range is h = absurd (cc)
  followed_weighs b (r ∷ returns) many range is h =
      elim (or_cases (nat_lt r n) (is_one_followed (layout_of p) returns) is) [
        | inl lt ↦ omega (
          arith,
          All-head (λ r. 1 + weight_of_block bs (r + 1) ≤ weight_of_block bs b) r returns h,
          weight_behind bs r,
          (range r 0 (omega (arith, many, ltb-true r n lt))).0,
        )
        | inr more ↦ followed_weighs b returns many range more (All-tail (λ r. 1 + weight_of_block bs (r + 1) ≤ weight_of_block bs b) r returns h)
      ]

  asked_if : (followed : Bool) (b : ℕ) (returns : List ℕ) (place : ℕ) → is_one_followed (layout_of p) returns ≡ followed → length bs ≡ n
      → All IsWeight bs → weight_at weights place ≡ greatest_behind bs returns → PaysReturns b returns
      → of_sum weights (if followed then with_entry place else nothing) ≤ weight_of_block bs b
  asked_if true b returns place is many range gathered h =
      let two = followed_weighs b returns many range is h in
      let most : greatest_behind bs returns ≤ weight_of_block bs b - 1 =
      behind_most bs returns (weight_of_block bs b - 1) (omega (arith, two)) (λ i d within. omega (arith, h i d within)) in
      omega (arith, with_entry_is weights place, gathered, most, two)
  asked_if false b returns place is many range gathered h = omega arith

  pub returns_asked : (b r : ℕ) → length bs ≡ n → All IsWeight bs → weight_at weights (of_row (layout_of p) r)
      ≡ greatest_behind bs (row_blocks p.returns r) → PaysReturns b (row_blocks p.returns r)
      → of_sum weights (for_returns (layout_of p) p.returns r) ≤ weight_of_block bs b
  returns_asked b r many range gathered h =
      asked_if (is_one_followed (layout_of p) (row_blocks p.returns r)) b (row_blocks p.returns r) (of_row (layout_of p) r) refl many range gathered h
