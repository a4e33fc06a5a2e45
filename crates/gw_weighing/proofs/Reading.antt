-- Weights of blocks, of user chains and of return rows in one list, read at their places.
use Rattle.std.proofs.Common.{◌≡◌, ℕ, zero, suc, ◌+◌, ◌-◌, ◌≤◌, ◌<◌, List, ◌++◌, length, sym, ap, ◌∙◌, arith, inl, inr, nat_lt, if◌then◌else◌, length-append}
use Rattle.std.specs.Prelude.{slice_index_or}
use Rattle.std.proofs.lemmas.Bool.{cases_lt}
use Rattle.std.proofs.lemmas.Bool.Decides.{nat_tests}
use Rattle.std.proofs.lemmas.List.{get_or_past, get_or_append_left, get_or-append_right}
use Rattle.gw_object.specs.Entities.{chains_in}
use Rattle.gw_object.specs.declared.parts.Parts.{Parts}
use Rattle.gw_rules.specs.Kinds.{chain_place}
use Rattle.gw_rules.specs.Weights.{weight_at as weight_of_block}
use Rattle.gw_least_weights.specs.Rules.{weight_at}
use Rattle.gw_weighing.specs.Layout.{layout_of, places, of_block, of_chain, of_row}

-- a choice by a number that is below another one
pub chosen : (i n a b : ℕ) → i < n → (if nat_lt i n then a else b) ≡ a
chosen i n a b h = grind (arith, nat_tests)

-- and by one that isn't
pub other : (i n a b : ℕ) → n ≤ i → (if nat_lt i n then a else b) ≡ b
other i n a b h = grind (arith, nat_tests)

-- weights at places are those of blocks and of user chains
pub record Reads (p : Parts) (weights blocks chains : List ℕ) : Type 0 where
  pub at_block : (b : ℕ) → weight_at weights (of_block (layout_of p) b) ≡ weight_of_block blocks b
  pub at_chain : (e : ℕ) → weight_at weights (of_chain (layout_of p) p.entities e) ≡ slice_index_or chains (chain_place p.entities e) 0

module _ (p : Parts) (bs cs rs : List ℕ) (blocks : length bs ≡ length p.blocks) (chains : length cs ≡ chains_in p.entities)
    (rows : length rs ≡ length p.returns) where
  abbrev pub joined : List ℕ
  joined = bs ++ (cs ++ rs)

  pub joined_length : length joined ≡ places (layout_of p)
  joined_length = omega (arith, blocks, chains, rows, length-append bs (cs ++ rs), length-append cs rs)

  nothing_behind : weight_at joined (places (layout_of p)) ≡ 0
  nothing_behind = get_or_past joined (places (layout_of p)) 0 (omega (arith, joined_length))

  at_block : (b : ℕ) → weight_at joined (of_block (layout_of p) b) ≡ weight_of_block bs b
  at_block zero = nothing_behind
  at_block (suc i) =
      elim (cases_lt i (length p.blocks)) [
        | inl lt ↦ ap (weight_at joined) (chosen i (length p.blocks) i (places (layout_of p)) lt)
            ∙ get_or_append_left bs (cs ++ rs) 0 i (omega (arith, blocks, lt))
        | inr le ↦ ap (weight_at joined) (other i (length p.blocks) i (places (layout_of p)) le) ∙ nothing_behind
            ∙ sym (get_or_past bs i 0 (omega (arith, blocks, le)))
      ]

  -- behind the blocks
  behind_blocks : (k : ℕ) → weight_at joined (length p.blocks + k) ≡ weight_at (cs ++ rs) k
  behind_blocks k =
      let same : length p.blocks + k - length p.blocks ≡ k = omega arith in
      get_or-append_right bs (cs ++ rs) (length p.blocks) (length p.blocks + k) 0 blocks (omega arith) ∙ ap (weight_at (cs ++ rs)) same

  at_chain : (e : ℕ) → weight_at joined (of_chain (layout_of p) p.entities e) ≡ slice_index_or cs (chain_place p.entities e) 0
  at_chain e =
      let k = chain_place p.entities e in
      elim (cases_lt k (chains_in p.entities)) [
        | inl lt ↦ ap (weight_at joined) (chosen k (chains_in p.entities) (length p.blocks + k) (places (layout_of p)) lt)
            ∙ behind_blocks k ∙ get_or_append_left cs rs 0 k (omega (arith, chains, lt))
        | inr le ↦ ap (weight_at joined) (other k (chains_in p.entities) (length p.blocks + k) (places (layout_of p)) le) ∙ nothing_behind
            ∙ sym (get_or_past cs k 0 (omega (arith, chains, le)))
      ]

  pub reads : Reads p joined bs cs
  reads = record { at_block = at_block; at_chain = at_chain }

  -- what a return row gathers
  pub at_row : (r : ℕ) → weight_at joined (of_row (layout_of p) r) ≡ weight_at rs r
  at_row r =
      let c = chains_in p.entities in
      let place : of_row (layout_of p) r ≡ length p.blocks + (c + r) = omega arith in
      let same : c + r - c ≡ r = omega arith in
      ap (weight_at joined) place ∙ behind_blocks (c + r) ∙ get_or-append_right cs rs c (c + r) 0 chains (omega arith) ∙ ap (weight_at rs) same
