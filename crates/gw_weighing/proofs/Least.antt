-- Weights that keep the rules of an object at places pass in it, and those that pass keep them.
use Rattle.std.proofs.Common.{◌≡◌, ℕ, zero, suc, ◌+◌, ◌-◌, ◌≤◌, ◌<◌, List, [], length, map, Option, Some, None, true, ◌&&◌, All, refl, sym, ap, ◌∙◌}
use Rattle.std.proofs.Common.{subst, arith, inl, inr, get_or, is_some}
use Rattle.std.specs.Prelude.{slice_get, option_map}
use Rattle.std.specs.Option.{option_flatten, option_map_or}
use Rattle.std.proofs.lemmas.Bool.{cases_lt, and_parts, false≢true}
use Rattle.std.proofs.lemmas.Option.{slice_get-map, slice_get_within, slice_get-get_or, get_or_from_slice_get, slice_get_past}
use Rattle.std.proofs.lemmas.List.Elements.{All-nil}
use Rattle.gw_object.specs.declared.blocks.Unlink.{Unlink}
use Rattle.gw_object.specs.declared.blocks.Block.{Block}
use Rattle.gw_object.specs.declared.blocks.Block.TheVariants as blocks
use Rattle.gw_object.specs.Returns.{row_blocks}
use Rattle.gw_object.specs.declared.parts.ReturnRow.{ReturnRow}
use Rattle.gw_object.specs.declared.parts.TableState.{TableState}
use Rattle.gw_object.specs.declared.parts.Parts.{Parts}
use Rattle.gw_rules.specs.Exits.{exits, exits_with, returns_to}
use Rattle.gw_rules.specs.Kinds.{block_at, chain_place, chain_row}
use Rattle.gw_rules.specs.Rows.{Row}
use Rattle.gw_rules.specs.Seen.{row_meaning}
use Rattle.gw_rules.specs.Blocks.{returns_read}
use Rattle.gw_rules.specs.Flow.{own_row, own_table}
use Rattle.gw_rules.specs.Weights.{weight_at as weight_of_block}
use Rattle.gw_rules.specs.WeightsLaws.{PaysExit, PaysChain, Pays}
use Rattle.gw_rules.specs.declared.edges.Target.TheVariants as targets
use Rattle.gw_weights.proofs.Reading.{row_seen}
use Rattle.gw_least_weights.specs.declared.rules.Rule.{Rule}
use Rattle.gw_least_weights.specs.Rules.{IsWeight, Keeps, weight_at, of_sum}
use Rattle.gw_weighing.specs.Layout.{layout_of, places, of_chain, of_row}
use Rattle.gw_weighing.specs.Sums.{first_sum, second_sum, for_returns, for_returns_held, row_held}
use Rattle.gw_weighing.specs.Rules.{state_at, block_rule, chain_rule}
use Rattle.gw_weighing.specs.Certificates.{with_weights}
use Rattle.gw_weighing.proofs.Reading.{Reads, chosen}
use Rattle.gw_weighing.proofs.Exits.{few_exits, both_paid, first_asked, second_asked, with_entry_is}
use Rattle.gw_weighing.proofs.Returns.{held_blocks, blocks_held, greatest_behind, each_behind, weight_behind, PaysReturns, exits_from, from_exits}
use Rattle.gw_weighing.proofs.Returns.{HasGathered, pays_returns, returns_asked}
use Rattle.gw_weighing.proofs.Bridge.{gather, send, OfEach, is_there, there_if}

-- ROWS

-- the row of a block is that which stands for it, seen
own_row_is : (p : Parts) (i : ℕ) → own_row p (suc i) ≡ option_map (row_meaning p.returns) (state_at p i)
own_row_is p i =
    let before : suc i - 1 ≡ i = omega arith in
    row_seen (row_meaning p.returns) p.states (suc i) (λ e. absurd (omega (arith, e)))
    ∙ ap (λ k. option_map (row_meaning p.returns) (option_flatten (slice_get p.states k))) before

seen_there : {X Y : Type 0} (see : X → Y) (row : Option (Option X)) → is_some (option_flatten (option_map (option_map see) row)) ≡ is_some (option_flatten row)
seen_there see None = refl
seen_there see (Some None) = refl
seen_there see (Some (Some x)) = refl

-- a user chain has a row in an object's table where one stands for it
chain_there : (p : Parts) (e : ℕ) → is_some (own_table p (targets.Chain e)) ≡ is_some (chain_row p e)
chain_there p e =
    let see = row_meaning p.returns in
    ap (λ o. is_some (option_flatten o)) (slice_get-map (option_map see) p.chain_states (chain_place p.entities e))
    ∙ seen_there see (slice_get p.chain_states (chain_place p.entities e))

-- the blocks of a return row that is there
row_blocks_at : (rows : List ReturnRow) (r : ℕ) (d : ReturnRow) → r < length rows → row_blocks rows r ≡ (get_or rows r d).blocks
row_blocks_at rows r d within = ap (λ (o : Option ReturnRow). option_map_or (λ (row : ReturnRow). row.blocks) o []) (slice_get-get_or rows r d within)

no_row : (rows : List ReturnRow) (r : ℕ) → length rows ≤ r → row_blocks rows r ≡ []
no_row rows r le = ap (λ (o : Option ReturnRow). option_map_or (λ (row : ReturnRow). row.blocks) o []) (slice_get_past rows r le)

module _ (p : Parts) (weights bs cs : List ℕ) (reads : Reads p weights bs cs) (many : length bs ≡ length p.blocks) (range : All IsWeight bs) where
  abbrev q : Parts
  q = with_weights p bs cs

  abbrev n : ℕ
  n = length p.blocks

  -- the weight at the place of a block
  at_place : (i : ℕ) → i < n → weight_at weights i ≡ weight_of_block bs (suc i)
  at_place i lt = sym (ap (weight_at weights) (chosen i n i (places (layout_of p)) lt)) ∙ reads.at_block (suc i)

  in_range : (i : ℕ) → i < n → IsWeight (weight_of_block bs (suc i))
  in_range i lt = range i 0 (subst (λ m. i < m) (sym many) lt)

  -- WHAT KEEPS THE RULES PASSES, where other weights do

  module _ (us vs : List ℕ)
      (paid : (b : ℕ) (block : Block) (row : Row) → block_at p.blocks b ≡ Some block → own_row p b ≡ Some row
      → Pays (with_weights p us vs) b block row) (keeps : OfEach p (Keeps weights)) where
    abbrev other : Parts
    other = with_weights p us vs

    gathered : (r : ℕ) → HasGathered p weights bs cs (weight_at weights (of_row (layout_of p) r)) (row_blocks p.returns r)
    gathered r =
        elim (cases_lt r (length p.returns)) [
          | inl lt ↦ λ j e there. within_row lt j e there
          | inr le ↦ subst (HasGathered p weights bs cs (weight_at weights (of_row (layout_of p) r))) (sym (no_row p.returns r le))
              (All-nil (λ b. b < n → weight_of_block bs (b + 1) ≤ weight_at weights (of_row (layout_of p) r)))
        ]
      where
        within_row : r < length p.returns → HasGathered p weights bs cs (weight_at weights (of_row (layout_of p) r)) (row_blocks p.returns r)
        within_row lt = subst (HasGathered p weights bs cs (weight_at weights (of_row (layout_of p) r)))
            (sym (row_blocks_at p.returns r (record { blocks = [] }) lt))
            (λ j e there inside.
            let b = get_or (get_or p.returns r (record { blocks = [] })).blocks j e in
            let kept = (keeps.row r (record { blocks = [] }) lt j e there inside).0 in
            omega (arith, kept, weight_behind bs b, at_place b inside))

    held_pay : (b : ℕ) (held : Option ℕ) → 1 ≤ weight_of_block bs b → of_sum weights (for_returns_held (layout_of p) p.returns held)
        ≤ weight_of_block bs b → PaysReturns p weights bs cs b (held_blocks p.returns held)
    held_pay b None some asked = All-nil (λ r. 1 + weight_of_block bs (r + 1) ≤ weight_of_block bs b)
    held_pay b (Some r) some asked = pays_returns p weights bs cs b r many some (gathered r) asked

    exits_pay : (b : ℕ) (block : Block) (own : TableState) → IsWeight (weight_of_block bs b)
        → All (PaysExit other b block) (exits_with (returns_read block (row_meaning p.returns own)) block)
        → of_sum weights (first_sum (layout_of p) p b block own) ≤ weight_of_block bs b
        → of_sum weights (second_sum (layout_of p) p b block) ≤ weight_of_block bs b
        → All (PaysExit q b block) (exits_with (returns_read block (row_meaning p.returns own)) block)
    exits_pay b (blocks.TransferByParameter q0) own range before first second =
        let returns = blocks_held p.returns own q0 in
        let others = subst (λ (rs : List ℕ). All (PaysExit other b (blocks.TransferByParameter q0)) (map returns_to rs)) returns before in
        subst (λ (rs : List ℕ). All (PaysExit q b (blocks.TransferByParameter q0)) (map returns_to rs)) (sym returns)
        (exits_from p weights bs cs us vs b q0 (held_blocks p.returns (row_held own q0)) others (held_pay b (row_held own q0) range.0 first))
    exits_pay b (blocks.Link l) own range before first second = All-nil (PaysExit q b (blocks.Link l))
    exits_pay b block own range before first second = both_paid p weights bs cs reads us vs b block (exits block) (few_exits block) range.1 before first second

    chain_pays : (i : ℕ) (block : Block) (own : TableState) → i < n → state_at p i ≡ Some own → slice_get p.blocks i ≡ Some block
        → PaysChain other (suc i) block
        → of_sum weights (first_sum (layout_of p) p (suc i) block own) ≤ weight_of_block bs (suc i) → PaysChain q (suc i) block
    chain_pays i (blocks.Link l) own lt here is before first =
        omega (arith, with_entry_is weights (of_chain (layout_of p) p.entities l.chain), reads.at_chain l.chain, first)
    chain_pays i (blocks.Unlink u) own lt here is before first = (
      before.0,
      λ there.
          let row : is_some (chain_row p u.chain) ≡ true = sym (chain_there p u.chain) ∙ there in
          let both : (is_some (state_at p i) && is_some (chain_row p u.chain)) ≡ true = rw (here, row) refl in
          let block : get_or p.blocks i (blocks.Unlink u) ≡ blocks.Unlink u = get_or_from_slice_get p.blocks i (blocks.Unlink u) (blocks.Unlink u) is in
          let rule : chain_rule (layout_of p) p i (get_or p.blocks i (blocks.Unlink u)) ≡ Some (send p u.chain u.target) =
          ap (chain_rule (layout_of p) p i) block ∙ is_there (is_some (state_at p i) && is_some (chain_row p u.chain)) (send p u.chain u.target) both in
          let kept = (keeps.chain i (blocks.Unlink u) lt (send p u.chain u.target) rule).0 in
          omega (arith, kept, reads.at_block u.target, reads.at_chain u.chain),
    )
    chain_pays i block own lt here is before first = tt

    pays_in : (i : ℕ) (block : Block) (own : Option TableState) (row : Row) → state_at p i ≡ own → slice_get p.blocks i ≡ Some block
        → Pays other (suc i) block row → option_map (row_meaning p.returns) own ≡ Some row → Pays q (suc i) block row
    pays_in i block None row here is paid has = absurd (cc)
    pays_in i block (Some own) row here is paid has =
        let lt = slice_get_within p.blocks i block is in
        let same : get_or p.blocks i block ≡ block = get_or_from_slice_get p.blocks i block block is in
        let kept : Keeps weights (block_rule (layout_of p) p i block (Some own)) =
        subst (λ o. Keeps weights (block_rule (layout_of p) p i block o)) here
        (subst (λ b. Keeps weights (block_rule (layout_of p) p i b (state_at p i))) same (keeps.block i block lt)) in
        let weighs = at_place i lt in
        let first : of_sum weights (first_sum (layout_of p) p (suc i) block own) ≤ weight_of_block bs (suc i) = omega (arith, kept.0, weighs) in
        let second : of_sum weights (second_sum (layout_of p) p (suc i) block) ≤ weight_of_block bs (suc i) = omega (arith, kept.1, weighs) in
        let row_is : row_meaning p.returns own ≡ row = cc in
        let before : Pays other (suc i) block (row_meaning p.returns own) = subst (Pays other (suc i) block) (sym row_is) paid in
        subst (Pays q (suc i) block) row_is (record {
          slope = before.slope;
          chain = chain_pays i block own lt here is before.chain first;
          exits = exits_pay (suc i) block own (in_range i lt) before.exits first second;
        })

    pub pays : (b : ℕ) (block : Block) (row : Row) → block_at p.blocks b ≡ Some block → own_row q b ≡ Some row → Pays q b block row
    pays zero block row is has = absurd (cc)
    pays (suc i) block row is has = pays_in i block (state_at p i) row refl is (paid (suc i) block row is has) (sym (own_row_is p i) ∙ has)

  -- WHAT PASSES KEEPS THE RULES

  module _ (paid : (b : ℕ) (block : Block) (row : Row) → block_at p.blocks b ≡ Some block → own_row q b ≡ Some row → Pays q b block row)
      (of_rows : (r : ℕ) (d : ReturnRow) → r < length p.returns → weight_at weights (of_row (layout_of p) r)
      ≡ greatest_behind bs (get_or p.returns r d).blocks) where
    held_asked : (b : ℕ) (held : Option ℕ) → PaysReturns p weights bs cs b (held_blocks p.returns held)
        → of_sum weights (for_returns_held (layout_of p) p.returns held) ≤ weight_of_block bs b
    held_asked b None h = omega arith
    held_asked b (Some r) h =
        elim (cases_lt r (length p.returns)) [
          | inl lt ↦ returns_asked p weights bs cs b r many range
              (of_rows r (record { blocks = [] }) lt ∙ sym (ap (greatest_behind bs) (row_blocks_at p.returns r (record { blocks = [] }) lt))) h
          | inr le ↦ none_asked le
        ]
      where
        none_asked : length p.returns ≤ r → of_sum weights (for_returns (layout_of p) p.returns r) ≤ weight_of_block bs b
        none_asked le = rw (no_row p.returns r le) (omega arith)

    first_kept : (b : ℕ) (block : Block) (own : TableState) → Pays q b block (row_meaning p.returns own)
        → of_sum weights (first_sum (layout_of p) p b block own) ≤ weight_of_block bs b
    first_kept b (blocks.TransferByParameter q0) own pay =
        held_asked b (row_held own q0)
        (from_exits p weights bs cs b q0 (held_blocks p.returns (row_held own q0))
        (subst (λ (rs : List ℕ). All (PaysExit q b (blocks.TransferByParameter q0)) (map returns_to rs)) (blocks_held p.returns own q0) pay.exits))
    first_kept b (blocks.Link l) own pay = let chain = pay.chain in
        omega (arith, with_entry_is weights (of_chain (layout_of p) p.entities l.chain), reads.at_chain l.chain, chain)
    first_kept b block own pay = first_asked p weights bs cs reads b block (exits block) pay.exits

    second_kept : (b : ℕ) (block : Block) (own : TableState) → Pays q b block (row_meaning p.returns own)
        → of_sum weights (second_sum (layout_of p) p b block) ≤ weight_of_block bs b
    second_kept b (blocks.TransferByParameter q0) own pay = omega arith
    second_kept b (blocks.Link l) own pay = omega arith
    second_kept b block own pay = second_asked p weights bs cs reads b block (exits block) pay.exits

    block_kept : (i : ℕ) (block : Block) (own : Option TableState) → i < n → state_at p i ≡ own → slice_get p.blocks i ≡ Some block
        → Keeps weights (block_rule (layout_of p) p i block own)
    block_kept i block None lt here is = (omega arith, omega arith)
    block_kept i block (Some own) lt here is =
        let pay = paid (suc i) block (row_meaning p.returns own) is (own_row_is p i ∙ ap (option_map (row_meaning p.returns)) here) in
        let weighs = at_place i lt in
        (omega (arith, first_kept (suc i) block own pay, weighs), omega (arith, second_kept (suc i) block own pay, weighs))

    chain_kept : (i : ℕ) (block : Block) (r : Rule) → i < n → slice_get p.blocks i ≡ Some block → chain_rule (layout_of p) p i block ≡ Some r → Keeps weights r
    chain_kept i (blocks.Unlink u) r lt is rule =
        let here = there_if (is_some (state_at p i) && is_some (chain_row p u.chain)) (send p u.chain u.target) r rule in
        let two = and_parts (is_some (state_at p i)) (is_some (chain_row p u.chain)) here.0 in
        subst (Keeps weights) here.1 (chain_paid i u (state_at p i) refl is two.0 two.1)
      where
        chain_paid : (i : ℕ) (u : Unlink) (own : Option TableState) → state_at p i ≡ own → slice_get p.blocks i ≡ Some (blocks.Unlink u)
            → is_some own ≡ true → is_some (chain_row p u.chain) ≡ true → Keeps weights (send p u.chain u.target)
        chain_paid i u None here is some row = absurd (false≢true some)
        chain_paid i u (Some own) here is some row =
            let pay = paid (suc i) (blocks.Unlink u) (row_meaning p.returns own) is (own_row_is p i ∙ ap (option_map (row_meaning p.returns)) here) in
            let asked = pay.chain.1 (chain_there p u.chain ∙ row) in
            (omega (arith, asked, reads.at_block u.target, reads.at_chain u.chain), omega arith)
    chain_kept i block r lt is rule = absurd (cc)

    row_kept : (r : ℕ) (d : ReturnRow) → r < length p.returns → All (λ b. b < n → Keeps weights (gather p r b)) (get_or p.returns r d).blocks
    row_kept r d lt j e there inside =
        let b = get_or (get_or p.returns r d).blocks j e in
        let behind = each_behind bs (get_or p.returns r d).blocks j e there in
        (omega (arith, behind, weight_behind bs b, at_place b inside, of_rows r d lt), omega arith)

    pub kept : OfEach p (Keeps weights)
    kept = record {
      block = λ i d lt. block_kept i (get_or p.blocks i d) (state_at p i) lt refl (slice_get-get_or p.blocks i d lt);
      chain = λ i d lt r rule. chain_kept i (get_or p.blocks i d) r lt (slice_get-get_or p.blocks i d lt) rule;
      row = row_kept;
    }
