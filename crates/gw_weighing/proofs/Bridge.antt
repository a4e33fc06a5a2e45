-- The rules of an object at places, and where they stand.
use Rattle.std.proofs.Common.{◌≡◌, ℕ, ◌+◌, ◌*◌, ◌≤◌, ◌<◌, List, [], ◌∷◌, length, Option, Some, None, Bool, true, false, ◌&&◌, All, refl, sym, ap, ◌∙◌}
use Rattle.std.proofs.Common.{subst, arith, inl, inr, if◌then◌else◌, nat_lt, get_or, is_some}
use Rattle.std.specs.Prelude.{slice_get}
use Rattle.std.specs.Option.{option_flatten, option_to_list}
use Rattle.std.proofs.lemmas.Bool.{cases_lt, ltb-true, lt-ltb, and_parts, false≢true}
use Rattle.std.proofs.lemmas.Option.{slice_get_past}
use Rattle.std.proofs.lemmas.List.Elements.{All-nil, All-cons, All-head, All-tail, All-append}
use Rattle.gw_object.specs.declared.blocks.Block.{Block}
use Rattle.gw_object.specs.declared.blocks.Block.TheVariants as blocks
use Rattle.gw_object.specs.Entities.{chains_in}
use Rattle.gw_object.specs.declared.parts.ReturnRow.{ReturnRow}
use Rattle.gw_object.specs.declared.parts.TableState.{TableState}
use Rattle.gw_object.specs.declared.parts.Parts.{Parts}
use Rattle.gw_rules.specs.Kinds.{chain_place, chain_row}
use Rattle.gw_least_weights.specs.declared.rules.Rule.{Rule}
use Rattle.gw_least_weights.specs.Rules.{nothing, once}
use Rattle.gw_least_weights.specs.Least.{Gathers, ComesBehind, IsSystem}
use Rattle.gw_weighing.specs.Certificates.{IsCounted}
use Rattle.gw_weighing.specs.Layout.{layout_of, place_count, places, of_chain, of_row, of_block}
use Rattle.gw_weighing.specs.Rules.{state_at, block_rule, chain_rule, rules_of_block, gathering_rule, rules_of_row, rules_of_blocks, rules_of_rows, rules_of}
use Rattle.gw_rules.proofs.EachBlock.{All-front, All-back}
use Rattle.gw_weighing.proofs.Placed.{All-there, there-All, all_from_first, each_from_first}
use Rattle.gw_weighing.proofs.Reading.{chosen}

-- a rule that is there in a case alone
pub there_if : (b : Bool) (rule r : Rule) → (if b then Some rule else None) ≡ Some r → (b ≡ true) × (rule ≡ r)
there_if true rule r is = (refl, let same : rule ≡ r = cc in same)
there_if false rule r is = absurd (cc)

pub is_there : (b : Bool) (rule : Rule) → b ≡ true → (if b then Some rule else None) ≡ Some rule
is_there true rule h = refl
is_there false rule h = absurd (false≢true h)

-- what stands in a list of rows is within it
pub row_within : {X : Type 0} (rows : List (Option X)) (k : ℕ) → is_some (option_flatten (slice_get rows k)) ≡ true → k < length rows
row_within rows k h =
    elim (cases_lt k (length rows)) [
      | inl lt ↦ lt
      | inr le ↦ absurd (false≢true (sym (ap (λ o. is_some (option_flatten o)) (slice_get_past rows k le)) ∙ h))
    ]

module _ (p : Parts) where
  -- the rule by which a return row gathers the weight behind a block
  abbrev pub gather : ℕ → ℕ → Rule
  gather r b = record { turn = 2 * b + 1; at = of_row (layout_of p) r; first = once b; second = nothing }

  -- the rule at the user chain that is the entity of a number, for members that go to a block
  abbrev pub send : ℕ → ℕ → Rule
  send e b = record { turn = 2 * length p.blocks; at = of_chain (layout_of p) p.entities e; first = once (of_block (layout_of p) b); second = nothing }

  -- the rules of a row
  module _ (P : Rule → Type 0) (r : ℕ) where
    row_all : (bs : List ℕ) → All (λ b. b < length p.blocks → P (gather r b)) bs → All P (rules_of_row (layout_of p) r bs)
    row_all [] h = All-nil P
    row_all (b ∷ bs) h =
        All-append P (option_to_list (gathering_rule (layout_of p) r b)) (rules_of_row (layout_of p) r bs)
        (All-there P (gathering_rule (layout_of p) r b) (λ rule is.
        let here = there_if (nat_lt b (length p.blocks)) (gather r b) rule is in
        subst P here.1 (All-head (λ b. b < length p.blocks → P (gather r b)) b bs h (ltb-true b (length p.blocks) here.0))))
        (row_all bs (All-tail (λ b. b < length p.blocks → P (gather r b)) b bs h))

    row_each : (bs : List ℕ) → All P (rules_of_row (layout_of p) r bs) → All (λ b. b < length p.blocks → P (gather r b)) bs
    row_each [] h = All-nil (λ b. b < length p.blocks → P (gather r b))
    row_each (b ∷ bs) h =
        let first = All-front P (option_to_list (gathering_rule (layout_of p) r b)) (rules_of_row (layout_of p) r bs) h in
        let rest = All-back P (option_to_list (gathering_rule (layout_of p) r b)) (rules_of_row (layout_of p) r bs) h in
        All-cons (λ b. b < length p.blocks → P (gather r b)) b bs
        (λ lt. there-All P (gathering_rule (layout_of p) r b) (gather r b)
        (is_there (nat_lt b (length p.blocks)) (gather r b) (lt-ltb b (length p.blocks) lt)) first)
        (row_each bs rest)

  module _ (P : Rule → Type 0) where
    -- the rule at each block, at each user chain from which one sends somebody, and at each return row
    pub record OfEach : Type 0 where
      pub block : (i : ℕ) (d : Block) → i < length p.blocks → P (block_rule (layout_of p) p i (get_or p.blocks i d) (state_at p i))
      pub chain : (i : ℕ) (d : Block) → i < length p.blocks → (r : Rule) → chain_rule (layout_of p) p i (get_or p.blocks i d) ≡ Some r → P r
      pub row : (r : ℕ) (d : ReturnRow) → r < length p.returns → All (λ b. b < length p.blocks → P (gather r b)) (get_or p.returns r d).blocks

    of_blocks : OfEach → All P (rules_of_blocks (layout_of p) p)
    of_blocks h =
        all_from_first P (rules_of_block (layout_of p) p) p.blocks (λ i d within.
        All-cons P (block_rule (layout_of p) p i (get_or p.blocks i d) (state_at p i)) (option_to_list (chain_rule (layout_of p) p i (get_or p.blocks i d)))
        (h.block i d within) (All-there P (chain_rule (layout_of p) p i (get_or p.blocks i d)) (h.chain i d within)))

    of_rows : OfEach → All P (rules_of_rows (layout_of p) p)
    of_rows h = all_from_first P (λ r (row : ReturnRow). rules_of_row (layout_of p) r row.blocks) p.returns
        (λ r d within. row_all P r (get_or p.returns r d).blocks (h.row r d within))

    pub all_rules : OfEach → All P (rules_of (layout_of p) p)
    unfolding rules_of
    all_rules h = All-append P (rules_of_blocks (layout_of p) p) (rules_of_rows (layout_of p) p) (of_blocks h) (of_rows h)

    pub each_rule : All P (rules_of (layout_of p) p) → OfEach
    unfolding rules_of
    each_rule h =
        let of_block = All-front P (rules_of_blocks (layout_of p) p) (rules_of_rows (layout_of p) p) h in
        let of_row = All-back P (rules_of_blocks (layout_of p) p) (rules_of_rows (layout_of p) p) h in
        let both = each_from_first P (rules_of_block (layout_of p) p) p.blocks of_block in
        record {
          block = λ i d within. All-head P (block_rule (layout_of p) p i (get_or p.blocks i d) (state_at p i))
              (option_to_list (chain_rule (layout_of p) p i (get_or p.blocks i d))) (both i d within);
          chain = λ i d within r is. there-All P (chain_rule (layout_of p) p i (get_or p.blocks i d)) r is
              (All-tail P (block_rule (layout_of p) p i (get_or p.blocks i d) (state_at p i))
              (option_to_list (chain_rule (layout_of p) p i (get_or p.blocks i d))) (both i d within));
          row = λ r d within. row_each P r (get_or p.returns r d).blocks
              (each_from_first P (λ r (row : ReturnRow). rules_of_row (layout_of p) r row.blocks) p.returns of_row r d within);
        }

  -- WHERE THEY STAND

  block_at_place : (i : ℕ) (block : Block) (row : Option TableState) → ((block_rule (layout_of p) p i block row).at ≡ i)
      × ((block_rule (layout_of p) p i block row).turn ≡ 2 * i)
  block_at_place i block None = (refl, refl)
  block_at_place i block (Some row) = (refl, refl)

  module _ (few : IsCounted p) where
    chain_within : (e : ℕ) → is_some (chain_row p e) ≡ true → chain_place p.entities e < chains_in p.entities
    chain_within e h = subst (λ n. chain_place p.entities e < n) few.chain_states (row_within p.chain_states (chain_place p.entities e) h)

    pub chain_at_place : (e : ℕ) → is_some (chain_row p e) ≡ true → of_chain (layout_of p) p.entities e ≡ length p.blocks + chain_place p.entities e
    chain_at_place e h = chosen (chain_place p.entities e) (chains_in p.entities) (length p.blocks + chain_place p.entities e)
        (places (layout_of p)) (chain_within e h)

    -- a rule at a user chain stands behind the blocks, and before the return rows
    chain_rule_at : (i : ℕ) (block : Block) (r : Rule) → chain_rule (layout_of p) p i block ≡ Some r → (length p.blocks ≤ r.at)
        × (r.at < place_count (layout_of p))
    chain_rule_at i (blocks.Unlink u) r is =
        let here = there_if (is_some (state_at p i) && is_some (chain_row p u.chain)) (send u.chain u.target) r is in
        let two = and_parts (is_some (state_at p i)) (is_some (chain_row p u.chain)) here.0 in
        let place : r.at ≡ length p.blocks + chain_place p.entities u.chain = sym (ap (λ (s : Rule). s.at) here.1) ∙ chain_at_place u.chain two.1 in
        (omega (arith, place), omega (arith, place, chain_within u.chain two.1))
    chain_rule_at i block r is = absurd (cc)

    stands_within : OfEach (λ (r : Rule). r.at < places (layout_of p))
    stands_within = record {
      block = λ i d within. omega (arith, (block_at_place i (get_or p.blocks i d) (state_at p i)).0, within);
      chain = λ i d within r is. omega (arith, (chain_rule_at i (get_or p.blocks i d) r is).1);
      row = λ r d within j e there lt. omega (arith, within);
    }

    gathers : OfEach (λ (r : Rule). place_count (layout_of p) ≤ r.at → Gathers (place_count (layout_of p)) r)
    gathers = record {
      block = λ i d within far. absurd (omega (arith, (block_at_place i (get_or p.blocks i d) (state_at p i)).0, within, far));
      chain = λ i d within r is far. absurd (omega (arith, (chain_rule_at i (get_or p.blocks i d) r is).1, far));
      row = λ r d within j e there lt far. record { inside = omega (arith, lt); first = refl; second = refl };
    }

    before : (b : ℕ) → b < length p.blocks → OfEach (λ (s : Rule). s.at ≡ b → s.turn < 2 * b + 1)
    before b inside = record {
      block = λ i d within is. let here = block_at_place i (get_or p.blocks i d) (state_at p i) in omega (arith, here.0, here.1, is);
      chain = λ i d within r is here. absurd (omega (arith, (chain_rule_at i (get_or p.blocks i d) r is).0, here, inside));
      row = λ r d within j e there lt here. absurd (omega (arith, here, inside));
    }

    stands_behind : OfEach (λ (r : Rule). place_count (layout_of p) ≤ r.at → ComesBehind (rules_of (layout_of p) p) r)
    stands_behind = record {
      block = λ i d within far. absurd (omega (arith, (block_at_place i (get_or p.blocks i d) (state_at p i)).0, within, far));
      chain = λ i d within r is far. absurd (omega (arith, (chain_rule_at i (get_or p.blocks i d) r is).1, far));
      row = λ r d within j e there lt far. let b = get_or (get_or p.returns r d).blocks j e in
          all_rules (λ (s : Rule). s.at ≡ b → s.turn < 2 * b + 1) (before b lt);
    }

    -- the rules are a system: those of return rows gather
    pub is_system : IsSystem (rules_of (layout_of p) p) (place_count (layout_of p)) (places (layout_of p))
    is_system = record {
      within = all_rules (λ (r : Rule). r.at < places (layout_of p)) stands_within;
      gathers = all_rules (λ (r : Rule). place_count (layout_of p) ≤ r.at → Gathers (place_count (layout_of p)) r) gathers;
      behind = all_rules (λ (r : Rule). place_count (layout_of p) ≤ r.at → ComesBehind (rules_of (layout_of p) p) r) stands_behind;
    }
