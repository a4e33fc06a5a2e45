-- The least weights at the places of an object are the least that pass in it.
use Rattle.std.proofs.Common.{◌≡◌, ℕ, zero, suc, ◌+◌, ◌≤◌, List, ◌++◌, length, map, take, drop, All, sym, ap, ◌∙◌, subst, arith, inl, inr, get_or}
use Rattle.std.proofs.Common.{length-append}
use Rattle.std.specs.Prelude.{slice_index_or}
use Rattle.std.proofs.lemmas.Bool.{cases_lt}
use Rattle.std.proofs.lemmas.List.{length-map, get_or_past, get_or_append_left, take-append-drop, length-take-le, length-drop, get_or-map}
use Rattle.std.proofs.lemmas.List.{get_or-append-add, get_or_default}
use Rattle.std.proofs.lemmas.List.Elements.{All-append, All-map}
use Rattle.gw_object.specs.Limits.{greatest_weight}
use Rattle.gw_object.specs.Entities.{chains_in}
use Rattle.gw_object.specs.Grammar.{HasSpelling}
use Rattle.gw_object.specs.declared.parts.ReturnRow.{ReturnRow}
use Rattle.gw_object.specs.declared.parts.Parts.{Parts}
use Rattle.gw_rules.specs.Kinds.{chain_place}
use Rattle.gw_rules.specs.Weights.{weight_at as weight_of_block, WeightsPass}
use Rattle.gw_rules.specs.WeightsLaws.{Weighted}
use Rattle.gw_rules.proofs.WeightsPassing.{weights_pass_where_weighted}
use Rattle.gw_least_weights.specs.Rules.{IsWeight, Keeps}
use Rattle.gw_least_weights.specs.Least.{EachAtMost, InRange, IsCertificate, IsLeast}
use Rattle.gw_weighing.specs.Layout.{layout_of, places}
use Rattle.gw_weighing.specs.Rules.{rules_of}
use Rattle.gw_weighing.specs.Certificates.{with_weights, AreCertificate, AreLeast}
use Rattle.gw_rules.proofs.EachBlock.{All-front, All-back}
use Rattle.gw_weighing.proofs.Spelled.{still_spelled}
use Rattle.gw_weighing.proofs.Reading.{joined, joined_length, reads, at_row}
use Rattle.gw_weighing.proofs.Returns.{greatest_behind, least_behind, behind_most, weight_behind}
use Rattle.gw_weighing.proofs.Bridge.{all_rules, each_rule}
use Rattle.gw_weighing.proofs.Least.{pays, kept}

-- a weight that is there is at least 1, as that of others is which stand at as many places
some_too : (ws us : List ℕ) → length ws ≡ length us → All IsWeight ws → (i : ℕ) → 1 ≤ slice_index_or us i 0 → 1 ≤ slice_index_or ws i 0
some_too ws us same range i some =
    elim (cases_lt i (length ws)) [
      | inl lt ↦ (range i 0 lt).0
      | inr le ↦ absurd (omega (arith, some, get_or_past us i 0 (omega (arith, le, same))))
    ]

some_block_too : (ws us : List ℕ) → length ws ≡ length us → All IsWeight ws → (b : ℕ) → 1 ≤ weight_of_block us b → 1 ≤ weight_of_block ws b
some_block_too ws us same range zero some = some
some_block_too ws us same range (suc i) some = some_too ws us same range i some

-- parts of two lists are at most each other where the lists are
front_at_most : (bs us rest more : List ℕ) → length bs ≡ length us → EachAtMost (bs ++ rest) (us ++ more) → EachAtMost bs us
front_at_most bs us rest more same h = record {
  many = same;
  each = λ i. elim (cases_lt i (length bs)) [
    | inl lt ↦ omega (arith, h.each i, get_or_append_left bs rest 0 i lt, get_or_append_left us more 0 i (omega (arith, lt, same)))
    | inr le ↦ omega (arith, get_or_past bs i 0 le)
  ];
}

rear_at_most : (bs us rest more : List ℕ) → length bs ≡ length us → EachAtMost (bs ++ rest) (us ++ more) → length rest ≡ length more → EachAtMost rest more
rear_at_most bs us rest more same h also = record {
  many = also;
  each = λ i.
      let there : get_or (us ++ more) (length bs + i) 0 ≡ get_or more i 0 = ap (λ n. get_or (us ++ more) (n + i) 0) same ∙ get_or-append-add us more i 0 in
      omega (arith, h.each (length bs + i), get_or-append-add bs rest i 0, there);
}

module _ (p : Parts) (fits : HasSpelling p) where
  spelled : (bs cs : List ℕ) → length bs ≡ length p.blocks → length cs ≡ chains_in p.entities → All IsWeight bs → All IsWeight cs
      → HasSpelling (with_weights p bs cs)
  spelled bs cs = still_spelled p bs cs fits

  weighted : (us cs : List ℕ) → AreCertificate p us cs → Weighted (with_weights p us cs)
  weighted us cs c = (weights_pass_where_weighted (with_weights p us cs) (spelled us cs c.blocks c.chains c.range c.chain_range)).0 c.passes

  -- what return rows gather of weights of blocks
  abbrev gathered : List ℕ → List ℕ
  gathered us = map (λ (row : ReturnRow). greatest_behind us row.blocks) p.returns

  gathered_in_range : (us : List ℕ) → All IsWeight us → (bs : List ℕ) → IsWeight (greatest_behind us bs)
  gathered_in_range us range bs = (least_behind us bs, behind_most us bs greatest_weight (omega arith) (λ i d there. at_most (get_or bs i d)))
    where
      at_most : (b : ℕ) → weight_of_block us (b + 1) ≤ greatest_weight
      at_most b =
          elim (cases_lt b (length us)) [
            | inl lt ↦ omega (arith, weight_behind us b, (range b 0 lt).1)
            | inr le ↦ omega (arith, weight_behind us b, get_or_past us b 0 le)
          ]

  -- weights that pass keep the rules, with what return rows gather
  certificate : (us cs : List ℕ) → (c : AreCertificate p us cs)
      → IsCertificate (rules_of (layout_of p) p) (places (layout_of p))
      (joined p us cs (gathered us) c.blocks c.chains (length-map p.returns (λ (row : ReturnRow). greatest_behind us row.blocks)))
  certificate us cs c =
      let rows = length-map p.returns (λ (row : ReturnRow). greatest_behind us row.blocks) in
      let all = joined p us cs (gathered us) c.blocks c.chains rows in
      let range : All IsWeight all =
      All-append IsWeight us (cs ++ gathered us) c.range
      (All-append IsWeight cs (gathered us) c.chain_range
      (All-map IsWeight (λ (row : ReturnRow). greatest_behind us row.blocks) p.returns
      (λ i d there. gathered_in_range us c.range (get_or p.returns i d).blocks))) in
      let w = weighted us cs c in
      record {
        many = joined_length p us cs (gathered us) c.blocks c.chains rows;
        range = λ i lt. range i 0 lt;
        keeps = all_rules p (Keeps all) (kept p all us cs (reads p us cs (gathered us) c.blocks c.chains rows) c.blocks c.range w.each_row
            (λ r d lt. at_row p us cs (gathered us) c.blocks c.chains rows r
            ∙ get_or-map (λ (row : ReturnRow). greatest_behind us row.blocks) p.returns r d 0 lt));
      }

  module _ (bs cs rs : List ℕ) (blocks : length bs ≡ length p.blocks) (chains : length cs ≡ chains_in p.entities) (rows : length rs ≡ length p.returns) where
    abbrev all : List ℕ
    all = joined p bs cs rs blocks chains rows

    -- and those that keep the rules pass, where any do
    passes : All IsWeight bs → All IsWeight cs → All (Keeps all) (rules_of (layout_of p) p) → (us vs : List ℕ) → AreCertificate p us vs
        → WeightsPass (with_weights p bs cs)
    passes range chain_range keeps us vs c =
        let w = weighted us vs c in
        let one : Weighted (with_weights p bs cs) = record {
          least = λ b block is. some_block_too bs us (blocks ∙ sym c.blocks) range b (w.least b block is);
          chains = λ e is. some_too cs vs (chains ∙ sym c.chains) chain_range (chain_place p.entities e) (w.chains e is);
          arrivals = w.arrivals;
          each_row = pays p all bs cs (reads p bs cs rs blocks chains rows) blocks range us vs w.each_row (each_rule p (Keeps all) keeps);
        } in
        (weights_pass_where_weighted (with_weights p bs cs) (spelled bs cs blocks chains range chain_range)).1 one

    pub are_least : InRange all → IsLeast (rules_of (layout_of p) p) (places (layout_of p)) all → AreLeast p bs cs
    are_least in_range least =
        let ranged : All IsWeight all = λ i d lt. subst IsWeight (get_or_default all i 0 d lt) (in_range i lt) in
        let range = All-front IsWeight bs (cs ++ rs) ranged in
        let chain_range = All-front IsWeight cs rs (All-back IsWeight bs (cs ++ rs) ranged) in
        record {
          blocks = blocks;
          chains = chains;
          range = range;
          chain_range = chain_range;
          least = λ us vs c.
              let both = least _ (certificate us vs c) in
              let same = blocks ∙ sym c.blocks in
              let behind = rear_at_most bs us (cs ++ rs) (vs ++ gathered us) same both.1 (rear_many us vs c) in (
                passes range chain_range both.0.keeps us vs c,
                front_at_most bs us (cs ++ rs) (vs ++ gathered us) same both.1,
                front_at_most cs vs rs (gathered us) (chains ∙ sym c.chains) behind,
              );
        }
      where
        rear_many : (us vs : List ℕ) → AreCertificate p us vs → length (cs ++ rs) ≡ length (vs ++ gathered us)
        rear_many us vs c = omega (
          arith,
          chains,
          rows,
          c.chains,
          length-append cs rs,
          length-append vs (gathered us),
          length-map p.returns (λ (row : ReturnRow). greatest_behind us row.blocks),
        )

-- the first weights, those behind them, and the rest
pub split_in_three : (n c : ℕ) (weights : List ℕ) → take n weights ++ (take c (drop n weights) ++ drop c (drop n weights)) ≡ weights
split_in_three n c weights = ap (λ (xs : List ℕ). take n weights ++ xs) (take-append-drop c (drop n weights)) ∙ take-append-drop n weights

-- found at all places
found_least : (p : Parts) → HasSpelling p → (weights : List ℕ) → length weights ≡ places (layout_of p) → InRange weights
    → IsLeast (rules_of (layout_of p) p) (places (layout_of p)) weights
    → AreLeast p (take (length p.blocks) weights) (take (chains_in p.entities) (drop (length p.blocks) weights))
found_least p fits weights many range least =
    let n = length p.blocks in
    let c = chains_in p.entities in
    let same = split_in_three n c weights in
    let behind : length (drop n weights) ≡ c + length p.returns = omega (arith, length-drop n weights, many) in
    let first = length-take-le n weights (omega (arith, many)) in
    let second = length-take-le c (drop n weights) (omega (arith, behind)) in
    let third : length (drop c (drop n weights)) ≡ length p.returns = omega (arith, length-drop c (drop n weights), behind) in
    are_least p fits (take n weights) (take c (drop n weights)) (drop c (drop n weights)) first second third
    (subst InRange (sym same) range) (subst (IsLeast (rules_of (layout_of p) p) (places (layout_of p))) (sym same) least)

-- whatever weights the object has in which they are looked for
pub found_for : (p : Parts) (us vs : List ℕ) → HasSpelling (with_weights p us vs) → (weights : List ℕ) → length weights
    ≡ places (layout_of p) → InRange weights → IsLeast (rules_of (layout_of p) p) (places (layout_of p)) weights
    → AreLeast p (take (length p.blocks) weights) (take (chains_in p.entities) (drop (length p.blocks) weights))
unfolding rules_of
found_for p us vs fits weights many range least =
    let found = found_least (with_weights p us vs) fits weights many range least in
    record {
      blocks = found.blocks;
      chains = found.chains;
      range = found.range;
      chain_range = found.chain_range;
      least = λ xs ys c. found.least xs ys (record { blocks = c.blocks; chains = c.chains; range = c.range; chain_range = c.chain_range; passes = c.passes });
    }
