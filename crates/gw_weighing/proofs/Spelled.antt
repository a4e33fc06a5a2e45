-- Other weights, as many and within their limits: parts that have a spelling still have one.
use Rattle.std.proofs.Common.{◌≡◌, ℕ, ◌*◌, List, [], ◌∷◌, ◌++◌, length, Option, refl, sym, ap, ◌∙◌, arith, All, length-append}
use Rattle.std.specs.List.{flat_map, zip}
use Rattle.std.specs.Int.{w32, to_be_bytes}
use Rattle.gw_object.specs.declared.parts.Parts.{Parts}
use Rattle.gw_fields.specs.Fields.{plain, list_of}
use Rattle.gw_object.specs.CodeGrammar.{procedure}
use Rattle.gw_object.specs.BlockGrammar.{block}
use Rattle.gw_object.specs.Entities.{entity, chains_in}
use Rattle.gw_object.specs.Limits.{most_seeds, most_entities, most_procedures, most_blocks, most_return_rows}
use Rattle.gw_object.specs.Grammar.{HasSpelling, spelling, object, tables, head, seed, start_count, return_row, rows, slope, sloped_weight}
use Rattle.gw_least_weights.specs.Rules.{IsWeight}
use Rattle.gw_weighing.specs.Certificates.{IsCounted}

-- what has a spelling is counted
pub is_counted : (p : Parts) → HasSpelling p → IsCounted p
is_counted p fits = record {
  blocks = fits.limits.blocks;
  entities = fits.limits.entities;
  returns = fits.limits.returns;
  chain_states =
      fits.limits.chain_states;
}

-- weights are spelled in four bytes each
spelled_in : (weights : List ℕ) → length (flat_map (to_be_bytes w32) weights) ≡ length weights * 4
spelled_in [] = refl
spelled_in (w ∷ ws) = omega (arith, spelled_in ws, length-append (to_be_bytes w32 w) (flat_map (to_be_bytes w32) ws))

-- so many weights of user chains are spelled in so many bytes
as_long : (weights others : List ℕ) → length weights ≡ length others → length (flat_map (to_be_bytes w32) weights) ≡ length (flat_map (to_be_bytes w32) others)
as_long weights others same = spelled_in weights ∙ ap (λ n. n * 4) same ∙ sym (spelled_in others)

-- two that are as long as two others are as long together
together : (xs ys others more : List ℕ) → length xs ≡ length others → length ys ≡ length more → length (xs ++ ys) ≡ length (others ++ more)
together xs ys others more same also = omega (arith, same, also, length-append xs ys, length-append others more)

-- weights of blocks are spelled in as many bytes as others with the same slopes
with_slopes_as_long : (version : ℕ) (weights others : List ℕ) (slopes : List (Option (ℕ × ℕ))) → length weights ≡ length others
    → length (flat_map (sloped_weight version).spell (zip weights slopes)) ≡ length (flat_map (sloped_weight version).spell (zip others slopes))
with_slopes_as_long version [] [] slopes same = refl
with_slopes_as_long version [] (v ∷ vs) slopes same = absurd (cc)
with_slopes_as_long version (w ∷ ws) [] slopes same = absurd (cc)
with_slopes_as_long version (w ∷ ws) (v ∷ vs) [] same = refl
with_slopes_as_long version (w ∷ ws) (v ∷ vs) (s ∷ ss) same =
    let flag = (slope version).spell s in
    let first = together (to_be_bytes w32 w) flag (to_be_bytes w32 v) flag refl refl in
    let others = with_slopes_as_long version ws vs ss (omega (arith, same)) in
    together (to_be_bytes w32 w ++ flag) (flat_map (sloped_weight version).spell (zip ws ss)) (to_be_bytes w32 v ++ flag)
    (flat_map (sloped_weight version).spell (zip vs ss)) first others

-- these, one behind the other, and more behind them
abbrev before : List (List ℕ) → List ℕ → List ℕ
before [] xs = xs
before (front ∷ fronts) xs = front ++ before fronts xs

-- what stands behind the same is as long with it as without
longer : (fronts : List (List ℕ)) (xs ys : List ℕ) → length xs ≡ length ys → length (before fronts xs) ≡ length (before fronts ys)
longer [] xs ys same = same
longer (front ∷ fronts) xs ys same = together front (before fronts xs) front (before fronts ys) refl (longer fronts xs ys same)

-- the spelling of what comes before weights
abbrev fronts : Parts → List (List ℕ)
fronts p =
    head.spell (tt, p.version) ∷ (list_of 0 most_seeds seed).spell p.seeds ∷ start_count.spell p.count
    ∷ (list_of 0 most_entities entity).spell p.entities ∷ (list_of 0 most_procedures (plain procedure)).spell p.procedures
    ∷ (list_of 0 most_blocks (plain (block p.version))).spell p.blocks ∷ (list_of 0 most_return_rows (plain return_row)).spell p.returns
    ∷ (rows (length p.blocks)).spell p.states ∷ (rows (chains_in p.entities)).spell p.chain_states ∷ []

-- and of weights, those of blocks with the slopes
abbrev weights_spelled : Parts → List ℕ → List ℕ → List ℕ
weights_spelled p weights chains = flat_map (sloped_weight p.version).spell (zip weights p.slopes) ++ flat_map (to_be_bytes w32) chains

in_parts : (p : Parts) → spelling p ≡ before (fronts p) (weights_spelled p p.weights p.chain_weights)
unfolding spelling object tables
in_parts p = refl

module _ (p : Parts) (weights chains : List ℕ) where
  abbrev pub reweighed : Parts
  reweighed = record p { weights = weights; chain_weights = chains }

  pub as_large : length weights ≡ length p.weights → length chains ≡ length p.chain_weights → length (spelling reweighed) ≡ length (spelling p)
  as_large same others =
      ap length (in_parts reweighed)
      ∙ longer (fronts p) (weights_spelled p weights chains) (weights_spelled p p.weights p.chain_weights)
      (together _ _ _ _ (with_slopes_as_long p.version weights p.weights p.slopes same) (as_long chains p.chain_weights others))
      ∙ sym (ap length (in_parts p))

  pub still_spelled : HasSpelling p → length weights ≡ length p.blocks → length chains ≡ chains_in p.entities → All IsWeight weights
      → All IsWeight chains → HasSpelling reweighed
  still_spelled fits same others range chain_range =
      let l = fits.limits in
      let c = fits.canonical in
      let size : length (spelling reweighed) ≡ length (spelling p) = as_large (same ∙ sym l.weights) (others ∙ sym l.chain_weights) in
      record {
        letters = record { version = fits.letters.version; names = fits.letters.names; blocks = fits.letters.blocks; slopes = fits.letters.slopes };
        limits = record {
          seeds = l.seeds;
          each_seed = l.each_seed;
          count_least = l.count_least;
          count_most = l.count_most;
          entities = l.entities;
          each_entity = l.each_entity;
          procedures = l.procedures;
          each_procedure = l.each_procedure;
          blocks = l.blocks;
          each_block = l.each_block;
          returns = l.returns;
          each_return = l.each_return;
          states = l.states;
          each_state = l.each_state;
          chain_states = l.chain_states;
          each_chain_state = l.each_chain_state;
          weights = same;
          each_weight = range;
          slopes = l.slopes;
          each_slope = l.each_slope;
          chain_weights = others;
          each_chain_weight = chain_range;
          size = omega (arith, size, l.size);
        };
        canonical = record {
          last_seed = c.last_seed;
          own_names = c.own_names;
          each_entity = c.each_entity;
          each_procedure = c.each_procedure;
          each_return = c.each_return;
          each_state = c.each_state;
          each_chain_state = c.each_chain_state;
        };
      }
