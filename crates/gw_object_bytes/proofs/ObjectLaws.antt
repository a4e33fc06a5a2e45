-- The object grammar is exact: each of its fields, the object, and reading as a whole.
use Rattle.std.proofs.Common.{◌≡◌, ◌≢◌, ℕ, zero, suc, ◌-◌, ◌≤◌, true, false, cond, eqb, ltb, List, [], ◌∷◌, ◌++◌, length, Some, IsTrue, ◌^◌, ◌<◌}
use Rattle.std.proofs.Common.{Result, Ok, Err, refl, sym, ap, subst, ◌∙◌, arith, inl, inr, ◌⊎◌, slice_get}
use Rattle.std.specs.Prelude.{IfOk}
use Rattle.std.specs.List.{All}
use Rattle.std.specs.Int.{w16, w32, w64}
use Rattle.std.proofs.lemmas.Bool.Decides.{nat_tests}
use Rattle.std.proofs.lemmas.Bool.{cases_lt, eqb-true, ne_eqb, ltb-true, lt-ltb, le-ltb}
use Rattle.std.proofs.lemmas.List.{append-nil, nil_from_length, length-append}
use Rattle.gw_object.specs.declared.fault.Fault.{Fault}
use Rattle.gw_object.specs.Codes as codes
use Rattle.gw_object.specs.Limits.{most_bytes, most_seeds, greatest_seed, greatest_count, most_entities, most_procedures, most_blocks}
use Rattle.gw_object.specs.declared.parts.Parts.{Parts}
use Rattle.gw_fields.specs.declared.error.Bad.{Bad}
use Rattle.gw_fields.specs.Fields.{IsProperFront, bad, number, field_with_test, count, plain, ElementsFit}
use Rattle.gw_object.specs.Grammar.{weight, rows, IsSlopeOfVersion, CertificateFits, chain_certificate, tables, is_version, version_number, head, seed, start_count, object, spelling, IsWithinLimits, HasSpelling, Spells}
use Rattle.gw_object.specs.declared.blocks.Block.{Block}
use Rattle.gw_object.specs.BlockGrammar.{IsOfVersion, BlockFits, block}
use Rattle.gw_object.specs.declared.code.Procedure.{Procedure}
use Rattle.gw_object.specs.CodeGrammar.{ProcedureFits, NeedsAscend, procedure}
use Rattle.gw_code_bytes.proofs.CodeLaws.{procedure_exact}
use Rattle.gw_object.specs.Entities.{entity, chains_in}
use Rattle.gw_object.specs.Reading.{whole_read, with_place, first_fault, out_of_memory, fault_at, IsRefused}
use Rattle.gw_object_bytes.proofs.CertificateLaws.{weight_exact, certificate_exact, slopes_fit, fits_slopes}
use Rattle.gw_object_bytes.proofs.EntityLaws.{entity_exact, entities_fit, entities_are}
use Rattle.gw_object_bytes.proofs.StateLaws.{return_rows_exact, return_rows_fit, return_rows_keep, state_exact, rows_fit, rows_keep}
use Rattle.gw_block_bytes.proofs.BlockLaws.{block_exact}
use Rattle.gw_field_bytes.proofs.Exact.{IsCut, CutsFronts, cuts_still, front_shorter, IsBytes, Takes-shorter, IsExact, bind_ok}
use Rattle.gw_field_bytes.proofs.ExactLists.{IsExactElement}
use Rattle.gw_field_bytes.proofs.Exact.{bind_err, chosen, ok_is, err_is, not_both, wide16, wide32, wide64, number_exact, made_exact, and_then_exact}
use Rattle.gw_field_bytes.proofs.Exact.{both_exact, tested_exact, fitting_exact, constant_exact, ranged_exact, optional_exact}
use Rattle.gw_field_bytes.proofs.ExactLists.{plain_exact}
use Rattle.gw_field_bytes.proofs.ExactLists.{last_tested_exact, elements_exact, listed_exact, All-from_fit, fit-from_All}

-- ---- what stands for each block

rows_exact : (n : ℕ) → IsExact (rows n)
rows_exact n = elements_exact _ n (plain_exact _ (optional_exact _ state_exact))

chain_certificate_exact : (n : ℕ) → IsExact (chain_certificate n)
chain_certificate_exact n = elements_exact _ n (plain_exact _ weight_exact)

pub tables_exact : (version blocks chains : ℕ) → IsExact (tables version blocks chains)
unfolding tables
tables_exact version blocks chains =
    both_exact _ _ return_rows_exact
    (both_exact _ _ (rows_exact blocks)
    (both_exact _ _ (rows_exact chains) (both_exact _ _ (certificate_exact version blocks) (chain_certificate_exact chains))))

-- ---- the object

version_is_short : (n : ℕ) → IsTrue (is_version n) → n < 256 ^ 2
version_is_short n h = grind (arith, nat_tests)

version_number_exact : IsExact version_number
version_number_exact = fitting_exact (λ n. IsTrue (is_version n)) (field_with_test is_version codes.version (number w16)) (λ n h. h.1)
    (λ n h. (version_is_short n h, h)) (tested_exact is_version codes.version (number w16) (number_exact w16 wide16))

pub head_exact : IsExact head
unfolding head
head_exact = both_exact _ _ (constant_exact 0x4750_534f codes.magic (number w32) (omega arith) (number_exact w32 wide32)) version_number_exact

seed_exact : IsExactElement seed
seed_exact = last_tested_exact (ltb 0) codes.not_canonical _ (ranged_exact 0 greatest_seed (number w32) (λ n h. omega arith) (number_exact w32 wide32))

start_count_exact : IsExact start_count
start_count_exact = ranged_exact 1 greatest_count (number w64) (λ n h. omega arith) (number_exact w64 wide64)

pub object_exact : IsExact object
unfolding object
object_exact =
    made_exact _ _ _ (λ x h. refl) (λ p h. refl)
    (and_then_exact _ _ head_exact
    (λ head. both_exact _ _ (listed_exact 0 most_seeds seed (omega arith) seed_exact)
    (both_exact _ _ start_count_exact
    (and_then_exact _ _ (listed_exact 0 most_entities entity (omega arith) entity_exact)
    (λ entities. both_exact _ _ (listed_exact 0 most_procedures (plain procedure) (omega arith) (plain_exact procedure procedure_exact))
    (and_then_exact _ _ (listed_exact 0 most_blocks (plain (block head.1)) (omega arith) (plain_exact (block head.1) (block_exact head.1)))
    (λ blocks. tables_exact head.1 (length blocks) (chains_in entities))))))))

-- ---- procedures

procedures_fit : (procedures : List Procedure) → All ProcedureFits procedures → All NeedsAscend procedures → ElementsFit (plain procedure).Fits [] procedures
unfolding procedure
procedures_fit procedures limits up = fit-from_All (λ pr. ProcedureFits pr × NeedsAscend pr) procedures [] (λ k d lt. (limits k d lt, up k d lt))

procedures_keep : (procedures : List Procedure) → ElementsFit (plain procedure).Fits [] procedures → All (λ pr. ProcedureFits pr × NeedsAscend pr) procedures
unfolding procedure
procedures_keep procedures h =
    All-from_fit (λ front left pr. ProcedureFits pr × NeedsAscend pr) (λ pr. ProcedureFits pr × NeedsAscend pr) (λ front left pr fit. fit) procedures [] h

-- ---- blocks

blocks_fit : (version : ℕ) (xs : List Block) → All (IsOfVersion version) xs → All BlockFits xs → ElementsFit (plain (block version)).Fits [] xs
blocks_fit version xs listed limits = fit-from_All (block version).Fits xs [] (λ k d lt. (listed k d lt, limits k d lt))

blocks_keep : (version : ℕ) (xs : List Block) → ElementsFit (plain (block version)).Fits [] xs → All (block version).Fits xs
blocks_keep version xs h = All-from_fit (plain (block version)).Fits (block version).Fits (λ front left b fit. fit) xs [] h

-- ---- what fits the object is what has a spelling

abbrev IsSeed : ℕ → Type 0
IsSeed seed = seed ≤ greatest_seed

abbrev LastSeed : List ℕ → Type 0
LastSeed seeds = slice_get seeds (length seeds - 1) ≢ Some 0

seeds_are : (xs front : List ℕ) → ElementsFit seed.Fits front xs → All IsSeed xs
seeds_are = All-from_fit seed.Fits IsSeed (λ front left x h. h.0.1)

-- the last seed of two or more is the last of those behind the first
last_of_rest : (x y : ℕ) (ys : List ℕ) → slice_get (x ∷ y ∷ ys) (length (x ∷ y ∷ ys) - 1) ≡ slice_get (y ∷ ys) (length (y ∷ ys) - 1)
last_of_rest x y ys =
    let back : length (x ∷ y ∷ ys) - 1 ≡ suc (length (y ∷ ys) - 1) = omega arith in
    ap (slice_get (x ∷ y ∷ ys)) back

last_seed_is : (xs front : List ℕ) → ElementsFit seed.Fits front xs → LastSeed xs
last_seed_is [] front h e = cc
last_seed_is (x ∷ []) front h e = let zero_seed : x ≡ 0 = cc in absurd (omega (arith, ltb-true 0 x h.0.1, zero_seed))
last_seed_is (x ∷ y ∷ ys) front h e = last_seed_is (y ∷ ys) (front ++ x ∷ []) h.1 (sym (last_of_rest x y ys) ∙ e)

seeds_fit : (xs front : List ℕ) → All IsSeed xs → LastSeed xs → ElementsFit seed.Fits front xs
seeds_fit [] front each last = tt
seeds_fit (zero ∷ []) front each last = absurd (last refl)
seeds_fit (suc x ∷ []) front each last = (((omega arith, each 0 (suc x) (omega arith)), lt-ltb 0 (suc x) (omega arith)), tt)
seeds_fit (x ∷ y ∷ ys) front each last =
    let more : eqb (length (y ∷ ys)) 0 ≡ false = ne_eqb _ _ (λ e. omega arith) in (
      ((omega arith, each 0 x (omega arith)), rw more refl),
      seeds_fit (y ∷ ys) (front ++ x ∷ []) (λ k d lt. each (suc k) d (omega arith)) (λ e. last (last_of_rest x y ys ∙ e)),
    )

certificate_fits : (p : Parts) → All (IsSlopeOfVersion p.version) p.slopes → IsWithinLimits p
    → CertificateFits p.version (length p.blocks) (p.weights, p.slopes)
certificate_fits p sloped limits =
    record {
      weights = limits.weights;
      each_weight = limits.each_weight;
      slopes = limits.slopes;
      each_slope =
          slopes_fit p.version p.slopes sloped limits.each_slope;
    }

pub spelled_fits : (p : Parts) → HasSpelling p → object.Fits p
unfolding object head tables
spelled_fits p h =
    let limits = h.limits in (
      (tt, h.letters.version),
      (
        (omega arith, limits.seeds, seeds_fit p.seeds [] limits.each_seed h.canonical.last_seed),
        (
          (limits.count_least, limits.count_most),
          (
            (omega arith, limits.entities, entities_fit p.entities h.letters.names limits.each_entity h.canonical.each_entity h.canonical.own_names),
            (
              (omega arith, limits.procedures, procedures_fit p.procedures limits.each_procedure h.canonical.each_procedure),
              (
                (omega arith, limits.blocks, blocks_fit p.version p.blocks h.letters.blocks limits.each_block),
                (
                  (omega arith, limits.returns, return_rows_fit p.returns limits.each_return h.canonical.each_return),
                  (
                    (limits.states, rows_fit p.states limits.each_state h.canonical.each_state),
                    (
                      (limits.chain_states, rows_fit p.chain_states limits.each_chain_state h.canonical.each_chain_state),
                      (
                        certificate_fits p h.letters.slopes limits,
                        (limits.chain_weights, fit-from_All weight.Fits p.chain_weights [] limits.each_chain_weight),
                      ),
                    ),
                  ),
                ),
              ),
            ),
          ),
        ),
      ),
    )

pub fits_spelled : (p : Parts) → object.Fits p → length (spelling p) ≤ most_bytes → HasSpelling p
unfolding object head tables
fits_spelled p (head, (seeds, (count, (entities, (procedures, (blocks, (returns, (states, (chain_states, (certificate, chain_weights)))))))))) size =
    let each_entity = entities_are p.entities entities.2 in
    let each_procedure = procedures_keep p.procedures procedures.2 in
    let each_block = blocks_keep p.version p.blocks blocks.2 in
    let each_return = return_rows_keep p.returns returns.2 in
    let each_row = rows_keep p.states states.1 in
    let each_chain_row = rows_keep p.chain_states chain_states.1 in
    let each_slope = fits_slopes p.version p.slopes certificate.each_slope in record {
      letters = record { version = head.1; names = each_entity.letters; blocks = λ k d lt. (each_block k d lt).0; slopes = λ k d lt. (each_slope k d lt).0 };
      limits = record {
        seeds = seeds.1;
        each_seed = seeds_are p.seeds [] seeds.2;
        count_least = count.0;
        count_most = count.1;
        entities = entities.1;
        each_entity = each_entity.limits;
        procedures = procedures.1;
        each_procedure = λ k d lt. (each_procedure k d lt).0;
        blocks = blocks.1;
        each_block = λ k d lt. (each_block k d lt).1;
        returns = returns.1;
        each_return = λ k d lt. (each_return k d lt).0;
        states = states.0;
        each_state = λ k d lt. (each_row k d lt).0;
        chain_states = chain_states.0;
        each_chain_state = λ k d lt. (each_chain_row k d lt).0;
        weights = certificate.weights;
        each_weight = certificate.each_weight;
        slopes = certificate.slopes;
        each_slope = λ k d lt. (each_slope k d lt).1;
        chain_weights = chain_weights.0;
        each_chain_weight = All-from_fit (λ front left. weight.Fits) weight.Fits (λ front left w h. h) p.chain_weights [] chain_weights.1;
        size = size;
      };
      canonical = record {
        last_seed = last_seed_is p.seeds [] seeds.2;
        own_names = each_entity.own;
        each_entity = each_entity.ascend;
        each_procedure = λ k d lt. (each_procedure k d lt).1;
        each_return = λ k d lt. (each_return k d lt).1;
        each_state =
            λ k d lt. (each_row k d lt).1;
        each_chain_state = λ k d lt. (each_chain_row k d lt).1;
      };
    }

-- ---- reading as a whole

whole_takes : (bytes : List ℕ) (p : Parts) → IsBytes bytes → whole_read bytes ≡ Ok p → object.Fits p × (bytes ≡ spelling p)
unfolding whole_read spelling
whole_takes bytes p fits e =
    let a = bind_ok (object.read bytes) (λ p. cond (eqb (length p.1) 0) (Ok p.0) (Err (bad codes.trailing_bytes p.1))) p e in
    let taken = object_exact.takes bytes a.0 fits a.1 in
    elim (chosen (eqb (length a.0.1) 0) (Ok a.0.0) (Err (bad codes.trailing_bytes a.0.1)) (Ok p) a.2) [
      | inl done ↦
          let nothing : a.0.1 ≡ [] = nil_from_length a.0.1 (eqb-true _ _ done.0) in
          let whole : bytes ≡ object.spell a.0.0 = taken.0.parts ∙ ap (λ (r : List ℕ). object.spell a.0.0 ++ r) nothing ∙ append-nil (object.spell a.0.0) in
          subst (λ (q : Parts). object.Fits q × (bytes ≡ object.spell q)) (ok_is a.0.0 p done.1) (taken.1, whole)
      | inr more ↦ not_both p (bad codes.trailing_bytes a.0.1) (sym more.1)
    ]

whole_again : (p : Parts) → object.Fits p → whole_read (spelling p) ≡ Ok p
unfolding whole_read spelling
whole_again p fits =
    let read : object.read (object.spell p) ≡ Ok (p, []) = ap object.read (sym (append-nil (object.spell p))) ∙ object_exact.again p [] fits in
    rw read refl

-- a fault lies in the bytes
pub whole_within : (bytes : List ℕ) (e : Bad) → IsBytes bytes → whole_read bytes ≡ Err e → e.left ≤ length bytes
unfolding whole_read
whole_within bytes e fits h =
    elim (bind_err (object.read bytes) (λ p. cond (eqb (length p.1) 0) (Ok p.0) (Err (bad codes.trailing_bytes p.1))) e h) [
      | inl first ↦ object_exact.within bytes e fits first
      | inr a ↦
          let taken = object_exact.takes bytes a.0 fits a.1 in
          elim (chosen (eqb (length a.0.1) 0) (Ok a.0.0) (Err (bad codes.trailing_bytes a.0.1)) (Err e) a.2) [
            | inl done ↦ not_both a.0.0 e done.1
            | inr more ↦ rw (← err_is (bad codes.trailing_bytes a.0.1) e more.1) (Takes-shorter bytes (object.spell a.0.0) a.0.1 taken.0)
          ]
    ]

-- what all of the bytes spell, where they aren't too many
pub whole_spelled : (bytes : List ℕ) (p : Parts) → IsBytes bytes → length bytes ≤ most_bytes → whole_read bytes ≡ Ok p → Spells bytes p
whole_spelled bytes p fits short e =
    let whole = whole_takes bytes p fits e in
    record { fits = fits_spelled p whole.0 (rw (← whole.1) short); is = whole.1 }

placed_ok : (total : ℕ) (r : Result Parts Bad) (p : Parts) → with_place total r ≡ Ok p → r ≡ Ok p
placed_ok total (Ok q) p e = cc
placed_ok total (Err d) p e = absurd cc

-- what is read is spelled so
pub found : (bytes : List ℕ) (p : Parts) → IsBytes bytes → first_fault bytes ≡ Ok p → Spells bytes p
unfolding first_fault
found bytes p fits e =
    elim (cases_lt most_bytes (length bytes)) [
      | inl long ↦ let tested : ltb most_bytes (length bytes) ≡ true = lt-ltb _ _ long in let refused = rw tested at e in absurd cc
      | inr short ↦
          let tested : ltb most_bytes (length bytes) ≡ false = le-ltb _ _ short in
          whole_spelled bytes p fits short (placed_ok (length bytes) (whole_read bytes) p (rw tested at e))
    ]

-- what is spelled so is read
pub only : (bytes : List ℕ) (p : Parts) → Spells bytes p → first_fault bytes ≡ Ok p
unfolding first_fault
only bytes p spelled =
    let short : ltb most_bytes (length (spelling p)) ≡ false = le-ltb _ _ spelled.fits.limits.size in
    rw (spelled.is, short, whole_again p (spelled_fits p spelled.fits)) refl

-- what a reader answers that gives the first fault or wants memory
pub found_or : (bytes : List ℕ) (r : Result Parts Fault) → IsBytes bytes → (r ≡ first_fault bytes) ⊎ (r ≡ Err out_of_memory) → IfOk r (Spells bytes)
found_or bytes (Ok p) fits (inl read) = found bytes p fits (sym read)
found_or bytes (Ok p) fits (inr full) = absurd cc
found_or bytes (Err f) fits h = tt

pub only_or : (bytes : List ℕ) (r : Result Parts Fault) → (r ≡ first_fault bytes) ⊎ (r ≡ Err out_of_memory) → (p : Parts) → Spells bytes p
    → (r ≡ Ok p) ⊎ (r ≡ Err out_of_memory)
only_or bytes r (inl read) p spelled = inl (read ∙ only bytes p spelled)
only_or bytes r (inr full) p spelled = inr full

-- ---- laws

-- the bytes of two objects with anything behind them are alike only where all is alike
pub apart : (p q : Parts) (a b x y : List ℕ) → Spells a p → Spells b q → a ++ x ≡ b ++ y → (p ≡ q) × (a ≡ b) × (x ≡ y)
unfolding spelling
apart p q a b x y one two e =
    let read_p : object.read (a ++ x) ≡ Ok (p, x) = rw one.is (object_exact.again p x (spelled_fits p one.fits)) in
    let read_q : object.read (b ++ y) ≡ Ok (q, y) = rw two.is (object_exact.again q y (spelled_fits q two.fits)) in
    let same = ok_is (p, x) (q, y) (sym read_p ∙ ap object.read e ∙ read_q) in
    let p_is : p ≡ q = ap (λ z. z.0) same in
    let x_is : x ≡ y = ap (λ z. z.1) same in
    (p_is, one.is ∙ ap spelling p_is ∙ sym two.is, x_is)

-- bytes that lack some of a spelling
whole_cut : (p : Parts) → object.Fits p → CutsFronts whole_read (spelling p)
unfolding whole_read spelling
whole_cut p fits = cuts_still object.read (λ bytes p. cond (eqb (length p.1) 0) (Ok p.0) (Err (bad codes.trailing_bytes p.1)))
    (object.spell p) (object_exact.cut p fits)

cut_placed : (total : ℕ) (r : Result Parts Bad) → IsCut r → (at : ℕ) × (at ≤ total) × (with_place total r ≡ Err (fault_at codes.truncation at))
cut_placed total (Ok p) h = absurd h
cut_placed total (Err e) h = (total - e.left, omega arith, rw h refl)

pub front_refused : (p : Parts) (front : List ℕ) → HasSpelling p → IsProperFront front (spelling p) → IsRefused codes.truncation front
unfolding first_fault
front_refused p front fits begins =
    let short : ltb most_bytes (length front) ≡ false = le-ltb _ _ (omega (arith, front_shorter (spelling p) front begins, fits.limits.size)) in
    rw short (cut_placed (length front) (whole_read front) (whole_cut p (spelled_fits p fits) front begins))

-- bytes behind a spelling
pub more_refused : (p : Parts) (more : List ℕ) → HasSpelling p → more ≢ [] → length (spelling p ++ more) ≤ most_bytes
    → first_fault (spelling p ++ more) ≡ Err (fault_at codes.trailing_bytes (length (spelling p)))
unfolding first_fault whole_read spelling
more_refused p more fits some size =
    let short : ltb most_bytes (length (spelling p ++ more)) ≡ false = le-ltb _ _ size in
    let left : eqb (length more) 0 ≡ false = ne_eqb _ _ (λ e. some (nil_from_length more e)) in
    let place : length (spelling p ++ more) - length more ≡ length (spelling p) = omega (arith, length-append (spelling p) more) in
    rw (short, object_exact.again p more (spelled_fits p fits), left, place) refl
