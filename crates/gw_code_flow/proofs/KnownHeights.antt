-- Heights that are the same at each instruction, as code keeps them in a table of a fixed length.
use Rattle.std.proofs.Common.{◌≡◌, ℕ, zero, suc, ◌+◌, List, [], ◌∷◌, ◌++◌, Option, Some, None, refl, sym, ap, ◌∙◌, ◌&&◌, set, replicate}
use Rattle.gw_num.specs.Table.{at, put}
use Rattle.gw_num.proofs.Tables.{at-put, at-put_other, by_entry, at-replicate}
use Rattle.gw_object.specs.declared.code.Instruction.{Instruction}
use Rattle.gw_object.specs.declared.code.Procedure.{Procedure}
use Rattle.gw_object.specs.declared.parts.Parts.{Parts}
use Rattle.gw_rules.specs.Code.{targets}
use Rattle.gw_rules.specs.PlusChecks.{Heights, agrees, known_height, height_after, spread, instruction_checks, code_checks}
use Rattle.gw_rules.proofs.PlusRules.{all_agree}

-- at each instruction the same is known
abbrev pub Alike : Heights → Heights → Type 0
Alike heights others = (j : ℕ) → at None heights j ≡ at None others j

put_alike : (heights others : Heights) (target : ℕ) (v : Option ℕ) → Alike heights others → Alike (put None heights target v) (put None others target v)
put_alike heights others target v alike =
    by_entry None heights target v (λ j x. x ≡ at None (put None others target v) j)
    (sym (at-put None others target v))
    (λ j else. alike j ∙ sym (at-put_other None others target j v else))

spread_alike : (heights others : Heights) (height : ℕ) (targets : List ℕ) → Alike heights others
    → Alike (spread heights height targets) (spread others height targets)
spread_alike heights others height [] alike = alike
spread_alike heights others height (target ∷ targets) alike =
    spread_alike (put None heights target (Some height)) (put None others target (Some height)) height targets
    (put_alike heights others target (Some height) alike)

agree_alike : (heights others : Heights) (height : ℕ) (targets : List ℕ) → Alike heights others → all_agree heights height targets
    ≡ all_agree others height targets
agree_alike heights others height [] alike = refl
agree_alike heights others height (target ∷ targets) alike =
    ap (λ x. agrees height x && all_agree heights height targets) (alike target)
    ∙ ap (λ b. agrees height (at None others target) && b) (agree_alike heights others height targets alike)

module _ (p : Parts) (n : ℕ) (pr : Procedure) where
  instruction_alike : (heights others : Heights) (k : ℕ) (i : Instruction) (before : Option ℕ) → Alike heights others
      → instruction_checks p n pr heights k i before ≡ instruction_checks p n pr others k i before
  instruction_alike heights others k i None alike = refl
  instruction_alike heights others k i (Some height) alike = rw (agree_alike heights others (height_after p i height) (targets k i) alike) refl

  pub code_alike : (heights others : Heights) (k : ℕ) (code : List Instruction) → Alike heights others → code_checks p n pr heights k code
      ≡ code_checks p n pr others k code
  code_alike heights others k [] alike = refl
  code_alike heights others k (i ∷ code) alike =
      let after = λ (before : Option ℕ). height_after p i (known_height before) in
      let first = instruction_alike heights others k i (at None heights k) alike ∙ ap (instruction_checks p n pr others k i) (alike k) in
      let here = at None heights k in
      let later = code_alike (spread heights (after here) (targets k i)) (spread others (after here) (targets k i)) (k + 1) code
      (spread_alike heights others (after here) (targets k i) alike) in
      let moved = ap (λ (before : Option ℕ). code_checks p n pr (spread others (after before) (targets k i)) (k + 1) code) (alike k) in
      ap (λ cs. cs ++ code_checks p n pr (spread heights (after here) (targets k i)) (k + 1) code) first
      ∙ ap (λ cs. instruction_checks p n pr others k i (at None others k) ++ cs) (later ∙ moved)

first_alike : (n : ℕ) (heights : Heights) → heights ≡ set (replicate (suc n) None) 0 (Some 0) → Alike (Some 0 ∷ []) heights
first_alike n heights is zero = ap (λ x. at None x 0) (sym is)
first_alike n heights is (suc j) = sym (at-replicate None n j) ∙ ap (λ x. at None x (suc j)) (sym is)

-- in a table of any length that has the height 0 at the first instruction and no other height, code is checked as it is from that height alone
pub from_table : (p : Parts) (n : ℕ) (pr : Procedure) (heights : Heights) (code : List Instruction) → heights
    ≡ set (replicate 4096 None) 0 (Some 0) → code_checks p n pr heights 0 code ≡ code_checks p n pr (Some 0 ∷ []) 0 code
from_table p n pr heights code is = sym (code_alike p n pr (Some 0 ∷ []) heights 0 code (first_alike 4095 heights is))
