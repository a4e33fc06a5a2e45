-- What it means that code passes its checks.
use Rattle.std.proofs.Common.{◌≡◌, ℕ, zero, suc, ◌+◌, ◌*◌, ◌<◌, ◌≤◌, List, [], ◌∷◌, ◌++◌, length, Option, Some, None, Bool, true, refl, sym, ap, ◌∙◌}
use Rattle.std.proofs.Common.{subst, arith, nat_le, length-append, ◌⊎◌, inl, inr, ◌==◌}
use Rattle.std.proofs.lemmas.Bool.{eq-eqb, eqb-true, leb-true, ltb-true, and_parts, and_from, or_left, or_right}
use Rattle.std.specs.Prelude.{slice_get}
use Rattle.std.specs.List.{list_all}
use Rattle.gw_num.specs.Table.{at, put}
use Rattle.gw_num.proofs.Tables.{at-put, by_entry}
use Rattle.gw_object.specs.declared.code.Instruction.{Instruction}
use Rattle.gw_object.specs.declared.code.Procedure.{Procedure}
use Rattle.gw_object.specs.declared.parts.Entity.{Entity}
use Rattle.gw_object.specs.declared.parts.Parts.{Parts}
use Rattle.gw_rules.proofs.Each.{Hold, first_and_others, parts_hold}
use Rattle.gw_rules.specs.Code.{procedure_at, most_values, takes, targets, leads_well, called_in, calls_lower, asks_for, is_among, turns_of, cost_of_called, cost_of_body, cost_of_code, costs_from, costs_of}
use Rattle.gw_rules.specs.PlusChecks.{Heights, agrees, known_height, height_after, spread, instruction_checks, code_checks, has_code, greatest_cost, procedure_checks, checks_from, plus_checks, PlusPasses}
use Rattle.gw_rules.specs.OneHeight.{IsLedTo}
use Rattle.gw_rules.proofs.PlusSteps.{Fine, Sound, Lead}

-- ONE INSTRUCTION

-- a height agrees with what is known at each of these instructions
abbrev pub all_agree : Heights → ℕ → List ℕ → Bool
all_agree heights height targets = list_all (λ target. agrees height (at None heights target)) targets

-- the checks hold at an instruction, by the heights that are known when it is checked
pub record Kept (p : Parts) (n : ℕ) (pr : Procedure) (heights : Heights) (k : ℕ) (i : Instruction) (before : Option ℕ) : Type 0 where
  pub height : ℕ
  pub is : before ≡ Some height
  pub leads_well : leads_well (length pr.code) k i ≡ true
  pub calls_lower : calls_lower n (called_in p.entities i) ≡ true
  pub needs : list_all (is_among pr.needs) (asks_for p i) ≡ true
  pub enough : takes p i ≤ height
  pub room : height_after p i height ≤ most_values
  pub agree : all_agree heights (height_after p i height) (targets k i) ≡ true

pub kept : (p : Parts) (n : ℕ) (pr : Procedure) (heights : Heights) (k : ℕ) (i : Instruction) (before : Option ℕ)
    → Hold (instruction_checks p n pr heights k i before) → Kept p n pr heights k i before
kept p n pr heights k i None hold = absurd (cc)
kept p n pr heights k i (Some height) hold =
    let jumps = first_and_others _ _ _ hold in
    let calls = first_and_others _ _ _ jumps.1 in
    let needs = first_and_others _ _ _ calls.1 in
    let enough = first_and_others _ _ _ needs.1 in
    let after = and_parts (nat_le (height_after p i height) most_values) (all_agree heights (height_after p i height) (targets k i))
    (first_and_others _ _ _ enough.1).0 in
    record {
      height = height;
      is = refl;
      leads_well = jumps.0;
      calls_lower = calls.0;
      needs = needs.0;
      enough = leb-true _ _ enough.0;
      room = leb-true _ _ after.0;
      agree = after.1;
    }

-- HEIGHTS THAT SPREAD

-- each height that is known stays known
abbrev pub Grows : Heights → Heights → Type 0
Grows heights more = (j height : ℕ) → at None heights j ≡ Some height → at None more j ≡ Some height

agrees_is : (height other : ℕ) (known : Option ℕ) → agrees height known ≡ true → known ≡ Some other → other ≡ height
agrees_is height other None agree is = absurd (cc)
agrees_is height other (Some known) agree is = let same : known ≡ other = cc in sym same ∙ eqb-true known height agree

put_grows : (heights : Heights) (target height : ℕ) → agrees height (at None heights target) ≡ true → Grows heights (put None heights target (Some height))
put_grows heights target height agree j other =
    by_entry None heights target (Some height) (λ j known. at None heights j ≡ Some other → known ≡ Some other)
    (λ is. ap Some (sym (agrees_is height other (at None heights target) agree is)))
    (λ j else is. is)
    j

put_agrees : (heights : Heights) (target height j : ℕ) → agrees height (at None heights j) ≡ true
    → agrees height (at None (put None heights target (Some height)) j) ≡ true
put_agrees heights target height =
    by_entry None heights target (Some height) (λ j known. agrees height (at None heights j) ≡ true → agrees height known ≡ true)
    (λ _. eq-eqb height height refl)
    (λ j else agree. agree)

put_all_agree : (heights : Heights) (target height : ℕ) (targets : List ℕ) → all_agree heights height targets ≡ true
    → all_agree (put None heights target (Some height)) height targets ≡ true
put_all_agree heights target height [] agree = refl
put_all_agree heights target height (j ∷ targets) agree =
    let both = and_parts (agrees height (at None heights j)) (all_agree heights height targets) agree in
    and_from _ _ (put_agrees heights target height j both.0) (put_all_agree heights target height targets both.1)

pub spread_grows : (heights : Heights) (height : ℕ) (targets : List ℕ) → all_agree heights height targets ≡ true → Grows heights (spread heights height targets)
spread_grows heights height [] agree j other is = is
spread_grows heights height (target ∷ targets) agree j other is =
    let both = and_parts (agrees height (at None heights target)) (all_agree heights height targets) agree in
    spread_grows (put None heights target (Some height)) height targets (put_all_agree heights target height targets both.1) j other
    (put_grows heights target height both.0 j other is)

lead_on : (heights more : Heights) (height : ℕ) (targets : List ℕ) → Grows heights more → Lead heights height targets → Lead more height targets
lead_on heights more height [] grows lead = tt
lead_on heights more height (target ∷ targets) grows lead = (grows target height lead.0, lead_on heights more height targets grows lead.1)

pub spread_leads : (heights : Heights) (height : ℕ) (targets : List ℕ) → all_agree heights height targets ≡ true
    → Lead (spread heights height targets) height targets
spread_leads heights height [] agree = tt
spread_leads heights height (target ∷ targets) agree =
    let both = and_parts (agrees height (at None heights target)) (all_agree heights height targets) agree in
    let rest = put_all_agree heights target height targets both.1 in (
      spread_grows (put None heights target (Some height)) height targets rest target height (at-put None heights target (Some height)),
      spread_leads (put None heights target (Some height)) height targets rest,
    )

-- what is known after heights have spread was known before, or is at one of the instructions to which they spread
pub spread_known : (heights : Heights) (height : ℕ) (targets : List ℕ) (j other : ℕ) → at None (spread heights height targets) j
    ≡ Some other → (at None heights j ≡ Some other) ⊎ (is_among targets j ≡ true)
spread_known heights height [] j other is = inl is
spread_known heights height (target ∷ targets) j other is =
    elim (spread_known (put None heights target (Some height)) height targets j other is) [
      | inl known ↦ by_entry None heights target (Some height)
          (λ i entry. entry ≡ Some other → (at None heights i ≡ Some other) ⊎ (is_among (target ∷ targets) i ≡ true))
          (λ _. inr (or_left (target == target) (is_among targets target) (eq-eqb target target refl)))
          (λ i else here. inl here)
          j known
      | inr among ↦ inr (or_right (j == target) (is_among targets j) among)
    ]

-- CODE

-- an instruction has a known height only if it is the first one, or one before k leads to it
abbrev Told : List Instruction → Heights → ℕ → Type 0
Told whole heights k = (j height : ℕ) → at None heights j ≡ Some height → 0 < j → (m : ℕ) × (i : Instruction) × (m < k)
    × (slice_get whole m ≡ Some i) × (is_among (targets m i) j ≡ true)

tell : (whole : List Instruction) (heights : Heights) (k height : ℕ) (i : Instruction) → slice_get whole k ≡ Some i → Told whole heights k
    → Told whole (spread heights height (targets k i)) (k + 1)
tell whole heights k height i here told j other is later =
    elim (spread_known heights height (targets k i) j other is) [
      | inl known ↦ let before = told j other known later in (before.0, before.1, omega (arith, before.2), before.3, before.4)
      | inr among ↦ (k, i, omega arith, here, among)
    ]

module _ (p : Parts) (n : ℕ) (pr : Procedure) where
  -- the checks hold at each of these instructions, which count from k on, by heights that keep these
  record Scanned (heights : Heights) (k : ℕ) (code : List Instruction) : Type 0 where
    more : Heights
    grows : Grows heights more
    each : (j m : ℕ) (i : Instruction) → m ≡ k + j → slice_get code j ≡ Some i → Fine p n pr more m i

  one_more : (heights : Heights) (k : ℕ) (i : Instruction) (code : List Instruction) → Fine p n pr heights k i
      → ((j m : ℕ) (x : Instruction) → m ≡ (k + 1) + j → slice_get code j ≡ Some x → Fine p n pr heights m x) → (j m : ℕ) (x : Instruction)
      → m ≡ k + j → slice_get (i ∷ code) j ≡ Some x → Fine p n pr heights m x
  one_more heights k i code fine rest zero m x number here =
      let same : i ≡ x = cc in
      let first : k ≡ m = omega arith in
      subst (λ (y : Instruction). Fine p n pr heights m y) same (subst (λ (y : ℕ). Fine p n pr heights y i) first fine)
  one_more heights k i code fine rest (suc j) m x number here = rest j m x (omega arith) here

  scanned : (heights : Heights) (k : ℕ) (code : List Instruction) → Hold (code_checks p n pr heights k code) → Scanned heights k code
  scanned heights k [] hold = record { more = heights; grows = λ j height is. is; each = λ j m i number here. absurd (let none : None ≡ Some i = here in cc) }
  scanned heights k (i ∷ code) hold =
      let after = λ (before : Option ℕ). spread heights (height_after p i (known_height before)) (targets k i) in
      let parts = parts_hold (instruction_checks p n pr heights k i (at None heights k)) (code_checks p n pr (after (at None heights k)) (k + 1) code) hold in
      let r = kept p n pr heights k i (at None heights k) parts.0 in
      let height = height_after p i r.height in
      let rest = scanned (spread heights height (targets k i)) (k + 1) code
      (subst (λ (before : Option ℕ). Hold (code_checks p n pr (after before) (k + 1) code)) r.is parts.1) in
      let grows = spread_grows heights height (targets k i) r.agree in
      record {
        more = rest.more;
        grows = λ j other is. rest.grows j other (grows j other is);
        each = one_more rest.more k i code
            (record {
              height = r.height;
              known = rest.grows k r.height (grows k r.height r.is);
              leads_well = r.leads_well;
              calls_lower = r.calls_lower;
              needs = r.needs;
              enough = r.enough;
              room = r.room;
              leads = lead_on (spread heights height (targets k i)) rest.more height (targets k i) rest.grows
                  (spread_leads heights height (targets k i) r.agree);
            })
            rest.each;
      }

  -- the height before the first of these instructions, by the checks, and the checks of the later ones
  stepped : (heights : Heights) (k : ℕ) (i : Instruction) (code : List Instruction) → Hold (code_checks p n pr heights k (i ∷ code))
      → (height : ℕ) × (at None heights k ≡ Some height) × Hold (code_checks p n pr (spread heights (height_after p i height) (targets k i)) (k + 1) code)
  stepped heights k i code hold =
      let after = λ (before : Option ℕ). spread heights (height_after p i (known_height before)) (targets k i) in
      let parts = parts_hold (instruction_checks p n pr heights k i (at None heights k)) (code_checks p n pr (after (at None heights k)) (k + 1) code) hold in
      let r = kept p n pr heights k i (at None heights k) parts.0 in
      (r.height, r.is, subst (λ (before : Option ℕ). Hold (code_checks p n pr (after before) (k + 1) code)) r.is parts.1)

  -- where the checks hold, an earlier instruction leads to each of these but the first one of all
  led_to : (whole : List Instruction) (heights : Heights) (k : ℕ) (code : List Instruction)
      → ((j : ℕ) → slice_get code j ≡ slice_get whole (k + j)) → Told whole heights k → Hold (code_checks p n pr heights k code) → (m : ℕ)
      → 0 < k + m → m < length code → IsLedTo whole (k + m)
  led_to whole heights k [] same told hold m later within = absurd (omega arith)
  led_to whole heights k (i ∷ code) same told hold zero later within =
      let here : k + 0 ≡ k = omega arith in
      let s = stepped heights k i code hold in
      subst (λ x. IsLedTo whole x) (sym here) (told k s.0 s.1 (omega (arith, later)))
  led_to whole heights k (i ∷ code) same told hold (suc m) later within =
      let next : k + 1 + m ≡ k + suc m = omega arith in
      let here : slice_get whole k ≡ Some i = ap (slice_get whole) (omega arith) ∙ sym (same 0) in
      let s = stepped heights k i code hold in
      subst (λ x. IsLedTo whole x) next
      (led_to whole (spread heights (height_after p i s.0) (targets k i)) (k + 1) code
      (λ j. same (suc j) ∙ ap (slice_get whole) (omega arith))
      (tell whole heights k (height_after p i s.0) i here told)
      s.2 m (omega arith) (omega (arith, within)))

some_code : (code : List Instruction) → has_code code ≡ true → 0 < length code
some_code [] has = absurd (cc)
some_code (i ∷ code) has = omega arith

-- at first the height before the first instruction alone is known
first_alone : (whole : List Instruction) → Told whole (Some 0 ∷ []) 0
first_alone whole zero height is later = absurd (omega (arith, later))
first_alone whole (suc j) height is later = absurd (cc)

-- a procedure passes, by the costs of those below
pub record Accepted (p : Parts) (costs : List ℕ) (n : ℕ) (pr : Procedure) : Type 0 where
  pub sound : Sound p n pr
  pub led_to : (k : ℕ) → 0 < k → k < length pr.code → IsLedTo pr.code k
  pub cost : cost_of_code p.entities costs pr.code ≤ greatest_cost

accepted : (p : Parts) (costs : List ℕ) (n : ℕ) (pr : Procedure) → Hold (procedure_checks p costs n pr) → Accepted p costs n pr
accepted p costs n pr hold =
    let parts = parts_hold (code_checks p n pr (Some 0 ∷ []) 0 pr.code) _ hold in
    let some = first_and_others _ _ _ parts.1 in
    let s = scanned p n pr (Some 0 ∷ []) 0 pr.code parts.0 in
    record {
      sound = record { heights = s.more; start = s.grows 0 0 refl; some = some_code pr.code some.0; each = λ k i here. s.each k k i (omega arith) here };
      led_to = λ k later within. subst (λ m. IsLedTo pr.code m) (omega arith)
          (led_to p n pr pr.code (Some 0 ∷ []) 0 pr.code (λ j. ap (slice_get pr.code) (omega arith)) (first_alone pr.code) parts.0 k
          (omega (arith, later)) within);
      cost = leb-true _ _ (first_and_others _ _ _ some.1).0;
    }

-- COSTS

-- the costs of the procedures below are the same
abbrev Alike : ℕ → List ℕ → List ℕ → Type 0
Alike n costs others = (q : ℕ) → q < n → at 0 costs q ≡ at 0 others q

same_called : (n : ℕ) (costs others : List ℕ) (called : Option ℕ) → calls_lower n called ≡ true → Alike n costs others
    → cost_of_called costs called ≡ cost_of_called others called
same_called n costs others None lower alike = refl
same_called n costs others (Some q) lower alike = alike q (ltb-true q n lower)

same_body : (es : List Entity) (n : ℕ) (costs others : List ℕ) (code : List Instruction)
    → ((k : ℕ) (i : Instruction) → slice_get code k ≡ Some i → calls_lower n (called_in es i) ≡ true) → Alike n costs others
    → cost_of_body es costs code ≡ cost_of_body es others code
same_body es n costs others [] lower alike = refl
same_body es n costs others (i ∷ code) lower alike =
    omega (arith, same_called n costs others (called_in es i) (lower 0 i refl) alike, same_body es n costs others code (λ j. lower (suc j)) alike)

at_front : (costs : List ℕ) (cost q : ℕ) → q < length costs → at 0 (costs ++ cost ∷ []) q ≡ at 0 costs q
at_front [] cost q within = absurd (omega arith)
at_front (c ∷ costs) cost zero within = refl
at_front (c ∷ costs) cost (suc q) within = at_front costs cost q (omega arith)

at_end : (costs : List ℕ) (cost : ℕ) → at 0 (costs ++ cost ∷ []) (length costs) ≡ cost
at_end [] cost = refl
at_end (c ∷ costs) cost = at_end costs cost

costs_keep : (es : List Entity) (costs : List ℕ) (prs : List Procedure) (q : ℕ) → q < length costs → at 0 (costs_from es costs prs) q ≡ at 0 costs q
costs_keep es costs [] q within = refl
costs_keep es costs (pr ∷ prs) q within =
    let cost = cost_of_code es costs pr.code in
    costs_keep es (costs ++ cost ∷ []) prs q (omega (arith, length-append costs (cost ∷ []))) ∙ at_front costs cost q within

-- what a procedure costs stands behind the costs of those below
pub own_cost : (es : List Entity) (costs : List ℕ) (pr : Procedure) (prs : List Procedure)
    → at 0 (costs_from es costs (pr ∷ prs)) (length costs) ≡ cost_of_code es costs pr.code
own_cost es costs pr prs =
    let cost = cost_of_code es costs pr.code in
    costs_keep es (costs ++ cost ∷ []) prs (length costs) (omega (arith, length-append costs (cost ∷ []))) ∙ at_end costs cost

-- a procedure among the others: its heights, what leads to its instructions, and its cost
pub record Checked (p : Parts) (costs : List ℕ) (n : ℕ) (pr : Procedure) : Type 0 where
  pub sound : Sound p n pr
  pub led_to : (k : ℕ) → 0 < k → k < length pr.code → IsLedTo pr.code k
  pub bound : at 0 costs n ≤ greatest_cost
  pub cost : at 0 costs n ≡ cost_of_code p.entities costs pr.code

checked_one : (p : Parts) (costs : List ℕ) (pr : Procedure) (prs : List Procedure) → Accepted p costs (length costs) pr
    → Checked p (costs_from p.entities costs (pr ∷ prs)) (length costs) pr
checked_one p costs pr prs a =
    let all = costs_from p.entities costs (pr ∷ prs) in
    let s = a.sound in
    let same : cost_of_body p.entities costs pr.code ≡ cost_of_body p.entities all pr.code =
    same_body p.entities (length costs) costs all pr.code (λ k i here. (s.each k i here).calls_lower)
    (λ q below. sym (costs_keep p.entities costs (pr ∷ prs) q below)) in
    let own = own_cost p.entities costs pr prs in
    record {
      sound = s;
      led_to = a.led_to;
      bound = omega (arith, own, a.cost);
      cost = own ∙ ap (λ x. x * (1 + turns_of pr.code)) same;
    }

checked_from : (p : Parts) (costs : List ℕ) (n : ℕ) (prs : List Procedure) → length costs ≡ n → Hold (checks_from p costs n prs)
    → (j m : ℕ) (pr : Procedure) → m ≡ n + j → slice_get prs j ≡ Some pr → Checked p (costs_from p.entities costs prs) m pr
checked_from p costs n [] count hold j m pr number there = absurd (cc)
checked_from p costs n (x ∷ prs) count hold zero m pr number there =
    let a = accepted p costs n x (parts_hold (procedure_checks p costs n x) _ hold).0 in
    let same : x ≡ pr = cc in
    let first : length costs ≡ m = omega arith in
    subst (λ (y : Procedure). Checked p (costs_from p.entities costs (x ∷ prs)) m y) same
    (subst (λ (y : ℕ). Checked p (costs_from p.entities costs (x ∷ prs)) y x) first
    (checked_one p costs x prs (subst (λ (y : ℕ). Accepted p costs y x) (sym count) a)))
checked_from p costs n (x ∷ prs) count hold (suc j) m pr number there =
    let cost = cost_of_code p.entities costs x.code in
    checked_from p (costs ++ cost ∷ []) (n + 1) prs (omega (arith, length-append costs (cost ∷ [])))
    (parts_hold (procedure_checks p costs n x) _ hold).1 j m pr (omega arith) there

-- where code passes, the checks hold at each procedure
pub checked : (p : Parts) → PlusPasses p → (n : ℕ) (pr : Procedure) → procedure_at p n ≡ Some pr → Checked p (costs_of p) n pr
unfolding plus_checks
checked p passes n pr there = checked_from p [] 0 p.procedures refl passes n n pr (omega arith) there
