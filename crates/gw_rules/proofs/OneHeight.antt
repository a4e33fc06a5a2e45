-- PLUS code passes exactly where the stack has one height before each instruction.
use Rattle.std.proofs.Common.{◌≡◌, ℕ, zero, suc, ◌+◌, ◌<◌, ◌≤◌, List, [], ◌∷◌, ◌++◌, length, Option, Some, None, true, refl, sym, ap, ◌∙◌, subst}
use Rattle.std.proofs.Common.{arith, All, nat_le, length-append, ⊎_elim, inl, inr, ◌==◌}
use Rattle.std.proofs.lemmas.Bool.{cases_eq, eq-eqb, eqb-true, le-leb, and_from, or_cases}
use Rattle.std.proofs.lemmas.List.Elements.{All-nil, All-cons, All-head, All-tail}
use Rattle.std.specs.Prelude.{slice_get}
use Rattle.std.proofs.lemmas.Option.{slice_get_within}
use Rattle.gw_num.specs.Table.{at}
use Rattle.gw_object.specs.declared.code.Instruction.{Instruction}
use Rattle.gw_object.specs.declared.code.Procedure.{Procedure}
use Rattle.gw_object.specs.declared.parts.Parts.{Parts}
use Rattle.gw_rules.proofs.Each.{Hold, first_with_others, hold_together}
use Rattle.gw_rules.specs.Code.{procedure_at, most_values, targets, is_among, cost_of_code, costs_from, costs_of}
use Rattle.gw_rules.specs.PlusChecks.{Heights, agrees, known_height, height_after, spread, instruction_checks, code_checks, has_code, greatest_cost, procedure_checks, checks_from, plus_checks, PlusPasses}
use Rattle.gw_rules.specs.OneHeight.{RulesHold, HasHeights, PlusPassesByHeights}
use Rattle.gw_rules.proofs.PlusSteps.{Fine, Lead}
use Rattle.gw_rules.proofs.PlusRules.{all_agree, Grows, spread_grows, spread_leads, spread_known, own_cost, checked}

-- FROM THE CHECKS

heights_ahead : (heights : Heights) (height : ℕ) (targets : List ℕ) → Lead heights height targets
    → All (λ target. known_height (at None heights target) ≡ height) targets
heights_ahead heights height [] lead = All-nil (λ x. known_height (at None heights x) ≡ height)
heights_ahead heights height (target ∷ targets) lead =
    All-cons (λ x. known_height (at None heights x) ≡ height) target targets (ap known_height lead.0) (heights_ahead heights height targets lead.1)

module _ (p : Parts) (n : ℕ) (pr : Procedure) where
  rules : (heights : Heights) (k : ℕ) (i : Instruction) → Fine p n pr heights k i → RulesHold p n pr (λ j. known_height (at None heights j)) k i
  rules heights k i f =
      let is : known_height (at None heights k) ≡ f.height = ap known_height f.known in
      record {
        leads = f.leads_well;
        calls = f.calls_lower;
        needs = f.needs;
        finds = rw is f.enough;
        leaves = rw is f.room;
        ahead = rw is (heights_ahead heights (height_after p i f.height) (targets k i) f.leads);
      }

-- where code passes, each procedure has its heights
pub has_heights : (p : Parts) → PlusPasses p → (n : ℕ) (pr : Procedure) → procedure_at p n ≡ Some pr → HasHeights p n pr
has_heights p passes n pr there =
    let c = checked p passes n pr there in
    let heights = c.sound.heights in
    record {
      height = λ k. known_height (at None heights k);
      start = ap known_height c.sound.start;
      code = c.sound.some;
      led_to = c.led_to;
      rules = λ k i here. rules p n pr heights k i (c.sound.each k i here);
      cost = c.bound;
    }

-- FROM HEIGHTS

among_all : (P : ℕ → Type 0) (xs : List ℕ) (x : ℕ) → All P xs → is_among xs x ≡ true → P x
among_all P [] x all among = absurd (cc)
among_all P (y ∷ ys) x all among =
    ⊎_elim
    (λ (here : (x == y) ≡ true). subst P (sym (eqb-true x y here)) (All-head P y ys all))
    (λ (there : is_among ys x ≡ true). among_all P ys x (All-tail P y ys all) there)
    (or_cases (x == y) (is_among ys x) among)

led_among : (heights : Heights) (height : ℕ) (targets : List ℕ) (x : ℕ) → Lead heights height targets → is_among targets x ≡ true
    → at None heights x ≡ Some height
led_among heights height [] x lead among = absurd (cc)
led_among heights height (y ∷ ys) x lead among =
    ⊎_elim
    (λ (here : (x == y) ≡ true). subst (λ z. at None heights z ≡ Some height) (sym (eqb-true x y here)) lead.0)
    (λ (there : is_among ys x ≡ true). led_among heights height ys x lead.1 there)
    (or_cases (x == y) (is_among ys x) among)

-- a height that comes to an instruction agrees with what is known there, where that is its height
agrees_there : (height : ℕ) (known : Option ℕ) → ((other : ℕ) → known ≡ Some other → other ≡ height) → agrees height known ≡ true
agrees_there height None same = refl
agrees_there height (Some other) same = eq-eqb other height (same other refl)

all_agree_there : (heights : Heights) (height : ℕ) (targets : List ℕ)
    → All (λ target. (other : ℕ) → at None heights target ≡ Some other → other ≡ height) targets → all_agree heights height targets ≡ true
all_agree_there heights height [] all = refl
all_agree_there heights height (target ∷ targets) all =
    let Same = λ (x : ℕ). (other : ℕ) → at None heights x ≡ Some other → other ≡ height in
    and_from _ _ (agrees_there height (at None heights target) (All-head Same target targets all))
    (all_agree_there heights height targets (All-tail Same target targets all))

all_of : (P Q : ℕ → Type 0) (xs : List ℕ) → ((x : ℕ) → P x → Q x) → All P xs → All Q xs
all_of P Q xs implies all k d within = implies _ (all k d within)

some_code : (code : List Instruction) → 0 < length code → has_code code ≡ true
some_code [] some = absurd (omega (arith, some))
some_code (i ∷ code) some = refl

module _ (p : Parts) (n : ℕ) (pr : Procedure) (h : HasHeights p n pr) where
  -- what is known is the height
  abbrev Agree : Heights → Type 0
  Agree heights = (j other : ℕ) → at None heights j ≡ Some other → other ≡ h.height j

  -- the instructions before k have told their heights, and that before the first one is known
  record Heard (heights : Heights) (k : ℕ) : Type 0 where
    first : at None heights 0 ≡ Some 0
    others : (m : ℕ) (i : Instruction) (t : ℕ) → m < k → slice_get pr.code m ≡ Some i → is_among (targets m i) t ≡ true → at None heights t ≡ Some (h.height t)

  -- so the height before the instruction k is known
  known_before : (heights : Heights) (k : ℕ) → Heard heights k → k < length pr.code → at None heights k ≡ Some (h.height k)
  known_before heights zero heard within = heard.first ∙ ap Some (sym h.start)
  known_before heights (suc k) heard within =
      let led = h.led_to (suc k) (omega arith) within in
      heard.others led.0 led.1 (suc k) led.2 led.3 led.4

  -- what is known where an instruction leads agrees with the height after it
  agree_ahead : (heights : Heights) (after : ℕ) (ts : List ℕ) → All (λ t. h.height t ≡ after) ts → Agree heights → all_agree heights after ts ≡ true
  agree_ahead heights after ts ahead agree =
      all_agree_there heights after ts
      (all_of (λ t. h.height t ≡ after) (λ t. (other : ℕ) → at None heights t ≡ Some other → other ≡ after) ts
      (λ t is other known. agree t other known ∙ is) ahead)

  one_holds : (heights : Heights) (k : ℕ) (i : Instruction) → slice_get pr.code k ≡ Some i → Agree heights
      → Hold (instruction_checks p n pr heights k i (Some (h.height k)))
  one_holds heights k i here agree =
      let r = h.rules k i here in
      let after = height_after p i (h.height k) in
      let ahead = agree_ahead heights after (targets k i) r.ahead agree in
      first_with_others _ _ _ r.leads
      (first_with_others _ _ _ r.calls
      (first_with_others _ _ _ r.needs
      (first_with_others _ _ _ (le-leb _ _ r.finds)
      (first_with_others _ _ _ (and_from (nat_le after most_values) (all_agree heights after (targets k i)) (le-leb _ _ r.leaves) ahead) refl))))

  spread_agrees : (heights : Heights) (k : ℕ) (i : Instruction) (after : ℕ) → All (λ t. h.height t ≡ after) (targets k i) → Agree heights
      → Lead (spread heights after (targets k i)) after (targets k i) → Agree (spread heights after (targets k i))
  spread_agrees heights k i after ahead agree leads j other is =
      ⊎_elim
      (λ (known : at None heights j ≡ Some other). agree j other known)
      (λ (among : is_among (targets k i) j ≡ true).
      let here : at None (spread heights after (targets k i)) j ≡ Some after =
      led_among (spread heights after (targets k i)) after (targets k i) j leads among in
      let same : other ≡ after = cc in
      same ∙ sym (among_all (λ t. h.height t ≡ after) (targets k i) j ahead among))
      (spread_known heights after (targets k i) j other is)

  told : (heights : Heights) (k : ℕ) (i : Instruction) (after : ℕ) → slice_get pr.code k ≡ Some i
      → All (λ t. h.height t ≡ after) (targets k i) → Heard heights k → Grows heights (spread heights after (targets k i))
      → Lead (spread heights after (targets k i)) after (targets k i) → (m : ℕ) (x : Instruction) (t : ℕ) → m < k + 1 → slice_get pr.code m
      ≡ Some x → is_among (targets m x) t ≡ true → at None (spread heights after (targets k i)) t ≡ Some (h.height t)
  told heights k i after here ahead heard grows leads m x t before there among =
      elim (cases_eq m k) [
        | inl now ↦
            let one : slice_get pr.code k ≡ Some x = subst (λ y. slice_get pr.code y ≡ Some x) now there in
            let same : x ≡ i = cc in
            let reached : is_among (targets k i) t ≡ true =
            subst (λ (y : Instruction). is_among (targets k y) t ≡ true) same (subst (λ y. is_among (targets y x) t ≡ true) now among) in
            led_among (spread heights after (targets k i)) after (targets k i) t leads reached
            ∙ ap Some (sym (among_all (λ t. h.height t ≡ after) (targets k i) t ahead reached))
        | inr other ↦ grows t (h.height t) (heard.others m x t (omega (arith, before, other)) there among)
      ]

  code_holds : (heights : Heights) (k : ℕ) (code : List Instruction) → ((j : ℕ) → slice_get code j ≡ slice_get pr.code (k + j))
      → Agree heights → Heard heights k → Hold (code_checks p n pr heights k code)
  code_holds heights k [] same agree heard = refl
  code_holds heights k (i ∷ code) same agree heard =
      let here : slice_get pr.code k ≡ Some i = ap (slice_get pr.code) (omega arith) ∙ sym (same 0) in
      let known = known_before heights k heard (slice_get_within pr.code k i here) in
      let ahead = (h.rules k i here).ahead in
      let after = height_after p i (h.height k) in
      let all = agree_ahead heights after (targets k i) ahead agree in
      let grows = spread_grows heights after (targets k i) all in
      let leads = spread_leads heights after (targets k i) all in
      let later = code_holds (spread heights after (targets k i)) (k + 1) code
      (λ j. same (suc j) ∙ ap (slice_get pr.code) (omega arith))
      (λ j other is. spread_agrees heights k i after ahead agree leads j other is)
      (record {
        first = grows 0 0 heard.first;
        others =
            λ m x t before there among. told heights k i after here ahead heard grows leads m x t before there among;
      }) in
      subst (λ (before : Option ℕ). Hold
      (instruction_checks p n pr heights k i before
      ++ code_checks p n pr (spread heights (height_after p i (known_height before)) (targets k i)) (k + 1) code)) (sym known)
      (hold_together (instruction_checks p n pr heights k i (Some (h.height k)))
      (code_checks p n pr (spread heights after (targets k i)) (k + 1) code) (one_holds heights k i here agree) later)

  alone : Agree (Some 0 ∷ [])
  alone zero other is = let same : other ≡ 0 = cc in same ∙ sym h.start
  alone (suc j) other is = absurd (cc)

  procedure_holds : (costs : List ℕ) → cost_of_code p.entities costs pr.code ≤ greatest_cost → Hold (procedure_checks p costs n pr)
  procedure_holds costs cost =
      hold_together (code_checks p n pr (Some 0 ∷ []) 0 pr.code) _
      (code_holds (Some 0 ∷ []) 0 pr.code (λ j. ap (slice_get pr.code) (omega arith)) alone
      (record { first = refl; others = λ m x t before there among. absurd (omega (arith, before)) }))
      (first_with_others _ _ _ (some_code pr.code h.code) (first_with_others _ _ _ (le-leb _ _ cost) refl))

passes_from : (p : Parts) (costs : List ℕ) (n : ℕ) (prs : List Procedure) → length costs ≡ n → costs_of p ≡ costs_from p.entities costs prs
    → ((j : ℕ) (pr : Procedure) → slice_get prs j ≡ Some pr → HasHeights p (n + j) pr) → Hold (checks_from p costs n prs)
passes_from p costs n [] count all each = refl
passes_from p costs n (pr ∷ prs) count all each =
    let cost = cost_of_code p.entities costs pr.code in
    let h : HasHeights p n pr = subst (λ m. HasHeights p m pr) (omega arith) (each 0 pr refl) in
    let own : at 0 (costs_of p) n ≡ cost = ap (λ cs. at 0 cs n) all ∙ ap (at 0 (costs_from p.entities costs (pr ∷ prs))) (sym count)
    ∙ own_cost p.entities costs pr prs in
    hold_together (procedure_checks p costs n pr) _
    (procedure_holds p n pr h costs (omega (arith, own, h.cost)))
    (passes_from p (costs ++ cost ∷ []) (n + 1) prs (omega (arith, count, length-append costs (cost ∷ []))) all
    (λ j x there. subst (λ m. HasHeights p m x) (omega arith) (each (suc j) x there)))

-- where each procedure has its heights, code passes
pub passes_by_heights : (p : Parts) → ((n : ℕ) (pr : Procedure) → procedure_at p n ≡ Some pr → HasHeights p n pr) → PlusPasses p
unfolding plus_checks
passes_by_heights p each = passes_from p [] 0 p.procedures refl refl (λ j pr there. subst (λ n. HasHeights p n pr) (omega arith) (each j pr there))

pub plus_passes_by_heights : PlusPassesByHeights
plus_passes_by_heights p = (has_heights p, passes_by_heights p)
