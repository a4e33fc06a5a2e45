-- What the block of a weighted object pays for.
use Rattle.std.proofs.Common.{◌≡◌, ◌≢◌, ℕ, ◌+◌, ◌*◌, ◌≤◌, ℤ, List, [], ◌∷◌, Option, Some, None, Bool, true, false, if◌then◌else◌, ◌==◌, arith, refl}
use Rattle.std.proofs.Common.{sym, ap, ◌∙◌, subst}
use Rattle.std.specs.Prelude.{All, Contains}
use Rattle.std.proofs.lemmas.Bool.{eq-eqb, ne_eqb}
use Rattle.std.proofs.lemmas.List.Elements.{All-head, All-tail, All-contains}
use Rattle.gw_object.specs.declared.blocks.Block.{Block}
use Rattle.gw_object.specs.declared.blocks.Block.TheVariants as blocks
use Rattle.gw_object.specs.declared.blocks.Both.{Both}
use Rattle.gw_object.specs.declared.parts.Parts.{Parts}
use Rattle.gw_rules.specs.declared.ways.Way.{Way}
use Rattle.gw_rules.specs.declared.ways.Way.TheVariants.{Goes}
use Rattle.gw_rules.specs.declared.ways.Exit.{Exit}
use Rattle.gw_rules.specs.Exits.{leads_to, goes_or_falls, at_once, returns_to, exits_with}
use Rattle.gw_rules.specs.Kinds.{block_at}
use Rattle.gw_rules.specs.Rows.{Row}
use Rattle.gw_rules.specs.Blocks.{returns_read}
use Rattle.gw_rules.specs.Flow.{own_row}
use Rattle.gw_rules.specs.declared.slopes.Treatment.{Treatment}
use Rattle.gw_rules.specs.declared.slopes.Treatment.TheVariants.{Keeps, SetsTo, Lowers, RunsOut, Changes}
use Rattle.gw_rules.specs.Weights.{weight_at, slope_at, above, per_of, changed_parameter, treatment, treats}
use Rattle.gw_rules.specs.WeightsLaws.{Covers, IsOn, PaysSlope, PaysTo, PaysCopies, PaysExit, Weighted}
use Rattle.gw_num.specs.Table.{at}
use Rattle.gw_transactions.specs.Transactions.{LiveTransaction, parameters_at}
use Rattle.gw_step.specs.Turning.{choice_at, choice_of, two_next}
use Rattle.gw_transactions.specs.declared.Transaction.{Transaction}
use Rattle.gw_step.specs.Weight.{height, slope_addition, weighs_there, heavier, weight_by, weight_in}
use Rattle.std.specs.Option.{option_map_or}
use Rattle.std.proofs.lemmas.Nat.{mul-le}
use Rattle.gw_num.specs.Table.{put}
use Rattle.gw_num.proofs.Tables.{by_entry}
use Rattle.gw_transactions.specs.Parameters.{no_parameters}
use Rattle.gw_step.proofs.Attributes.{bearer_at}
use Rattle.gw_step.proofs.Traces.{IsAt, its_chain, Paid}

-- ONE NEXT BLOCK OR TWO

-- who goes on to another block than the one it is in has one next block
pub one_apart : (p : Parts) (t : Transaction) → t.current ≢ t.next → two_next p t ≡ None
one_apart p t apart = ap (λ (same : Bool). if same then choice_of t.next (block_at p.blocks t.next) else None) (ne_eqb t.current t.next apart)

-- and so has who goes on to a block that gives no choice
pub one_plain : (p : Parts) (t : Transaction) (block : Block) → block_at p.blocks t.next ≡ Some block → choice_at t.next block ≡ None → two_next p t ≡ None
one_plain p t block is none = by_test (t.current == t.next)
  where
    by_test : (same : Bool) → (if same then choice_of t.next (block_at p.blocks t.next) else None) ≡ None
    by_test true = ap (choice_of t.next) is ∙ none
    by_test false = refl

-- who is in the block to which it goes on, and that gives a choice, has two
pub two_here : (p : Parts) (t : Transaction) (block : Block) (pair : ℕ × ℕ) → t.current ≡ t.next → block_at p.blocks t.next ≡ Some block
    → choice_at t.next block ≡ Some pair → two_next p t ≡ Some pair
two_here p t block pair same is chosen =
    ap (λ (same : Bool). if same then choice_of t.next (block_at p.blocks t.next) else None) (eq-eqb t.current t.next same) ∙ ap (choice_of t.next) is ∙ chosen

-- THE WEIGHT OF WHO IS THERE

-- with one next block it weighs what that weighs
pub weighs_one : (p : Parts) (u : LiveTransaction) → u.chain ≡ None → two_next p u.attributes ≡ None → weight_in p (Some u)
    ≡ weighs_there p u.attributes.next u.parameters
weighs_one p u free one =
    ap (λ (c : Option ℕ). weight_by p c u.attributes.next (two_next p u.attributes) u.parameters) free
    ∙ ap (λ (two : Option (ℕ × ℕ)). weight_by p None u.attributes.next two u.parameters) one

-- with two it weighs what the heavier of them weighs
pub weighs_two : (p : Parts) (u : LiveTransaction) (pair : ℕ × ℕ) → u.chain ≡ None → two_next p u.attributes ≡ Some pair
    → weight_in p (Some u) ≡ heavier p pair u.parameters
weighs_two p u pair free two =
    ap (λ (c : Option ℕ). weight_by p c u.attributes.next (two_next p u.attributes) u.parameters) free
    ∙ ap (λ (two : Option (ℕ × ℕ)). weight_by p None u.attributes.next two u.parameters) two

-- the parameters of who is there
pub own_parameters : (ts : List (Option LiveTransaction)) (n : ℕ) (u : LiveTransaction) → at None ts n ≡ Some u → u.parameters ≡ parameters_at n ts
own_parameters ts n u there = sym (ap (λ o. option_map_or (λ (x : LiveTransaction). x.parameters) o no_parameters) there)

-- who is at a block, and has one next block, weighs what that weighs
pub its_weight : (p : Parts) (ts : List (Option LiveTransaction)) (n : ℕ) (t : Transaction) (block : Block) (row : Row)
    → IsAt p ts n t block row → two_next p t ≡ None → weight_in p (at None ts n) ≡ weighs_there p t.next (parameters_at n ts)
its_weight p ts n t block row is one =
    let bears = bearer_at ts n t is.found in
    ap (weight_in p) bears.1 ∙ weighs_one p bears.0 (its_chain (at None ts n) bears.0 None bears.1 is.free) (ap (two_next p) bears.2 ∙ one)
    ∙ ap (λ (a : Transaction). weighs_there p a.next bears.0.parameters) bears.2
    ∙ ap (weighs_there p t.next) (own_parameters ts n bears.0 bears.1)

-- and who has two what the heavier of them weighs
pub its_weight_of_two : (p : Parts) (ts : List (Option LiveTransaction)) (n : ℕ) (t : Transaction) (block : Block) (row : Row)
    (pair : ℕ × ℕ) → IsAt p ts n t block row → two_next p t ≡ Some pair → weight_in p (at None ts n) ≡ heavier p pair (parameters_at n ts)
its_weight_of_two p ts n t block row pair is two =
    let bears = bearer_at ts n t is.found in
    ap (weight_in p) bears.1
    ∙ weighs_two p bears.0 pair (its_chain (at None ts n) bears.0 None bears.1 is.free) (ap (two_next p) bears.2 ∙ two)
    ∙ ap (heavier p pair) (own_parameters ts n bears.0 bears.1)

-- SLOPES

-- what a greater slope on the same parameter adds is more
covered : (own : Option (ℕ × ℕ)) (slope : ℕ × ℕ) (parameters : List (Option ℤ)) → Covers own slope → slope.1 * height slope.0 parameters
    ≤ slope_addition own parameters
covered None slope parameters h = absurd h
covered (Some own) slope parameters h =
    let same : own.1 * height own.0 parameters ≡ own.1 * height slope.0 parameters = ap (λ q. own.1 * height q parameters) h.0 in
    omega (arith, same, mul-le slope.1 (height slope.0 parameters) own.1 (height slope.0 parameters) h.1 (omega arith))

-- what a block that treats a parameter so makes of its height
abbrev pub Does : Treatment → ℕ → ℕ → Type 0
Does Keeps old new = new ≡ old
Does (SetsTo value) old new = new ≡ above value
Does Lowers old new = old ≡ 1 + new
Does RunsOut old new = new ≡ 0
Does Changes old new = Unit {0}

-- what a block does on a way of it makes these parameters of these
abbrev pub Makes : Block → Way → List (Option ℤ) → List (Option ℤ) → Type 0
Makes block way old new = (q : ℕ) → Does (treats block way q) (height q old) (height q new)

-- where a block sets the parameter that it changes, the others stay
pub set_makes : (block : Block) (way : Way) (q : ℕ) (value : ℤ) (old : List (Option ℤ)) → changed_parameter block ≡ Some q
    → Does (treatment block way) (height q old) (above value) → Makes block way old (put None old q (Some value))
set_makes block way q value old sets does =
    by_entry None old q (Some value) (λ r v. Does (treats block way r) (height r old) (option_map_or above v 0))
    (subst (λ o. Does (option_map_or (λ r. if r == q then treatment block way else Keeps) o Keeps) (height q old) (above value)) (sym sets)
    (subst (λ (same : Bool). Does (if same then treatment block way else Keeps) (height q old) (above value)) (sym (eq-eqb q q refl)) does))
    (λ r other. subst (λ o. Does (option_map_or (λ q. if q == r then treatment block way else Keeps) o Keeps) (height r old)
    (height r old)) (sym sets)
    (subst (λ (same : Bool). Does (if same then treatment block way else Keeps) (height r old) (height r old))
    (sym (ne_eqb q r (λ same. other (sym same)))) refl))

-- how high the parameter is that a slope looks at
own_height : Option (ℕ × ℕ) → List (Option ℤ) → ℕ
own_height None parameters = 0
own_height (Some own) parameters = height own.0 parameters

-- what each slope on the parameter of another one adds, by how steep it is
by_height : (own other : Option (ℕ × ℕ)) (parameters : List (Option ℤ)) → IsOn own other → slope_addition other parameters ≡ per_of other
    * own_height own parameters
unfolding own_height
by_height own None parameters on = omega arith
by_height None (Some slope) parameters on = absurd on
by_height (Some own) (Some slope) parameters on = ap (λ q. slope.1 * height q parameters) (sym on)

by_own_height : (own : Option (ℕ × ℕ)) (parameters : List (Option ℤ)) → slope_addition own parameters ≡ per_of own * own_height own parameters
unfolding own_height
by_own_height None parameters = refl
by_own_height (Some own) parameters = refl

-- WHAT A BLOCK PAYS FOR

module _ (p : Parts) (b : ℕ) (block : Block) (row : Row) (block_is : block_at p.blocks b ≡ Some block) (row_is : own_row p b ≡ Some row) where
  -- its exits are paid for
  pub exits_paid : Weighted p → All (PaysExit p b block) (exits_with (returns_read block row) block)
  exits_paid weighted = (weighted.each_row b block row block_is row_is).exits

  by_treatment : (there : ℕ) (slope : ℕ × ℕ) (treatment : Treatment) (old new : List (Option ℤ)) → PaysSlope p b there slope treatment
      → Does treatment (height slope.0 old) (height slope.0 new) → 1 + (there + slope.1 * height slope.0 new) ≤ weighs_there p b old
  by_treatment there slope Keeps old new pays does = omega (arith, pays.0, ap (λ h. slope.1 * h) does, covered (slope_at p.slopes b) slope old pays.1)
  by_treatment there slope (SetsTo value) old new pays does = omega (arith, pays, ap (λ h. slope.1 * h) does)
  by_treatment there slope Lowers old new pays does =
      let lower : slope.1 * height slope.0 old ≡ slope.1 * (1 + height slope.0 new) = ap (λ h. slope.1 * h) does in
      omega (arith, pays.0, lower, covered (slope_at p.slopes b) slope old pays.1)
  by_treatment there slope RunsOut old new pays does =
      let none : slope.1 * height slope.0 new ≡ slope.1 * 0 = ap (λ h. slope.1 * h) does in
      omega (arith, pays, none)
  by_treatment there slope Changes old new pays does = absurd pays

  -- where a way leads that somebody goes, with the parameters that the block makes
  by_slope : (way : Way) (there : ℕ) (slope : Option (ℕ × ℕ)) (old new : List (Option ℤ)) → PaysTo p b block way there slope
      → Makes block way old new → 1 + (there + slope_addition slope new) ≤ weighs_there p b old
  by_slope way there None old new pays makes = omega (arith, pays)
  by_slope way there (Some slope) old new pays makes = by_treatment there slope (treats block way slope.0) old new pays (makes slope.0)

  -- so is a way that somebody goes at once
  pub way_paid : (way : Way) (old new : List (Option ℤ)) → Makes block way old new → (c : ℕ)
      → (Weighted p → PaysExit p b block (at_once way)) → Paid p (1 + weighs_there p (leads_to b way) new + c) (weighs_there p b old + c)
  way_paid way old new makes c pays weighted =
      omega (arith, by_slope way (weight_at p.weights (leads_to b way)) (slope_at p.slopes (leads_to b way)) old new (pays weighted refl) makes)

  -- the first of its ways
  pub first_paid : (way : Way) (es : List Exit) → exits_with (returns_read block row) block ≡ at_once way ∷ es
      → (old new : List (Option ℤ)) → Makes block way old new → (c : ℕ) → Paid p (1 + weighs_there p (leads_to b way) new + c) (weighs_there p b old + c)
  first_paid way es is old new makes c =
      way_paid way old new makes c (λ weighted. All-head (PaysExit p b block) (at_once way) es (subst (All (PaysExit p b block)) is (exits_paid weighted)))

  -- the second
  pub second_paid : (e : Exit) (way : Way) (es : List Exit) → exits_with (returns_read block row) block ≡ e ∷ at_once way ∷ es
      → (old new : List (Option ℤ)) → Makes block way old new → (c : ℕ) → Paid p (1 + weighs_there p (leads_to b way) new + c) (weighs_there p b old + c)
  second_paid e way es is old new makes c =
      way_paid way old new makes c
      (λ weighted. All-head (PaysExit p b block) (at_once way) es
      (All-tail (PaysExit p b block) e (at_once way ∷ es) (subst (All (PaysExit p b block)) is (exits_paid weighted))))

  -- the way back to after a block that called it
  pub return_paid : (from : ℕ) → Contains (exits_with (returns_read block row) block) (returns_to from) → (parameters : List (Option ℤ))
      → Makes block (Goes (from + 1)) parameters parameters → (c : ℕ) → Paid p (1 + weighs_there p (from + 1) parameters + c) (weighs_there p b parameters + c)
  return_paid from among parameters makes c =
      way_paid (Goes (from + 1)) parameters parameters makes c
      (λ weighted. All-contains (PaysExit p b block) (exits_with (returns_read block row) block) (returns_to from) (exits_paid weighted) among)

  -- so many copies, and itself
  pub copies_pay : (copies target : ℕ) (parameters : List (Option ℤ)) → PaysCopies p b copies target → 1
      + weighs_there p (b + 1) parameters + copies * weighs_there p target parameters ≤ weighs_there p b parameters
  copies_pay copies target parameters pays =
      let own = slope_at p.slopes b in
      let fall = slope_at p.slopes (b + 1) in
      let other = slope_at p.slopes target in
      let m = own_height own parameters in
      let steep : (per_of fall + copies * per_of other) * m ≤ per_of own * m = mul-le _ m _ m pays.steep (omega arith) in
      let its = by_height own fall parameters pays.fall_on in
      let theirs : copies * slope_addition other parameters ≡ copies * (per_of other * m) =
      ap (λ k. copies * k) (by_height own other parameters pays.target_on) in
      omega (arith, pays.base, steep, its, theirs, by_own_height own parameters)

-- WHO HAS TWO NEXT BLOCKS

-- in a weighted object a TRANSFER BOTH pays for its entry and for the heavier of its two blocks, each of which weighs at most that; and neither is itself
pub record IsPaid (p : Parts) (b : ℕ) (pair : ℕ × ℕ) (parameters : List (Option ℤ)) : Type 0 where
  pub entry : 1 + heavier p pair parameters ≤ weighs_there p b parameters
  pub first : weighs_there p pair.0 parameters ≤ heavier p pair parameters
  pub second : weighs_there p pair.1 parameters ≤ heavier p pair parameters
  pub first_other : b ≢ pair.0
  pub second_other : b ≢ pair.1

module _ (p : Parts) (weighted : Weighted p) where
  both_paid : (b : ℕ) (two : Both) (row : Row) (parameters : List (Option ℤ)) → block_at p.blocks b ≡ Some (blocks.TransferBoth two)
      → own_row p b ≡ Some row → IsPaid p b (leads_to b (goes_or_falls two.first), two.second) parameters
  both_paid b two row parameters block_is row_is =
      let to_first = first_paid p b (blocks.TransferBoth two) row block_is row_is (goes_or_falls two.first)
      (at_once (Goes two.second) ∷ []) refl parameters parameters (λ q. refl) 0 weighted in
      let to_second = second_paid p b (blocks.TransferBoth two) row block_is row_is (at_once (goes_or_falls two.first)) (Goes two.second)
      [] refl parameters parameters (λ q. refl) 0 weighted in
      record {
        entry = omega (arith, to_first, to_second);
        first = omega arith;
        second = omega arith;
        first_other = λ same. absurd (omega (arith, to_first, ap (λ x. weighs_there p x parameters) same));
        second_other = λ same. absurd (omega (arith, to_second, ap (λ x. weighs_there p x parameters) same));
      }

  pub choice_paid : (b : ℕ) (block : Block) (row : Row) (pair : ℕ × ℕ) (parameters : List (Option ℤ)) → block_at p.blocks b ≡ Some block
      → own_row p b ≡ Some row → choice_at b block ≡ Some pair → IsPaid p b pair parameters
  choice_paid b (blocks.TransferBoth two) row pair parameters block_is row_is is =
      let same : (leads_to b (goes_or_falls two.first), two.second) ≡ pair = cc in
      subst (λ pair. IsPaid p b pair parameters) same (both_paid b two row parameters block_is row_is)
  choice_paid b block row pair parameters block_is row_is is = absurd cc

  -- who is at a block with a row weighs no more than that, whether it has one next block or two
  pub weighs_within : (u : LiveTransaction) (block : Block) (row : Row) → u.chain ≡ None → block_at p.blocks u.attributes.next ≡ Some block
      → own_row p u.attributes.next ≡ Some row → weight_in p (Some u) ≤ weighs_there p u.attributes.next u.parameters
  weighs_within u block row free block_is row_is =
      subst (λ (c : Option ℕ). weight_by p c u.attributes.next (two_next p u.attributes) u.parameters
      ≤ weighs_there p u.attributes.next u.parameters) (sym free) (by_test (u.attributes.current == u.attributes.next))
    where
      by_choice : (o : Option (ℕ × ℕ)) → choice_at u.attributes.next block ≡ o → weight_by p None u.attributes.next o u.parameters
          ≤ weighs_there p u.attributes.next u.parameters
      by_choice None is = omega arith
      by_choice (Some pair) is = omega (arith, (choice_paid u.attributes.next block row pair u.parameters block_is row_is is).entry)

      by_test : (same : Bool) → weight_by p None u.attributes.next
          (if same then choice_of u.attributes.next (block_at p.blocks u.attributes.next) else None) u.parameters
          ≤ weighs_there p u.attributes.next u.parameters
      by_test true = by_choice (choice_of u.attributes.next (block_at p.blocks u.attributes.next)) (sym (ap (choice_of u.attributes.next) block_is))
      by_test false = omega arith
