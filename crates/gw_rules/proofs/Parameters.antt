-- Parameters that a transaction is sure to have set, where it may pass a block and once it has passed it.
use Rattle.std.proofs.Common.{◌≡◌, ◌≢◌, ⊎_elim, ℕ, ◌<◌, nat_lt, List, [], ◌∷◌, get_or, Option, Some, None, true, refl, sym, subst, ◌∙◌, arith}
use Rattle.std.specs.Prelude.{All, is_some, filter, ◌==◌}
use Rattle.std.specs.List.{flat_map, fold}
use Rattle.std.proofs.lemmas.Bool.{cases_order, eq-eqb, eqb-true, ne_eqb, lt-ltb, le-ltb, or_cases, false≢true}
use Rattle.std.proofs.lemmas.List.Elements.{All-nil, All-cons, All-head, All-tail}
use Rattle.gw_object.specs.declared.blocks.Operand.{Operand}
use Rattle.gw_object.specs.declared.blocks.Loop.{Loop}
use Rattle.gw_object.specs.declared.blocks.Block.{Block}
use Rattle.gw_object.specs.declared.blocks.Block.TheVariants as blocks
use Rattle.gw_object.specs.declared.parts.Parts.{Parts}
use Rattle.gw_rules.specs.Sources.{evaluation_operands}
use Rattle.gw_rules.specs.Code.{parameters_asked, is_among}
use Rattle.gw_rules.specs.FlowCodes as codes
use Rattle.gw_rules.specs.Entries.{with_number}
use Rattle.gw_rules.specs.Rows.{Row, ParamKind, Num, Ret, kind_of, is_number, is_return, with_parameter}
use Rattle.gw_rules.specs.Blocks.{Table, Rule, rule, number_rules, parameters_read, value_rules, own_rules, parameter_set, with_setting, after}
use Rattle.gw_rules.specs.FlowLaws.{MayPass}
use Rattle.gw_rules.proofs.Entries.{entry-with_entry}
use Rattle.gw_rules.proofs.EachBlock.{All-front, All-back}

-- AFTER A BLOCK

-- a parameter that is set is of its kind
pub kind_of_set : (p : ℕ) (kind : ParamKind) (row : Row) → kind_of (with_parameter p kind row) p ≡ Some kind
kind_of_set p kind row = entry-with_entry p (Some kind) row.params p ∙ rw (eq-eqb p p refl) refl

-- and each other one holds what it held
pub kind_of_other : (p q : ℕ) (kind : ParamKind) (row : Row) → p ≢ q → kind_of (with_parameter p kind row) q ≡ kind_of row q
kind_of_other p q kind row ne = entry-with_entry p (Some kind) row.params q ∙ rw (ne_eqb p q ne) refl

-- a block sets the parameter that it sets, and no other
pub after_params : (b : ℕ) (block : Block) (row : Row) → (after b block row).params ≡ (with_setting (parameter_set b block) row).params
after_params b (blocks.Plus a) row = refl
after_params b block row = refl

-- WHERE A BLOCK MAY BE PASSED

abbrev Holds : Rule → Type 0
Holds rule = rule.holds ≡ true

is_num : (kind : Option ParamKind) → is_number kind ≡ true → kind ≡ Some Num
is_num None h = absurd (false≢true h)
is_num (Some Num) h = refl
is_num (Some (Ret bs)) h = absurd (false≢true h)

a_return : (kind : Option ParamKind) → is_return kind ≡ true → (bs : List ℕ) × (kind ≡ Some (Ret bs))
a_return None h = absurd (false≢true h)
a_return (Some Num) h = absurd (false≢true h)
a_return (Some (Ret bs)) h = (bs, refl)

module _ (row : Row) where
  -- a parameter is sure to hold a number
  abbrev IsNumber : ℕ → Type 0
  IsNumber q = kind_of row q ≡ Some Num

  by_rules : (p : ℕ) → All Holds (number_rules row p) → IsNumber p
  by_rules p h =
      let set = rule codes.unset_param (is_some (kind_of row p)) in
      let number = rule codes.param_kind (is_number (kind_of row p)) in
      is_num (kind_of row p) (All-head Holds number [] (All-tail Holds set (number ∷ []) h))

  by_each : (ps : List ℕ) → All Holds (flat_map (number_rules row) ps) → All IsNumber ps
  by_each [] h = All-nil IsNumber
  by_each (p ∷ ps) h =
      All-cons IsNumber p ps
      (by_rules p (All-front Holds (number_rules row p) (flat_map (number_rules row) ps) h))
      (by_each ps (All-back Holds (number_rules row p) (flat_map (number_rules row) ps) h))

  -- what holds of numbers in order holds of each
  kept : (n : ℕ) (ms : List ℕ) → IsNumber n → All IsNumber (filter (λ m. nat_lt m n) ms) → All IsNumber (filter (λ m. nat_lt n m) ms) → All IsNumber ms
  kept n [] here below above = All-nil IsNumber
  kept n (m ∷ ms) here below above =
      ⊎_elim
      (λ (same : m ≡ n).
      All-cons IsNumber m ms (subst IsNumber (sym same) here)
      (kept n ms here (rw (le-ltb m n (omega (arith, same))) at below) (rw (le-ltb n m (omega (arith, same))) at above)))
      (⊎_elim
      (λ (lt : m < n).
      let p : All IsNumber (m ∷ filter (λ k. nat_lt k n) ms) = rw (lt-ltb m n lt) at below in
      All-cons IsNumber m ms (All-head IsNumber m (filter (λ k. nat_lt k n) ms) p)
      (kept n ms here (All-tail IsNumber m (filter (λ k. nat_lt k n) ms) p) (rw (le-ltb n m (omega (arith, lt))) at above)))
      (λ (gt : n < m).
      let p : All IsNumber (m ∷ filter (λ k. nat_lt n k) ms) = rw (lt-ltb n m gt) at above in
      All-cons IsNumber m ms (All-head IsNumber m (filter (λ k. nat_lt n k) ms) p)
      (kept n ms here (rw (le-ltb m n (omega (arith, gt))) at below) (All-tail IsNumber m (filter (λ k. nat_lt n k) ms) p))))
      (cases_order m n)

  placed : (n : ℕ) (ms : List ℕ) → All IsNumber (with_number n ms) → IsNumber n × All IsNumber ms
  placed n ms h =
      let back = All-back IsNumber (filter (λ m. nat_lt m n) ms) (n ∷ filter (λ m. nat_lt n m) ms) h in
      let here = All-head IsNumber n (filter (λ m. nat_lt n m) ms) back in (
        here,
        kept n ms here (All-front IsNumber (filter (λ m. nat_lt m n) ms) (n ∷ filter (λ m. nat_lt n m) ms) h)
            (All-tail IsNumber n (filter (λ m. nat_lt n m) ms) back),
      )

  in_any_order : (all ns : List ℕ) → All IsNumber (fold (λ ms n. with_number n ms) all ns) → All IsNumber all × All IsNumber ns
  in_any_order all [] h = (h, All-nil IsNumber)
  in_any_order all (n ∷ ns) h =
      let later = in_any_order (with_number n all) ns h in
      let now = placed n all later.0 in
      (now.1, All-cons IsNumber n ns now.0 later.1)

  -- what holds of all holds of one that is among them
  of_one : (ps : List ℕ) → All IsNumber ps → (q : ℕ) → is_among ps q ≡ true → IsNumber q
  of_one [] h q among = absurd (false≢true among)
  of_one (p ∷ ps) h q among =
      ⊎_elim
      (λ (here : (q == p) ≡ true). subst IsNumber (sym (eqb-true q p here)) (All-head IsNumber p ps h))
      (λ (there : is_among ps q ≡ true). of_one ps (All-tail IsNumber p ps h) q there)
      (or_cases (q == p) (is_among ps q) among)

  -- of each of these operands: each parameter that it asks for holds a number
  by_operand : (p : Parts) (os : List Operand) → All IsNumber (flat_map (parameters_asked p) os) → All (λ o. All IsNumber (parameters_asked p o)) os
  by_operand p [] h = All-nil (λ o. All IsNumber (parameters_asked p o))
  by_operand p (o ∷ os) h =
      let later = flat_map (parameters_asked p) os in
      All-cons (λ o. All IsNumber (parameters_asked p o)) o os (All-front IsNumber (parameters_asked p o) later h)
      (by_operand p os (All-back IsNumber (parameters_asked p o) later h))

  -- where no parameter is known to be set, those that are numbers are none
  no_numbers : (ps : List ℕ) → ((q : ℕ) → kind_of row q ≡ None) → All IsNumber ps → ps ≡ []
  no_numbers [] none h = refl
  no_numbers (p ∷ ps) none h = let never : None ≡ Some Num = sym (none p) ∙ All-head IsNumber p ps h in absurd cc

module _ (p : Parts) (table : Table) (b : ℕ) where
  -- the block's own rules hold
  pub own_rules_hold : (block : Block) (row : Row) → MayPass p table b block row → All (λ (rule : Rule). rule.holds ≡ true) (own_rules p block row)
  own_rules_hold block row h = All-back Holds (value_rules p block row) (own_rules p block row) h.each_rule

  -- each parameter that an operand asks for which is evaluated there is sure to hold a number
  each_is_number : (block : Block) (row : Row) → MayPass p table b block row
      → All (λ (o : Operand). All (IsNumber row) (parameters_asked p o)) (evaluation_operands p.entities block)
  each_is_number block row h =
      let os = evaluation_operands p.entities block in
      let each = by_each row (parameters_read p os) (All-front Holds (value_rules p block row) (own_rules p block row) h.each_rule) in
      by_operand row p os (in_any_order row [] (flat_map (parameters_asked p) os) each).1

  -- the same of a parameter that is among them
  pub values_are_numbers : (block : Block) (row : Row) → MayPass p table b block row →
      All (λ (o : Operand). (q : ℕ) → is_among (parameters_asked p o) q ≡ true → kind_of row q ≡ Some Num) (evaluation_operands p.entities block)
  values_are_numbers block row h i d within =
      of_one row (parameters_asked p (get_or (evaluation_operands p.entities block) i d)) (each_is_number block row h i d within)

  -- where no parameter is known to be set, as at a GENERATE, those operands ask for none
  pub asks_for_none : (block : Block) (row : Row) → MayPass p table b block row → ((q : ℕ) → kind_of row q ≡ None)
      → All (λ (o : Operand). parameters_asked p o ≡ []) (evaluation_operands p.entities block)
  asks_for_none block row h none i d within =
      no_numbers row (parameters_asked p (get_or (evaluation_operands p.entities block) i d)) none (each_is_number block row h i d within)

  -- what a LOOP counts down is sure to be a number
  pub loop_is_number : (l : Loop) (row : Row) → MayPass p table b (blocks.Loop l) row → kind_of row l.parameter ≡ Some Num
  loop_is_number l row h = by_rules row l.parameter (own_rules_hold (blocks.Loop l) row h)

  -- where a TRANSFER in parameter mode leads to is sure to be a return
  pub return_is : (q : ℕ) (row : Row) → MayPass p table b (blocks.TransferByParameter q) row → (bs : List ℕ) × (kind_of row q ≡ Some (Ret bs))
  return_is q row h =
      let set = rule codes.unset_param (is_some (kind_of row q)) in
      let returns = rule codes.param_kind (is_return (kind_of row q)) in
      a_return (kind_of row q) (All-head Holds returns [] (All-tail Holds set (returns ∷ []) (own_rules_hold (blocks.TransferByParameter q) row h)))
