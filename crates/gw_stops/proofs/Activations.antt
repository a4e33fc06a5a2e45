-- Where an activation of PLUS code is stuck, it comes to nothing.
use Rattle.std.proofs.Common.{◌≡◌, ℕ, zero, suc, ◌+◌, ◌-◌, ◌<◌, ◌≤◌, ℤ, List, [], ◌∷◌, length, Option, Some, None, Bool, true, false, Result, Ok}
use Rattle.std.proofs.Common.{if◌then◌else◌, nat_lt, nat_le, refl, sym, ap, ◌∙◌, subst, arith}
use Rattle.std.specs.Prelude.{slice_get, slice_set}
use Rattle.std.proofs.lemmas.Bool.{le-ltb, lt-leb, true≢false}
use Rattle.gw_num.specs.Arithmetic.{is_zero}
use Rattle.gw_num.specs.Operators.{binary_value, unary_value}
use Rattle.gw_num.specs.Table.{at}
use Rattle.gw_object.specs.declared.blocks.Operand.{Operand}
use Rattle.gw_object.specs.declared.blocks.Operand.TheVariants as operands
use Rattle.gw_object.specs.declared.code.Instruction.{Instruction}
use Rattle.gw_object.specs.declared.code.Instruction.TheVariants.{Push, Get, Set, Value, Binary, Unary, Pop, Jump, JumpIfZero, Back, Call, Return}
use Rattle.gw_object.specs.declared.code.Procedure.{Procedure}
use Rattle.gw_object.specs.declared.parts.Parts.{Parts}
use Rattle.gw_rules.specs.declared.ends.PlusEnd.{PlusEnd}
use Rattle.gw_rules.specs.Sources.{source_of, as_operand, procedure_named}
use Rattle.gw_rules.specs.Environment.{Environment}
use Rattle.gw_rules.specs.Values.{Value as Comes, Unset, ◌>>=◌, came_to, if_set, source_value, operand_value, draws_below}
use Rattle.gw_rules.specs.Results.{value_by_operand}
use Rattle.gw_rules.specs.Code.{most_values, procedure_at, arguments_of, takes, leaves, called_in, costs_of}
use Rattle.gw_rules.specs.Meaning.{Frame, Next, Goes, Calls, Returns, Stuck, on, push_value, or_stuck, pop_value, calculate, opening_frame, act, next, reads_source, calls_with, Derives}
use Rattle.gw_rules.specs.Outcome.{Answer, answer_within, outcome_of}
use Rattle.gw_rules.proofs.Outcomes.{Continues, Unrolled, unroll, one_outcome}
use Rattle.gw_rules.proofs.Within.{answers_are_derived}
use Rattle.gw_stops.specs.Activations.{GetsStuck, at_once, later, in_a_call, no_room, after_a_call, ComesTo, StuckActivationsHaveNoOutcome}
use Rattle.gw_stops.specs.Activations.{EmptyStackStops, FullStackStops, FullStackHasNoRoom, JumpOutStops, AbsentProcedureStops, CallOfAbsentStops}
use Rattle.gw_stops.specs.Activations.{GetOfAbsentStops, SetOfAbsentStops, UnsetValueStops, HasNone, LacksValue}

-- STUCK ACTIVATIONS HAVE NO OUTCOME

module _ (p : Parts) (env : Environment) where
  -- a call that came to a value comes to no other outcome
  came_once : (n q : ℕ) (f g : Frame) (arguments : List ℤ) (finish : ℤ → ℤ) (m k : ℕ) (v : ℤ) (r : Result ℤ PlusEnd) → next p env n f
      ≡ Calls q arguments finish g → Derives p env q (opening_frame (procedure_at p q) arguments) m (Ok v) → Derives p env n f k r
      → (i : ℕ) × Continues p env n finish g k i (Ok v) r
  came_once n q f g arguments finish m k v r is d derived =
      let u = subst (λ x. Unrolled p env n x k r) is (unroll derived) in
      let same = one_outcome p env q (opening_frame (procedure_at p q) arguments) u.0 m u.1 (Ok v) u.2 d in
      (u.0, subst (λ a. Continues p env n finish g k u.0 a r) same.1 u.3)

  never : (n : ℕ) (f : Frame) → GetsStuck p env n f → (k : ℕ) (r : Result ℤ PlusEnd) → Derives p env n f k r → ⊥
  never n f (at_once is) k r d = subst (λ x. Unrolled p env n x k r) is (unroll d)
  never n f (later {g = g} is stuck) k r d =
      let u = subst (λ x. Unrolled p env n x k r) is (unroll d) in never n g stuck u.0 r u.1
  never n f (in_a_call {q = q} {arguments = arguments} is stuck) k r d =
      let u = subst (λ x. Unrolled p env n x k r) is (unroll d) in never q (opening_frame (procedure_at p q) arguments) stuck u.0 u.1 u.2
  never n f (no_room {q = q} {g = g} {arguments = arguments} {finish = finish} {m = m} {v = v} is came full) k r d =
      let u = came_once n q f g arguments finish m k v r is came d in
      let both : Stuck ≡ Goes u.1.0 = sym full ∙ u.1.2 in absurd cc
  never n f (after_a_call {q = q} {g = g} {h = h} {arguments = arguments} {finish = finish} {m = m} {v = v} is came goes stuck) k r d =
      let u = came_once n q f g arguments finish m k v r is came d in
      let same : h ≡ u.1.0 = (let e : Goes h ≡ Goes u.1.0 = sym goes ∙ u.1.2 in cc) in
      never n h stuck u.1.1 r (subst (λ x. Derives p env n x u.1.1 r) (sym same) u.1.3)

pub stuck_activations_have_no_outcome : StuckActivationsHaveNoOutcome
stuck_activations_have_no_outcome p env n f stuck k r d = never p env n f stuck k r d

-- so nothing is answered
no_answer : (p : Parts) (env : Environment) (most n : ℕ) (f : Frame) → GetsStuck p env n f → (a : Answer) → answer_within p env most n f ≡ a → a ≡ None
no_answer p env most n f stuck None is = refl
no_answer p env most n f stuck (Some r) is = let d = answers_are_derived p env most n f r is in absurd (never p env n f stuck d.0 r d.1)

no_outcome : (p : Parts) (env : Environment) (q : ℕ) → GetsStuck p env q (opening_frame (procedure_at p q) []) → outcome_of p env q ≡ None
unfolding outcome_of
no_outcome p env q stuck = no_answer p env (at 0 (costs_of p) q) q (opening_frame (procedure_at p q) []) stuck _ refl

-- WHERE AN ACTIVATION IS STUCK

-- what the instruction does to which it comes
acts : (p : Parts) (env : Environment) (n : ℕ) (f : Frame) (i : Instruction) (x : Next) → ComesTo p n f i → act p env i f ≡ x → next p env n f ≡ x
unfolding next
acts p env n f i x comes is =
    ap (λ o. or_stuck o (λ pr. or_stuck (slice_get pr.code f.place) (λ i. act p env i f))) comes.1
    ∙ ap (λ o. or_stuck o (λ i. act p env i f)) comes.2
    ∙ is

-- what is done where a test holds is stuck where it doesn't
without : (b : Bool) (x : Next) → b ≡ false → (if b then x else Stuck) ≡ Stuck
without true x fails = absurd (true≢false fails)
without false x fails = refl

-- there is nothing beyond a list
nothing_there : {A : Type 0} (xs : List A) (k : ℕ) → length xs ≤ k → slice_get xs k ≡ None
nothing_there [] k beyond = refl
nothing_there (x ∷ xs) zero beyond = absurd (omega (arith, beyond))
nothing_there (x ∷ xs) (suc k) beyond = nothing_there xs k (omega (arith, beyond))

-- nothing is on top of an empty stack
pops_nothing : (stack : List ℤ) (then_ : ℤ → List ℤ → Next) → length stack < 1 → pop_value stack then_ ≡ Stuck
pops_nothing [] then_ few = refl
pops_nothing (v ∷ stack) then_ few = absurd (omega (arith, few))

-- what is stuck with each value is stuck
stuck_with : {X : Type 0} (o : Option X) (then_ : X → Next) → ((x : X) → then_ x ≡ Stuck) → or_stuck o then_ ≡ Stuck
stuck_with None then_ stuck = refl
stuck_with (Some x) then_ stuck = stuck x

pops_two : (stack : List ℤ) (then_ : ℤ → ℤ → List ℤ → Next) → length stack < 2
    → pop_value stack (λ right rest. pop_value rest (λ left below. then_ right left below)) ≡ Stuck
pops_two [] then_ few = refl
pops_two (v ∷ []) then_ few = refl
pops_two (v ∷ w ∷ stack) then_ few = absurd (omega (arith, few))

too_few_arguments : (q : ℕ) (f : Frame) (o : Option Procedure) → length f.stack < arguments_of o → or_stuck o (λ pr. calls_with q pr.arguments (on f)) ≡ Stuck
too_few_arguments q f None few = refl
too_few_arguments q f (Some pr) few = without (nat_le pr.arguments (length f.stack)) _ (lt-leb pr.arguments (length f.stack) few)

empty : (p : Parts) (env : Environment) (i : Instruction) (f : Frame) → length f.stack < takes p i → act p env i f ≡ Stuck
unfolding act
empty p env (Push v) f few = absurd (omega (arith, few))
empty p env (Get local) f few = absurd (omega (arith, few))
empty p env (Set local) f few =
    pops_nothing f.stack (λ v rest. if nat_lt local (length f.locals) then
    Goes (record f { place = f.place + 1; stack = rest; locals = slice_set f.locals local v }) else Stuck) few
empty p env (Value sna) f few = absurd (omega (arith, few))
empty p env (Binary operator) f few =
    pops_two f.stack (λ right left below. calculate (binary_value operator left right) (record f { place = f.place + 1; stack = below })) few
empty p env (Unary operator) f few = pops_nothing f.stack (λ v rest. calculate (unary_value operator v) (record f { place = f.place + 1; stack = rest })) few
empty p env Pop f few = pops_nothing f.stack (λ v rest. Goes (record f { place = f.place + 1; stack = rest })) few
empty p env (Jump target) f few = absurd (omega (arith, few))
empty p env (JumpIfZero target) f few =
    pops_nothing f.stack (λ v rest. Goes (record f { place = (if is_zero v then target else f.place + 1); stack = rest })) few
empty p env (Back b) f few = absurd (omega (arith, few))
empty p env (Call q) f few = too_few_arguments q f (procedure_at p q) few
empty p env Return f few = pops_nothing f.stack (λ v rest. Returns v) few

pub empty_stack_stops : EmptyStackStops
empty_stack_stops p env n f i comes few = acts p env n f i Stuck comes (empty p env i f few)

pub full_stack_has_no_room : FullStackHasNoRoom
full_stack_has_no_room f v full = without (nat_lt (length f.stack) most_values) _ (le-ltb (length f.stack) most_values full)

reads_full : (env : Environment) (source : Operand) (finish : ℤ → ℤ) (f : Frame) → procedure_named source ≡ None → most_values
    ≤ length f.stack → reads_source env source finish f ≡ Stuck
reads_full env (operands.Constant z) finish f none full = full_stack_has_no_room f (finish z) full
reads_full env (operands.Parameter q) finish f none full = stuck_with (at None env.parameters q) _ (λ v. full_stack_has_no_room f (finish v) full)
reads_full env (operands.Attribute a) finish f none full = full_stack_has_no_room f _ full
reads_full env (operands.OfEntity a) finish f none full = full_stack_has_no_room f _ full
reads_full env (operands.Random j) finish f none full = refl
reads_full env (operands.Procedure q) finish f none full = absurd cc

full : (p : Parts) (env : Environment) (i : Instruction) (f : Frame) → called_in p.entities i ≡ None → takes p i < leaves i → most_values
    ≤ length f.stack → act p env i f ≡ Stuck
unfolding act
full p env (Push v) f none more much = full_stack_has_no_room (on f) v much
full p env (Get local) f none more much = stuck_with (slice_get f.locals local) _ (λ v. full_stack_has_no_room (on f) v much)
full p env (Set local) f none more much = absurd (omega (arith, more))
full p env (Value sna) f none more much = reads_full env (source_of p.entities (as_operand sna)) (value_by_operand p.entities (as_operand sna)) (on f) none much
full p env (Binary operator) f none more much = absurd (omega (arith, more))
full p env (Unary operator) f none more much = absurd (omega (arith, more))
full p env Pop f none more much = absurd (omega (arith, more))
full p env (Jump target) f none more much = absurd (omega (arith, more))
full p env (JumpIfZero target) f none more much = absurd (omega (arith, more))
full p env (Back b) f none more much = absurd (omega (arith, more))
full p env (Call q) f none more much = absurd cc
full p env Return f none more much = absurd (omega (arith, more))

pub full_stack_stops : FullStackStops
full_stack_stops p env n f i comes none more much = acts p env n f i Stuck comes (full p env i f none more much)

pub jump_out_stops : JumpOutStops
unfolding next
jump_out_stops p env n f code there beyond =
    ap (λ o. or_stuck o (λ pr. or_stuck (slice_get pr.code f.place) (λ i. act p env i f))) there
    ∙ ap (λ o. or_stuck o (λ i. act p env i f)) (nothing_there code.code f.place beyond)

pub absent_procedure_stops : AbsentProcedureStops
unfolding next
absent_procedure_stops p env n f none = ap (λ o. or_stuck o (λ pr. or_stuck (slice_get pr.code f.place) (λ i. act p env i f))) none

pub call_of_absent_stops : CallOfAbsentStops
unfolding act
call_of_absent_stops p env n f q comes none = acts p env n f (Call q) Stuck comes (ap (λ o. or_stuck o (λ pr. calls_with q pr.arguments (on f))) none)

pub get_of_absent_stops : GetOfAbsentStops
unfolding act
get_of_absent_stops p env n f local comes beyond =
    acts p env n f (Get local) Stuck comes (ap (λ o. or_stuck o (λ v. push_value v (on f))) (nothing_there f.locals local beyond))

pub set_of_absent_stops : SetOfAbsentStops
unfolding act
set_of_absent_stops p env n f local comes beyond =
    acts p env n f (Set local) Stuck comes
    (stuck_with (slice_get f.stack (length f.stack - 1)) _ (λ v. without (nat_lt local (length f.locals)) _ (le-ltb local (length f.locals) beyond)))

pub unset_value_stops : UnsetValueStops
unfolding act
unset_value_stops p env n q f sna comes is unset =
    acts p env n f (Value sna) Stuck comes
    (ap (λ source. reads_source env source (value_by_operand p.entities (as_operand sna)) (on f)) is
    ∙ ap (λ o. or_stuck o (λ v. push_value (value_by_operand p.entities (as_operand sna) v) (on f))) unset)

-- OPERANDS WITHOUT A VALUE

none_of_source : (p : Parts) (env : Environment) (bound : ℕ) (source : Operand) (streams : List ℕ) → HasNone p env source
    → source_value p env bound source streams ≡ Unset
none_of_source p env bound (operands.Parameter q) streams none = ap (λ o. if_set o >>= λ value. Comes (value, streams)) none
none_of_source p env bound (operands.Procedure q) streams none = ap (λ o. came_to o >>= λ value. Comes (value, streams)) (no_outcome p env q none)
none_of_source p env bound (operands.Constant z) streams none = absurd none
none_of_source p env bound (operands.Attribute a) streams none = absurd none
none_of_source p env bound (operands.OfEntity a) streams none = absurd none
none_of_source p env bound (operands.Random j) streams none = absurd none

pub lacks_value : (p : Parts) (env : Environment) (o : Operand) (streams : List ℕ) → LacksValue p env o → operand_value p env o streams ≡ Unset
lacks_value p env o streams none =
    ap (λ v. v >>= λ value. Comes (value_by_operand p.entities o value.0, value.1)) (none_of_source p env (draws_below o) (source_of p.entities o) streams none)
