-- What activations come to within a number of instructions.
use Rattle.std.proofs.Common.{◌≡◌, ℕ, zero, suc, ◌+◌, List, [], Option, Some, None, Result, Ok, Err, ℤ, refl, ap, ◌∙◌, subst, arith}
use Rattle.std.specs.Prelude.{slice_get}
use Rattle.std.specs.Option.{option_and_then}
use Rattle.gw_num.specs.Table.{at}
use Rattle.gw_object.specs.declared.blocks.Operand.{Operand}
use Rattle.gw_object.specs.declared.blocks.Operand.TheVariants.{Constant, Parameter, Attribute, OfEntity, Random, Procedure as ValueOf}
use Rattle.gw_object.specs.declared.code.Instruction.{Instruction}
use Rattle.gw_object.specs.declared.code.Instruction.TheVariants.{Push, Get, Set, Value, Binary, Unary, Pop, Jump, JumpIfZero, Back, Call, Return}
use Rattle.gw_object.specs.declared.parts.Parts.{Parts}
use Rattle.gw_rules.specs.Sources.{source_of, as_operand}
use Rattle.gw_rules.specs.declared.ends.PlusEnd.{PlusEnd}
use Rattle.gw_rules.specs.Environment.{Environment, ReadTheSame}
use Rattle.gw_rules.specs.Code.{procedure_at, costs_of}
use Rattle.gw_rules.specs.Results.{value_by_operand}
use Rattle.gw_rules.specs.Meaning.{Frame, Next, Goes, Calls, Returns, Ends, Stuck, on, push_value, or_stuck, reads_source, act, next, opening_frame, Derives, returns, ends, goes, call_ends, call_gives}
use Rattle.gw_rules.specs.Outcome.{Answer, if_going, once_called, answer_by, answer_within, outcome_of}
use Rattle.gw_rules.specs.PlusLaws.{AnswersAreDerived, DerivedIsAnswered, OutcomesDependOnWhatIsKept}

-- WHAT IS ANSWERED IS DERIVED

-- there is a derivation of this outcome
abbrev IsDerived : Parts → Environment → ℕ → Frame → Result ℤ PlusEnd → Type 0
IsDerived p env n f r = (k : ℕ) × Derives p env n f k r

module _ (p : Parts) (env : Environment) (onward : ℕ → Frame → Answer)
    (derived : (n : ℕ) (f : Frame) (r : Result ℤ PlusEnd) → onward n f ≡ Some r → IsDerived p env n f r) where
  pushed_is_derived : (n : ℕ) (x : Next) (r : Result ℤ PlusEnd) → if_going (onward n) x ≡ Some r → (h : Frame) × (x ≡ Goes h) × IsDerived p env n h r
  pushed_is_derived n (Goes h) r is = (h, refl, derived n h r is)
  pushed_is_derived n (Calls q arguments finish rest) r is = absurd (cc)
  pushed_is_derived n (Returns v) r is = absurd (cc)
  pushed_is_derived n (Ends e) r is = absurd (cc)
  pushed_is_derived n Stuck r is = absurd (cc)

  call_is_derived : (n q : ℕ) (f g : Frame) (arguments : List ℤ) (finish : ℤ → ℤ) (r : Result ℤ PlusEnd) (called : Answer) → next p env n f
      ≡ Calls q arguments finish g → onward q (opening_frame (procedure_at p q) arguments) ≡ called
      → option_and_then (once_called (onward n) finish g) called ≡ Some r → IsDerived p env n f r
  call_is_derived n q f g arguments finish r None next_is called_is is = absurd (cc)
  call_is_derived n q f g arguments finish r (Some (Err e)) next_is called_is is =
      let call = derived q (opening_frame (procedure_at p q) arguments) (Err e) called_is in
      let same : Err e ≡ r = cc in
      (suc call.0, subst (Derives p env n f (suc call.0)) same (call_ends next_is call.1))
  call_is_derived n q f g arguments finish r (Some (Ok v)) next_is called_is is =
      let call = derived q (opening_frame (procedure_at p q) arguments) (Ok v) called_is in
      let after = pushed_is_derived n (push_value (finish v) g) r is in
      (suc (call.0 + after.2.0), call_gives next_is call.1 after.1 after.2.1)

  next_is_derived : (n : ℕ) (f : Frame) (x : Next) (r : Result ℤ PlusEnd) → next p env n f ≡ x → answer_by p onward n x ≡ Some r → IsDerived p env n f r
  next_is_derived n f (Goes g) r next_is is = let rest = derived n g r is in (suc rest.0, goes next_is rest.1)
  next_is_derived n f (Calls q arguments finish g) r next_is is =
      call_is_derived n q f g arguments finish r (onward q (opening_frame (procedure_at p q) arguments)) next_is refl is
  next_is_derived n f (Returns v) r next_is is = let same : Ok v ≡ r = cc in (1, subst (Derives p env n f 1) same (returns next_is))
  next_is_derived n f (Ends e) r next_is is = let same : Err e ≡ r = cc in (1, subst (Derives p env n f 1) same (ends next_is))
  next_is_derived n f Stuck r next_is is = absurd (cc)

pub answers_are_derived : AnswersAreDerived
unfolding answer_within
answers_are_derived p env zero n f r is = absurd (cc)
answers_are_derived p env (suc most) n f r is = next_is_derived p env (answer_within p env most) (answers_are_derived p env most) n f (next p env n f) r refl is

-- WHAT IS DERIVED IS ANSWERED

pub derived_is_answered : DerivedIsAnswered
unfolding answer_within
derived_is_answered p env zero n f k r (returns is) le = absurd (omega arith)
derived_is_answered p env zero n f k r (ends is) le = absurd (omega arith)
derived_is_answered p env zero n f k r (goes is d) le = absurd (omega arith)
derived_is_answered p env zero n f k r (call_ends is d) le = absurd (omega arith)
derived_is_answered p env zero n f k r (call_gives is d push c) le = absurd (omega arith)
derived_is_answered p env (suc most) n f k r (returns is) le = ap (answer_by p (answer_within p env most) n) is
derived_is_answered p env (suc most) n f k r (ends is) le = ap (answer_by p (answer_within p env most) n) is
derived_is_answered p env (suc most) n f k r (goes {g = g} {k = j} is d) le =
    ap (answer_by p (answer_within p env most) n) is ∙ derived_is_answered p env most n g j r d (omega arith)
derived_is_answered p env (suc most) n f k r (call_ends {q = q} {g = g} {arguments = arguments} {finish = finish} {m = m} {e = e} is d) le =
    let onward = answer_within p env most in
    ap (answer_by p onward n) is
    ∙ ap (option_and_then (once_called (onward n) finish g))
    (derived_is_answered p env most q (opening_frame (procedure_at p q) arguments) m (Err e) d (omega arith))
derived_is_answered p env (suc most) n f k r
    (call_gives {q = q} {g = g} {h = h} {arguments = arguments} {finish = finish} {m = m} {k = j} {v = v} is d push c) le =
    let onward = answer_within p env most in
    ap (answer_by p onward n) is
    ∙ ap (option_and_then (once_called (onward n) finish g))
    (derived_is_answered p env most q (opening_frame (procedure_at p q) arguments) m (Ok v) d (omega arith))
    ∙ ap (if_going (onward n)) push
    ∙ derived_is_answered p env most n h j r c (omega arith)

-- ENVIRONMENTS IN WHICH THE SAME IS READ

given_same : {X : Type 0} (o : Option X) (f g : X → Next) → ((x : X) → f x ≡ g x) → or_stuck o f ≡ or_stuck o g
given_same None f g same = refl
given_same (Some x) f g same = same x

module _ (p : Parts) (a b : Environment) (same : ReadTheSame a b) where
  source_same : (source : Operand) (finish : ℤ → ℤ) (f : Frame) → reads_source a source finish f ≡ reads_source b source finish f
  source_same (Constant z) finish f = refl
  source_same (Parameter x) finish f = ap (λ (o : Option ℤ). or_stuck o (λ v. push_value (finish v) f)) (same.kept (Parameter x))
  source_same (Attribute x) finish f = ap (λ (o : Option ℤ). or_stuck o (λ v. push_value (finish v) f)) (same.kept (Attribute x))
  source_same (OfEntity x) finish f = ap (λ (o : Option ℤ). or_stuck o (λ v. push_value (finish v) f)) (same.kept (OfEntity x))
  source_same (Random j) finish f = refl
  source_same (ValueOf q) finish f = refl

  act_same : (i : Instruction) (f : Frame) → act p a i f ≡ act p b i f
  unfolding act
  act_same (Push v) f = refl
  act_same (Get local) f = refl
  act_same (Set local) f = refl
  act_same (Value sna) f = source_same (source_of p.entities (as_operand sna)) (value_by_operand p.entities (as_operand sna)) (on f)
  act_same (Binary operator) f = refl
  act_same (Unary operator) f = refl
  act_same Pop f = refl
  act_same (Jump target) f = refl
  act_same (JumpIfZero target) f = refl
  act_same (Back back) f = refl
  act_same (Call q) f = refl
  act_same Return f = refl

  -- an instruction does the same
  pub next_same : (n : ℕ) (f : Frame) → next p a n f ≡ next p b n f
  unfolding next
  next_same n f = given_same (procedure_at p n) _ _ (λ pr. given_same (slice_get pr.code f.place) _ _ (λ i. act_same i f))

  going_same : (onward others : Frame → Answer) → ((f : Frame) → onward f ≡ others f) → (x : Next) → if_going onward x ≡ if_going others x
  going_same onward others alike (Goes f) = alike f
  going_same onward others alike (Calls q arguments finish rest) = refl
  going_same onward others alike (Returns v) = refl
  going_same onward others alike (Ends e) = refl
  going_same onward others alike Stuck = refl

  called_same : (onward others : Frame → Answer) → ((f : Frame) → onward f ≡ others f) → (finish : ℤ → ℤ) (rest : Frame) (called : Answer)
      → option_and_then (once_called onward finish rest) called ≡ option_and_then (once_called others finish rest) called
  called_same onward others alike finish rest None = refl
  called_same onward others alike finish rest (Some (Err e)) = refl
  called_same onward others alike finish rest (Some (Ok v)) = going_same onward others alike (push_value (finish v) rest)

  by_same : (onward others : ℕ → Frame → Answer) → ((n : ℕ) (f : Frame) → onward n f ≡ others n f) → (n : ℕ) (x : Next)
      → answer_by p onward n x ≡ answer_by p others n x
  by_same onward others alike n (Goes f) = alike n f
  by_same onward others alike n (Calls q arguments finish rest) =
      ap (option_and_then (once_called (onward n) finish rest)) (alike q (opening_frame (procedure_at p q) arguments))
      ∙ called_same (onward n) (others n) (alike n) finish rest (others q (opening_frame (procedure_at p q) arguments))
  by_same onward others alike n (Returns v) = refl
  by_same onward others alike n (Ends e) = refl
  by_same onward others alike n Stuck = refl

  within_same : (most n : ℕ) (f : Frame) → answer_within p a most n f ≡ answer_within p b most n f
  unfolding answer_within
  within_same zero n f = refl
  within_same (suc most) n f =
      by_same (answer_within p a most) (answer_within p b most) (within_same most) n (next p a n f)
      ∙ ap (answer_by p (answer_within p b most) n) (next_same n f)

pub outcomes_depend_on_what_is_kept : OutcomesDependOnWhatIsKept
unfolding outcome_of
outcomes_depend_on_what_is_kept p a b n same = within_same p a b same (at 0 (costs_of p) n) n (opening_frame (procedure_at p n) [])
