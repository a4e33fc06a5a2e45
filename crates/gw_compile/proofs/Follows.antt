-- An activation follows an expression: its code brings the expression's value onto the stack, or comes to its end.
use Rattle.std.proofs.Common.{◌≡◌, ℕ, suc, ◌+◌, List, [], ◌∷◌, ◌++◌, length, Option, Some, None, Bool, true, false, Result, Ok, Err, ℤ, refl, sym, ap}
use Rattle.std.proofs.Common.{◌∙◌, subst, arith, append_assoc, length-append, if◌then◌else◌, nat_lt}
use Rattle.std.specs.Prelude.{slice_get, string_bytes}
use Rattle.std.proofs.lemmas.List.{append-nil}
use Rattle.gw_num.specs.declared.arithmetic.NumFault.{NumFault}
use Rattle.gw_num.specs.declared.operators.Binary.{Binary as BinaryOperator}
use Rattle.gw_num.specs.declared.operators.Unary.{Unary as UnaryOperator}
use Rattle.gw_num.specs.Operators.{binary_value, unary_value}
use Rattle.gw_num.specs.Table.{at}
use Rattle.gw_object.specs.declared.blocks.Operand.{Operand}
use Rattle.gw_object.specs.declared.blocks.Operand.TheVariants.{Constant, Parameter, Attribute, OfEntity, Random, Procedure as ValueOf}
use Rattle.gw_object.specs.declared.code.Sna.{Sna}
use Rattle.gw_object.specs.declared.code.Instruction.{Instruction}
use Rattle.gw_object.specs.declared.code.Instruction.TheVariants.{Push, Get, Value, Binary, Unary, Call, Return}
use Rattle.gw_object.specs.declared.code.Procedure.{Procedure}
use Rattle.gw_object.specs.declared.parts.Parts.{Parts}
use Rattle.gw_object.specs.Grammar.{HasSpelling}
use Rattle.gw_rules.specs.Sources.{source_of, as_operand}
use Rattle.gw_rules.specs.Pass.{KindsPass}
use Rattle.gw_rules.specs.declared.ends.PlusEnd.{PlusEnd}
use Rattle.gw_rules.specs.Environment.{Environment, attribute_value as own_value}
use Rattle.gw_rules.specs.Code.{procedure_at, arguments_of, needs_of, most_values}
use Rattle.gw_rules.specs.PlusChecks.{PlusPasses}
use Rattle.gw_rules.specs.Results.{value_by_operand}
use Rattle.gw_rules.specs.Meaning.{Taken, Frame, Next, Goes, Calls, Returns, Stuck, push_value, or_stuck, pop_value, calculate, calls_with, reads_source, act, next, frame_of_locals, opening_frame, Derives}
use Rattle.gw_rules.specs.Outcome.{outcome_of}
use Rattle.gw_rules.specs.PlusLaws.{HasSet, MayBegin}
use Rattle.gw_rules.proofs.PlusReading.{MayRead}
use Rattle.gw_rules.proofs.Outcomes.{Continues, Unrolled, unroll}
use Rattle.gw_text_expressions.specs.declared.model.Expression.{Expression, Row_of-Expression, end_of-Expression, more_of-Expression}
use Rattle.gw_text_expressions.specs.declared.model.Expression.TheVariants.{Whole, Name, Sna as ReadSna, Parentheses', Call', Unary', Binary'}
use Rattle.gw_compile.specs.declared.numbering.Equ.{Equ}
use Rattle.gw_compile.specs.declared.numbering.Equ.TheVariants.{Number, Procedure as Invoked}
use Rattle.gw_compile.specs.declared.locals.Meaning.TheVariants.{Of}
use Rattle.gw_compile.specs.declared.numbering.Callee.{Callee}
use Rattle.gw_compile.specs.Numbers.{Numbers, Scope, number_of, meaning_by}
use Rattle.gw_compile.specs.Attributes.{attribute_in}
use Rattle.gw_compile.specs.Value.{Came, with_value, comes, arithmetic_value, if_there, outcome_with, source_value, sna_value, equ_value, name_value}
use Rattle.gw_compile.specs.Value.{attribute_value, call_value, value_of, values_of}
use Rattle.gw_compile.specs.Code.{name_code, attribute_code, call_code, expression_code, expressions_code, procedure_code}
use Rattle.gw_compile.specs.Unknown.{count, if_unknown, if_misfit, first_blame, first_among}
use Rattle.gw_compile.specs.Keeps.{SpeakOf, KeepsValue, GoesOnWith, KeepsValueAt}
use Rattle.gw_compile.specs.Statements.{Standing}
use Rattle.gw_compile.proofs.Blaming.{neither, CallFits, call_fits}
use Rattle.gw_compile.proofs.Standing.{HasAt, has_front, has_back, has_all, popped_last, above, below, enough}
use Rattle.gw_compile.proofs.Calling.{comes_with, begins, asked_is_set, read_may}

-- one value, as a part of a stack
abbrev single : ℤ → List ℤ
single v = v ∷ []

-- values, as a part of a stack
abbrev several : List ℤ → List ℤ
several vs = vs

abbrev frame : ℕ → List ℤ → List ℤ → Taken → Frame
frame place stack locals taken = record { place = place; stack = stack; locals = locals; taken = taken }

-- there are as many values as expressions
counted_with : (a : Came ℤ) (b : Came (List ℤ)) (m : ℕ) (vs : List ℤ) → ((ws : List ℤ) → b ≡ Some (Ok ws) → length ws ≡ m)
    → with_value a (λ v. with_value b (λ ws. comes (v ∷ ws))) ≡ Some (Ok vs) → length vs ≡ suc m
counted_with None b m vs each is = absurd (cc)
counted_with (Some (Err e)) b m vs each is = absurd (cc)
counted_with (Some (Ok v)) None m vs each is = absurd (cc)
counted_with (Some (Ok v)) (Some (Err e)) m vs each is = absurd (cc)
counted_with (Some (Ok v)) (Some (Ok ws)) m vs each is = let same : v ∷ ws ≡ vs = cc in ap length (sym same) ∙ ap suc (each ws refl)

counted : {m : _} (names : Numbers) (scope : Scope) (p : Parts) (env : Environment) (locals : List ℤ) (es : Row_of-Expression m)
    (vs : List ℤ) → values_of names scope p env locals es ≡ Some (Ok vs) → length vs ≡ count es
counted names scope p env locals end_of-Expression vs is = let same : [] ≡ vs = cc in ap length (sym same)
counted names scope p env locals (more_of-Expression e es) vs is =
    counted_with (value_of names scope p env locals e) (values_of names scope p env locals es) (count es) vs (counted names scope p env locals es) is

module _ (names : Numbers) (scope : Scope) (p : Parts) (env : Environment) (fits : HasSpelling p) (kinds : KindsPass p)
    (passes : PlusPasses p) (n : ℕ) (pr : Procedure) (there : procedure_at p n ≡ Some pr) (set : HasSet env pr.needs) (stand : SpeakOf names p) where
  -- from here an activation goes on to this outcome
  abbrev From : Frame → Result ℤ PlusEnd → Type 0
  From f r = (k : ℕ) × Derives p env n f k r

  -- what was come to stands above the stack at this place, and the activation goes on from there; or it has ended so
  abbrev GoesOn : {A : Type 0} → (A → List ℤ) → Came A → ℕ → List ℤ → List ℤ → Taken → Result ℤ PlusEnd → Type 0
  GoesOn put None place stack locals taken r = ⊥
  GoesOn put (Some (Err e)) place stack locals taken r = r ≡ Err e
  GoesOn put (Some (Ok v)) place stack locals taken r = From (frame place (stack ++ put v) locals taken) r

  -- after the first the second; what the second comes to may stand above another stack
  and_then : {A B : Type 0} (put : A → List ℤ) (put2 : B → List ℤ) (a : Came A) (go : A → Came B) (place after : ℕ)
      (stack stack2 locals : List ℤ) (taken : Taken) (r : Result ℤ PlusEnd) → GoesOn put a place stack locals taken r
      → ((v : A) → a ≡ Some (Ok v) → From (frame place (stack ++ put v) locals taken) r → GoesOn put2 (go v) after stack2 locals taken r)
      → GoesOn put2 (with_value a go) after stack2 locals taken r
  and_then put put2 None go place after stack stack2 locals taken r w onward = absurd w
  and_then put put2 (Some (Err e)) go place after stack stack2 locals taken r w onward = w
  and_then put put2 (Some (Ok v)) go place after stack stack2 locals taken r w onward = onward v refl w

  -- an instruction where it stands
  step : (f : Frame) (i : Instruction) (k : ℕ) (r : Result ℤ PlusEnd) → slice_get pr.code f.place ≡ Some i → Derives p env n f k r
      → Unrolled p env n (act p env i f) k r
  unfolding next
  step f i k r here d =
      let e = ap (λ (o : Option Procedure). or_stuck o (λ (q : Procedure). or_stuck (slice_get q.code f.place) (λ j. act p env j f))) there
      ∙ ap (λ (o : Option Instruction). or_stuck o (λ j. act p env j f)) here in
      subst (λ x. Unrolled p env n x k r) e (unroll d)

  -- where there was room
  went : (room : Bool) (g : Frame) (k : ℕ) (r : Result ℤ PlusEnd) → Unrolled p env n (if room then Goes g else Stuck) k r → From g r
  went true g k r u = (u.0, u.1)
  went false g k r u = absurd u

  went_to : (room : Bool) (g h : Frame) → (if room then Goes g else Stuck) ≡ Goes h → h ≡ g
  went_to true g h is = let e : Goes g ≡ Goes h = is in cc
  went_to false g h is = absurd (cc)

  -- what arithmetic made
  calculates : (a : Result ℤ NumFault) (place : ℕ) (stack locals : List ℤ) (taken : Taken) (k : ℕ) (r : Result ℤ PlusEnd)
      → Unrolled p env n (calculate a (frame place stack locals taken)) k r → GoesOn single (arithmetic_value a) place stack locals taken r
  calculates (Ok v) place stack locals taken k r u = went (nat_lt (length stack) most_values) (frame place (stack ++ v ∷ []) locals taken) k r u
  calculates (Err fault) place stack locals taken k r u = u.1

  -- what a called procedure came to
  called : (a : Result ℤ PlusEnd) (finish : ℤ → ℤ) (place : ℕ) (stack locals : List ℤ) (taken : Taken) (k m : ℕ) (r : Result ℤ PlusEnd)
      → Continues p env n finish (frame place stack locals taken) k m a r
      → GoesOn single (with_value (Some a) (λ v. comes (finish v))) place stack locals taken r
  called (Err e) finish place stack locals taken k m r u = u.1
  called (Ok v) finish place stack locals taken k m r u =
      let g = frame place (stack ++ finish v ∷ []) locals taken in
      let same : u.0 ≡ g = went_to (nat_lt (length stack) most_values) g u.0 u.2 in
      (u.1, subst (λ h. Derives p env n h u.1 r) same u.3)

  -- GET
  got : (o : Option ℤ) (place : ℕ) (stack locals : List ℤ) (taken : Taken) (k : ℕ) (r : Result ℤ PlusEnd)
      → Unrolled p env n (or_stuck o (λ v. push_value v (frame place stack locals taken))) k r → GoesOn single (if_there o) place stack locals taken r
  got None place stack locals taken k r u = absurd u
  got (Some v) place stack locals taken k r u = went (nat_lt (length stack) most_values) (frame place (stack ++ v ∷ []) locals taken) k r u

  -- VALUE of something kept
  kept : (o : Option ℤ) (finish : ℤ → ℤ) (place : ℕ) (stack locals : List ℤ) (taken : Taken) (k : ℕ) (r : Result ℤ PlusEnd)
      → Unrolled p env n (or_stuck o (λ v. push_value (finish v) (frame place stack locals taken))) k r
      → GoesOn single (with_value (if_there o) (λ v. comes (finish v))) place stack locals taken r
  kept None finish place stack locals taken k r u = absurd u
  kept (Some v) finish place stack locals taken k r u = went (nat_lt (length stack) most_values) (frame place (stack ++ finish v ∷ []) locals taken) k r u

  -- VALUE of a source
  reads : (source : Operand) (finish : ℤ → ℤ) (place : ℕ) (stack locals : List ℤ) (taken : Taken) (k : ℕ) (r : Result ℤ PlusEnd)
      → MayRead p env n source → Unrolled p env n (reads_source env source finish (frame place stack locals taken)) k r
      → GoesOn single (with_value (source_value p env source) (λ v. comes (finish v))) place stack locals taken r
  reads (Constant z) finish place stack locals taken k r may u = kept (Some z) finish place stack locals taken k r u
  reads (Parameter x) finish place stack locals taken k r may u = kept (at None env.parameters x) finish place stack locals taken k r u
  reads (Attribute a) finish place stack locals taken k r may u = kept (Some (own_value env a)) finish place stack locals taken k r u
  reads (OfEntity a) finish place stack locals taken k r may u = kept (Some (env.of_entity a)) finish place stack locals taken k r u
  reads (Random j) finish place stack locals taken k r may u = absurd u
  reads (ValueOf q) finish place stack locals taken k r may u =
      let e : outcome_with p env q [] ≡ Some u.1 =
      comes_with p env fits kinds passes q may.procedure [] u.0 u.1 (record { there = may.there; arguments = sym may.none; needs = may.needs }) u.2 in
      subst (λ o. GoesOn single (with_value o (λ v. comes (finish v))) place stack locals taken r) (sym e)
      (called u.1 finish place stack locals taken k u.0 r u.3)

  as_it_is : (a : Result ℤ PlusEnd) (place : ℕ) (stack locals : List ℤ) (taken : Taken) (r : Result ℤ PlusEnd)
      → GoesOn single (with_value (Some a) (λ v. comes v)) place stack locals taken r → GoesOn single (Some a) place stack locals taken r
  as_it_is (Err e) place stack locals taken r w = w
  as_it_is (Ok v) place stack locals taken r w = w

  -- CALL, of a procedure that takes the values above the stack
  invokes : (q : ℕ) (vs : List ℤ) (o : Option Procedure) (place : ℕ) (stack locals : List ℤ) (taken : Taken) (k : ℕ) (r : Result ℤ PlusEnd)
      → procedure_at p q ≡ o → length vs ≡ arguments_of o → HasSet env (needs_of o)
      → Unrolled p env n (or_stuck o (λ (c : Procedure). calls_with q c.arguments (frame place (stack ++ vs) locals taken))) k r
      → GoesOn single (outcome_with p env q vs) place stack locals taken r
  invokes q vs None place stack locals taken k r is many needs u = absurd u
  invokes q vs (Some c) place stack locals taken k r is many needs u =
      let calls : calls_with q c.arguments (frame place (stack ++ vs) locals taken)
      ≡ Calls q vs (λ v. v) (frame place stack locals taken) =
      rw (enough stack vs c.arguments many, above stack vs c.arguments many, below stack vs c.arguments many) refl in
      let w = subst (λ x. Unrolled p env n x k r) calls u in
      let e : outcome_with p env q vs ≡ Some w.1 =
      comes_with p env fits kinds passes q c vs w.0 w.1 (record { there = is; arguments = many; needs = needs }) w.2 in
      subst (λ o. GoesOn single o place stack locals taken r) (sym e)
      (as_it_is w.1 place stack locals taken r (called w.1 (λ v. v) place stack locals taken k w.0 r w.3))

  -- EACH INSTRUCTION

  does_push : (z : ℤ) (place : ℕ) (stack locals : List ℤ) (taken : Taken) (k : ℕ) (r : Result ℤ PlusEnd) → slice_get pr.code place
      ≡ Some (Push z) → Derives p env n (frame place stack locals taken) k r → GoesOn single (comes z) (place + 1) stack locals taken r
  unfolding act
  does_push z place stack locals taken k r here d = got (Some z) (place + 1) stack locals taken k r (step (frame place stack locals taken) (Push z) k r here d)

  does_get : (local : ℕ) (place : ℕ) (stack locals : List ℤ) (taken : Taken) (k : ℕ) (r : Result ℤ PlusEnd) → slice_get pr.code place
      ≡ Some (Get local) → Derives p env n (frame place stack locals taken) k r
      → GoesOn single (if_there (slice_get locals local)) (place + 1) stack locals taken r
  unfolding act
  does_get local place stack locals taken k r here d =
      got (slice_get locals local) (place + 1) stack locals taken k r (step (frame place stack locals taken) (Get local) k r here d)

  does_value : (sna : Sna) (place : ℕ) (stack locals : List ℤ) (taken : Taken) (k : ℕ) (r : Result ℤ PlusEnd) → slice_get pr.code place
      ≡ Some (Value sna) → Derives p env n (frame place stack locals taken) k r → GoesOn single (sna_value p env sna) (place + 1) stack locals taken r
  unfolding act
  does_value sna place stack locals taken k r here d =
      reads (source_of p.entities (as_operand sna)) (value_by_operand p.entities (as_operand sna)) (place + 1) stack locals taken k r
      (read_may p env fits kinds passes n pr place sna there set here) (step (frame place stack locals taken) (Value sna) k r here d)

  does_unary : (operator : UnaryOperator) (v : ℤ) (place : ℕ) (stack locals : List ℤ) (taken : Taken) (k : ℕ) (r : Result ℤ PlusEnd)
      → slice_get pr.code place ≡ Some (Unary operator) → Derives p env n (frame place (stack ++ v ∷ []) locals taken) k r
      → GoesOn single (arithmetic_value (unary_value operator v)) (place + 1) stack locals taken r
  unfolding act
  does_unary operator v place stack locals taken k r here d =
      let u = step (frame place (stack ++ v ∷ []) locals taken) (Unary operator) k r here d in
      let w = subst (λ x. Unrolled p env n x k r)
      (popped_last stack v (λ x rest. calculate (unary_value operator x) (frame (place + 1) rest locals taken))) u in
      calculates (unary_value operator v) (place + 1) stack locals taken k r w

  does_binary : (operator : BinaryOperator) (left right : ℤ) (place : ℕ) (stack locals : List ℤ) (taken : Taken) (k : ℕ)
      (r : Result ℤ PlusEnd) → slice_get pr.code place ≡ Some (Binary operator)
      → Derives p env n (frame place ((stack ++ left ∷ []) ++ right ∷ []) locals taken) k r
      → GoesOn single (arithmetic_value (binary_value operator left right)) (place + 1) stack locals taken r
  unfolding act
  does_binary operator left right place stack locals taken k r here d =
      let u = step (frame place ((stack ++ left ∷ []) ++ right ∷ []) locals taken) (Binary operator) k r here d in
      let with_left : ℤ → ℤ → List ℤ → Next = λ x y rest. calculate (binary_value operator y x) (frame (place + 1) rest locals taken) in
      let e = popped_last (stack ++ left ∷ []) right (λ x rest. pop_value rest (with_left x)) ∙ popped_last stack left (with_left right) in
      calculates (binary_value operator left right) (place + 1) stack locals taken k r (subst (λ x. Unrolled p env n x k r) e u)

  does_call : (q : ℕ) (vs : List ℤ) (place : ℕ) (stack locals : List ℤ) (taken : Taken) (k : ℕ) (r : Result ℤ PlusEnd) → length vs
      ≡ arguments_of (procedure_at p q) → slice_get pr.code place ≡ Some (Call q)
      → Derives p env n (frame place (stack ++ vs) locals taken) k r → GoesOn single (outcome_with p env q vs) (place + 1) stack locals taken r
  unfolding act
  does_call q vs place stack locals taken k r many here d =
      invokes q vs (procedure_at p q) (place + 1) stack locals taken k r refl many
      (asked_is_set p env fits kinds passes n pr place (Call q) there set here) (step (frame place (stack ++ vs) locals taken) (Call q) k r here d)

  does_return : (v : ℤ) (place : ℕ) (locals : List ℤ) (taken : Taken) (k : ℕ) (r : Result ℤ PlusEnd) → slice_get pr.code place
      ≡ Some Return → Derives p env n (frame place ([] ++ v ∷ []) locals taken) k r → r ≡ Ok v
  unfolding act
  does_return v place locals taken k r here d =
      let u = step (frame place ([] ++ v ∷ []) locals taken) Return k r here d in
      (subst (λ x. Unrolled p env n x k r) (popped_last [] v (λ x rest. Returns x)) u).1

  -- behind code of two parts
  at_end : {A : Type 0} (put : A → List ℤ) (came : Came A) (place : ℕ) (a b : List Instruction) (stack locals : List ℤ) (taken : Taken)
      (r : Result ℤ PlusEnd) → GoesOn put came (place + length a + length b) stack locals taken r
      → GoesOn put came (place + length (a ++ b)) stack locals taken r
  at_end put came place a b stack locals taken r w =
      let e : place + length a + length b ≡ place + length (a ++ b) = omega (arith, length-append a b) in
      subst (λ x. GoesOn put came x stack locals taken r) e w

  -- THE EXPRESSION

  -- an EQU
  does_equ : (equ : Equ) (place k : ℕ) (stack locals : List ℤ) (taken : Taken) (r : Result ℤ PlusEnd)
      → ((q : ℕ) → equ ≡ Invoked q → 0 ≡ arguments_of (procedure_at p q)) → HasAt pr.code place (name_code (Some (Of equ)))
      → Derives p env n (frame place stack locals taken) k r
      → GoesOn single (equ_value p env equ) (place + length (name_code (Some (Of equ)))) stack locals taken r
  does_equ (Number z) place k stack locals taken r none has d = does_push z place stack locals taken k r has.0 d
  does_equ (Invoked q) place k stack locals taken r none has d =
      does_call q [] place stack locals taken k r (none q refl) has.0 (subst (λ s. Derives p env n (frame place s locals taken) k r) (sym (append-nil stack)) d)

  -- a bare name
  does_name : (local : Option ℕ) (equ : Option Equ) (place k : ℕ) (stack locals : List ℤ) (taken : Taken) (r : Result ℤ PlusEnd)
      (t : Expression) → if_unknown (meaning_by local equ) t ≡ None
      → ((q : ℕ) → equ ≡ Some (Invoked q) → 0 ≡ arguments_of (procedure_at p q)) → HasAt pr.code place (name_code (meaning_by local equ))
      → Derives p env n (frame place stack locals taken) k r
      → GoesOn single (name_value p env locals (meaning_by local equ)) (place + length (name_code (meaning_by local equ))) stack locals taken r
  does_name (Some local) equ place k stack locals taken r t known none has d = does_get local place stack locals taken k r has.0 d
  does_name None (Some equ) place k stack locals taken r t known none has d = does_equ equ place k stack locals taken r (λ q is. none q (ap Some is)) has d
  does_name None None place k stack locals taken r t known none has d = absurd (cc)

  -- an attribute
  does_attribute : (sna : Option Sna) (place k : ℕ) (stack locals : List ℤ) (taken : Taken) (r : Result ℤ PlusEnd) (t : Expression)
      → if_unknown sna t ≡ None → HasAt pr.code place (attribute_code sna) → Derives p env n (frame place stack locals taken) k r
      → GoesOn single (attribute_value p env sna) (place + length (attribute_code sna)) stack locals taken r
  does_attribute None place k stack locals taken r t known has d = absurd (cc)
  does_attribute (Some sna) place k stack locals taken r t known has d = does_value sna place stack locals taken k r has.0 d

  -- a call whose arguments stand above the stack
  does_calling : (callee : Option Callee) (vs : List ℤ) (given place k : ℕ) (stack locals : List ℤ) (taken : Taken) (r : Result ℤ PlusEnd)
      → length vs ≡ given → CallFits callee given → ((c : Callee) → callee ≡ Some c → c.arguments ≡ arguments_of (procedure_at p c.number))
      → HasAt pr.code place (call_code callee) → Derives p env n (frame place (stack ++ vs) locals taken) k r
      → GoesOn single (call_value p env callee vs) (place + length (call_code callee)) stack locals taken r
  does_calling None vs given place k stack locals taken r many fit takes has d = absurd fit
  does_calling (Some c) vs given place k stack locals taken r many same takes has d =
      does_call c.number vs place stack locals taken k r (many ∙ same ∙ takes c refl) has.0 d

  mutual
    follows : (t : Expression) (place k : ℕ) (stack locals : List ℤ) (taken : Taken) (r : Result ℤ PlusEnd) → first_blame names scope t
        ≡ None → HasAt pr.code place (expression_code names scope t) → Derives p env n (frame place stack locals taken) k r
        → GoesOn single (value_of names scope p env locals t) (place + length (expression_code names scope t)) stack locals taken r
    follows (Whole z) place k stack locals taken r known has d = does_push z place stack locals taken k r has.0 d
    follows (Name name) place k stack locals taken r known has d =
        does_name (number_of scope (string_bytes name)) (names.equ (string_bytes name)) place k stack locals taken r (Name name) known
        (λ q is. stand.equs (string_bytes name) q is) has d
    follows (ReadSna sna) place k stack locals taken r known has d =
        does_attribute (attribute_in names sna) place k stack locals taken r (ReadSna sna) known has d
    follows (Parentheses' x e) place k stack locals taken r known has d = follows e place k stack locals taken r known has d
    follows (Unary' operator x a) place k stack locals taken r known has d =
        let code = expression_code names scope a in
        let last = (has_back pr.code place code (Unary operator ∷ []) has).0 in
        at_end single (value_of names scope p env locals (Unary' operator x a)) place code (Unary operator ∷ []) stack locals taken r
        (and_then single single (value_of names scope p env locals a) (λ v. arithmetic_value (unary_value operator v))
        (place + length code) (place + length code + 1) stack stack locals taken r
        (follows a place k stack locals taken r known (has_front pr.code place code _ has) d)
        (λ v is w. does_unary operator v (place + length code) stack locals taken w.0 r last w.1))
    follows (Binary' operator x a y b) place k stack locals taken r known has d =
        let first = expression_code names scope a in
        let second = expression_code names scope b in
        let middle = place + length first in
        let behind = has_back pr.code place first (second ++ Binary operator ∷ []) has in
        let last = (has_back pr.code middle second (Binary operator ∷ []) behind).0 in
        let both = neither (first_blame names scope a) (first_blame names scope b) known in
        at_end single (value_of names scope p env locals (Binary' operator x a y b)) place first (second ++ Binary operator ∷ []) stack locals taken r
        (at_end single (value_of names scope p env locals (Binary' operator x a y b)) middle second (Binary operator ∷ []) stack locals taken r
        (and_then single single (value_of names scope p env locals a)
        (λ left. with_value (value_of names scope p env locals b) (λ right. arithmetic_value (binary_value operator left right)))
        middle (middle + length second + 1) stack stack locals taken r
        (follows a place k stack locals taken r both.0 (has_front pr.code place first _ has) d)
        (λ left is w. and_then single single (value_of names scope p env locals b)
        (λ right. arithmetic_value (binary_value operator left right)) (middle + length second) (middle + length second + 1)
        (stack ++ left ∷ []) stack locals taken r
        (follows b middle w.0 (stack ++ left ∷ []) locals taken r both.1 (has_front pr.code middle second _ behind) w.1)
        (λ right is2 v. does_binary operator left right (middle + length second) stack locals taken v.0 r last v.1))))
    follows (Call' name shape es) place k stack locals taken r known has d =
        let code = expressions_code names scope es in
        let q = names.procedure (string_bytes name) in
        let call = call_code q in
        let both = neither (first_among names scope es) (if_misfit q (count es) (Call' name shape es)) known in
        at_end single (value_of names scope p env locals (Call' name shape es)) place code call stack locals taken r
        (and_then several single (values_of names scope p env locals es) (λ vs. call_value p env q vs) (place + length code)
        (place + length code + length call) stack stack locals taken r
        (all_follow es place k stack locals taken r both.0 (has_front pr.code place code _ has) d)
        (λ vs is w. does_calling q vs (count es) (place + length code) w.0 stack locals taken r (counted names scope p env locals es vs is)
        (call_fits q (count es) (Call' name shape es) both.1) (λ c is2. stand.calls (string_bytes name) c is2) (has_back pr.code place code call has) w.1))

    all_follow : {m : _} (es : Row_of-Expression m) (place k : ℕ) (stack locals : List ℤ) (taken : Taken) (r : Result ℤ PlusEnd)
        → first_among names scope es ≡ None → HasAt pr.code place (expressions_code names scope es)
        → Derives p env n (frame place stack locals taken) k r
        → GoesOn several (values_of names scope p env locals es) (place + length (expressions_code names scope es)) stack locals taken r
    all_follow end_of-Expression place k stack locals taken r known has d =
        let e : place ≡ place + 0 = omega arith in (
          k,
          subst (λ s. Derives p env n (frame (place + 0) s locals taken) k r) (sym (append-nil stack))
              (subst (λ x. Derives p env n (frame x stack locals taken) k r) e d),
        )
    all_follow (more_of-Expression t es) place k stack locals taken r known has d =
        let first = expression_code names scope t in
        let others = expressions_code names scope es in
        let middle = place + length first in
        let both = neither (first_blame names scope t) (first_among names scope es) known in
        at_end several (values_of names scope p env locals (more_of-Expression t es)) place first others stack locals taken r
        (and_then single several (value_of names scope p env locals t)
        (λ v. with_value (values_of names scope p env locals es) (λ vs. comes (v ∷ vs))) middle (middle + length others) stack stack locals taken r
        (follows t place k stack locals taken r both.0 (has_front pr.code place first _ has) d)
        (λ v is w. and_then several several (values_of names scope p env locals es) (λ vs. comes (v ∷ vs)) (middle + length others)
        (middle + length others) (stack ++ v ∷ []) stack locals taken r
        (all_follow es middle w.0 (stack ++ v ∷ []) locals taken r both.1 (has_back pr.code place first others has) w.1)
        (λ vs is2 x. (x.0, subst (λ s. Derives p env n (frame (middle + length others) s locals taken) x.0 r) (append_assoc stack (v ∷ []) vs) x.1))))

  -- at its end the value is returned
  ending : (came : Came ℤ) (place : ℕ) (locals : List ℤ) (taken : Taken) (r : Result ℤ PlusEnd) → slice_get pr.code place ≡ Some Return
      → GoesOn single came place [] locals taken r → came ≡ Some r
  ending None place locals taken r here w = absurd w
  ending (Some (Err e)) place locals taken r here w = ap Some (sym w)
  ending (Some (Ok v)) place locals taken r here w = ap Some (sym (does_return v place locals taken w.0 r here w.1))

  -- an activation of a procedure that has an expression's code comes to what the expression comes to
  pub comes_to_value : (e : Expression) (locals : List ℤ) (k : ℕ) (r : Result ℤ PlusEnd) → pr.code ≡ expression_code names scope e
      ++ Return ∷ [] → first_blame names scope e ≡ None → Derives p env n (frame 0 [] locals []) k r → value_of names scope p env locals e ≡ Some r
  comes_to_value e locals k r is known d =
      let code = expression_code names scope e in
      let whole = code ++ Return ∷ [] in
      let has : HasAt pr.code 0 whole = subst (λ c. HasAt c 0 whole) (sym is) (has_all whole []) in
      let last = (has_back pr.code 0 code (Return ∷ []) has).0 in
      ending (value_of names scope p env locals e) (0 + length code) locals [] r last (follows e 0 k [] locals [] r known (has_front pr.code 0 code _ has) d)

pub outcome_is : (p : Parts) (env : Environment) (n : ℕ) → outcome_of p env n ≡ outcome_with p env n []
unfolding outcome_of outcome_with
outcome_is p env n = refl

-- a procedure without arguments and locals opens with no locals
opens : (p : Parts) (n : ℕ) (pr : Procedure) → procedure_at p n ≡ Some pr → pr.locals ≡ 0 → opening_frame (procedure_at p n) [] ≡ frame 0 [] [] []
opens p n pr there none = ap (λ (o : Option Procedure). opening_frame o []) there ∙ ap (λ k. frame_of_locals k []) none

-- the procedure that an expression becomes keeps its value
pub keeps_value : (names : Numbers) (e : Expression) (pr : Procedure) → pr.arguments ≡ 0 → pr.locals ≡ 0 → pr.code ≡ procedure_code names e
    → first_blame names [] e ≡ None → KeepsValue names e pr
keeps_value names e pr arguments locals is known p env n fits kinds passes stand there needs =
    let may : MayBegin p env n pr [] = record { there = there; arguments = sym arguments; needs = needs } in
    let d = begins p env fits kinds passes n pr [] may in
    let own = subst (λ (f : Frame). Derives p env n f d.0 d.1) (opens p n pr there locals) d.2 in
    outcome_is p env n ∙ comes_with p env fits kinds passes n pr [] d.0 d.1 may d.2
    ∙ sym (comes_to_value names [] p env fits kinds passes n pr there needs stand e [] d.0 d.1 is known own)

-- an expression that stands within a procedure's code keeps its value there
pub keeps_at : (names : Numbers) (pr : Procedure) (at : Standing) → HasAt pr.code at.place (expression_code names at.scope at.expression)
    → first_blame names at.scope at.expression ≡ None → KeepsValueAt names pr at
keeps_at names pr at has known p env n stack locals taken k r fits kinds passes stand there needs d =
    goes_on_with (value_of names at.scope p env locals at.expression) (at.place + length (expression_code names at.scope at.expression))
    (follows names at.scope p env fits kinds passes n pr there needs stand at.expression at.place k stack locals taken r known has d)
  where
    goes_on_with : (came : Came ℤ) (place : ℕ)
        → GoesOn names at.scope p env fits kinds passes n pr there needs stand single came place stack locals taken r
        → GoesOnWith p env n came place stack locals taken r
    goes_on_with None place w = w
    goes_on_with (Some (Err e)) place w = w
    goes_on_with (Some (Ok v)) place w = w
