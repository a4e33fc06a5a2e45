-- One instruction of code that passes its checks: an activation that stands as the heights say isn't stuck, and stands so again after it.
use Rattle.std.proofs.Common.{◌≡◌, ℕ, ◌+◌, ◌-◌, ◌*◌, ◌<◌, ◌≤◌, List, [], ◌∷◌, ◌++◌, length, take, Option, Some, None, Bool, true, false, refl, sym}
use Rattle.std.proofs.Common.{ap, ◌∙◌, subst, ⊎_elim, arith, if◌then◌else◌, ◌==◌, nat_le, nat_lt, All, length-append, length-take, length-drop}
use Rattle.std.proofs.Common.{Result, Ok, Err, ℤ, pos, slice_set, replicate, get_or, suc}
use Rattle.std.proofs.Math.ListN.{length-set, length-replicate}
use Rattle.std.proofs.lemmas.Option.{slice_get_within, slice_get-get_or}
use Rattle.std.proofs.lemmas.Bool.{eqb-true, ltb-true, leb-true, and_parts, or_cases}
use Rattle.std.proofs.lemmas.Bool.Decides.{nat_tests}
use Rattle.std.proofs.lemmas.List.Elements.{All-get_or}
use Rattle.std.specs.Prelude.{slice_get}
use Rattle.std.specs.List.{list_all}
use Rattle.gw_num.specs.declared.arithmetic.NumFault.{NumFault}
use Rattle.gw_num.specs.Arithmetic.{is_zero}
use Rattle.gw_num.specs.Operators.{binary_value, unary_value}
use Rattle.gw_num.specs.Table.{at}
use Rattle.gw_object.specs.declared.blocks.Operand.{Operand}
use Rattle.gw_object.specs.declared.blocks.Operand.TheVariants.{Constant, Parameter, Attribute, OfEntity, Random, Procedure as ValueOf}
use Rattle.gw_object.specs.declared.code.Back.{Back as JumpBack}
use Rattle.gw_object.specs.declared.code.Sna.{Sna}
use Rattle.gw_object.specs.declared.code.Instruction.{Instruction}
use Rattle.gw_object.specs.declared.code.Instruction.TheVariants.{Push, Get, Set, Value, Binary, Unary, Pop, Jump, JumpIfZero, Back, Call, Return}
use Rattle.gw_object.specs.declared.code.Procedure.{Procedure}
use Rattle.gw_object.specs.declared.parts.Parts.{Parts}
use Rattle.gw_rules.specs.Sources.{source_of, as_operand, procedure_named}
use Rattle.gw_rules.specs.KindsLaws.{EntityHolds, ProcedureHolds, InstructionHolds}
use Rattle.gw_rules.specs.declared.ends.PlusEnd.TheVariants.{LoopLimit}
use Rattle.gw_rules.specs.Environment.{Environment, attribute_value}
use Rattle.gw_rules.specs.Code.{procedure_at, arguments_of, needs_of, most_values, takes, targets, leads_well, called_in, calls_lower, asks_for, is_among, cost_of_called, cost_of_instruction, cost_of_body}
use Rattle.gw_rules.specs.Results.{value_by_operand}
use Rattle.gw_rules.specs.PlusChecks.{Heights, height_after}
use Rattle.gw_rules.specs.Meaning.{taken_at, take_once, Frame, Next, Goes, Calls, Returns, Ends, Stuck, on, push_value, pop_value, calculate, calls_with, reads_source, act, next, opening_frame}
use Rattle.gw_rules.specs.PlusLaws.{HasSet, CodeHolds}
use Rattle.gw_rules.proofs.Potential.{left_turns, potential, cost_drop, cost_later, turn_taken}
use Rattle.gw_rules.proofs.PlusReading.{MayRead, may_read}

-- TESTS

if_lt : {X : Type 0} (P : X → Type 0) (a b : ℕ) (x y : X) → a < b → P x → P (if nat_lt a b then x else y)
if_lt P a b x y h holds = let e : nat_lt a b ≡ true = grind (arith, nat_tests) in rw e holds

if_le : {X : Type 0} (P : X → Type 0) (a b : ℕ) (x y : X) → a ≤ b → P x → P (if nat_le a b then x else y)
if_le P a b x y h holds = let e : nat_le a b ≡ true = grind (arith, nat_tests) in rw e holds

-- what is among some of these is among these
pub among_more : (xs ys : List ℕ) → list_all (is_among ys) xs ≡ true → (x : ℕ) → is_among xs x ≡ true → is_among ys x ≡ true
among_more [] ys each x among = absurd (cc)
among_more (z ∷ xs) ys each x among =
    let both = and_parts (is_among ys z) (list_all (is_among ys) xs) each in
    ⊎_elim
    (λ (here : (x == z) ≡ true). subst (λ w. is_among ys w ≡ true) (sym (eqb-true x z here)) both.0)
    (λ (there : is_among xs x ≡ true). among_more xs ys both.1 x there)
    (or_cases (x == z) (is_among xs x) among)

-- WHAT THE CHECKS SAY

-- the height is known at each of these instructions
abbrev pub Lead : Heights → ℕ → List ℕ → Type 0
Lead heights height [] = Unit {0}
Lead heights height (target ∷ targets) = (at None heights target ≡ Some height) × Lead heights height targets

-- the checks hold at the instruction k of the procedure n, by these heights
pub record Fine (p : Parts) (n : ℕ) (pr : Procedure) (heights : Heights) (k : ℕ) (i : Instruction) : Type 0 where
  pub height : ℕ
  pub known : at None heights k ≡ Some height
  pub leads_well : leads_well (length pr.code) k i ≡ true
  pub calls_lower : calls_lower n (called_in p.entities i) ≡ true
  pub needs : list_all (is_among pr.needs) (asks_for p i) ≡ true
  pub enough : takes p i ≤ height
  pub room : height_after p i height ≤ most_values
  pub leads : Lead heights (height_after p i height) (targets k i)

-- heights by which the checks hold at each instruction of the procedure n
pub record Sound (p : Parts) (n : ℕ) (pr : Procedure) : Type 0 where
  pub heights : Heights
  pub start : at None heights 0 ≡ Some 0
  pub some : 0 < length pr.code
  pub each : (k : ℕ) (i : Instruction) → slice_get pr.code k ≡ Some i → Fine p n pr heights k i

-- an activation stands as the heights say, and has its locals
pub record Ready (pr : Procedure) (heights : Heights) (f : Frame) : Type 0 where
  pub height : at None heights f.place ≡ Some (length f.stack)
  pub inside : f.place < length pr.code
  pub locals : pr.locals ≤ length f.locals

-- where an activation of a procedure begins, it stands so
pub opened_stands : (p : Parts) (n : ℕ) (pr : Procedure) (arguments : List ℤ) (s : Sound p n pr) → Ready pr s.heights (opening_frame (Some pr) arguments)
opened_stands p n pr arguments s =
    let zeros = replicate (pr.locals - length arguments) (pos 0) in
    record { height = s.start; inside = s.some; locals = omega (arith, length-append arguments zeros, length-replicate (pr.locals - length arguments) (pos 0)) }

-- so does one whose procedure is there
pub opened_ready : (p : Parts) (n : ℕ) (pr : Procedure) (arguments : List ℤ) → CodeHolds p → procedure_at p n ≡ Some pr → length arguments
    ≡ pr.arguments → (s : Sound p n pr) → Ready pr s.heights (opening_frame (Some pr) arguments)
opened_ready p n pr arguments holds there count s = opened_stands p n pr arguments s

-- a stack that isn't empty gives its top
popped_any : (P : Next → Type 0) (stack : List ℤ) (go_on : ℤ → List ℤ → Next) → 0 < length stack
    → ((v : ℤ) (rest : List ℤ) → length rest + 1 ≡ length stack → P (go_on v rest)) → P (pop_value stack go_on)
popped_any P stack go_on some each =
    let within : length stack - 1 < length stack = omega arith in
    let top = slice_get-get_or stack (length stack - 1) (pos 0) within in
    rw top (each _ (take (length stack - 1) stack) (omega (arith, length-take (length stack - 1) stack)))

module _ (p : Parts) (env : Environment) (n : ℕ) (pr : Procedure) (heights : Heights) (costs : List ℕ) where
  -- what is left of the cost
  abbrev pub left : Frame → ℕ
  left f = potential p.entities costs pr.code f

  -- where a called procedure came to this value, the activation goes on, and what is left has paid for the call
  pub record Answered (f g : Frame) (q : ℕ) (v : ℤ) : Type 0 where
    pub frame : Frame
    pub is : push_value v g ≡ Goes frame
    pub ready : Ready pr heights frame
    pub paid : left frame + 1 + at 0 costs q ≤ left f

  -- a lower procedure may begin with these arguments, and the activation goes on with its value
  pub record CallsWell (f : Frame) (q : ℕ) (arguments : List ℤ) (g : Frame) : Type 0 where
    pub procedure : Procedure
    pub there : procedure_at p q ≡ Some procedure
    pub lower : q < n
    pub count : length arguments ≡ procedure.arguments
    pub needs : HasSet env procedure.needs
    pub answered : (v : ℤ) → Answered f g q v

  -- an activation isn't stuck, stands well after the step, and has less left
  abbrev pub Well : Frame → Next → Type 0
  Well f (Goes g) = Ready pr heights g × (left g + 1 ≤ left f)
  Well f (Calls q arguments finish g) = CallsWell f q arguments g
  Well f (Returns v) = Unit {0}
  Well f (Ends end) = Unit {0}
  Well f Stuck = ⊥

  -- a frame from which an activation goes on, once a value comes onto the stack
  record Awaits (f g : Frame) (cost : ℕ) : Type 0 where
    room : length g.stack < most_values
    height : at None heights g.place ≡ Some (length g.stack + 1)
    inside : g.place < length pr.code
    locals : pr.locals ≤ length g.locals
    paid : left g + 1 + cost ≤ left f

  with_value : (f g : Frame) (cost : ℕ) (v : ℤ) → Awaits f g cost → Ready pr heights (record g { stack = g.stack ++ v ∷ [] })
  with_value f g cost v w = record { height = w.height ∙ ap Some (sym (length-append g.stack (v ∷ []))); inside = w.inside; locals = w.locals }

  push_well : (f g : Frame) (v : ℤ) → Awaits f g 0 → Well f (push_value v g)
  push_well f g v w = if_lt (Well f) (length g.stack) most_values _ _ w.room (with_value f g 0 v w, omega (arith, w.paid))

  calculated_well : (f g : Frame) (r : Result ℤ NumFault) → Awaits f g 0 → Well f (calculate r g)
  calculated_well f g (Ok v) w = push_well f g v w
  calculated_well f g (Err fault) w = tt

  answered : (f g : Frame) (q : ℕ) (v : ℤ) → Awaits f g (at 0 costs q) → Answered f g q v
  answered f g q v w =
      let t : nat_lt (length g.stack) most_values ≡ true = (let r = w.room in grind (arith, nat_tests)) in
      record { frame = record g { stack = g.stack ++ v ∷ [] }; is = rw t refl; ready = with_value f g (at 0 costs q) v w; paid = w.paid }

  -- what is known of an instruction where it stands
  record Known (f : Frame) (i : Instruction) : Type 0 where
    here : slice_get pr.code f.place ≡ Some i
    leads_well : leads_well (length pr.code) f.place i ≡ true
    calls_lower : calls_lower n (called_in p.entities i) ≡ true
    set : (x : ℕ) → is_among (asks_for p i) x ≡ true → (v : ℤ) × (at None env.parameters x ≡ Some v)
    holds : InstructionHolds p pr.locals i
    entities : All (EntityHolds p) p.entities
    enough : takes p i ≤ length f.stack
    room : height_after p i (length f.stack) ≤ most_values
    leads : Lead heights (height_after p i (length f.stack)) (targets f.place i)
    locals : pr.locals ≤ length f.locals

  paid_on : (f g : Frame) (i : Instruction) → slice_get pr.code f.place ≡ Some i → f.place < g.place → g.taken ≡ f.taken → left g
      + cost_of_instruction p.entities costs i ≤ left f
  paid_on f g i here later same =
      let t : left_turns pr.code g.taken ≡ left_turns pr.code f.taken = ap (left_turns pr.code) same in
      omega (
        arith,
        ap (λ x. x * cost_of_body p.entities costs pr.code) t,
        cost_drop p.entities costs pr.code f.place i here,
        cost_later p.entities costs pr.code (suc f.place) g.place (omega arith),
      )

  -- a later instruction comes next
  goes_on : (f g : Frame) (i : Instruction) (height : ℕ) → slice_get pr.code f.place ≡ Some i → f.place < g.place → g.place
      < length pr.code → g.taken ≡ f.taken → pr.locals ≤ length g.locals → at None heights g.place ≡ Some height → height ≡ length g.stack → Well f (Goes g)
  goes_on f g i height here later inside same locals known is =
      (record { height = known ∙ ap Some is; inside = inside; locals = locals }, omega (arith, paid_on f g i here later same))

  -- the next instruction comes next, once a value comes onto the stack
  awaits : (f g : Frame) (i : Instruction) (height : ℕ) → slice_get pr.code f.place ≡ Some i → g.place ≡ f.place + 1
      → nat_lt (f.place + 1) (length pr.code) ≡ true → g.taken ≡ f.taken → pr.locals ≤ length g.locals → at None heights (f.place + 1)
      ≡ Some height → height ≡ length g.stack + 1 → height ≤ most_values → (cost : ℕ) → 1 + cost ≤ cost_of_instruction p.entities costs i → Awaits f g cost
  awaits f g i height here place inside same locals known is room cost least = record {
    room = omega (arith, room, is);
    height = subst (λ (m : ℕ). at None heights m ≡ Some (length g.stack + 1)) (sym place) (known ∙ ap Some is);
    inside = omega (arith, ltb-true (f.place + 1) (length pr.code) inside, place);
    locals = locals;
    paid = omega (arith, paid_on f g i here (omega arith) same);
  }

  source_well : (f : Frame) (finish : ℤ → ℤ) (source : Operand) → MayRead p env n source
      → Awaits f (on f) (cost_of_called costs (procedure_named source)) → Well f (reads_source env source finish (on f))
  source_well f finish (Constant z) may w = push_well f (on f) (finish z) w
  source_well f finish (Parameter x) may w = rw may.1 (push_well f (on f) (finish may.0) w)
  source_well f finish (Attribute a) may w = push_well f (on f) (finish (attribute_value env a)) w
  source_well f finish (OfEntity a) may w = push_well f (on f) (finish (env.of_entity a)) w
  source_well f finish (Random j) may w = absurd may
  source_well f finish (ValueOf q) may w =
      record {
        procedure = may.procedure;
        there = may.there;
        lower = may.lower;
        count = sym may.none;
        needs = may.needs;
        answered =
            λ v. answered f (on f) q v w;
      }

  value_well : (sna : Sna) (f : Frame) → Known f (Value sna)
      → Well f (reads_source env (source_of p.entities (as_operand sna)) (value_by_operand p.entities (as_operand sna)) (on f))
  value_well sna f k =
      let cost = cost_of_called costs (called_in p.entities (Value sna)) in
      source_well f (value_by_operand p.entities (as_operand sna)) (source_of p.entities (as_operand sna))
      (may_read p env n pr.locals sna k.entities k.holds k.calls_lower k.set)
      (awaits f (on f) (Value sna) _ k.here refl k.leads_well refl k.locals k.leads.0 (omega arith) k.room cost (omega arith))

  zero_well : (f : Frame) (target : ℕ) (rest : List ℤ) (zero : Bool) → Known f (JumpIfZero target) → length rest + 1 ≡ length f.stack
      → Well f (Goes (record f { place = (if zero then target else f.place + 1); stack = rest }))
  zero_well f target rest true k l =
      let jumps = and_parts (nat_lt f.place target) (nat_lt target (length pr.code)) k.leads_well in
      goes_on f (record f { place = target; stack = rest }) (JumpIfZero target) _ k.here (ltb-true _ _ jumps.0) (ltb-true _ _ jumps.1) refl
      k.locals k.leads.1.0 (omega arith)
  zero_well f target rest false k l =
      let jumps = and_parts (nat_lt f.place target) (nat_lt target (length pr.code)) k.leads_well in
      goes_on f (record f { place = f.place + 1; stack = rest }) (JumpIfZero target) _ k.here (omega arith)
      (omega (arith, ltb-true _ _ jumps.0, ltb-true _ _ jumps.1)) refl k.locals k.leads.0 (omega arith)

  less_left : (left_after left_before body : ℕ) → left_after + 1 ≤ left_before → left_after * body + body ≤ left_before * body
  less_left left_after left_before body less = grind arith

  back_well : (f : Frame) (b : JumpBack) (may : Bool) → Known f (Back b) → nat_lt (taken_at f.taken f.place) b.count ≡ may
      → Well f (if may then Goes (record f { place = b.target; taken = take_once f.taken f.place }) else Ends LoopLimit)
  back_well f b false k is = tt
  back_well f b true k is =
      let code = pr.code in
      let inside = slice_get_within code f.place (Back b) k.here in
      let le = leb-true b.target f.place k.leads_well in
      let less = turn_taken code f.taken f.place b k.here (ltb-true _ _ is) in (
        record { height = k.leads.0 ∙ ap Some (omega arith); inside = omega (arith, inside, le); locals = k.locals },
        omega (
          arith,
          less_left (left_turns code (take_once f.taken f.place)) (left_turns code f.taken)
              (cost_of_body p.entities costs code) less,
          cost_drop p.entities costs code f.place (Back b) k.here,
          cost_later p.entities costs code 0 b.target (omega arith),
        ),
      )

  call_well : (f : Frame) (q : ℕ) (called : Procedure) → procedure_at p q ≡ Some called → Known f (Call q) → Well f (calls_with q called.arguments (on f))
  call_well f q called there k =
      let m = length f.stack - called.arguments in
      let n_of : arguments_of (procedure_at p q) ≡ called.arguments = ap arguments_of there in
      let l : length (take m f.stack) ≡ m = length-take m f.stack ∙ omega arith in
      let g = record f { place = f.place + 1; stack = take m f.stack } in
      if_le (Well f) called.arguments (length f.stack) _ _ (omega (arith, k.enough, n_of))
      (record {
        procedure = called;
        there = there;
        lower = ltb-true q n k.calls_lower;
        count = length-drop m f.stack ∙ omega (arith, k.enough, n_of);
        needs = λ x among. k.set x (subst (λ (y : Option Procedure). is_among (needs_of y) x ≡ true) (sym there) among);
        answered = λ v. answered f g q v
            (awaits f g (Call q) _ k.here refl k.leads_well refl k.locals k.leads.0 (omega (arith, l, n_of)) k.room (at 0 costs q) (omega arith));
      })

  act_well : (i : Instruction) (f : Frame) → Known f i → Well f (act p env i f)
  unfolding act
  act_well (Push v) f k = push_well f (on f) v
      (awaits f (on f) (Push v) _ k.here refl k.leads_well refl k.locals k.leads.0 (omega arith) k.room 0 (omega arith))
  act_well (Get local) f k =
      let within : local < length f.locals = omega (arith, k.locals, ltb-true local pr.locals k.holds.numbers) in
      let value = slice_get-get_or f.locals local (pos 0) within in
      rw value (push_well f (on f) _ (awaits f (on f) (Get local) _ k.here refl k.leads_well refl k.locals k.leads.0 (omega arith) k.room 0 (omega arith)))
  act_well (Set local) f k =
      popped_any (Well f) f.stack _ (omega (arith, k.enough)) (λ v rest l.
      let within : local < length f.locals = omega (arith, k.locals, ltb-true local pr.locals k.holds.numbers) in
      let g = record f { place = f.place + 1; stack = rest; locals = slice_set f.locals local v } in
      if_lt (Well f) local (length f.locals) (Goes g) Stuck within
      (goes_on f g (Set local) _ k.here (omega arith) (ltb-true _ _ k.leads_well) refl
      (omega (arith, k.locals, length-set f.locals local v)) k.leads.0 (omega arith)))
  act_well (Value sna) f k = value_well sna f k
  act_well (Binary operator) f k =
      popped_any (Well f) f.stack _ (omega (arith, k.enough)) (λ right rest l.
      popped_any (Well f) rest _ (omega (arith, k.enough)) (λ first below l2.
      let g = record f { place = f.place + 1; stack = below } in
      calculated_well f g (binary_value operator first right)
      (awaits f g (Binary operator) _ k.here refl k.leads_well refl k.locals k.leads.0 (omega arith) k.room 0 (omega arith))))
  act_well (Unary operator) f k =
      popped_any (Well f) f.stack _ (omega (arith, k.enough)) (λ v rest l.
      let g = record f { place = f.place + 1; stack = rest } in
      calculated_well f g (unary_value operator v)
      (awaits f g (Unary operator) _ k.here refl k.leads_well refl k.locals k.leads.0 (omega arith) k.room 0 (omega arith)))
  act_well Pop f k =
      popped_any (Well f) f.stack (λ v rest. Goes (record f { place = f.place + 1; stack = rest })) (omega (arith, k.enough)) (λ v rest l.
      goes_on f (record f { place = f.place + 1; stack = rest }) Pop _ k.here (omega arith) (ltb-true _ _ k.leads_well) refl k.locals k.leads.0 (omega arith))
  act_well (Jump target) f k =
      let jumps = and_parts (nat_lt f.place target) (nat_lt target (length pr.code)) k.leads_well in
      goes_on f (record f { place = target }) (Jump target) _ k.here (ltb-true _ _ jumps.0) (ltb-true _ _ jumps.1) refl k.locals k.leads.0 (omega arith)
  act_well (JumpIfZero target) f k =
      popped_any (Well f) f.stack (λ v rest. Goes (record f { place = (if is_zero v then target else f.place + 1); stack = rest }))
      (omega (arith, k.enough)) (λ v rest l. zero_well f target rest (is_zero v) k l)
  act_well (Back b) f k = back_well f b (nat_lt (taken_at f.taken f.place) b.count) k refl
  act_well (Call q) f k =
      let there = slice_get-get_or p.procedures q pr k.holds.called in
      rw there (call_well f q (get_or p.procedures q pr) there k)
  act_well Return f k = popped_any (Well f) f.stack (λ v rest. Returns v) (omega (arith, k.enough)) (λ v rest l. tt)

  -- an activation that stands as the heights say isn't stuck, where kinds hold
  pub next_well_typed : procedure_at p n ≡ Some pr → ProcedureHolds p pr → All (EntityHolds p) p.entities
      → ((k : ℕ) (i : Instruction) → slice_get pr.code k ≡ Some i → Fine p n pr heights k i) → HasSet env pr.needs → (f : Frame)
      → Ready pr heights f → Well f (next p env n f)
  unfolding next
  next_well_typed there holds entities fine set f ready =
      let i = get_or pr.code f.place Return in
      let here : slice_get pr.code f.place ≡ Some i = slice_get-get_or pr.code f.place Return ready.inside in
      let r = fine f.place i here in
      let h : r.height ≡ length f.stack = (let same : Some r.height ≡ Some (length f.stack) = sym r.known ∙ ready.height in cc) in
      rw (there, here) (act_well i f (record {
        here = here;
        leads_well = r.leads_well;
        calls_lower = r.calls_lower;
        set = λ x among. set x (among_more (asks_for p i) pr.needs r.needs x among);
        holds = All-get_or (InstructionHolds p pr.locals) pr.code f.place Return ready.inside holds;
        entities = entities;
        enough = omega (arith, r.enough, h);
        room = subst (λ (x : ℕ). height_after p i x ≤ most_values) h r.room;
        leads = subst (λ (x : ℕ). Lead heights (height_after p i x) (targets f.place i)) h r.leads;
        locals = ready.locals;
      }))

  -- nor where the format and kinds hold
  pub next_well : procedure_at p n ≡ Some pr → CodeHolds p
      → ((k : ℕ) (i : Instruction) → slice_get pr.code k ≡ Some i → Fine p n pr heights k i) → HasSet env pr.needs → (f : Frame)
      → Ready pr heights f → Well f (next p env n f)
  next_well there holds fine set f ready = next_well_typed there (holds.procedures n pr there).1 holds.entities fine set f ready
