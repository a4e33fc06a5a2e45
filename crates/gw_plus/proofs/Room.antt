-- There is room to count how often each BACK was taken.
use Rattle.std.proofs.Common.{◌≡◌, ℕ, zero, suc, ◌+◌, ◌-◌, ◌≤◌, ℤ, List, [], ◌∷◌, ◌++◌, length, take, drop, Option, Some, None, Bool, true, false}
use Rattle.std.proofs.Common.{if◌then◌else◌, not, ◌==◌, ◌&&◌, ◌||◌, nat_lt, nat_le, Result, Ok, Err, refl, ap, ◌∙◌, subst, arith}
use Rattle.std.specs.Prelude.{slice_get, slice_set}
use Rattle.std.proofs.lemmas.Bool.Decides.{nat_tests}
use Rattle.gw_num.specs.Arithmetic.{is_zero}
use Rattle.gw_num.specs.Table.{at}
use Rattle.gw_num.specs.Operators.{binary_value, unary_value}
use Rattle.gw_num.specs.declared.arithmetic.NumFault.{NumFault}
use Rattle.gw_object.specs.declared.blocks.Operand.{Operand}
use Rattle.gw_object.specs.declared.blocks.Operand.TheVariants as operands
use Rattle.gw_object.specs.Limits.{most_backs}
use Rattle.gw_object.specs.CodeGrammar.{is_back, backs}
use Rattle.gw_object.specs.declared.code.Instruction.{Instruction}
use Rattle.gw_object.specs.declared.code.Instruction.TheVariants.{Push, Get, Set, Value, Binary, Unary, Pop, Jump, JumpIfZero, Back, Call, Return}
use Rattle.gw_object.specs.declared.code.Procedure.{Procedure}
use Rattle.gw_object.specs.declared.parts.Parts.{Parts}
use Rattle.gw_rules.specs.Sources.{source_of, as_operand}
use Rattle.gw_rules.specs.Environment.{Environment, attribute_value}
use Rattle.gw_rules.specs.Results.{value_by_operand}
use Rattle.gw_rules.specs.Code.{most_values, procedure_at}
use Rattle.gw_rules.specs.declared.ends.PlusEnd.TheVariants.{LoopLimit}
use Rattle.gw_rules.specs.Meaning.{Taken, taken_at, take_once, Frame, Next, Goes, Calls, Returns, Ends, Stuck, on, push_value, or_stuck, pop_value, calculate, calls_with, reads_source, act}
use Rattle.gw_plus.specs.Activation.{is_taken, untaken_backs, CanCount, CanCountEach}

-- AT FIRST

one_back : (b : Bool) (m n : ℕ) → m ≡ n → (if b && true then 1 else 0) + m ≡ (if b then 1 + n else n)
one_back true m n same = omega (arith, same)
one_back false m n same = omega (arith, same)

none_yet : (code : List Instruction) (k : ℕ) → untaken_backs [] k code ≡ backs code
none_yet [] k = refl
none_yet (i ∷ code) k = one_back (is_back i) (untaken_backs [] (k + 1) code) (backs code) (none_yet code (k + 1))

pub room_at_first : (code : List Instruction) → backs code ≤ most_backs → CanCountEach code []
room_at_first code few = omega (arith, none_yet code 0)

-- A BACK THAT WASN'T TAKEN YET

one_more : (code : List Instruction) (taken : Taken) (k j m : ℕ) (i : Instruction) → slice_get code j ≡ Some i → is_back i ≡ true → m ≡ k
    + j → is_taken taken m ≡ false → 1 ≤ untaken_backs taken k code
one_more [] taken k j m i there back at none = absurd (cc)
one_more (x ∷ code) taken k zero m i there back at none =
    let here : m ≡ k = omega arith in
    let same : is_back x ≡ true = (let first : x ≡ i = cc in ap is_back first ∙ back) in
    let first : 1 ≤ (if is_back x && not (is_taken taken k) then 1 else 0) = rw (same, rw here at none) (omega arith) in
    omega (arith, first)
one_more (x ∷ code) taken k (suc j) m i there back at none =
    let rest = one_more code taken (k + 1) j m i there back (omega arith) none in
    omega (arith, rest)

pub room_for : (code : List Instruction) (taken : Taken) (k : ℕ) (i : Instruction) → slice_get code k ≡ Some i → CanCountEach code taken
    → is_back i ≡ true → CanCount taken k
room_for code taken k i there room back = λ none. let one = one_more code taken 0 k k i there back (omega arith) none in omega (arith, one, room)

-- IT IS TAKEN ONCE MORE

or_more : (a b c : Bool) → (b ≡ true → c ≡ true) → (a || b) ≡ true → (a || c) ≡ true
or_more true b c more is = refl
or_more false b c more is = more is

still_taken : (taken : Taken) (k j : ℕ) → is_taken taken j ≡ true → is_taken (take_once taken k) j ≡ true
still_taken [] k j is = absurd (cc)
still_taken (x ∷ taken) k j is = by (x.0 == k) (still_taken taken k j)
  where
    by : (b : Bool) → (is_taken taken j ≡ true → is_taken (take_once taken k) j ≡ true)
        → is_taken (if b then (x.0, x.1 + 1) ∷ taken else x ∷ take_once taken k) j ≡ true
    by true rest = is
    by false rest = or_more (x.0 == j) (is_taken taken j) (is_taken (take_once taken k) j) rest is

now_taken : (taken : Taken) (k : ℕ) → is_taken (take_once taken k) k ≡ true
now_taken [] k = let same : (k == k) ≡ true = grind (arith, nat_tests) in rw same refl
now_taken (x ∷ taken) k = by (x.0 == k) refl (now_taken taken k)
  where
    by : (b : Bool) → (x.0 == k) ≡ b → is_taken (take_once taken k) k ≡ true → is_taken (if b then (x.0, x.1 + 1) ∷ taken else x ∷ take_once taken k) k ≡ true
    by true is rest = rw is refl
    by false is rest = rw is rest

length-take_once : (taken : Taken) (k : ℕ) → length (take_once taken k) ≡ length taken + (if is_taken taken k then 0 else 1)
length-take_once [] k = omega arith
length-take_once (x ∷ taken) k = by (x.0 == k) (length-take_once taken k)
  where
    by : (b : Bool) → length (take_once taken k) ≡ length taken + (if is_taken taken k then 0 else 1)
        → length (if b then (x.0, x.1 + 1) ∷ taken else x ∷ take_once taken k) ≡ suc (length taken) + (if b || is_taken taken k then 0 else 1)
    by true rest = omega arith
    by false rest = omega (arith, rest)

-- what is taken is counted no more
no_more : (a b c : Bool) → (b ≡ true → c ≡ true) → (if a && not c then 1 else 0) ≤ (if a && not b then 1 else 0)
no_more false b c more = omega arith
no_more true true c more = rw (more refl) (omega arith)
no_more true false true more = omega arith
no_more true false false more = omega arith

untaken_later : (code : List Instruction) (taken : Taken) (m k : ℕ) → untaken_backs (take_once taken m) k code ≤ untaken_backs taken k code
untaken_later [] taken m k = omega arith
untaken_later (x ∷ code) taken m k =
    let first = no_more (is_back x) (is_taken taken k) (is_taken (take_once taken m) k) (still_taken taken m k) in
    omega (arith, first, untaken_later code taken m (k + 1))

one_less : (code : List Instruction) (taken : Taken) (k j m : ℕ) (i : Instruction) → slice_get code j ≡ Some i → is_back i ≡ true → m ≡ k
    + j → is_taken taken m ≡ false → untaken_backs (take_once taken m) k code + 1 ≤ untaken_backs taken k code
one_less [] taken k j m i there back at none = absurd (cc)
one_less (x ∷ code) taken k zero m i there back at none =
    let here : m ≡ k = omega arith in
    let same : is_back x ≡ true = (let first : x ≡ i = cc in ap is_back first ∙ back) in
    let before : 1 ≤ (if is_back x && not (is_taken taken k) then 1 else 0) = rw (same, rw here at none) (omega arith) in
    let taken_now : is_taken (take_once taken m) k ≡ true = subst (λ j. is_taken (take_once taken m) j ≡ true) here (now_taken taken m) in
    let after : (if is_back x && not (is_taken (take_once taken m) k) then 1 else 0) ≤ 0 = rw (same, taken_now) (omega arith) in
    omega (arith, before, after, untaken_later code taken m (k + 1))
one_less (x ∷ code) taken k (suc j) m i there back at none =
    let first = no_more (is_back x) (is_taken taken k) (is_taken (take_once taken m) k) (still_taken taken m k) in
    let rest = one_less code taken (k + 1) j m i there back (omega arith) none in
    omega (arith, first, rest)

room_once : (code : List Instruction) (taken : Taken) (k : ℕ) (i : Instruction) → slice_get code k ≡ Some i → is_back i ≡ true
    → CanCountEach code taken → CanCountEach code (take_once taken k)
room_once code taken k i there back room = by (is_taken taken k) refl
  where
    by : (b : Bool) → is_taken taken k ≡ b → CanCountEach code (take_once taken k)
    by true is =
        let long : length (take_once taken k) ≡ length taken + 0 = length-take_once taken k ∙ rw is refl in
        omega (arith, room, long, untaken_later code taken k 0)
    by false is =
        let long : length (take_once taken k) ≡ length taken + 1 = length-take_once taken k ∙ rw is refl in
        omega (arith, room, long, one_less code taken 0 k k i there back (omega arith) is)

-- AFTER AN INSTRUCTION

-- where an activation goes on there is room still
abbrev pub KeepsRoom : List Instruction → Next → Type 0
KeepsRoom code (Goes g) = CanCountEach code g.taken
KeepsRoom code (Calls q arguments finish g) = CanCountEach code g.taken
KeepsRoom code (Returns v) = Unit {0}
KeepsRoom code (Ends end) = Unit {0}
KeepsRoom code Stuck = Unit {0}

module _ (code : List Instruction) where
  pub pushed_keeps : (v : ℤ) (g : Frame) → CanCountEach code g.taken → KeepsRoom code (push_value v g)
  pushed_keeps v g room = by (nat_lt (length g.stack) most_values)
    where
      by : (b : Bool) → KeepsRoom code (if b then Goes (record g { stack = g.stack ++ v ∷ [] }) else Stuck)
      by true = room
      by false = tt

  given_keeps : {X : Type 0} (o : Option X) (next : X → Next) → ((x : X) → KeepsRoom code (next x)) → KeepsRoom code (or_stuck o next)
  given_keeps None next each = tt
  given_keeps (Some x) next each = each x

  popped_keeps : (stack : List ℤ) (next : ℤ → List ℤ → Next) → ((v : ℤ) (rest : List ℤ) → KeepsRoom code (next v rest)) → KeepsRoom code (pop_value stack next)
  popped_keeps stack next each =
      given_keeps (slice_get stack (length stack - 1)) (λ v. next v (take (length stack - 1) stack)) (λ v. each v (take (length stack - 1) stack))

  calculated_keeps : (outcome : Result ℤ NumFault) (g : Frame) → CanCountEach code g.taken → KeepsRoom code (calculate outcome g)
  calculated_keeps (Ok v) g room = pushed_keeps v g room
  calculated_keeps (Err fault) g room = tt

  -- VALUE of a source
  read_keeps : (env : Environment) (source : Operand) (finish : ℤ → ℤ) (g : Frame) → CanCountEach code g.taken
      → KeepsRoom code (reads_source env source finish g)
  read_keeps env (operands.Constant z) finish g room = pushed_keeps (finish z) g room
  read_keeps env (operands.Parameter x) finish g room =
      given_keeps (at None env.parameters x) (λ v. push_value (finish v) g) (λ v. pushed_keeps (finish v) g room)
  read_keeps env (operands.Attribute a) finish g room = pushed_keeps (finish (attribute_value env a)) g room
  read_keeps env (operands.OfEntity a) finish g room = pushed_keeps (finish (env.of_entity a)) g room
  read_keeps env (operands.Random j) finish g room = tt
  read_keeps env (operands.Procedure q) finish g room = room

  module _ (p : Parts) (env : Environment) (f : Frame) (room : CanCountEach code f.taken) where
    pub act_keeps : (i : Instruction) → slice_get code f.place ≡ Some i → KeepsRoom code (act p env i f)
    unfolding act
    act_keeps (Push v) there = pushed_keeps v (on f) room
    act_keeps (Get local) there = given_keeps (slice_get f.locals local) (λ v. push_value v (on f)) (λ v. pushed_keeps v (on f) room)
    act_keeps (Set local) there =
        popped_keeps f.stack (λ v rest. if nat_lt local (length f.locals) then
        Goes (record f { place = f.place + 1; stack = rest; locals = slice_set f.locals local v }) else Stuck)
        (λ v rest. by v rest (nat_lt local (length f.locals)))
      where
        by : (v : ℤ) (rest : List ℤ) (b : Bool)
            → KeepsRoom code (if b then Goes (record f { place = f.place + 1; stack = rest; locals = slice_set f.locals local v }) else Stuck)
        by v rest true = room
        by v rest false = tt
    act_keeps (Value sna) there = read_keeps env (source_of p.entities (as_operand sna)) (value_by_operand p.entities (as_operand sna)) (on f) room
    act_keeps (Binary operator) there =
        popped_keeps f.stack (λ right rest. pop_value rest
        (λ left below. calculate (binary_value operator left right) (record f { place = f.place + 1; stack = below }))) (λ right rest.
        popped_keeps rest (λ left below. calculate (binary_value operator left right) (record f { place = f.place + 1; stack = below })) (λ left below.
        calculated_keeps (binary_value operator left right) (record f { place = f.place + 1; stack = below }) room))
    act_keeps (Unary operator) there =
        popped_keeps f.stack (λ v rest. calculate (unary_value operator v) (record f { place = f.place + 1; stack = rest })) (λ v rest.
        calculated_keeps (unary_value operator v) (record f { place = f.place + 1; stack = rest }) room)
    act_keeps Pop there = popped_keeps f.stack (λ v rest. Goes (record f { place = f.place + 1; stack = rest })) (λ v rest. room)
    act_keeps (Jump target) there = room
    act_keeps (JumpIfZero target) there =
        popped_keeps f.stack (λ v rest. Goes (record f { place = (if is_zero v then target else f.place + 1); stack = rest })) (λ v rest. room)
    act_keeps (Back b) there = by (nat_lt (taken_at f.taken f.place) b.count)
      where
        by : (less : Bool) → KeepsRoom code (if less then Goes (record f { place = b.target; taken = take_once f.taken f.place }) else Ends LoopLimit)
        by true = room_once code f.taken f.place (Back b) there refl room
        by false = tt
    act_keeps (Call q) there = given_keeps (procedure_at p q) (λ pr. calls_with q pr.arguments (on f)) (λ pr. by pr (nat_le pr.arguments (length f.stack)))
      where
        by : (pr : Procedure) (b : Bool)
            → KeepsRoom code (if b then
            Calls q (drop (length f.stack - pr.arguments) f.stack) (λ v. v)
            (record f { place = f.place + 1; stack = take (length f.stack - pr.arguments) f.stack }) else Stuck)
        by pr true = room
        by pr false = tt
    act_keeps Return there = popped_keeps f.stack (λ v rest. Returns v) (λ v rest. tt)
