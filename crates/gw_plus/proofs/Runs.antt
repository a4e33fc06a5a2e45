-- Runs of activations.
use Rattle.std.proofs.Common.{◌≡◌, ◌≢◌, ℕ, suc, ◌+◌, ◌<◌, ◌≤◌, ℤ, List, length, Option, Some, refl, sym, ap, ◌∙◌, subst, arith, Result, Ok, Err, get_or, pos}
use Rattle.std.specs.Prelude.{slice_get, IsTrue}
use Rattle.std.proofs.lemmas.List.Elements.{All-get_or}
use Rattle.std.proofs.lemmas.Option.{slice_get-get_or, get_or_from_slice_get}
use Rattle.arrayvec.specs.ArrayVec.{ArrayVec}
use Rattle.gw_object.specs.Limits.{most_instructions}
use Rattle.gw_object.specs.CodeGrammar.{is_back}
use Rattle.gw_object.specs.declared.code.Instruction.{Instruction}
use Rattle.gw_object.specs.declared.code.Instruction.TheVariants.{Push}
use Rattle.gw_object.specs.declared.code.Procedure.{Procedure}
use Rattle.gw_object.specs.declared.parts.Parts.{Parts}
use Rattle.gw_rules.specs.KindsLaws.{InstructionHolds}
use Rattle.gw_rules.specs.Code.{procedure_at, costs_of}
use Rattle.gw_rules.specs.Environment.{Environment}
use Rattle.gw_rules.specs.PlusLaws.{HasSet}
use Rattle.gw_rules.specs.Meaning.{Frame, Next, Goes, Stuck, push_value, act, next, opening_frame, Derives, returns, ends, goes, call_ends, call_gives}
use Rattle.gw_rules.specs.declared.ends.PlusEnd.{PlusEnd}
use Rattle.gw_rules.proofs.Potential.{potential}
use Rattle.gw_rules.proofs.PlusRules.{checked}
use Rattle.gw_rules.proofs.PlusSteps.{Sound, Ready, Well, CallsWell, next_well, opened_ready}
use Rattle.gw_plus.specs.Activation.{HasGoodCode}
use Rattle.gw_plus.specs.declared.activation.Step.TheVariants.{Called, Returned, Ended}
use Rattle.gw_plus.specs.Activation.{first_frame, Begins, CanCountEach, CanCount, finish_of, Did}
use Rattle.gw_plus.proofs.Room.{room_at_first, room_for, KeepsRoom, pushed_keeps, act_keeps}

-- where an activation of the procedure n with this code stands that began with these locals
pub record Standing (p : Parts) (env : Environment) (n : ℕ) (code : List Instruction) (locals : List ℤ) (f : Frame) : Type 0 where
  pub procedure : Procedure
  pub there : procedure_at p n ≡ Some procedure
  pub code_is : procedure.code ≡ code
  pub needs : HasSet env procedure.needs
  pub sound : Sound p n procedure
  pub ready : Ready procedure sound.heights f
  pub room : CanCountEach code f.taken
  pub onward : (count : ℕ) (r : Result ℤ PlusEnd) → Derives p env n f count r → (all : ℕ) × Derives p env n (first_frame locals) all r

-- what is left of the cost
abbrev pub left : Parts → List Instruction → Frame → ℕ
left p code f = potential p.entities (costs_of p) code f

-- AT FIRST

same_procedure : (o : Option Procedure) (a b : Procedure) → o ≡ Some a → o ≡ Some b → a ≡ b
same_procedure o a b first second = cc

pub begin : (p : Parts) (env : Environment) (n : ℕ) (pr : Procedure) (code : List Instruction) (locals : List ℤ) (f : Frame)
    → HasGoodCode p → procedure_at p n ≡ Some pr → code ≡ pr.code → Begins p env n locals → f ≡ first_frame locals → Standing p env n code locals f
begin p env n pr code locals f good there code_is begins at_first =
    let same = same_procedure (procedure_at p n) begins.procedure pr begins.may.there there in
    let sound = (checked p good.passes n pr there).sound in
    let arguments : length begins.arguments ≡ pr.arguments = begins.may.arguments ∙ ap (λ (x : Procedure). x.arguments) same in
    let opened : opening_frame (Some pr) begins.arguments ≡ f = ap (λ (x : Procedure). opening_frame (Some x) begins.arguments) (sym same)
    ∙ ap first_frame (sym begins.locals_are) ∙ sym at_first in
    let room : CanCountEach pr.code f.taken =
    subst (λ (g : Frame). CanCountEach pr.code g.taken) (sym at_first) (room_at_first pr.code (good.holds.procedures n pr there).0.backs) in
    record {
      procedure = pr;
      there = there;
      code_is = sym code_is;
      needs = subst (λ (x : Procedure). HasSet env x.needs) same begins.may.needs;
      sound = sound;
      ready = subst (Ready pr sound.heights) opened (opened_ready p n pr begins.arguments good.holds there arguments sound);
      room = subst (λ c. CanCountEach c f.taken) (sym code_is) room;
      onward = λ count r d. (count, subst (λ g. Derives p env n g count r) at_first d);
    }

-- EACH STEP

next_act : (p : Parts) (env : Environment) (n : ℕ) (pr : Procedure) (f : Frame) (i : Instruction) → procedure_at p n ≡ Some pr
    → slice_get pr.code f.place ≡ Some i → next p env n f ≡ act p env i f
unfolding next
next_act p env n pr f i there here = rw (there, here) refl

pub inside : (p : Parts) (env : Environment) (n : ℕ) (code : List Instruction) (locals : List ℤ) (f : Frame)
    → Standing p env n code locals f → f.place < length code
inside p env n code locals f s = let within = s.ready.inside in omega (arith, within, ap length s.code_is)

module _ (p : Parts) (env : Environment) (n : ℕ) (code : List Instruction) (locals : List ℤ) (f : Frame) (good : HasGoodCode p)
    (s : Standing p env n code locals f) where
  -- the instruction that comes next
  abbrev i : Instruction
  i = get_or code f.place (Push (pos 0))

  here : slice_get code f.place ≡ Some i
  here = slice_get-get_or code f.place (Push (pos 0)) (inside p env n code locals f s)

  abbrev pr : Procedure
  pr = s.procedure

  here_in : slice_get pr.code f.place ≡ Some i
  here_in = ap (λ c. slice_get c f.place) s.code_is ∙ here

  abbrev WellHere : Next → Type 0
  WellHere x = Well p env n pr s.sound.heights (costs_of p) f x

  well : WellHere (act p env i f)
  well = subst WellHere (next_act p env n pr f i s.there here_in)
      (next_well p env n pr s.sound.heights (costs_of p) s.there good.holds s.sound.each s.needs f s.ready)

  pub moves : act p env i f ≢ Stuck
  moves stuck = subst WellHere stuck well

  pub place : f.place < most_instructions
  place = let inside = s.ready.inside in omega (arith, inside, (good.holds.procedures n pr s.there).0.code)

  pub holds : InstructionHolds p pr.locals i
  holds = subst (InstructionHolds p pr.locals) (get_or_from_slice_get pr.code f.place i i here_in)
      (All-get_or (InstructionHolds p pr.locals) pr.code f.place i s.ready.inside (good.holds.procedures n pr s.there).1)

  pub room : IsTrue (is_back i) → CanCount f.taken f.place
  room back = room_for code f.taken f.place i here s.room back

  keeps : KeepsRoom code (act p env i f)
  keeps = act_keeps code p env f s.room i here

  did : (x : Next) → act p env i f ≡ x → next p env n f ≡ x
  did x is = next_act p env n pr f i s.there here_in ∙ is

  pub went : (g : Frame) → act p env i f ≡ Goes g → Standing p env n code locals g
  went g is = record {
    procedure = pr;
    there = s.there;
    code_is = s.code_is;
    needs = s.needs;
    sound = s.sound;
    ready = (subst WellHere is well).0;
    room = subst (KeepsRoom code) is keeps;
    onward = λ count r d. s.onward (suc count) r (goes (did (Goes g) is) d);
  }

  pub went_less : (g : Frame) → act p env i f ≡ Goes g → left p code g < left p code f
  went_less g is = let paid : left p pr.code g + 1 ≤ left p pr.code f = (subst WellHere is well).1 in
      subst (λ c. left p c g < left p c f) s.code_is (omega (arith, paid))

  pub returned : (v : ℤ) (g : Frame) → Did p i (act p env i f) (Returned v) g → (all : ℕ) × Derives p env n (first_frame locals) all (Ok v)
  returned v g is = s.onward 1 (Ok v) (returns (did _ is))

  pub ended : (end : PlusEnd) (g : Frame) → Did p i (act p env i f) (Ended end) g → (all : ℕ) × Derives p env n (first_frame locals) all (Err end)
  ended end g is = s.onward 1 (Err end) (ends (did _ is))

  module _ (q : ℕ) (given : ArrayVec ℤ) (g : Frame) (d : Did p i (act p env i f) (Called q given) g) where
    calls_well : CallsWell p env n pr s.sound.heights (costs_of p) f q d.0 g
    calls_well = subst WellHere d.1 well

    pub called_lower : q < n
    called_lower = calls_well.lower

    locals_are : given.items ≡ (opening_frame (Some calls_well.procedure) d.0).locals
    locals_are = d.2 ∙ ap (λ (o : Option Procedure). (opening_frame o d.0).locals) calls_well.there

    pub called_begins : Begins p env q given.items
    called_begins =
        let w = calls_well in
        record {
          procedure = w.procedure;
          arguments = d.0;
          may = record { there = w.there; arguments = w.count; needs = w.needs };
          locals_are = locals_are;
        }

    pub received_moves : (v : ℤ) → push_value v g ≢ Stuck
    received_moves v stuck = let is = (calls_well.answered v).is in absurd (cc)

    from_opening : (count : ℕ) (r : Result ℤ PlusEnd) → Derives p env q (first_frame given.items) count r
        → Derives p env q (opening_frame (procedure_at p q) d.0) count r
    from_opening count r c =
        let is : first_frame given.items ≡ opening_frame (procedure_at p q) d.0 = ap first_frame locals_are
        ∙ ap (λ (o : Option Procedure). opening_frame o d.0) (sym calls_well.there) in
        subst (λ h. Derives p env q h count r) is c

    pub called_ended : (count : ℕ) (end : PlusEnd) → Derives p env q (first_frame given.items) count (Err end) → (all : ℕ)
        × Derives p env n (first_frame locals) all (Err end)
    called_ended count end c = s.onward (suc count) (Err end) (call_ends (did _ d.1) (from_opening count (Err end) c))

    same_frame : (v : ℤ) (h : Frame) → push_value v g ≡ Goes h → (calls_well.answered v).frame ≡ h
    same_frame v h push = let is = (calls_well.answered v).is in let same : Goes (calls_well.answered v).frame ≡ Goes h = sym is ∙ push in cc

    pub called_gave : (count : ℕ) (v w : ℤ) (h : Frame) → Derives p env q (first_frame given.items) count (Ok v) → w ≡ finish_of p i v
        → push_value w g ≡ Goes h → Standing p env n code locals h
    called_gave count v w h c made push = record {
      procedure = pr;
      there = s.there;
      code_is = s.code_is;
      needs = s.needs;
      sound = s.sound;
      ready = subst (Ready pr s.sound.heights) (same_frame w h push) (calls_well.answered w).ready;
      room = subst (KeepsRoom code) push (pushed_keeps code w g (subst (KeepsRoom code) d.1 keeps));
      onward = λ more r rest. s.onward (suc (count + more)) r
          (call_gives (did _ d.1) (from_opening count (Ok v) c) (subst (λ x. push_value x g ≡ Goes h) made push) rest);
    }

    pub called_less : (v : ℤ) (h : Frame) → push_value v g ≡ Goes h → left p code h < left p code f
    called_less v h push =
        let paid = (calls_well.answered v).paid in
        let same = ap (left p pr.code) (same_frame v h push) in
        subst (λ c. left p c h < left p c f) s.code_is (omega (arith, paid, same))
