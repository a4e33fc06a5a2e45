-- At most one outcome; and where code passes its checks, always one.
use Rattle.std.proofs.Common.{◌≡◌, ℕ, zero, suc, ◌+◌, ◌<◌, ◌≤◌, List, length, refl, sym, ◌∙◌, subst, arith, Some, Result, Ok, Err, ℤ, pos, get_or}
use Rattle.std.proofs.lemmas.Option.{slice_get-get_or}
use Rattle.std.specs.Prelude.{All, slice_get}
use Rattle.gw_num.specs.Table.{at}
use Rattle.gw_object.specs.declared.code.Instruction.{Instruction}
use Rattle.gw_object.specs.declared.code.Instruction.TheVariants.{Return}
use Rattle.gw_object.specs.declared.code.Procedure.{Procedure}
use Rattle.gw_object.specs.declared.parts.Parts.{Parts}
use Rattle.gw_rules.specs.KindsLaws.{EntityHolds, ProcedureHolds}
use Rattle.gw_rules.specs.declared.ends.PlusEnd.{PlusEnd}
use Rattle.gw_rules.specs.Environment.{Environment}
use Rattle.gw_rules.specs.Code.{procedure_at}
use Rattle.gw_rules.specs.PlusChecks.{Heights}
use Rattle.gw_rules.specs.Meaning.{Frame, Next, Goes, Calls, Returns, Ends, Stuck, push_value, next, opening_frame, Derives, returns, ends, goes, call_ends, call_gives}
use Rattle.gw_rules.specs.PlusLaws.{HasSet}
use Rattle.gw_rules.proofs.Potential.{cost_drop}
use Rattle.gw_rules.proofs.PlusSteps.{Fine, Ready, left, Answered, Well, next_well_typed}

-- AT MOST ONE

-- what a derivation is above that of a call: the call ended the evaluation, or its value came onto the stack
abbrev pub Continues : (p : Parts) (env : Environment) → ℕ → (ℤ → ℤ) → Frame → ℕ → ℕ → Result ℤ PlusEnd → Result ℤ PlusEnd → Type 0
Continues p env n finish g count m (Err e) r = (count ≡ suc m) × (r ≡ Err e)
Continues p env n finish g count m (Ok v) r = (h : Frame) × (k : ℕ) × (push_value (finish v) g ≡ Goes h) × Derives p env n h k r × (count ≡ suc (m + k))

-- what a derivation is, by what its first instruction does
abbrev pub Unrolled : (p : Parts) (env : Environment) → ℕ → Next → ℕ → Result ℤ PlusEnd → Type 0
Unrolled p env n (Goes g) count r = (k : ℕ) × Derives p env n g k r × (count ≡ suc k)
Unrolled p env n (Calls q arguments finish g) count r = (m : ℕ) × (a : Result ℤ PlusEnd)
    × Derives p env q (opening_frame (procedure_at p q) arguments) m a × Continues p env n finish g count m a r
Unrolled p env n (Returns v) count r = (count ≡ 1) × (r ≡ Ok v)
Unrolled p env n (Ends e) count r = (count ≡ 1) × (r ≡ Err e)
Unrolled p env n Stuck count r = ⊥

pub unroll : {p : Parts} {env : Environment} {n : ℕ} {f : Frame} {count : ℕ} {r : Result ℤ PlusEnd} → Derives p env n f count r
    → Unrolled p env n (next p env n f) count r
unroll {p} {env} {n} (returns {v = v} is) = subst (λ x. Unrolled p env n x 1 (Ok v)) (sym is) (refl, refl)
unroll {p} {env} {n} (ends {e = e} is) = subst (λ x. Unrolled p env n x 1 (Err e)) (sym is) (refl, refl)
unroll {p} {env} {n} (goes {k = k} {r = r} is d) = subst (λ x. Unrolled p env n x (suc k) r) (sym is) (k, d, refl)
unroll {p} {env} {n} (call_ends {m = m} {e = e} is d) = subst (λ x. Unrolled p env n x (suc m) (Err e)) (sym is) (m, Err e, d, (refl, refl))
unroll {p} {env} {n} (call_gives {h = h} {m = m} {k = k} {v = v} {r = r} is d push c) =
    subst (λ x. Unrolled p env n x (suc (m + k)) r) (sym is) (m, Ok v, d, (h, k, push, c, refl))

pub one_outcome : (p : Parts) (env : Environment) (n : ℕ) (f : Frame) (k m : ℕ) (r s : Result ℤ PlusEnd) → Derives p env n f k r
    → Derives p env n f m s → (k ≡ m) × (r ≡ s)
one_outcome p env n f k m r s (returns is) d =
    let u = subst (λ x. Unrolled p env n x m s) is (unroll d) in (sym u.0, sym u.1)
one_outcome p env n f k m r s (ends is) d =
    let u = subst (λ x. Unrolled p env n x m s) is (unroll d) in (sym u.0, sym u.1)
one_outcome p env n f k m r s (goes {g = g} {k = j} is c) d =
    let u = subst (λ x. Unrolled p env n x m s) is (unroll d) in
    let rest = one_outcome p env n g j u.0 r s c u.1 in
    (omega (arith, rest.0, u.2), rest.1)
one_outcome p env n f k m r s (call_ends {q = q} {g = g} {arguments = arguments} {finish = finish} {m = j} {e = e} is c) d =
    let u = subst (λ x. Unrolled p env n x m s) is (unroll d) in
    let call = one_outcome p env q (opening_frame (procedure_at p q) arguments) j u.0 (Err e) u.1 c u.2 in
    let after = subst (λ x. Continues p env n finish g m u.0 x s) (sym call.1) u.3 in
    (omega (arith, call.0, after.0), sym after.1)
one_outcome p env n f k m r s (call_gives {q = q} {g = g} {h = h} {arguments = arguments} {finish = finish} {m = j} {k = i} {v = v} is c push c2) d =
    let u = subst (λ x. Unrolled p env n x m s) is (unroll d) in
    let call = one_outcome p env q (opening_frame (procedure_at p q) arguments) j u.0 (Ok v) u.1 c u.2 in
    let after = subst (λ x. Continues p env n finish g m u.0 x s) (sym call.1) u.3 in
    let same : h ≡ after.0 = (let e : Goes h ≡ Goes after.0 = sym push ∙ after.2 in cc) in
    let rest = one_outcome p env n h i after.1 r s c2 (subst (λ x. Derives p env n x after.1 s) (sym same) after.3) in
    (omega (arith, call.0, rest.0, after.4), rest.1)

-- ALWAYS ONE

-- an outcome, after at most so many instructions
pub record Derived (p : Parts) (env : Environment) (n : ℕ) (f : Frame) (most : ℕ) : Type 0 where
  pub count : ℕ
  pub outcome : Result ℤ PlusEnd
  pub derived : Derives p env n f count outcome
  pub within : count ≤ most

-- a procedure has an outcome within its cost wherever it may begin
abbrev pub Works : Parts → Environment → List ℕ → ℕ → Procedure → Type 0
Works p env costs q called = (arguments : List ℤ) → procedure_at p q ≡ Some called → length arguments ≡ called.arguments
    → HasSet env called.needs → Derived p env q (opening_frame (Some called) arguments) (at 0 costs q)

module _ (p : Parts) (env : Environment) (n : ℕ) (pr : Procedure) (heights : Heights) (costs : List ℕ) where
  -- an activation that stands as the heights say has an outcome within what is left
  abbrev Runs : Frame → Type 0
  Runs f = Derived p env n f (left p env n pr heights costs f)

  -- so does each that has less left
  abbrev RunsBelow : Frame → Type 0
  RunsBelow f = (h : Frame) → Ready pr heights h → left p env n pr heights costs h + 1 ≤ left p env n pr heights costs f → Runs h

  answered : (f g : Frame) (q m : ℕ) (arguments : List ℤ) (finish : ℤ → ℤ) (a : Result ℤ PlusEnd) → next p env n f
      ≡ Calls q arguments finish g → Derives p env q (opening_frame (procedure_at p q) arguments) m a → m ≤ at 0 costs q
      → ((v : ℤ) → Answered p env n pr heights costs f g q v) → RunsBelow f → 1 + at 0 costs q ≤ left p env n pr heights costs f → Runs f
  answered f g q m arguments finish (Err e) is d within goes_on below most =
      record { count = suc m; outcome = Err e; derived = call_ends is d; within = omega arith }
  answered f g q m arguments finish (Ok v) is d within goes_on below most =
      let a = goes_on (finish v) in
      let rest = below a.frame a.ready (omega (arith, a.paid)) in
      record { count = suc (m + rest.count); outcome = rest.outcome; derived = call_gives is d a.is rest.derived; within = omega (arith, a.paid, rest.within) }

  follow : ((q : ℕ) (called : Procedure) → q < n → Works p env costs q called) → (f : Frame) (x : Next) → next p env n f ≡ x
      → Well p env n pr heights costs f x → 1 ≤ left p env n pr heights costs f → RunsBelow f → Runs f
  follow lower f (Goes g) is well some below =
      let rest = below g well.0 well.1 in
      record { count = suc rest.count; outcome = rest.outcome; derived = goes is rest.derived; within = omega (arith, rest.within, well.1) }
  follow lower f (Calls q arguments finish g) is well some below =
      let d = lower q well.procedure well.lower arguments well.there well.count well.needs in
      let call = subst (λ x. Derives p env q (opening_frame x arguments) d.count d.outcome) (sym well.there) d.derived in
      answered f g q d.count arguments finish d.outcome is call d.within well.answered below (omega (arith, (well.answered (pos 0)).paid))
  follow lower f (Returns v) is well some below = record { count = 1; outcome = Ok v; derived = returns is; within = some }
  follow lower f (Ends e) is well some below = record { count = 1; outcome = Err e; derived = ends is; within = some }
  follow lower f Stuck is well some below = absurd well

  some_left : (f : Frame) → f.place < length pr.code → 1 ≤ left p env n pr heights costs f
  some_left f inside = omega
      (arith, cost_drop p.entities costs pr.code f.place (get_or pr.code f.place Return) (slice_get-get_or pr.code f.place Return inside))

  pub run : procedure_at p n ≡ Some pr → ProcedureHolds p pr → All (EntityHolds p) p.entities
      → ((k : ℕ) (i : Instruction) → slice_get pr.code k ≡ Some i → Fine p n pr heights k i) → HasSet env pr.needs
      → ((q : ℕ) (called : Procedure) → q < n → Works p env costs q called) → (most : ℕ) (f : Frame) → Ready pr heights f
      → left p env n pr heights costs f ≤ most → Runs f
  run there holds entities fine set lower zero f ready le = absurd (omega (arith, some_left f ready.inside))
  run there holds entities fine set lower (suc most) f ready le =
      follow lower f (next p env n f) refl (next_well_typed p env n pr heights costs there holds entities fine set f ready) (some_left f ready.inside)
      (λ h r less. run there holds entities fine set lower most h r (omega arith))
