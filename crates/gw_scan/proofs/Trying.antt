-- What the tries of two next blocks come to.
use Rattle.std.proofs.Common.{◌≡◌, ℕ, ℤ, List, Some, Bool, true, false, if◌then◌else◌, refl, sym, ap, ◌∙◌}
use Rattle.std.specs.Prelude.{Result, Ok, Err}
use Rattle.gw_object.specs.declared.blocks.Block.{Block}
use Rattle.gw_object.specs.declared.blocks.Test.{Test}
use Rattle.gw_object.specs.declared.blocks.Block.TheVariants as blocks
use Rattle.gw_object.specs.declared.parts.Parts.{Parts}
use Rattle.gw_rules.specs.Values.{operands}
use Rattle.gw_rules.specs.declared.ends.PlusEnd.{PlusEnd}
use Rattle.gw_rules.specs.Kinds.{block_at}
use Rattle.gw_transactions.specs.declared.Transaction.{Transaction}
use Rattle.gw_machine.specs.Configuration.{Configuration}
use Rattle.gw_machine.specs.View.{state_of}
use Rattle.gw_step.specs.Blocks.{act, meets}
use Rattle.gw_step.specs.Outcome.{Outcome, Gives, EndsBy, HasNoCase, ◌>>=◌, case_of, evaluation_outcome}
use Rattle.gw_step.specs.State.{State, with_streams}
use Rattle.gw_step.specs.Step.{meets_one, refusal}
use Rattle.gw_step.specs.Times.{environment_of}
use Rattle.gw_scan.specs.Trying.{TellsOfNext, TellsRefusal, no_refusal}
use Rattle.gw_step.specs.Step.{refusal_by}
use Rattle.gw_scan.specs.declared.visit.Visit.{Visit}

-- WHETHER A BLOCK REFUSES

-- a TEST that names another block refuses nobody
pub other_way : (p : Parts) (n : ℕ) (t : Transaction) (s : State) (test : Test) (other : ℕ) → test.otherwise ≡ Some other
    → refusal_by p n t (blocks.Test test) s ≡ no_refusal p n t (blocks.Test test) s
other_way p n t s test other is = rw is refl

-- who isn't refused goes on as if nobody had asked
let_by : (o : Outcome (List ℤ × List ℕ)) (k : List ℤ × List ℕ → Outcome State) (otherwise : List ℕ → Outcome State)
    → ((o >>= λ read. Gives (false, read.1)) >>= (λ (answer : Bool × List ℕ). if answer.0 then otherwise answer.1 else (o >>= k))) ≡ (o >>= k)
let_by (Gives read) k otherwise = refl
let_by (EndsBy end) k otherwise = refl
let_by HasNoCase k otherwise = refl

module _ (p : Parts) (n : ℕ) (t : Transaction) (block : Block) (s : State) where
  lets_enter : (otherwise : List ℕ → Outcome State)
      → (no_refusal p n t block s >>= (λ (answer : Bool × List ℕ). if answer.0 then otherwise answer.1 else act p n t block s)) ≡ act p n t block s
  unfolding act
  lets_enter otherwise = let_by (evaluation_outcome (operands p (environment_of n t s) block s.streams))
      (λ read. meets p n t block read.0 (with_streams read.1 s)) otherwise

  module _ (there : block_at p.blocks t.next ≡ Some block) where
    -- the next block is this one
    pub meets-is : meets_one p n t s ≡ act p n t block s
    meets-is = ap (λ o. case_of o >>= λ block. act p n t block s) there

    pub refusal-is : refusal p n t s ≡ refusal_by p n t block s
    refusal-is = ap (λ o. case_of o >>= λ block. refusal_by p n t block s) there

-- what was answered of the refusal by this block was answered of the next one
pub tells_of_next : (result : Result Bool PlusEnd) (v : Visit) (block : Block) (old new : Configuration)
    → block_at v.verified.now.blocks v.transaction.next ≡ Some block → TellsRefusal result new.streams v block (state_of old) → TellsOfNext result v old new
tells_of_next (Ok true) v block old new there h = refusal-is v.verified.now v.tx.number v.transaction block (state_of old) there ∙ h
tells_of_next (Ok false) v block old new there h =
    let p = v.verified.now in
    let n = v.tx.number in
    let t = v.transaction in
    let s = state_of old in (
      (λ otherwise.
          ap (λ (o : Outcome (Bool × List ℕ)). o
          >>= (λ (answer : Bool × List ℕ). if answer.0 then otherwise answer.1 else meets_one p n t s)) (refusal-is p n t block s there ∙ h.0)
          ∙ ap (λ (m : Outcome State). no_refusal p n t block s
          >>= (λ (answer : Bool × List ℕ). if answer.0 then otherwise answer.1 else m)) (meets-is p n t block s there)
          ∙ lets_enter p n t block s otherwise
          ∙ sym (meets-is p n t block s there)),
      h.1,
    )
tells_of_next (Err end) v block old new there h = (refusal-is v.verified.now v.tx.number v.transaction block (state_of old) there ∙ h.0, h.1)
