-- How the active transaction tries its next block, or its two: as whom, and in which state.
use Rattle.std.specs.Prelude.{◌≡◌, ℕ, List, Some, None, true}
use Rattle.gw_object.specs.declared.blocks.Block.{Block}
use Rattle.gw_object.specs.declared.parts.Parts.{Parts}
use Rattle.gw_rules.specs.Kinds.{block_at}
use Rattle.gw_transactions.specs.declared.Transaction.{Transaction}
use Rattle.gw_transactions.specs.Transactions.{attributes_at}
use Rattle.gw_step.specs.Outcome.{Gives}
use Rattle.gw_step.specs.State.{State, with_streams}
use Rattle.gw_step.specs.Turning.{two_next, towards, turn_to}
use Rattle.gw_step.specs.Step.{refusal}
use Rattle.gw_step.specs.Job.{Job}

-- the transaction n, which is t, tries its one next block as it is; with two it turns to the first, and refused there, with the draws made, to the second
pub data Attempt (p : Parts) (s : State) (n : ℕ) (t : Transaction) : Transaction → State → Type 0 where
  at_its_one : two_next p t ≡ None → Attempt p s n t t s
  at_the_first : {pair : ℕ × ℕ} → two_next p t ≡ Some pair → Attempt p s n t (towards pair.0 t) (turn_to n t pair.0 s)
  at_the_second :
      {pair : ℕ × ℕ} {streams : List ℕ} → two_next p t ≡ Some pair
      → refusal p n (towards pair.0 t) (turn_to n t pair.0 s) ≡ Gives (true, streams)
      → Attempt p s n t (towards pair.1 t) (turn_to n t pair.1 (with_streams streams s))

-- in a running state s the active transaction n makes an attempt: it is t then, and the state is u
pub record Attempts (j : Job) (s u : State) (n : ℕ) (t : Transaction) : Type 0 where
  pub own : Transaction
  pub runs : s.ended ≡ None
  pub active : s.lists.active ≡ Some n
  pub found : attributes_at n s.transactions ≡ Some own
  pub attempt : Attempt j.parts s n own t u

-- and this is the block that it tries
pub record Tries (j : Job) (s u : State) (n : ℕ) (t : Transaction) (block : Block) : Type 0 where
  pub attempts : Attempts j s u n t
  pub before : block_at j.parts.blocks t.next ≡ Some block
