-- Blocks with values: what a block comes to whose operand values are known.
use Rattle.std.proofs.Common.{◌≡◌, ℕ, ◌+◌, ℤ, List, Option, Some, refl, ap, ◌∙◌}
use Rattle.gw_object.specs.declared.blocks.Operand.{Operand}
use Rattle.gw_object.specs.declared.blocks.Spread.{Spread}
use Rattle.gw_object.specs.declared.blocks.Assign.{Assign}
use Rattle.gw_object.specs.declared.blocks.Save.{Save}
use Rattle.gw_object.specs.declared.blocks.Priority.{Priority}
use Rattle.gw_object.specs.declared.blocks.Plus.{Plus}
use Rattle.gw_object.specs.declared.blocks.Block.TheVariants as blocks
use Rattle.gw_object.specs.declared.parts.Parts.{Parts}
use Rattle.gw_rules.specs.Sources.{operand_at}
use Rattle.gw_rules.specs.Values.{Evaluation, Value, Fails, Unset, ◌>>=◌ as ◌then◌, operand_value, one_operand, drawn_time, single_value}
use Rattle.gw_transactions.specs.declared.Transaction.{Transaction}
use Rattle.gw_step.specs.Outcome.{Outcome, Gives, EndsBy, HasNoCase, ◌>>=◌, evaluation_outcome}
use Rattle.gw_step.specs.State.{State, with_streams}
use Rattle.gw_step.specs.Times.{environment_of, moment_after, drawn_moment}
use Rattle.gw_step.specs.Blocks.{leads, until, advance, assign, save, set_priority, plus, tabulate, then_placed, meets, act, effect}
use Rattle.gw_step.specs.Changes.{enters_and_falls}

-- what the one value of a block comes to
one-value : {A B C : Type 0} (e : Evaluation A) (f : A → B) (g : B → Outcome C) → (evaluation_outcome (e then (λ a. Value (f a))) >>= g)
    ≡ (evaluation_outcome e >>= λ a. g (f a))
one-value (Value a) f g = refl
one-value (Fails end) f g = refl
one-value Unset f g = refl

module _ (p : Parts) (n : ℕ) (t : Transaction) (s : State) where
  pub act-assign : (a : Assign) (value : ℤ) (streams : List ℕ) → operand_value p (environment_of n t s) a.value s.streams ≡ Value (value, streams)
      → act p n t (blocks.Assign a) s ≡ then_placed n (assign p.blocks n t a value (with_streams streams s))
  unfolding act effect
  act-assign a value streams is = rw is refl

  pub act-save : (a : Save) (value : ℤ) (streams : List ℕ) → operand_value p (environment_of n t s) a.value s.streams ≡ Value (value, streams)
      → act p n t (blocks.Savevalue a) s ≡ then_placed n (save p.blocks n t a value (with_streams streams s))
  unfolding act effect
  act-save a value streams is = rw is refl

  pub act-priority : (a : Priority) (value : ℤ) (streams : List ℕ) → operand_value p (environment_of n t s) a.value s.streams ≡ Value (value, streams)
      → act p n t (blocks.Priority a) s ≡ then_placed n (set_priority p.blocks n t a.behind value (with_streams streams s))
  unfolding act effect
  act-priority a value streams is = rw is refl

  pub act-plus : (a : Plus) (value : ℤ) (streams : List ℕ) → operand_value p (environment_of n t s) a.value s.streams ≡ Value (value, streams)
      → act p n t (blocks.Plus a) s ≡ then_placed n (plus p.blocks n t a.parameter value (with_streams streams s))
  unfolding act effect
  act-plus a value streams is = rw is refl

  -- a TABULATE of a table with this argument
  pub act-tabulate : (e : ℕ) (o : Operand) (value : ℤ) (streams : List ℕ) → operand_at p.entities e ≡ Some o
      → operand_value p (environment_of n t s) o s.streams ≡ Value (value, streams)
      → act p n t (blocks.Tabulate e) s ≡ then_placed n (tabulate p.blocks n t e value (with_streams streams s))
  unfolding act effect
  act-tabulate e o value streams argument is =
      ap (λ (x : Option Operand). evaluation_outcome (one_operand p (environment_of n t s) x s.streams)
      >>= λ read. meets p n t (blocks.Tabulate e) read.0 (with_streams read.1 s)) argument
      ∙ rw is refl

  -- an ADVANCE whose time was drawn
  abbrev pub advanced : ℤ × List ℕ → Outcome State
  advanced d = then_placed n (leads p.blocks (t.next + 1) (Gives (enters_and_falls n t (with_streams d.1 s), until s.clock d.0)))

  resting : (o : Outcome (ℤ × List ℕ)) → (o >>= λ d. then_placed n (advance p.blocks n t d.0 (with_streams d.1 s)))
      ≡ (o >>= (λ d. moment_after s.clock d.0 >>= λ moment. Gives (moment, d.1)) >>= advanced)
  resting (Gives d) = by (moment_after s.clock d.0)
    where
      by : (o : Outcome ℤ) → then_placed n
          (o >>= λ moment. leads p.blocks (t.next + 1) (Gives (enters_and_falls n t (with_streams d.1 s), until s.clock moment)))
          ≡ ((o >>= λ moment. Gives (moment, d.1)) >>= advanced)
      by (Gives moment) = refl
      by (EndsBy end) = refl
      by HasNoCase = refl
  resting (EndsBy end) = refl
  resting HasNoCase = refl

  pub act-advance : (time : Spread) (o : Outcome (ℤ × List ℕ)) → drawn_moment p (environment_of n t s) time s.clock s.streams ≡ o
      → act p n t (blocks.Advance time) s ≡ (o >>= advanced)
  unfolding act effect
  act-advance time o is =
      one-value (drawn_time p (environment_of n t s) time s.streams) single_value (λ read. meets p n t (blocks.Advance time) read.0 (with_streams read.1 s))
      ∙ resting (evaluation_outcome (drawn_time p (environment_of n t s) time s.streams))
      ∙ ap (λ x. x >>= advanced) is
