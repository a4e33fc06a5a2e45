-- The moment bound: within one clock moment a job makes no more block entries than its certified weight, and so no more steps than that allows.
use Rattle.std.specs.Prelude.{◌≡◌, ◌⊎◌, ℕ, ◌+◌, ◌*◌, ◌≤◌, ◌<ℤ◌, List, sum, Option, None, IfSome}
use Rattle.gw_step.specs.State.{State}
use Rattle.gw_object.specs.declared.parts.Parts.{Parts}
use Rattle.gw_object.specs.Grammar.{HasSpelling}
use Rattle.gw_num.specs.Table.{at}
use Rattle.gw_transactions.specs.Transactions.{LiveTransaction}
use Rattle.gw_step.specs.Numbers.{AreFewLive}
use Rattle.gw_step.specs.Weight.{height, weight, most_weight}
use Rattle.gw_step.specs.Job.{Job, JobFits, IsFinal, Alone}

-- of two states of one clock moment the later one has come: m and n steps of the job lead to s and to t
pub record SameMoment (j : Job) (s t : State) : Type 0 where
  pub before : ℕ
  pub after : ℕ
  pub order : before ≤ after
  pub first : Alone j before s
  pub second : Alone j after t
  pub clock : t.clock ≡ s.clock

-- each entry is paid by weight: what the weight of the later state and the entries since make together is at most the weight of the first
abbrev pub EntriesArePaid : Type 0
EntriesArePaid = (j : Job) (s t : State) → JobFits j → SameMoment j s t → weight j.parts t + sum t.entries ≤ weight j.parts s + sum s.entries

-- so within one clock moment at most as many entries are made as the first state weighs
abbrev pub EntriesAreWithinWeight : Type 0
EntriesAreWithinWeight = (j : Job) (s t : State) → JobFits j → SameMoment j s t → sum t.entries ≤ sum s.entries + weight j.parts s

-- how many steps a job may make in one clock moment from a state of this weight: between two entries at most 65,536
-- transactions become active, and each of them is refused or goes on; so it is once more where arrivals are due at once
abbrev pub steps_within : ℕ → ℕ
steps_within weight = (weight + 1) * (4 * 65536 + 2)

-- within one clock moment no more steps are made
abbrev pub StepsAreWithinWeight : Type 0
StepsAreWithinWeight = (j : Job) (s t : State) → JobFits j → SameMoment j s t → t.steps ≤ s.steps + steps_within (weight j.parts s)

-- where the clock moment of a state, which a job has after so many steps, is over: so many steps later the clock has moved, or the job has ended
pub record Over (j : Job) (before : ℕ) (s : State) : Type 0 where
  pub steps : ℕ
  pub state : State
  pub alone : Alone j (steps + before) state
  pub few : steps ≤ steps_within (weight j.parts s) + 1
  pub over : (s.clock <ℤ state.clock) ⊎ IsFinal state

-- no job hangs in a clock moment
abbrev pub MomentsPass : Type 0
MomentsPass = (j : Job) (n : ℕ) (s : State) → JobFits j → Alone j n s → Over j n s

-- no parameter of a live transaction is above this
abbrev pub AreNoHigher : ℕ → List (Option LiveTransaction) → Type 0
AreNoHigher highest txs = (n : ℕ) → IfSome (at None txs n) (λ t. (q : ℕ) → height q t.parameters ≤ highest)

-- a state in which few are live, and no parameter is above a number, weighs no more than what that number allows
abbrev pub StatesWeighLittle : Type 0
StatesWeighLittle = (p : Parts) (s : State) (highest : ℕ) → HasSpelling p → AreFewLive s.transactions
    → AreNoHigher highest s.transactions → weight p s ≤ most_weight highest
