-- What is seen of a state.
use Rattle.std.specs.Prelude.{ℕ, length, Option}
use Rattle.std.specs.Option.{option_map, option_map_or}
use Rattle.gw_num.specs.Table.{at}
use Rattle.gw_object.specs.declared.parts.Parts.{Parts}
use Rattle.gw_transactions.specs.declared.Transaction.{Transaction}
use Rattle.gw_transactions.specs.Transactions.{live_count}
use Rattle.gw_step.specs.State.{State}
use Rattle.gw_scan.specs.Views.{active_attributes, delayed_in, next_pair}
use Rattle.gw_trace.specs.declared.sight.Candidate.{Candidate}
use Rattle.gw_trace.specs.declared.sight.Choice.{Choice}
use Rattle.gw_trace.specs.declared.sight.Sight.{Sight}

-- the block that the active transaction tries to enter, or the TRANSFER BOTH that it has entered; 0 where nobody is active
abbrev pub next_block : State → ℕ
next_block s = option_map_or (λ (t : Transaction). t.next) (active_attributes s) 0

-- a block, with its entries so far
abbrev pub candidate_at : State → ℕ → Candidate
candidate_at s b = record { block = b; entries = at 0 s.entries b }

-- two blocks, with their entries so far
abbrev pub choice_between : State → ℕ × ℕ → Choice
choice_between s pair = record { first = candidate_at s pair.0; second = candidate_at s pair.1 }

-- the two blocks that the active transaction tries, if it has entered a TRANSFER BOTH
abbrev pub next_choice : Parts → State → Option Choice
next_choice p s = option_map (choice_between s) (next_pair p s)

-- what is seen of a state
abbrev pub sight_of : Parts → State → Sight
sight_of p s =
    record {
      active = s.lists.active;
      next = candidate_at s (next_block s);
      choice = next_choice p s;
      live = live_count s.transactions;
      future_events = length s.lists.future_events;
      delayed = delayed_in s;
      retrying = length s.lists.retry;
    }
