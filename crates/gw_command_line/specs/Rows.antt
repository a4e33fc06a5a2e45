-- The words of the commands for many machines.
use Rattle.std.specs.Prelude.{◌==◌, ℕ, ◌^◌, nat_lt, nat_le, List, [], ◌∷◌, length, Option, Some, None, is_none, option_and_then, option_map, Bool}
use Rattle.std.specs.Prelude.{true, not, ◌&&◌, if◌then◌else◌}
use Rattle.std.specs.List.{list_any, position_or_len, before_first, after_first}
use Rattle.std.specs.Option.{unwrap_or}
use Rattle.gw_num.specs.Numerals.{number_below}
use Rattle.gw_command_line.specs.Options.{Choices, options_in, view}
use Rattle.gw_command_line.specs.declared.rows.LoneRun.{LoneRun}
use Rattle.gw_command_line.specs.declared.rows.Runs.{Runs}
use Rattle.gw_command_line.specs.declared.rows.Shard.{Shard}
use Rattle.gw_command_line.specs.declared.rows.Summing.{Summing}

-- WHAT IS ASKED FOR

-- rows of runs: from which run to which, but not that one, their count, and the options
pub record RunsDemand : Type 0 where
  pub first : ℕ
  pub end : ℕ
  pub count : ℕ
  pub options : Choices

-- the object of a run: which, its count, and the options
pub record LoneDemand : Type 0 where
  pub run : ℕ
  pub count : ℕ
  pub options : Choices

-- what the code has of it
abbrev pub runs_view : Runs → RunsDemand
runs_view r = record { first = r.first; end = r.end; count = r.count; options = view r.options }

abbrev pub lone_view : LoneRun → LoneDemand
lone_view r = record { run = r.run; count = r.count; options = view r.options }

-- the same, where it has any
abbrev pub runs_demand : Option Runs → Option RunsDemand
runs_demand runs = option_map runs_view runs

abbrev pub lone_demand : Option LoneRun → Option LoneDemand
lone_demand run = option_map lone_view run

-- OPTIONS

-- none tells of figures or of studies
abbrev pub is_of_runs : Choices → Bool
is_of_runs o = is_none o.seeds && not o.all && not o.csv && is_none o.figure

-- there may be as many workers
abbrev pub has_workers : Choices → Bool
has_workers o = nat_le 1 (unwrap_or o.workers 1) && nat_le (unwrap_or o.workers 1) 16

-- a word gives a name one number, if there is a word: it has no `,`
abbrev pub is_single : Option (List ℕ) → Bool
is_single None = true
is_single (Some word) = not (list_any (λ byte. byte == 44) word)

-- there are but words as `NURSES=2`
abbrev pub is_of_point : Choices → Bool
is_of_point o =
    is_of_runs o && is_none o.from && is_none o.workers && is_single o.first && is_single o.second && is_single o.third

-- there is but a number of workers
abbrev pub is_of_shard : Choices → Bool
is_of_shard o = is_of_runs o && is_none o.from && is_none o.first && has_workers o

-- there are but `--seeds` and `--all`
abbrev pub is_of_summary : Choices → Bool
is_of_summary o = is_none o.from && is_none o.workers && not o.csv && is_none o.figure && is_none o.first

-- the count that the first of these words is, if it is one
abbrev pub first_count : List (List ℕ) → Option ℕ
first_count [] = None
first_count (word ∷ words) = number_below (2 ^ 64) word

abbrev pub behind_first : List (List ℕ) → List (List ℕ)
behind_first [] = []
behind_first (word ∷ words) = words

-- RUNS

abbrev pub runs_if_fit : ℕ → ℕ → ℕ → Choices → Option RunsDemand
runs_if_fit first end count o =
    if nat_le first end && nat_le end 512 && is_of_runs o && has_workers o then
    Some (record { first = first; end = end; count = count; options = o })
    else None

abbrev pub runs_with : ℕ → ℕ → ℕ → List (List ℕ) → Option RunsDemand
runs_with first end count words = option_and_then (runs_if_fit first end count) (options_in words)

-- a count comes before the options, if it is there
abbrev pub runs_counted : ℕ → ℕ → List (List ℕ) → Option ℕ → Option RunsDemand
runs_counted first end words None = runs_with first end 0 words
runs_counted first end words (Some count) = runs_with first end count (behind_first words)

abbrev pub runs_from_to : ℕ → ℕ → List (List ℕ) → Option RunsDemand
runs_from_to first end words = runs_counted first end words (first_count words)

abbrev pub runs_between : List (List ℕ) → Option ℕ → Option ℕ → Option RunsDemand
runs_between words None end = None
runs_between words (Some first) None = None
runs_between words (Some first) (Some end) = runs_from_to first end words

abbrev pub runs_between_words : List ℕ → List ℕ → List (List ℕ) → Option RunsDemand
runs_between_words first end words = runs_between words (number_below (2 ^ 32) first) (number_below (2 ^ 32) end)

abbrev pub runs_of : List (List ℕ) → Option RunsDemand
runs_of [] = None
runs_of (first ∷ []) = None
runs_of (first ∷ end ∷ words) = runs_between_words first end words

-- THE OBJECT OF A RUN

abbrev pub lone_if_fit : ℕ → ℕ → Choices → Option LoneDemand
lone_if_fit run count o =
    if nat_lt run 512 && is_of_point o then Some (record { run = run; count = count; options = o }) else None

abbrev pub lone_with : ℕ → ℕ → List (List ℕ) → Option LoneDemand
lone_with run count words = option_and_then (lone_if_fit run count) (options_in words)

abbrev pub lone_counted : ℕ → List (List ℕ) → Option ℕ → Option LoneDemand
lone_counted run words None = lone_with run 0 words
lone_counted run words (Some count) = lone_with run count (behind_first words)

abbrev pub lone_of_run : ℕ → List (List ℕ) → Option LoneDemand
lone_of_run run words = lone_counted run words (first_count words)

abbrev pub lone_numbered : List (List ℕ) → Option ℕ → Option LoneDemand
lone_numbered words None = None
lone_numbered words (Some run) = lone_of_run run words

abbrev pub lone_of_word : List ℕ → List (List ℕ) → Option LoneDemand
lone_of_word run words = lone_numbered words (number_below (2 ^ 32) run)

abbrev pub lone_run_of : List (List ℕ) → Option LoneDemand
lone_run_of [] = None
lone_run_of (run ∷ words) = lone_of_word run words

-- SHARES

-- what stands before the first `/` of a word, and what follows it
abbrev pub cut_at_slash : List ℕ → Option (List ℕ × List ℕ)
cut_at_slash word =
    if nat_lt (position_or_len (λ b. b == 47) word) (length word) then
    Some (before_first (λ b. b == 47) word, after_first (λ b. b == 47) word)
    else None

-- a share of a number, of so many
abbrev pub shard_if_fit : ℕ → ℕ → Choices → Option Shard
shard_if_fit number shares o =
    if nat_lt number shares && is_of_shard o then
    Some (record { number = number; shares = shares; workers = unwrap_or o.workers 0 })
    else None

abbrev pub shard_with : List (List ℕ) → Option ℕ → Option ℕ → Option Shard
shard_with words None shares = None
shard_with words (Some number) None = None
shard_with words (Some number) (Some shares) = option_and_then (shard_if_fit number shares) (options_in words)

abbrev pub shard_of_words : List ℕ → List ℕ → List (List ℕ) → Option Shard
shard_of_words number shares words = shard_with words (number_below (2 ^ 32) number) (number_below (2 ^ 32) shares)

abbrev pub shard_cut : List (List ℕ) → Option (List ℕ × List ℕ) → Option Shard
shard_cut words None = None
shard_cut words (Some cut) = shard_of_words cut.0 cut.1 words

abbrev pub shard_of : List (List ℕ) → Option Shard
shard_of [] = None
shard_of (word ∷ words) = shard_cut words (cut_at_slash word)

-- SUMMARIES

abbrev pub summing_if_fit : Choices → Option Summing
summing_if_fit o =
    if nat_le 1 (unwrap_or o.seeds 1) && nat_le (unwrap_or o.seeds 1) 512 && is_of_summary o then
    Some (record { seeds = unwrap_or o.seeds 1; all = o.all })
    else None

abbrev pub summing_of : List (List ℕ) → Option Summing
summing_of words = option_and_then summing_if_fit (options_in words)
