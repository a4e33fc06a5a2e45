-- The options of `study` and `compare` on the command line.
use Rattle.std.specs.Prelude.{ℕ, ◌^◌, List, [], ◌∷◌, codes, Bool, true, false, ◌==◌, ◌||◌, ◌&&◌, if◌then◌else◌, Option, Some, None, is_some}
use Rattle.std.specs.Prelude.{option_map, option_and_then}
use Rattle.std.specs.List.{list_any}
use Rattle.std.specs.Str.{bytes_eq}
use Rattle.gw_num.specs.Numerals.{number_below}
use Rattle.gw_command_line.specs.declared.options.Options.{Options}
use Rattle.gw_command_line.specs.declared.options.Waiting.{Waiting}
use Rattle.gw_command_line.specs.declared.options.Waiting.TheVariants.{Nothing, From, Seeds, Workers, Figure}

-- the options, as far as their words were read
pub record Choices : Type 0 where
  pub from : Option ℕ
  pub seeds : Option ℕ
  pub workers : Option ℕ
  pub all : Bool
  pub csv : Bool
  pub figure : Option (List ℕ)
  pub first : Option (List ℕ)
  pub second : Option (List ℕ)
  pub third : Option (List ℕ)
  pub waiting : Waiting

-- what the code has of them
abbrev pub view : Options → Choices
view o = record {
  from = o.from;
  seeds = o.seeds;
  workers = o.workers;
  all = o.all;
  csv = o.csv;
  figure = option_map (λ w. w.now) o.figure;
  first = option_map (λ w. w.now) o.first;
  second = option_map (λ w. w.now) o.second;
  third = option_map (λ w. w.now) o.third;
  waiting = o.waiting;
}

-- none
abbrev pub no_choices : Choices
no_choices = record {
  from = None;
  seeds = None;
  workers = None;
  all = false;
  csv = false;
  figure = None;
  first = None;
  second = None;
  third = None;
  waiting = Nothing;
}

-- a word gives a name numbers: it has a `=`
abbrev pub is_parameter : List ℕ → Bool
is_parameter word = list_any (λ byte. byte == 61) word

-- an option waits for its word, unless it was there before
abbrev pub wait : Waiting → Bool → Choices → Option Choices
wait waiting was_there o = if was_there then None else Some (record o { waiting = waiting })

-- all figures, or CSV, each once
abbrev pub mark : Bool → Bool → Choices → Option Choices
mark all csv o = if (all && o.all) || (csv && o.csv) then None else Some (record o { all = all || o.all; csv = csv || o.csv })

-- the first word of parameters, the second or the third that isn't there yet
abbrev pub next_parameter : List ℕ → Choices → Option (List ℕ) → Option (List ℕ) → Option (List ℕ) → Option Choices
next_parameter word o None second third = Some (record o { first = Some word })
next_parameter word o (Some x) None third = Some (record o { second = Some word })
next_parameter word o (Some x) (Some y) None = Some (record o { third = Some word })
next_parameter word o (Some x) (Some y) (Some z) = None

abbrev pub with_parameter : List ℕ → Choices → Option Choices
with_parameter word o = if is_parameter word then next_parameter word o o.first o.second o.third else None

-- a word at which no option waits
abbrev pub with_key : List ℕ → Choices → Option Choices
with_key word o =
    if bytes_eq word (codes "--from") then wait From (is_some o.from) o
    else if bytes_eq word (codes "--seeds") then wait Seeds (is_some o.seeds) o
    else if bytes_eq word (codes "--workers") then wait Workers (is_some o.workers) o
    else if bytes_eq word (codes "--svg") then wait Figure (is_some o.figure) o
    else if bytes_eq word (codes "--all") then mark true false o
    else if bytes_eq word (codes "--csv") then mark false true o
    else with_parameter word o

-- the number for which an option waits, if there is one
abbrev pub with_from : Option ℕ → Choices → Option Choices
with_from None o = None
with_from (Some n) o = Some (record o { from = Some n; waiting = Nothing })

abbrev pub with_seeds : Option ℕ → Choices → Option Choices
with_seeds None o = None
with_seeds (Some n) o = Some (record o { seeds = Some n; waiting = Nothing })

abbrev pub with_workers : Option ℕ → Choices → Option Choices
with_workers None o = None
with_workers (Some n) o = Some (record o { workers = Some n; waiting = Nothing })

-- the word for which an option waits
abbrev pub value_for : List ℕ → Choices → Waiting → Option Choices
value_for word o From = with_from (number_below (2 ^ 64) word) o
value_for word o Seeds = with_seeds (number_below (2 ^ 32) word) o
value_for word o Workers = with_workers (number_below (2 ^ 32) word) o
value_for word o Figure = Some (record o { figure = Some word; waiting = Nothing })
value_for word o Nothing = Some (record o { figure = Some word; waiting = Nothing })

abbrev pub with_value : List ℕ → Choices → Option Choices
with_value word o = value_for word o o.waiting

-- one more word
abbrev pub word_for : List ℕ → Choices → Waiting → Option Choices
word_for word o Nothing = with_key word o
word_for word o waiting = with_value word o

abbrev pub with_word : List ℕ → Choices → Option Choices
with_word word o = word_for word o o.waiting

-- the options, if none waits
abbrev pub whole_of : Choices → Waiting → Option Choices
whole_of o Nothing = Some o
whole_of o waiting = None

abbrev pub if_whole : Choices → Option Choices
if_whole o = whole_of o o.waiting

-- the options and those that words name, in any order, each at most once
unfoldable pub options_from : Choices → List (List ℕ) → Option Choices
options_from o [] = if_whole o
options_from o (word ∷ words) = option_and_then (λ p. options_from p words) (with_word word o)

abbrev pub options_in : List (List ℕ) → Option Choices
options_in words = options_from no_choices words
