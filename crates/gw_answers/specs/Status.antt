-- The statuses with which the program ends, and the budget of a run.
use Rattle.std.specs.Prelude.{ℕ}

-- an accepted job came to a named end
abbrev pub end_status : ℕ
end_status = 0

-- the object or the job was refused
abbrev pub refusal_status : ℕ
refusal_status = 1

-- the words are not those of a command
abbrev pub wrong_words : ℕ
wrong_words = 2

-- a read or a write failed
abbrev pub failure_status : ℕ
failure_status = 3

-- memory ran out
abbrev pub no_memory : ℕ
no_memory = 4

-- at most how many steps a run makes
abbrev pub run_budget : ℕ
run_budget = 1000000000
