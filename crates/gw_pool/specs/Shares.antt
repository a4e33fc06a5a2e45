-- What threads count by the books of a table: what a share has, and how it follows the table's totals.
use Rattle.std.specs.Prelude.{◌≡◌, ℕ, ◌+◌, ◌≤◌}
use Rattle.gw_service.specs.Rows.{out_of, steps_of}
use Rattle.gw_service.specs.Journal.{Service}

-- the parts of each ledger: one for a crew, and one for each of 16 workers
abbrev pub all_parts : ℕ
all_parts = 17

-- two ledgers have so many parts each
abbrev pub AreWhole : ℕ → ℕ → Type 0
AreWhole p q = (p ≡ all_parts) × (q ≡ all_parts)

-- what a share has: its parts of both ledgers, and the rows and the steps that it counts
pub record Share : Type 0 where
  pub parts : ℕ
  pub rows : ℕ
  pub steps : ℕ

-- a share of so many parts, which counts so many rows and steps
abbrev pub share_of : ℕ → ℕ → ℕ → Share
share_of p r n = record { parts = p; rows = r; steps = n }

-- a book has the rows of a service that are out for its total, and another the steps given back
pub record IsBooked (rows steps : ℕ) (s : Service) : Type 0 where
  pub rows_out : rows ≡ out_of s.now.rows
  pub steps_back : steps ≡ steps_of s.now.rows

-- a share with as many parts as before, whose rows and steps changed as those of a service did
pub record Follows (before after : Service) (old new : Share) : Type 0 where
  pub parts : new.parts ≡ old.parts
  pub rows : new.rows + out_of before.now.rows ≡ old.rows + out_of after.now.rows
  pub steps : new.steps + steps_of before.now.rows ≡ old.steps + steps_of after.now.rows

-- a share counts no more than a service has, and as much where it has every part
pub record IsPartOf (s : Service) (x : Share) : Type 0 where
  pub rows : x.rows ≤ out_of s.now.rows
  pub steps : x.steps ≤ steps_of s.now.rows
  pub all_rows : x.parts ≡ all_parts → x.rows ≡ out_of s.now.rows
  pub all_steps : x.parts ≡ all_parts → x.steps ≡ steps_of s.now.rows
