-- The numbers that digits spell.
use Rattle.std.specs.Prelude.{ℕ, ◌+◌, ◌-◌, ◌*◌, List, [], ◌∷◌}

-- the number that these digits spell behind those of another number
abbrev pub spelled_number : ℕ → List ℕ → ℕ
spelled_number before [] = before
spelled_number before (digit ∷ digits) = spelled_number (before * 10 + (digit - 48)) digits
