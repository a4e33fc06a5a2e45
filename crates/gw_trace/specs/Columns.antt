-- The columns of a trace.
use Rattle.std.specs.Prelude.{ℕ, List, codes, ◌==◌, if◌then◌else◌}
use Rattle.std.specs.Fmt.{decimal}

-- a number from 1, or a dash for 0, which stands for none
abbrev pub number_or_dash : ℕ → List ℕ
number_or_dash number = if number == 0 then codes "-" else decimal number
