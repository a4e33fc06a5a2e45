-- Amounts of millionths as decimals.
use Rattle.std.specs.Prelude.{ℕ, ◌-◌, ◌/◌, ◌%◌, ◌^◌, ◌==◌, List, [], ◌++◌, ℤ, pos, unsigned_abs, int_lt, Option, None, Some, if◌then◌else◌}
use Rattle.std.specs.Fmt.{decimal}
use Rattle.gw_writing.specs.Decimals.{behind_point, sign_of}

-- how many digits behind the point tell a number of millionths below 1 exactly: the fewest that do, from one on
abbrev pub places_for : ℕ → ℕ
places_for m =
    if m % 100000 == 0 then 1
    else if m % 10000 == 0 then 2
    else if m % 1000 == 0 then 3
    else if m % 100 == 0 then 4
    else if m % 10 == 0 then 5
    else 6

-- the point and the digits behind it, of millionths below 1; nothing where there are none
unfoldable pub fraction : ℕ → List ℕ
fraction m = if m == 0 then [] else behind_point (places_for m) (m / 10 ^ (6 - places_for m))

-- a size of millionths, exactly: no zero ends what stands behind the point, and there is no point where nothing does
abbrev pub size_text : ℕ → List ℕ
size_text n = decimal (n / 1000000) ++ fraction (n % 1000000)

-- an amount, with its sign
unfoldable pub amount : ℤ → List ℕ
amount z = sign_of (int_lt z (pos 0)) ++ size_text (unsigned_abs z)

-- its field: empty where there is none
abbrev pub amount_field : Option ℤ → List ℕ
amount_field None = []
amount_field (Some z) = amount z
