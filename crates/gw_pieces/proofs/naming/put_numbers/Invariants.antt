use Rattle.std.proofs.Common.{◌≡◌, ℕ, List, drop}
use Rattle.std.specs.Option.{option_or}
use Rattle.gw_names.specs.Known.{found_in}
use Rattle.gw_names.specs.Places.{last_of}
use Rattle.gw_pieces.specs.Naming.{entries_from, equ_of_number}
use Rattle.gw_pieces.proofs.naming.put_numbers.Given as goal

-- those that are left go before those so far
abbrev pub invariant-loop-i : goal.invariant-loop-i
invariant-loop-i l = (name : List ℕ)
    → option_or (last_of (entries_from (equ_of_number (found_in l.known.equ_numbers)) 0 l.statements) name) (found_in l.fn.equs name)
    ≡ option_or (last_of (entries_from (equ_of_number (found_in l.known.equ_numbers)) l.i (drop l.i l.statements)) name) (found_in l.equs name)
