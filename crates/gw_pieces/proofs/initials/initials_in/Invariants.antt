use Rattle.std.proofs.Common.{◌≡◌, ℕ, List, drop}
use Rattle.std.specs.Option.{option_or}
use Rattle.gw_names.specs.Known.{found_in}
use Rattle.gw_names.specs.Places.{last_of}
use Rattle.gw_pieces.specs.Entities.{initials_in}
use Rattle.gw_pieces.proofs.initials.initials_in.Given as goal

-- what the statements to come don't set is set by those so far
abbrev pub invariant-loop-statement : goal.invariant-loop-statement
invariant-loop-statement l = (name : List ℕ)
    → option_or (last_of (initials_in l.sort (drop l.statement-index l.statements)) name) (found_in l.initials name)
    ≡ last_of (initials_in l.sort l.statements) name
