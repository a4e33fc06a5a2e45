use Rattle.std.proofs.Common.{◌≡◌, drop}
use Rattle.std.specs.List.{list_any}
use Rattle.gw_rounds.specs.Rounds.{is_exit_to}
use Rattle.gw_rounds.proofs.rounds.has_exit_to.Given as goal

-- of the exits that are left one leads there where one of all does
abbrev pub invariant-loop-exit : goal.invariant-loop-exit
invariant-loop-exit l = list_any (is_exit_to l.number l.next) l.exits ≡ list_any (is_exit_to l.number l.next) (drop l.exit-index l.exits)
