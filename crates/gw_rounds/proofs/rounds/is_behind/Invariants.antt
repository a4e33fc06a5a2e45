use Rattle.std.proofs.Common.{◌≡◌, drop}
use Rattle.std.specs.List.{list_any}
use Rattle.gw_rounds.specs.Rounds as model
use Rattle.gw_rounds.proofs.rounds.is_behind.Given as goal

-- the block stands behind one of the callers that are left where it does behind one of all
abbrev pub invariant-loop-caller : goal.invariant-loop-caller
invariant-loop-caller l = list_any (λ caller. model.is_behind caller l.next) l.callers
    ≡ list_any (λ caller. model.is_behind caller l.next) (drop l.caller-index l.callers)
