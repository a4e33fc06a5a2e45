use Rattle.std.proofs.Common.{◌≡◌, map, drop}
use Rattle.gw_name_uses.specs.Sites.{mention_at}
use Rattle.gw_names.specs.Ledger.{with_notes}
use Rattle.gw_names.specs.Judgement.{refusals_among, declared_by}
use Rattle.gw_names.proofs.judgement.judge.Given as goal

-- the uses that are left are still to be judged
abbrev pub invariant-loop-i : goal.invariant-loop-i
invariant-loop-i l = with_notes l.fn.ledger.least (refusals_among (declared_by l.known) l.statements (map mention_at l.sites))
    ≡ with_notes l.ledger.least (refusals_among (declared_by l.known) l.statements (map mention_at (drop l.i l.sites)))
