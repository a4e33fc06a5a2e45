use Rattle.std.proofs.Common.{sym, subst}
use Rattle.gw_settle.specs.declared.draft.Draft.{Draft}
use Rattle.gw_settle.specs.Drafts.{rows_held, AreRounds}
use Rattle.gw_settle.specs.Jumps.{HasJumped}
use Rattle.gw_settle.proofs.Leaping.{jumps_none}
use Rattle.gw_settle.proofs.leaps.jump.Goals as goal

pub jump_over-requires-clause-rounds : goal.jump_over-requires-clause-rounds
jump_over-requires-clause-rounds c = subst (AreRounds c.args.parts.now c.args.near.now c.args.next.now) (sym c.loop-times.invariant) c.requires.rounds

pub returns-clause-rows : goal.returns-clause-rows
returns-clause-rows c =
    subst (λ (d : Draft). HasJumped c.args.parts.now (rows_held c.args.next.now) (rows_held c.args.draft.now.rows) (rows_held d.rows))
    (sym c.loop-times.invariant)
    (jumps_none c.args.parts.now (rows_held c.args.next.now) (rows_held c.args.draft.now.rows) c.requires.rounds.second)
