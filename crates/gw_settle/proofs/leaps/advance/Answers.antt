use Rattle.std.proofs.lemmas.Result.{IfOk-weaker}
use Rattle.std.proofs.Common.{rules, ◌≡◌, sym, subst}
use Rattle.gw_settle.specs.Drafts.{rows_held}
use Rattle.gw_settle.specs.Rounds.{AreReached}
use Rattle.gw_settle.proofs.Reached.{reached_sound}
use Rattle.gw_settle.proofs.Leaping.{advances_once}
use Rattle.gw_settle.proofs.leaps.advance.Goals as goal

pub next_round-requires-clause-sound : goal.next_round-requires-clause-sound
next_round-requires-clause-sound c = reached_sound c.args.parts.now (rows_held c.args.draft.now.rows) c.requires.well c.requires.reached

pub returns-then-not-is_due-clause-rows : goal.returns-then-not-is_due-clause-rows
returns-then-not-is_due-clause-rows c =
    IfOk-weaker c.next_round.result _ _
    (λ change h. advances_once c.args.parts.now (rows_held c.args.draft.now.rows) (rows_held c.next_round.new.draft.rows) change
    c.requires.well c.requires.reached h.rows h.is)
    c.next_round.ensures.round

pub leap-change-requires-clause-reached : goal.leap-change-requires-clause-reached
leap-change-requires-clause-reached c =
    let same : rows_held c.in_ok-near.near ≡ rows_held c.args.draft.now.rows = search rules in
    subst (AreReached c.args.parts.now) (sym same) c.requires.reached
