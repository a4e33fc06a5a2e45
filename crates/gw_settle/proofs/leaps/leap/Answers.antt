use Rattle.std.proofs.Common.{rules, ◌≡◌, sym, ap, subst, ◌∙◌}
use Rattle.gw_settle.specs.declared.table.Change.TheVariants.{Less}
use Rattle.gw_settle.specs.Drafts.{rows_held}
use Rattle.gw_settle.specs.Rounds.{AreReached, change_in, round}
use Rattle.gw_settle.proofs.Reached.{reached_sound}
use Rattle.gw_settle.proofs.Leaping.{advances_once}
use Rattle.gw_settle.proofs.leaps.leap.Goals as goal

pub next_round-requires-clause-sound : goal.next_round-requires-clause-sound
next_round-requires-clause-sound c =
    reached_sound c.args.parts.now (rows_held c.args.draft.now.rows) c.requires.well
    (subst (AreReached c.args.parts.now) c.requires.near c.requires.reached)

pub returns-then-ne-clause-rows : goal.returns-then-ne-clause-rows
returns-then-ne-clause-rows c =
    let p = c.args.parts.now in
    advances_once p (rows_held c.args.near.now) (rows_held c.next_round.new.draft.rows) c.in_ok-first.first
    c.requires.well c.requires.reached (c.in_ok-first.ensures.round.rows ∙ ap (round p) (sym c.requires.near))
    (c.in_ok-first.ensures.round.is ∙ ap (change_in p) (sym c.requires.near))

pub leap_on-change-requires-clause-less : goal.leap_on-change-requires-clause-less
leap_on-change-requires-clause-less c =
    let first : c.in_ok-first.first ≡ Less = search rules in
    ap (change_in c.args.parts.now) c.requires.near ∙ sym c.in_ok-first.ensures.round.is ∙ first

pub leap_on-change-requires-clause-first : goal.leap_on-change-requires-clause-first
leap_on-change-requires-clause-first c = c.in_ok-first.ensures.round.rows ∙ ap (round c.args.parts.now) (sym c.requires.near)
