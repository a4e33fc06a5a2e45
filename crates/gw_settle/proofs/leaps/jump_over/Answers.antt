use Rattle.std.proofs.Common.{rules, ◌≡◌, true, sym, ap, ◌∙◌}
use Rattle.gw_settle.specs.Drafts.{rows_held}
use Rattle.gw_settle.specs.Rounds.{round}
use Rattle.gw_settle.proofs.Leaping.{reached_shape, next_shape, second_shape, far_sound, last_shape, jumps_none}
use Rattle.gw_settle.proofs.Jumping.{has_jumped}
use Rattle.gw_settle.proofs.leaps.jump_over.Goals as goal

pub rows_after-requires-clause-blocks : goal.rows_after-requires-clause-blocks
rows_after-requires-clause-blocks c =
    let near = rows_held c.args.near.now in
    (next_shape c.args.parts.now near (rows_held c.args.next.now) c.requires.well c.requires.rounds.near c.requires.rounds.next).blocks
    ∙ sym (reached_shape c.args.parts.now near c.requires.well c.requires.rounds.near).blocks

pub rows_after-requires-clause-chains : goal.rows_after-requires-clause-chains
rows_after-requires-clause-chains c =
    let near = rows_held c.args.near.now in
    (next_shape c.args.parts.now near (rows_held c.args.next.now) c.requires.well c.requires.rounds.near c.requires.rounds.next).chains
    ∙ sym (reached_shape c.args.parts.now near c.requires.well c.requires.rounds.near).chains

pub draft_of-requires : goal.draft_of-requires
draft_of-requires c = (far_sound c.args.parts.now c.args.times (rows_held c.args.near.now) (rows_held c.args.next.now)
    (rows_held c.in_ok-far.far) c.requires.well c.requires.rounds.near c.in_ok-far.ensures).shape.blocks

pub next_round-requires-clause-sound : goal.next_round-requires-clause-sound
next_round-requires-clause-sound c =
    far_sound c.args.parts.now c.args.times (rows_held c.args.near.now) (rows_held c.args.next.now) (rows_held c.in_ok-last.last.rows)
    c.requires.well c.requires.rounds.near (c.in_ok-last.ensures.rows ∙ c.in_ok-far.ensures)

pub may_jump-requires-clause-near : goal.may_jump-requires-clause-near
may_jump-requires-clause-near c = reached_shape c.args.parts.now (rows_held c.args.near.now) c.requires.well c.requires.rounds.near

pub may_jump-requires-clause-next : goal.may_jump-requires-clause-next
may_jump-requires-clause-next c =
    next_shape c.args.parts.now (rows_held c.args.near.now) (rows_held c.args.next.now) c.requires.well c.requires.rounds.near c.requires.rounds.next

pub may_jump-requires-clause-second : goal.may_jump-requires-clause-second
may_jump-requires-clause-second c =
    second_shape c.args.parts.now (rows_held c.args.near.now) (rows_held c.args.next.now) (rows_held c.args.draft.now.rows) c.requires.well
    c.requires.rounds.near c.requires.rounds.next c.requires.rounds.second

pub may_jump-requires-clause-last : goal.may_jump-requires-clause-last
may_jump-requires-clause-last c =
    last_shape c.args.parts.now c.args.times (rows_held c.args.near.now) (rows_held c.args.next.now) (rows_held c.in_ok-last.last.rows)
    (rows_held c.next_round.new.draft.rows) c.requires.well c.requires.rounds.near
    (c.in_ok-last.ensures.rows ∙ c.in_ok-far.ensures) c.in_ok-next_round.ensures.round.rows

pub returns-then-not-may_jump-clause-rows : goal.returns-then-not-may_jump-clause-rows
returns-then-not-may_jump-clause-rows c = jumps_none c.args.parts.now (rows_held c.args.next.now) (rows_held c.args.draft.now.rows) c.requires.rounds.second

pub returns-clause-rows : goal.returns-clause-rows
returns-clause-rows c =
    let p = c.args.parts.now in
    let yes : c.may_jump.result ≡ true = search rules in
    has_jumped p c.args.times (rows_held c.args.near.now) (rows_held c.args.next.now) (rows_held c.args.draft.now.rows)
    (rows_held c.next_round.new.draft.rows) c.requires.well c.requires.rounds.near c.requires.times c.requires.rounds.next c.requires.rounds.second
    (c.in_ok-next_round.ensures.round.rows ∙ ap (round p) (c.in_ok-last.ensures.rows ∙ c.in_ok-far.ensures)) (c.may_jump.ensures yes)
