use Rattle.std.proofs.Common.{rules, ◌≡◌, ◌≢◌, sym, ap, subst, ◌∙◌, arith}
use Rattle.std.proofs.lemmas.Grind.{common_steps}
use Rattle.gw_settle.specs.declared.table.Change.TheVariants.{More}
use Rattle.gw_settle.specs.Drafts.{rows_held}
use Rattle.gw_settle.specs.Jumps.{HasJumped}
use Rattle.gw_settle.specs.Rounds.{round}
use Rattle.gw_settle.proofs.Reached.{reached_sound, reached_next}
use Rattle.gw_settle.proofs.Leaping.{advances_more, advances_less}
use Rattle.gw_settle.proofs.leaps.leap_on.Goals as goal

pub next_round-requires-clause-sound : goal.next_round-requires-clause-sound
next_round-requires-clause-sound c =
    let p = c.args.parts.now in
    let next = rows_held c.args.draft.now.rows in
    reached_sound p next c.requires.well (reached_next p (rows_held c.args.near.now) next c.requires.reached c.requires.first)

pub returns-then-eq-clause-rows : goal.returns-then-eq-clause-rows
returns-then-eq-clause-rows c =
    let more : c.in_ok-second.second ≡ More = search rules in
    advances_more c.args.parts.now (rows_held c.args.near.now) (rows_held c.args.draft.now.rows)
    (rows_held c.next_round.new.draft.rows) c.requires.well c.requires.reached c.requires.first c.requires.less
    c.in_ok-second.ensures.round.rows (sym c.in_ok-second.ensures.round.is ∙ more)

pub jump-requires-clause-rounds : goal.jump-requires-clause-rounds
jump-requires-clause-rounds c = record {
  near = c.requires.reached;
  next = c.requires.next ∙ c.requires.first;
  second = c.in_ok-second.ensures.round.rows ∙ ap (round c.args.parts.now) (sym c.requires.next);
  noted = c.in_ok-second.ensures.noted;
}

pub returns-clause-rows : goal.returns-clause-rows
returns-clause-rows c =
    let p = c.args.parts.now in
    let second = rows_held c.next_round.new.draft.rows in
    let new = rows_held c.jump.new.draft.rows in
    let ne : c.in_ok-second.second ≢ More = first_of (search rules, grind (arith, common_steps)) in
    let jumps : HasJumped p (rows_held c.args.draft.now.rows) second new =
    subst (λ rows. HasJumped p rows second new) c.requires.next c.in_ok-jump.ensures.rows in
    advances_less p (rows_held c.args.near.now) (rows_held c.args.draft.now.rows) second c.requires.well c.requires.reached
    c.requires.first c.requires.less c.in_ok-second.ensures.round.rows
    c.in_ok-second.second new (sym c.in_ok-second.ensures.round.is) ne jumps
