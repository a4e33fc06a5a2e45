use Rattle.std.proofs.Common.{rules, ◌≡◌, ◌+◌, sym, subst}
use Rattle.gw_settle.specs.Drafts.{rows_held, IsVisit, Steps}
use Rattle.gw_settle.specs.Keeps.{AreSound}
use Rattle.gw_settle.specs.Rounds.{visited_to, change_to, followed_by}
use Rattle.gw_settle.proofs.Kept.{visited_sound}
use Rattle.gw_settle.proofs.Drafting.{visits_on}
use Rattle.gw_settle.proofs.table.next_round.Goals as goal

pub visit_marked-requires-clause-sound : goal.visit_marked-requires-clause-sound
visit_marked-requires-clause-sound c =
    subst (AreSound c.args.parts.now) (sym c.loop-i.invariant.visited.rows)
    (visited_sound c.args.parts.now c.loop-i.i (rows_held c.args.draft.now.rows) c.requires.well c.requires.sound)

pub loop-i-preserved : goal.loop-i-preserved
loop-i-preserved c =
    let p = c.args.parts.now in
    let i = c.loop-i.i in
    let visit : IsVisit p (i + 1) c.loop-i.draft c.visit_marked.new.draft c.in_ok-next.next = search rules in
    let change : followed_by c.loop-i.change c.in_ok-next.next ≡ c.followed_by-change.result = search rules in
    record {
      visited = subst (Steps (visited_to p (i + 1)) (change_to p (i + 1)) c.args.draft.now c.visit_marked.new.draft) change
          (visits_on p i c.args.draft.now c.loop-i.draft c.visit_marked.new.draft c.loop-i.change c.in_ok-next.next c.loop-i.invariant.visited visit);
      noted = search rules;
    }
