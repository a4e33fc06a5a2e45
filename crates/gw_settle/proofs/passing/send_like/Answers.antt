use Rattle.std.proofs.Common.{rules}
use Rattle.gw_settle.proofs.Drafting.{like_stays, like_marked, like_quiet}
use Rattle.gw_settle.proofs.passing.send_like.Goals as goal

pub returns-then-eq : goal.returns-then-eq
returns-then-eq c = like_stays c.args.parts.now c.args.draft.now c.args.sent c.args.like c.args.place c.requires.place c.requires.blocks
    c.requires.versions c.requires.same c.requires.known (search rules)

pub returns-then-not-sends_the_same : goal.returns-then-not-sends_the_same
returns-then-not-sends_the_same c =
    like_marked c.args.parts.now c.args.draft.now c.args.sent c.args.like c.args.place c.requires.place c.requires.blocks
    c.requires.versions c.requires.same c.requires.known _ (search rules) (search rules) (search rules) (search rules) (search rules) (search rules)

pub returns-else-not-sends_the_same : goal.returns-else-not-sends_the_same
returns-else-not-sends_the_same c =
    like_quiet c.args.parts.now c.args.draft.now c.args.sent c.args.like c.args.place c.requires.place c.requires.blocks
    c.requires.versions c.requires.same c.requires.known _ (search rules) (search rules) (search rules) (search rules) (search rules)
    (search rules) (search rules)
