use Rattle.std.proofs.Common.{sym, ◌∙◌}
use Rattle.slab.specs.Slab.{get}
use Rattle.gw_chains.proofs.Leaving.{first_leads, left}
use Rattle.gw_chains.proofs.row.pop_member.Goals as goal

pub remove-link-requires : goal.remove-link-requires
remove-link-requires g c =
    first_leads g.T.Ranked.rank (get c.args.links.now) c.args.row.now.items c.in_ok-bucket.bucket (sym c.in_ok-bucket.was ∙ c.front.ensures) c.requires

-- the first has left
pub returns-clause-first : goal.returns-clause-first
returns-clause-first g c =
    rw c.shorten.ensures.items
    (left g.T.Ranked.rank (get c.args.links.now) (get c.remove-link.new.self) c.remove-link.result c.args.row.now.items
    c.in_ok-bucket.bucket (sym c.in_ok-bucket.was ∙ c.front.ensures) c.remove-link.ensures.value c.remove-link.ensures.updates.changed
    c.remove-link.ensures.updates.others c.requires)
