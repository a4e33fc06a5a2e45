use Rattle.slab.specs.Slab.{get}
use Rattle.gw_chains.specs.Chunks.{all_of}
use Rattle.gw_chains.proofs.Leaving.{first_leads, left}
use Rattle.gw_chains.proofs.buckets.pop_from.Goals as goal

pub remove-link-requires : goal.remove-link-requires
remove-link-requires g c =
    first_leads g.T.Ranked.rank (get c.args.links.now) (all_of c.args.chunks.now.items) c.args.bucket c.requires.bucket c.requires.buckets

-- the first has left
pub returns-clause-first : goal.returns-clause-first
returns-clause-first g c =
    rw c.shorten.ensures.items
    (left g.T.Ranked.rank (get c.args.links.now) (get c.remove-link.new.self) c.remove-link.result (all_of c.args.chunks.now.items)
    c.args.bucket c.requires.bucket c.remove-link.ensures.value c.remove-link.ensures.updates.changed
    c.remove-link.ensures.updates.others c.requires.buckets)
