use Rattle.std.proofs.Common.{length, ap, arith}
use Rattle.std.specs.Prelude.{option_to_list}
use Rattle.slab.specs.Slab.{get}
use Rattle.gw_chains.proofs.Leaving.{first_one}
use Rattle.gw_chains.proofs.row.remove_member.Goals as goal

pub returns-then-place-eq0-clause-total : goal.returns-then-place-eq0-clause-total
returns-then-place-eq0-clause-total g c =
    let one = first_one g.T.Ranked.rank (get c.args.links.now) c.args.row.now.items c.requires.buckets (omega (arith, c.requires.there)) in
    omega (arith, c.pop_member.ensures.total, ap (λ o. length (option_to_list o)) c.pop_member.ensures.first.0, one)
