use Rattle.gw_pieces.proofs.Made.{names_are}
use Rattle.gw_pieces.proofs.planning.plan_by.Goals as goal

pub invariant_of-result : goal.invariant_of-result
invariant_of-result c =
    let known = c.requires.known in
    record {
      planned = record {
        numbers = names_are _ _ c.args.known c.args.ordered.meanings c.args.none known c.requires.order c.requires.meanings;
        keys = known.uses.sighted;
        declared = known.uses.declared;
      };
    }
