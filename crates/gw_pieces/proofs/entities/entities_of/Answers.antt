use Rattle.std.proofs.Common.{length, refl, arith}
use Rattle.std.proofs.lemmas.Option.{slice_get_read}
use Rattle.gw_names.specs.Numbers.{numbers_of}
use Rattle.gw_pieces.proofs.Noting.{further_missing}
use Rattle.gw_pieces.proofs.Reasoning.{at_sight}
use Rattle.gw_pieces.proofs.Sighting.{one_more_sighted, all_sighted}
use Rattle.gw_pieces.proofs.entities.entities_of.Goals as goal

pub loop-number-preserved : goal.loop-number-preserved
loop-number-preserved c =
    let h = c.loop-number.invariant in
    let grown = c.in-Ok.ensures.grown in
    let sighted = c.args.plan.now.sighted.items in
    let i = c.loop-number.number in
    let s = c.index.result.now in
    let at = slice_get_read sighted (length sighted) i s refl (omega (arith, c.loop-number-test.true, c.len-number-end.ensures)) c.index.ensures in
    record {
      savevalues = h.savevalues;
      switches = h.switches;
      clear = λ none. h.clear (grown none).0;
      entities = λ none. one_more_sighted (numbers_of c.args.plan.now.names) c.args.plan.now.order.items
          c.args.plan.now.text.now.statements.items sighted i s at c.loop-number.entities.items c.put_entity.new.entities.items
          (grown none).1 (h.entities (grown none).0);
      notes = further_missing _ _ _ h.notes
          (at_sight (numbers_of c.args.plan.now.names) c.args.plan.now.order.items c.args.plan.now.text.now.statements.items sighted i s at
          _ _ c.in-Ok.ensures.notes);
    }

pub returns-clause-sighted : goal.returns-clause-sighted
returns-clause-sighted c none =
    let h = c.loop-number.invariant in (
      h.clear none,
      all_sighted (numbers_of c.args.plan.now.names) c.args.plan.now.order.items c.args.plan.now.text.now.statements.items
          c.args.plan.now.sighted.items c.loop-number.number (omega (arith, c.loop-number-test.false, c.len-number-end.ensures))
          c.loop-number.entities.items (h.entities none),
    )
