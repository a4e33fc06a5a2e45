use Rattle.std.proofs.lemmas.Option.{slice_get-get_or}
use Rattle.gw_names.specs.Known.{found_in}
use Rattle.gw_pieces.specs.Naming.{callee_of_origin, equ_of_origin}
use Rattle.gw_pieces.proofs.Meanings.{entries_step}
use Rattle.gw_pieces.proofs.naming.put_meanings.Goals as goal

pub loop-i-preserved : goal.loop-i-preserved
loop-i-preserved c =
    let ss = c.args.text.now.statements.items in
    let order = c.args.order.now in
    let i = c.loop-i.i in
    let at = slice_get-get_or order i (record { statement = 0; operand = 0 }) c.loop-i-test.true in
    let before = c.loop-i.meanings in
    let after = c.put_meaning_of.new.meanings in
    record {
      procedures = λ name. entries_step (callee_of_origin ss) order i _ name (found_in before.procedures name)
          (found_in after.procedures name) _ at (c.in_ok-put_meaning_of.ensures.procedures name) (c.loop-i.invariant.procedures name);
      equs = λ name. entries_step (equ_of_origin ss) order i _ name (found_in before.equs name) (found_in after.equs name) _ at
          (c.in_ok-put_meaning_of.ensures.equs name) (c.loop-i.invariant.equs name);
    }
