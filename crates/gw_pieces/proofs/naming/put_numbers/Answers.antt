use Rattle.std.proofs.Common.{length, refl}
use Rattle.std.proofs.lemmas.Option.{slice_get_read}
use Rattle.gw_names.specs.Known.{found_in}
use Rattle.gw_pieces.specs.Naming.{equ_of_number}
use Rattle.gw_pieces.proofs.Meanings.{entries_step}
use Rattle.gw_pieces.proofs.naming.put_numbers.Goals as goal

pub loop-i-preserved : goal.loop-i-preserved
loop-i-preserved c = λ name.
    let ss = c.args.statements.now in
    let i = c.loop-i.i in
    let s = c.index-statements-i.result in
    let at = slice_get_read ss (length ss) i s refl c.loop-i-test.true c.index-statements-i.is in
    entries_step (equ_of_number (found_in c.args.known.now.equ_numbers)) ss i s name (found_in c.loop-i.equs name)
    (found_in c.put_number.new.equs name) _ at (c.in_ok-put_number.ensures name) (c.loop-i.invariant name)
