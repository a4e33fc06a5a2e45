use Rattle.std.proofs.Common.{◌≡◌, ℕ, length, Some, arith, subst, ap, ◌∙◌}
use Rattle.byteorder.specs.Endian.{big_number}
use Rattle.gw_batch.specs.Batch.{sized_front}
use Rattle.gpssw.specs.Framing.{GivesEntry}
use Rattle.gpssw.proofs.Entries.{sized_entry, lost_both}
use Rattle.gpssw.proofs.framing.read_entry.Goals as goal

pub returns-in_err-entry-clause-limited : goal.returns-in_err-entry-clause-limited
returns-in_err-entry-clause-limited g c = lost_both 4 1048576 _ _ _ c.read_front.ensures.limited c.in_err-entry.ensures.limited

pub returns-clause-limited : goal.returns-clause-limited
returns-clause-limited g c = lost_both 4 1048576 _ _ _ c.read_front.ensures.limited c.in_ok-entry.ensures.limited

pub returns-clause-entry : goal.returns-clause-entry
returns-clause-entry g c =
    let four : length c.in_ok-size.size.items ≡ 4 = omega (arith, c.in_ok-size.ensures.within, c.if-len-lt-LENGTH_BYTES.false, c.len.ensures) in
    let number : c.read_u32-size.result ≡ big_number 4 c.in_ok-size.size.items = c.read_u32-size.ensures ∙ ap (big_number 4) c.deref.ensures.value in
    let given = subst (λ (n : ℕ). GivesEntry (λ bs. Some (sized_front n bs)) (Some c.in_ok-entry.entry) c.read_front.new.reader.left
    c.read_object.new.reader.left) number c.in_ok-entry.ensures.entry in
    sized_entry _ _ _ c.in_ok-size.size.items c.in_ok-entry.entry four c.in_ok-size.ensures.taken given
