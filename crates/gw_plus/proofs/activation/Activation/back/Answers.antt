use Rattle.std.proofs.Common.{get_or, ap, ◌∙◌, ◌+◌}
use Rattle.gw_plus.specs.Activation.{frame_of}
use Rattle.gw_plus.proofs.Counts.{none, count_read, count_written}
use Rattle.gw_plus.proofs.Steps.{did_back}
use Rattle.gw_plus.proofs.activation.Activation.back.Goals as goal

pub returns : goal.returns
returns c =
    let place = c.args.self.now.place in
    let entry = c.entry_for-entry.result in
    let turns = c.entry_for-entry.new.turns.items in
    let count = (get_or c.deref.result.now entry none).count in
    let is = ap (λ ts. (get_or ts entry none).count) c.deref.ensures.0 ∙ count_read place turns entry _ c.entry_for-entry.ensures.taken in
    λ p i. did_back c.args.back (frame_of c.args.self.now) count _ is c.if-back-count.false
    (count_written place turns c.deref_mut.result.now entry (count + 1) c.deref_mut.ensures.value
    ∙ c.entry_for-entry.ensures.once (count + 1) (ap (λ n. n + 1) is))
