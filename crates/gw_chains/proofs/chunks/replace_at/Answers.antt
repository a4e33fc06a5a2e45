use Rattle.std.proofs.Common.{◌<◌, ◌+◌, ◌∙◌, length, ap, set, arith, refl, slice_index_or}
use Rattle.std.proofs.lemmas.List.{get_or_default}
use Rattle.gw_chains.proofs.Chunking.{one_changed}
use Rattle.gw_chains.proofs.chunks.replace_at.Goals as goal

pub returns-clause-items : goal.returns-clause-items
returns-clause-items g c d =
    let cs = c.args.chunks.now.items in
    let within : c.args.at.chunk < length cs = omega (arith, c.args.chunks.now.ok.0, c.requires.within) in
    let chunk = c.index_mut.ensures.value ∙ get_or_default cs c.args.at.chunk c.index_mut.result.now d within in
    one_changed cs c.args.at.chunk (c.args.at.chunk + 1) c.replace.new.chunk
    (set (slice_index_or cs c.args.at.chunk d).items c.args.at.place c.args.other) refl within
    (c.replace.ensures.items ∙ ap (λ q. set q.items c.args.at.place c.args.other) chunk)
