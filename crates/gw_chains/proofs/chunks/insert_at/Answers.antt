use Rattle.std.proofs.Common.{◌<◌, ◌+◌, ◌∙◌, ◌++◌, length, ap, subst, sym, arith, refl, slice_index_or, append-nil}
use Rattle.std.specs.Prelude.{IfSome}
use Rattle.std.proofs.lemmas.List.{length-set, get_or_default}
use Rattle.std.proofs.lemmas.List.Elements.{All-set}
use Rattle.gw_chains.specs.Newcomers.{with_newcomer}
use Rattle.gw_chains.specs.Chunks.{IsChunk, all_of, items_of}
use Rattle.gw_chains.proofs.Chunking.{All-inserted, one_changed, two_made}
use Rattle.gw_chains.proofs.chunks.insert_at.Goals as goal

pub returns-in-Some-clause-items : goal.returns-in-Some-clause-items
returns-in-Some-clause-items g c d =
    let cs = c.args.chunks.now.items in
    let within : c.args.place < length cs = omega (arith, c.args.chunks.now.ok.0, c.requires.within) in
    let chunk = c.index_mut.ensures.value ∙ get_or_default cs c.args.place c.index_mut.result.now d within in
    let two = ap (λ o. c.join_and_split-host.new.chunk.items ++ items_of o) (sym c.in-Some.is) in
    ap all_of c.insert_reserved.ensures.items
    ∙ two_made cs c.args.place (c.args.place + 1) c.join_and_split-host.new.chunk c.in-Some.upper
    (with_newcomer g.T.Placed.goes_first g.T.Placed.with_guest c.args.newcomer (slice_index_or cs c.args.place d).items) refl within
    (two ∙ c.join_and_split-host.ensures.items ∙ ap (λ q. with_newcomer g.T.Placed.goes_first g.T.Placed.with_guest c.args.newcomer q.items) chunk)

pub returns-in-Some-clause-chunks : goal.returns-in-Some-clause-chunks
returns-in-Some-clause-chunks g c =
    let cs = c.args.chunks.now.items in
    rw c.insert_reserved.ensures.items
    (All-inserted IsChunk _ (c.args.place + 1) c.in-Some.upper
    (omega (arith, length-set cs c.args.place c.join_and_split-host.new.chunk, c.args.chunks.now.ok.0, c.requires.within))
    (subst (λ o. IfSome o IsChunk) c.in-Some.is c.join_and_split-host.ensures.upper)
    (All-set IsChunk cs c.args.place c.join_and_split-host.new.chunk c.join_and_split-host.ensures.chunk c.requires.chunks))

pub returns-in-None-clause-items : goal.returns-in-None-clause-items
returns-in-None-clause-items g c d =
    let cs = c.args.chunks.now.items in
    let within : c.args.place < length cs = omega (arith, c.args.chunks.now.ok.0, c.requires.within) in
    let chunk = c.index_mut.ensures.value ∙ get_or_default cs c.args.place c.index_mut.result.now d within in
    let none = sym (append-nil c.join_and_split-host.new.chunk.items) ∙ ap (λ o. c.join_and_split-host.new.chunk.items ++ items_of o) (sym c.in-None.is) in
    one_changed cs c.args.place (c.args.place + 1) c.join_and_split-host.new.chunk
    (with_newcomer g.T.Placed.goes_first g.T.Placed.with_guest c.args.newcomer (slice_index_or cs c.args.place d).items) refl within
    (none ∙ c.join_and_split-host.ensures.items ∙ ap (λ q. with_newcomer g.T.Placed.goes_first g.T.Placed.with_guest c.args.newcomer q.items) chunk)
