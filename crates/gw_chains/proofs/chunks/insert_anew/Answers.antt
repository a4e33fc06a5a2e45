use Rattle.std.proofs.Common.{rules, ◌<◌, ◌+◌, ◌∙◌, length, arith, refl}
use Rattle.gw_chains.proofs.Chunking.{Chosen, inserted_in, host_inserted, chunk_parted, chunk_last, host_ahead, newcomer_ahead}
use Rattle.std.specs.VecDeque.{deque_len}
use Rattle.gw_chains.proofs.chunks.insert_anew.Goals as goal

pub insert_at-host-requires-clause-order : goal.insert_at-host-requires-clause-order
insert_at-host-requires-clause-order g c d =
    let cs = c.args.chunks.now.items in
    chunk_parted (λ y. g.T.Placed.goes_first y c.args.newcomer) cs c.place_near-place.result d
    (omega (arith, c.args.chunks.now.ok.0, c.place_near-place.ensures.within)) c.requires.order

pub insert_at-host-requires-clause-last : goal.insert_at-host-requires-clause-last
insert_at-host-requires-clause-last g c d =
    let cs = c.args.chunks.now.items in
    chunk_last g.T.Placed.goes_first c.args.newcomer cs c.place_near-place.result d
    (omega (arith, c.args.chunks.now.ok.0, c.place_near-place.ensures.within)) c.requires.last

-- the chunk in which it belongs
abbrev chosen : (g : _) (c : goal.After-insert_at-host g)
    → Chosen g.T.Placed.goes_first c.args.newcomer c.args.chunks.now.items c.place_near-place.result (c.place_near-place.result + 1)
chosen g c = record {
  next = refl;
  within = omega (arith, c.args.chunks.now.ok.0, c.place_near-place.ensures.within);
  chunks = c.requires.chunks;
  parts = c.requires.order;
  last = c.requires.last;
  behind = c.place_near-place.ensures.behind;
  before = λ d below. c.place_near-place.ensures.before d (omega (arith, c.args.chunks.now.ok.0, below));
}

pub returns-clause-host : goal.returns-clause-host
returns-clause-host g c =
    host_inserted g.T.Placed.goes_first c.args.newcomer c.args.chunks.now.items c.place_near-place.result (c.place_near-place.result + 1)
    c.insert_at-host.result (chosen g c) c.insert_at-host.ensures.host

pub returns-clause-items : goal.returns-clause-items
returns-clause-items g c =
    inserted_in g.T.Placed.goes_first c.args.newcomer g.T.Placed.with_guest c.args.chunks.now.items c.insert_at-host.new.chunks.items
    c.place_near-place.result (c.place_near-place.result + 1) (chosen g c) c.insert_at-host.ensures.items

-- there is a chunk
some : (g : _) (c : goal.After-put_ahead g) → 0 < length c.args.chunks.now.items
some g c = let there : 0 < deque_len c.args.chunks.now = search rules in omega (arith, c.args.chunks.now.ok.0, there)

pub returns-then-goes_ahead-clause-host : goal.returns-then-goes_ahead-clause-host
returns-then-goes_ahead-clause-host g c =
    host_ahead g.T.Placed.goes_first c.args.newcomer c.args.chunks.now.items (some g c) c.requires.chunks (c.if-goes_ahead.ensures.ahead refl)

pub returns-then-goes_ahead-clause-items : goal.returns-then-goes_ahead-clause-items
returns-then-goes_ahead-clause-items g c =
    c.put_ahead.ensures.items
    ∙ newcomer_ahead g.T.Placed.goes_first c.args.newcomer g.T.Placed.with_guest c.args.chunks.now.items (some g c) c.requires.chunks
    (c.if-goes_ahead.ensures.ahead refl)
