use Rattle.std.proofs.Common.{◌≡◌, ◌∙◌, ◌-◌, Some, true, length, get_or, set, ap, subst, arith}
use Rattle.std.specs.VecDeque.{deque_len}
use Rattle.gw_chains.specs.Newcomers.{host, IsPlaceOf}
use Rattle.gw_chains.proofs.Places.{all_pass}
use Rattle.gw_chains.proofs.Newcoming.{host-tested, newcomer-hosted}
use Rattle.gw_chains.proofs.chunks.join_behind.Goals as goal
use Rattle.gw_chains.proofs.chunks.join_behind.Goals.{After-replace_back}

-- all go ahead of the newcomer
all : (g : _) (c : After-replace_back g) → IsPlaceOf g.T.Placed.goes_first c.args.newcomer c.args.chunk.now.items (length c.args.chunk.now.items)
all g c =
    let xs = c.args.chunk.now.items in
    let last = subst (λ n. c.in-Some.host ≡ get_or xs (n - 1) c.in-Some.host) c.args.chunk.now.ok.0 c.in-Some.ensures.last.1 in
    all_pass (λ y. g.T.Placed.goes_first y c.args.newcomer) xs c.in-Some.host
    (omega (arith, c.in-Some.ensures.last.0, c.args.chunk.now.ok.0)) last c.in-Some.ensures.like.0 c.requires.order

-- and the last of them takes it in
hosts : (g : _) (c : After-replace_back g) → Some c.in-Some.host ≡ host g.T.Placed.goes_first c.args.newcomer c.args.chunk.now.items
hosts g c =
    let xs = c.args.chunk.now.items in
    let last = subst (λ n. c.in-Some.host ≡ get_or xs (n - 1) c.in-Some.host) c.args.chunk.now.ok.0 c.in-Some.ensures.last.1 in
    host-tested g.T.Placed.goes_first c.args.newcomer xs (length xs) c.in-Some.host true
    (omega (arith, c.in-Some.ensures.last.0, c.args.chunk.now.ok.0)) (omega arith) (all g c) c.requires.last last c.in-Some.ensures.like.1

pub returns-in-Some-clause-host : goal.returns-in-Some-clause-host
returns-in-Some-clause-host g c = hosts g c

pub returns-in-Some-clause-items : goal.returns-in-Some-clause-items
returns-in-Some-clause-items g c =
    let xs = c.args.chunk.now.items in
    let taken = newcomer-hosted g.T.Placed.goes_first c.args.newcomer g.T.Placed.with_guest xs (length xs) c.in-Some.host
    (omega (arith, c.in-Some.ensures.last.0, c.args.chunk.now.ok.0)) (omega arith) (all g c) c.requires.last (hosts g c) in
    c.replace_back.ensures.items
    ∙ ap (λ y. set xs (deque_len c.args.chunk.now - 1) y) c.take_in.ensures
    ∙ ap (λ n. set xs (n - 1) (g.T.Placed.with_guest c.in-Some.host c.args.newcomer)) c.args.chunk.now.ok.0
    ∙ taken
