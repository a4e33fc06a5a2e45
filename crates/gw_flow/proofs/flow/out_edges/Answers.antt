use Rattle.std.proofs.Common.{◌≡◌, ◌-◌, ℕ, zero, suc, List, [], ◌∷◌, Some, get_or, sym, ap, subst, ◌∙◌, arith}
use Rattle.std.specs.Prelude.{slice_get}
use Rattle.gw_object.specs.declared.blocks.Block.{Block}
use Rattle.gw_object.specs.declared.parts.Parts.{Parts}
use Rattle.gw_rules.specs.Kinds.{block_at}
use Rattle.gw_flow.specs.Answered.{AnswersEdges, KeepOwn}
use Rattle.gw_flow.proofs.flow.out_edges.Goals as goal

at_place : (bs : List Block) (i : ℕ) (k d : Block) → slice_get bs i ≡ Some k → get_or bs i d ≡ k
at_place [] i k d is = absurd cc
at_place (x ∷ bs) zero k d is = cc
at_place (x ∷ bs) (suc i) k d is = at_place bs i k d is

-- the block of a number is the one at the place before it
at_number : (bs : List Block) (b : ℕ) (k d : Block) → block_at bs b ≡ Some k → get_or bs (b - 1) d ≡ k
at_number bs zero k d is = absurd cc
at_number bs (suc i) k d is = let back : suc i - 1 ≡ i = omega arith in subst (λ j. get_or bs j d ≡ k) (sym back) (at_place bs i k d is)

-- what the block of a number is that is read of an object's parts
the_block : (o p : Parts) (xs : List Block) (b : ℕ) (k d : Block) → p ≡ o → xs ≡ p.blocks → block_at o.blocks b ≡ Some k → get_or xs (b - 1) d ≡ k
the_block o p xs b k d same blocks is = ap (λ bs. get_or bs (b - 1) d) (blocks ∙ ap (λ (q : Parts). q.blocks) same) ∙ at_number o.blocks b k d is

pub returns-clause-edges : goal.returns-clause-edges
returns-clause-edges c = λ k is.
    let p = c.parts-parts.result.now in
    let b = c.args.block in
    let there = the_block c.args.object.now p c.as_slice.result.now b k _ c.parts-parts.ensures.value c.as_slice.ensures is in
    subst (λ (o : Parts). AnswersEdges o b c.args.state.now c.edges_or_fault.result k) c.parts-parts.ensures.value
    (subst (λ (block : Block). AnswersEdges p b c.args.state.now c.edges_or_fault.result block) there c.edges_or_fault.ensures.edges)

pub returns-clause-own : goal.returns-clause-own
returns-clause-own c = λ k is.
    let there = the_block c.args.object.now c.parts-parts.result.now c.as_slice.result.now c.args.block k _ c.parts-parts.ensures.value c.as_slice.ensures is in
    subst (λ (block : Block). KeepOwn c.args.block c.args.state.now c.edges_or_fault.result block) there c.edges_or_fault.ensures.own
