use Rattle.std.proofs.Common.{rules, ◌≡◌, ◌∙◌, ◌<◌, ◌++◌, Option, None, Some, IsSome, List, [], ◌∷◌, length, set, get_or, option_to_list, refl, sym, ap, arith}
use Rattle.std.specs.declared.collections.VecDeque.{VecDeque}
use Rattle.gw_members.specs.Chain.{first, rest}
use Rattle.gw_chains.specs.Chunks.{all_of, IsChunk}
use Rattle.gw_chains.proofs.Chunking.{All-popped}
use Rattle.gw_chains.proofs.chunks.pop_first.Goals as goal

module _ {X Z : Type 0} where
  -- what the first chunk loses is the first of all
  popped : (cs : List (VecDeque X Z)) (one v : VecDeque X Z) (r : Option X) → 0 < length cs → one ≡ get_or cs 0 one → IsSome r
      → one.items ≡ option_to_list r ++ v.items → (r ≡ first (all_of cs)) × (all_of (set cs 0 v) ≡ rest (all_of cs))
  popped [] one v r some is there parts = absurd (omega (arith, some))
  popped (c ∷ cs) one v None some is there parts = absurd (cc)
  popped (c ∷ cs) one v (Some x) some is there parts =
      let same : c.items ≡ x ∷ v.items = ap (λ (w : VecDeque X Z). w.items) (sym is) ∙ parts in (rw same refl, rw same refl)

pub returns-in-Some-clause-first : goal.returns-in-Some-clause-first
returns-in-Some-clause-first g c =
    (popped c.args.chunks.now.items c.index_mut.result.now c.pop_front-first.new.self c.pop_front-first.result (search rules) c.index_mut.ensures.value
    (search rules) c.pop_front-first.ensures.items).0

pub returns-in-Some-clause-chunks : goal.returns-in-Some-clause-chunks
returns-in-Some-clause-chunks g c =
    All-popped IsChunk c.args.chunks.now.items c.pop_front-first.new.self c.pop_front.new.self.items c.pop_front.ensures.rest c.requires.chunks

pub returns-else-is_empty-2-clause-first : goal.returns-else-is_empty-2-clause-first
returns-else-is_empty-2-clause-first g c =
    (popped c.args.chunks.now.items c.index_mut.result.now c.pop_front-first.new.self c.pop_front-first.result (search rules) c.index_mut.ensures.value
    (search rules) c.pop_front-first.ensures.items).0

pub returns-else-is_empty-2-clause-rest : goal.returns-else-is_empty-2-clause-rest
returns-else-is_empty-2-clause-rest g c =
    (popped c.args.chunks.now.items c.index_mut.result.now c.pop_front-first.new.self c.pop_front-first.result (search rules) c.index_mut.ensures.value
    (search rules) c.pop_front-first.ensures.items).1
