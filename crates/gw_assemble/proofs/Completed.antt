-- What is made of statements is made of them once it has a state table, weights and slopes.
use Rattle.std.proofs.Common.{ℕ, List, Option, Result, Ok, Err, IfOk, inl, inr, refl, sym, subst}
use Rattle.gw_object.specs.declared.parts.Parts.{Parts}
use Rattle.gw_object.specs.declared.parts.ReturnRow.{ReturnRow}
use Rattle.gw_object.specs.declared.parts.TableState.{TableState}
use Rattle.gw_settle.specs.Settles.{with_table}
use Rattle.gw_text.specs.declared.model.Statement.{Statement}
use Rattle.gw_pieces.specs.Pieces.{IsDraft, IsMadeOf, AllCompute}
use Rattle.gw_pieces.proofs.Computing.{all_compute}
use Rattle.gw_weighing.specs.Certificates.{DifferInWeights}
use Rattle.gw_slopes.specs.Found.{AreAlike, IsEnded, IsWeighed}
use Rattle.gw_assemble.specs.Completion.{IsSettlement, IsCompletion}
use Rattle.gw_assemble.specs.Assembly.{in_least_version, HasLeastVersion, Assembles}
use Rattle.gw_assemble.proofs.Failing.{weights_alike, slopes_alike}
use Rattle.gw_assemble.proofs.Values.{all_same}
use Rattle.gw_assemble.proofs.Versions.{least_without, least_weighed}

-- what is so of every answer, from a fact
pub on_ok : {A E : Type 0} {P R : A → Type 0} (r : Result A E) → ((x : A) → P x → R x) → IfOk r P → IfOk r R
on_ok (Ok x) f h = f x h
on_ok (Err e) f h = tt

-- what is weighed is alike
ended_alike : (p base q : Parts) → DifferInWeights p base → IsEnded base q → AreAlike p q
ended_alike p base q rest (inl (elsewhere, same)) = subst (AreAlike p) (sym same) (weights_alike p base rest)
ended_alike p base q rest (inr (edge, inl (same, none))) = subst (AreAlike p) (sym same) (weights_alike p base rest)
ended_alike p base q rest (inr (edge, inr (has, least))) = slopes_alike p base q rest has.rest

weighed_alike : (p q : Parts) → IsWeighed p q → AreAlike p q
weighed_alike p q w = ended_alike p w.base q w.rest w.ended

module _ (ss : List Statement) where
  -- what statements become is the same with another state table
  tabled : (before : Parts) (returns : List ReturnRow) (states chain_states : List (Option TableState)) → IsMadeOf ss before
      → IsMadeOf ss (with_table before returns states chain_states)
  tabled before returns states chain_states made = record {
    named = made.named;
    numbers = made.numbers;
    order = made.order;
    pieces = record {
      names = made.pieces.names;
      sources = made.pieces.sources;
      entities = made.pieces.entities;
      code = made.pieces.code;
      version = made.pieces.version;
      count = made.pieces.count;
      seeds = made.pieces.seeds;
    };
  }

  settled_made : (before settled : Parts) → IsMadeOf ss before → IsSettlement before settled → IsMadeOf ss settled
  settled_made before settled made settlement =
      subst (IsMadeOf ss) (sym settlement.passes.same) (tabled before settled.returns settled.states settled.chain_states made)

  -- but for its version an object is made of statements, and it computes what they do
  abbrev IsMade : Parts → Type 0
  IsMade p = (made : IsMadeOf ss (in_least_version p)) × AllCompute made.numbers made.order ss p

  -- with another version, and other weights and slopes
  others : (settled : Parts) (version : ℕ) (weights : List ℕ) (slopes : List (Option (ℕ × ℕ))) (chains : List ℕ)
      (made : IsMadeOf ss settled) → AllCompute made.numbers made.order ss settled
      → IsMade (record settled { version = version; weights = weights; slopes = slopes; chain_weights = chains })
  others settled version weights slopes chains made computes = (
    record {
      named = made.named;
      numbers = made.numbers;
      order = made.order;
      pieces = record {
        names = made.pieces.names;
        sources = made.pieces.sources;
        entities = made.pieces.entities;
        code = made.pieces.code;
        version = refl;
        count = made.pieces.count;
        seeds = made.pieces.seeds;
      };
    },
    all_same settled version weights slopes chains made.numbers made.order ss computes,
  )

  module _ (before p : Parts) (made : IsMadeOf ss before) (completion : IsCompletion before p) where
    is_made : IsMade p
    is_made =
        let settled = completion.settled in
        let s = completion.settlement in
        let still = settled_made before settled made s in
        let computes = all_compute still.numbers still.order ss settled s.spelled s.passes.kinds s.code still.pieces in
        subst IsMade (weighed_alike settled p completion.weights) (others settled p.version p.weights p.slopes p.chain_weights still computes)

    least_version : IsDraft before → HasLeastVersion p
    least_version draft =
        let first = least_without before _ draft.slopes made.pieces.version in
        least_weighed completion.settled p (subst HasLeastVersion (sym completion.settlement.passes.same) first) completion.weights

    pub assembles : IsDraft before → Assembles ss p
    assembles draft = record {
      made = is_made.0;
      version = least_version draft;
      computes = is_made.1;
      before = before;
      made_before = made;
      draft = draft;
      completion = completion;
    }
