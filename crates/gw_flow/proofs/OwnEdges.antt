-- The edges of who enters a block, and the parameters that their states have.
use Rattle.std.proofs.Common.{◌≡◌, ℕ, List, [], ◌∷◌, ◌++◌, ◌+◌, take, Some, refl, sym, ap, subst, ◌∙◌}
use Rattle.std.specs.Prelude.{All}
use Rattle.std.proofs.lemmas.List.{append-nil}
use Rattle.std.proofs.lemmas.List.Elements.{All-nil, All-cons, All-head}
use Rattle.gw_object.specs.declared.blocks.Link.{Link}
use Rattle.gw_object.specs.declared.blocks.Unlink.{Unlink}
use Rattle.gw_object.specs.declared.blocks.Block.{Block}
use Rattle.gw_object.specs.declared.blocks.Block.TheVariants as blocks
use Rattle.gw_object.specs.declared.parts.ReturnRow.{ReturnRow}
use Rattle.gw_rules.specs.declared.set_parameters.Parameter.{Parameter}
use Rattle.gw_flow.specs.declared.edges.Edge.{Edge}
use Rattle.gw_rules.specs.Blocks.{FlowEdge, Table, parameter_set, move, edges_from, joins, members_edges}
use Rattle.gw_rules.specs.Rows.{Row}
use Rattle.gw_flow.specs.Answered.{SayTheSame, parameters_with, own_edges, HaveOwn}
use Rattle.gw_rules.proofs.Chains.{ChainUse, Links, Unlinks, Neither}

-- edges that say nothing are none
none_said : (rows : List ReturnRow) (out : List Edge) → SayTheSame rows out [] → out ≡ []
none_said rows [] h = refl
none_said rows (e ∷ out) h = absurd cc

-- of one edge and more the first is that one
first_of : (P : Edge → Type 0) (rows : List ReturnRow) (e : FlowEdge) (out more : List Edge) → SayTheSame rows out (e ∷ []) → All P out
    → All P (take 1 (out ++ more))
first_of P rows e [] more h all = absurd cc
first_of P rows e (o ∷ out) more h all = All-cons P o [] (All-head P o out all) (All-nil P)

-- where a block sends no members on, all its edges are of who enters
own_all : (state : Row) (block : Block) → ((table : Table) → members_edges table block ≡ []) → (out : List Edge) → own_edges block out ≡ out
own_all state (blocks.Unlink u) none out = let some : members_edges (λ _. Some state) (blocks.Unlink u) ≡ [] = none (λ _. Some state) in absurd cc
own_all state block none out = refl

-- the edges of who enters have the parameters of who enters, whatever those of members have
pub all_have_own : (rows : List ReturnRow) (table : Table) (b : ℕ) (block : Block) (state : Row) (given : List Parameter)
    (out more : List Edge) → ChainUse block → SayTheSame rows out (edges_from b block state ++ joins block state)
    → SayTheSame rows more (members_edges table block) →
    All (λ (e : Edge). e.state.parameters ≡ parameters_with (parameter_set b block) given) out → HaveOwn (out ++ more) b block given
all_have_own rows table b _ state given out more (Links l) h g all =
    let alone : out ++ more ≡ out = ap (λ xs. out ++ xs) (none_said rows more g) ∙ append-nil out in
    subst (All (λ (e : Edge). e.state.parameters ≡ parameters_with (parameter_set b (blocks.Link l)) given)) (sym alone) all
all_have_own rows table b _ state given out more (Unlinks u) h g all =
    first_of (λ (e : Edge). e.state.parameters ≡ parameters_with (parameter_set b (blocks.Unlink u)) given) rows (move (b + 1) state) out more h all
all_have_own rows table b block state given out more (Neither joins_none members_none) h g all =
    let none : more ≡ [] = none_said rows more (subst (SayTheSame rows more) (members_none table) g) in
    let alone : own_edges block (out ++ more) ≡ out = own_all state block members_none (out ++ more) ∙ ap (λ xs. out ++ xs) none ∙ append-nil out in
    subst (All (λ (e : Edge). e.state.parameters ≡ parameters_with (parameter_set b block) given)) (sym alone) all
