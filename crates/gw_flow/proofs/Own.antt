-- The parameters after a block, in the numbers that were given.
use Rattle.std.proofs.Common.{◌≡◌, ℕ, ◌<◌, List, [], ◌∷◌, ◌++◌, Option, Some, None, option_map, Bool, true, false, if◌then◌else◌, refl, sym, ap, subst, ◌∙◌}
use Rattle.std.specs.Prelude.{All, AllPairs}
use Rattle.std.proofs.lemmas.List.Elements.{All-nil, All-cons, All-append}
use Rattle.gw_object.specs.declared.blocks.Block.{Block}
use Rattle.gw_object.specs.declared.blocks.Block.TheVariants as blocks
use Rattle.gw_object.specs.declared.parts.ReturnRow.{ReturnRow}
use Rattle.gw_rules.specs.declared.ways.Who.{Who}
use Rattle.gw_rules.specs.declared.ways.Who.TheVariants.{Itself, Copies}
use Rattle.gw_rules.specs.declared.ways.Exit.{Exit}
use Rattle.gw_rules.specs.Exits.{leads_to, exits_with}
use Rattle.gw_rules.specs.declared.set_parameters.Parameter.{Parameter}
use Rattle.gw_flow.specs.declared.abstract_state.StateParts.{StateParts}
use Rattle.gw_rules.specs.Blocks.{FlowEdge, number_in, parameter_set, with_setting, after, returns_read, move, is_used, known_of, edge_along, edges_along, edges_from, join, joins}
use Rattle.gw_rules.specs.Entries.{with_entry}
use Rattle.gw_rules.specs.Rows.{ParamKind, Row}
use Rattle.gw_rules.specs.Seen.{kind_seen}
use Rattle.gw_flow.specs.Known.{params_of, known_row}
use Rattle.gw_flow.specs.Answered.{parameters_with}
use Rattle.gw_rules.proofs.Chains.{ChainUse, Links, Unlinks, Neither, chain_use}
use Rattle.gw_rules.proofs.Entries.{entries-in_place}
use Rattle.gw_rules.proofs.Parameters.{after_params}
use Rattle.gw_flow.proofs.Ordered.{in_place_ascends}

-- a parameter that is set names no return row
abbrev NamesNoRow : Option Parameter → Type 0
NamesNoRow None = Unit {0}
NamesNoRow (Some set) = (rows : List ReturnRow) → kind_seen rows set.kind ≡ kind_seen [] set.kind

number_names_none : (q : Option ℕ) → NamesNoRow (option_map number_in q)
number_names_none None = tt
number_names_none (Some q) = λ rows. refl

set_names_none : (b : ℕ) (block : Block) → NamesNoRow (parameter_set b block)
set_names_none b (blocks.Assign a) = λ rows. refl
set_names_none b (blocks.TransferToSubroutine c) = λ rows. refl
set_names_none b (blocks.Mark q) = number_names_none q
set_names_none b (blocks.Plus a) = number_names_none a.parameter
set_names_none b block = tt

own_with : (rows : List ReturnRow) (set : Option Parameter) (s : StateParts) → NamesNoRow set
    → (with_setting set (known_row rows s)).params ≡ params_of rows (parameters_with set s.parameters)
own_with rows None s none = refl
own_with rows (Some set) s none =
    ap (λ kind. with_entry set.number (Some kind) (params_of rows s.parameters)) (sym (none rows))
    ∙ sym (entries-in_place (λ (q : Parameter). q.number) (λ (q : Parameter). kind_seen rows q.kind) set s.parameters)

-- what is known of parameters after a block is what the given ones say, but the one that it sets
pub own_after : (rows : List ReturnRow) (b : ℕ) (block : Block) (s : StateParts) → (after b block (known_row rows s)).params
    ≡ params_of rows (parameters_with (parameter_set b block) s.parameters)
own_after rows b block s = after_params b block (known_row rows s) ∙ own_with rows (parameter_set b block) s (set_names_none b block)

-- who goes along an exit has the parameters of who entered
known_params : (who : Who) (passed : Row) → (known_of who passed).params ≡ passed.params
known_params Itself passed = refl
known_params (Copies copies) passed = refl

module _ (params : List (ℕ × ParamKind)) where
  -- these are the parameters at an edge
  abbrev Has : FlowEdge → Type 0
  Has edge = edge.state.params ≡ params

  at_edge : (used : Bool) (to : ℕ) (state : Row) → state.params ≡ params → All Has (if used then move to state ∷ [] else [])
  at_edge true to state h = All-cons Has (move to state) [] h (All-nil Has)
  at_edge false to state h = All-nil Has

  -- and at each of several
  at_edges : (b : ℕ) (es : List Exit) (passed : Row) → passed.params ≡ params → All Has (edges_along b es passed)
  at_edges b [] passed h = All-nil Has
  at_edges b (e ∷ es) passed h =
      All-append Has (edge_along b passed e) (edges_along b es passed)
      (at_edge (is_used e.who) (leads_to b e.way) (known_of e.who passed) (known_params e.who passed ∙ h))
      (at_edges b es passed h)

  -- and at the edge to a user chain, if there is one
  at_join : (b : ℕ) (block : Block) (state : Row) → ChainUse block → (after b block state).params ≡ params → All Has (joins block state)
  at_join b _ state (Links l) h = All-cons Has (join l.chain state) [] h (All-nil Has)
  at_join b _ state (Unlinks u) h = All-nil Has
  at_join b block state (Neither none members) h = subst (All Has) (sym (none state)) (All-nil Has)

-- and so at each edge of who enters the block
pub own_at_edges : (rows : List ReturnRow) (b : ℕ) (block : Block) (s : StateParts) →
    All (λ (e : FlowEdge). e.state.params ≡ params_of rows (parameters_with (parameter_set b block) s.parameters))
    (edges_from b block (known_row rows s) ++ joins block (known_row rows s))
own_at_edges rows b block s =
    let params = params_of rows (parameters_with (parameter_set b block) s.parameters) in
    let state = known_row rows s in
    All-append (Has params) (edges_from b block state) (joins block state)
    (at_edges params b (exits_with (returns_read block state) block) (after b block state) (own_after rows b block s))
    (at_join params b block state (chain_use block) (own_after rows b block s))

-- parameters ascend once one is set, if one is
pub with_ascends : (set : Option Parameter) (ps : List Parameter) → AllPairs (λ (a b : Parameter). a.number < b.number) ps
    → AllPairs (λ (a b : Parameter). a.number < b.number) (parameters_with set ps)
with_ascends None ps up = up
with_ascends (Some p) ps up = in_place_ascends p ps up
