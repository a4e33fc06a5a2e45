-- What a block sends leads where it may enter, with returns that a TRANSFER to a subroutine keeps.
use Rattle.std.proofs.Common.{◌≡◌, ⊎_elim, ℕ, ◌+◌, List, [], ◌∷◌, ◌++◌, map, option_map, option_to_list, Option, Some, None, Bool, true, false, ◌||◌}
use Rattle.std.proofs.Common.{◌==◌, if◌then◌else◌, refl, sym, ap, subst, ◌∙◌}
use Rattle.std.specs.Prelude.{All, IfSome, ◌<◌}
use Rattle.std.proofs.lemmas.Bool.{eq-eqb, eqb-true, or_cases, false≢true}
use Rattle.std.proofs.lemmas.List.Elements.{All-nil, All-cons, All-head, All-tail, All-append}
use Rattle.gw_object.specs.declared.blocks.Block.{Block}
use Rattle.gw_object.specs.declared.blocks.Link.{Link}
use Rattle.gw_object.specs.declared.blocks.Block.TheVariants as blocks
use Rattle.gw_object.specs.declared.parts.Parts.{Parts}
use Rattle.gw_rules.specs.declared.ways.Way.{Way}
use Rattle.gw_rules.specs.declared.ways.Way.TheVariants.{Falls, Goes}
use Rattle.gw_rules.specs.declared.ways.Who.{Who}
use Rattle.gw_rules.specs.declared.ways.Who.TheVariants.{Itself, Copies}
use Rattle.gw_rules.specs.declared.ways.Exit.{Exit}
use Rattle.gw_rules.specs.Exits.{leads_to, exits, exits_with, returns_to, ways as ways_on, other_way}
use Rattle.gw_rules.specs.Kinds.{block_at, chain_place}
use Rattle.gw_object.specs.Entities.{chains_in}
use Rattle.gw_rules.specs.declared.edges.Target.{Target}
use Rattle.gw_rules.specs.declared.edges.Target.TheVariants as targets
use Rattle.gw_rules.specs.Blocks.{FlowEdge, Table, number_in, parameter_set, with_setting, after, returns_read, move, is_used, known_of, edge_along, edges_along, edges_from, join, members_move, members_edges, chain_edges, edges}
use Rattle.gw_rules.specs.declared.set_parameters.Parameter.{Parameter}
use Rattle.gw_rules.specs.Entries.{lists, entry}
use Rattle.gw_rules.specs.Rows.{Row, ParamKind, Num, Ret, kind_of, return_blocks}
use Rattle.gw_rules.specs.Seen.{kind_seen}
use Rattle.gw_rules.proofs.Entries.{entry-with_entry}
use Rattle.gw_rules.proofs.EachBlock.{All-front, All-back}
use Rattle.gw_rules.proofs.Chains.{ChainUse, Links, Unlinks, Neither, chain_use}
use Rattle.gw_rules.proofs.Parameters.{after_params}
use Rattle.gw_settle.specs.Keeps.{sets_return, may_enter, IsReturned, IsKindGrounded, IsGrounded, MayEnter}

-- a block goes by a return that a parameter holds, or its exits are its own
data ReturnUse : Block → Type 0 where
  Returns : (q : ℕ) → ReturnUse (blocks.TransferByParameter q)
  Leads : {block : Block} → ((bs : List ℕ) → exits_with bs block ≡ exits block) → ReturnUse block

return_use : (block : Block) → ReturnUse block
return_use (blocks.TransferByParameter q) = Returns q
return_use block = Leads (λ bs. refl)

All-unmap : {X Y : Type 0} (P : Y → Type 0) (f : X → Y) (xs : List X) → All P (map f xs) → All (λ x. P (f x)) xs
All-unmap P f [] h = All-nil (λ x. P (f x))
All-unmap P f (x ∷ xs) h = All-cons (λ x. P (f x)) x xs (All-head P (f x) (map f xs) h) (All-unmap P f xs (All-tail P (f x) (map f xs) h))

-- each way on from a block leads to one that may be entered, and each LINK to a user chain
pub record LeadsWell (p : Parts) : Type 0 where
  pub ways : (b : ℕ) (block : Block) → block_at p.blocks b ≡ Some block
      → All (λ (way : Way). may_enter (block_at p.blocks (leads_to b way)) ≡ true) (ways_on block)
  pub links : (b : ℕ) (l : Link) → block_at p.blocks b ≡ Some (blocks.Link l) → chain_place p.entities l.chain < chains_in p.entities

module _ (p : Parts) where
  -- what is sound of an edge
  abbrev pub IsSound : FlowEdge → Type 0
  IsSound edge = IsGrounded p edge.state × MayEnter p edge.target

  abbrev Enters : ℕ → Exit → Type 0
  Enters b exit = may_enter (block_at p.blocks (leads_to b exit.way)) ≡ true

  -- WHAT IS SET

  abbrev IsSetGrounded : Option Parameter → Type 0
  IsSetGrounded None = Unit {0}
  IsSetGrounded (Some set) = IsKindGrounded p set.number (Some (kind_seen [] set.kind))

  set_if : (q : Option ℕ) → IsSetGrounded (option_map number_in q)
  set_if None = tt
  set_if (Some n) = tt

  kept_here : (b q : ℕ) → sets_return (block_at p.blocks b) q ≡ true → IsReturned p q (b ∷ [])
  kept_here b q h = record {
    some = (b, h);
    each = λ c has. ⊎_elim
        (λ (same : (b == c) ≡ true). subst (λ n. sets_return (block_at p.blocks n) q ≡ true) (eqb-true b c same) h)
        (λ (none : lists [] c ≡ true). absurd (false≢true none))
        (or_cases (b == c) (lists [] c) has);
  }

  set_grounded : (b : ℕ) (block : Block) → block_at p.blocks b ≡ Some block → IsSetGrounded (parameter_set b block)
  set_grounded b (blocks.TransferToSubroutine c) is = kept_here b c.parameter (ap (λ k. sets_return k c.parameter) is ∙ eq-eqb c.parameter c.parameter refl)
  set_grounded b (blocks.Mark q) is = set_if q
  set_grounded b (blocks.Plus a) is = set_if a.parameter
  set_grounded b (blocks.Assign a) is = tt
  set_grounded b block is = tt

  kind_if : (same : Bool) (m q : ℕ) (kind held : Option ParamKind) → (same ≡ true → m ≡ q) → IsKindGrounded p m kind
      → IsKindGrounded p q held → IsKindGrounded p q (if same then kind else held)
  kind_if true m q kind held e h g = subst (λ n. IsKindGrounded p n kind) (e refl) h
  kind_if false m q kind held e h g = g

  grounded_with : (set : Option Parameter) (row : Row) → IsSetGrounded set → IsGrounded p row → IsGrounded p (with_setting set row)
  grounded_with None row h g = g
  grounded_with (Some set) row h g = λ q.
      rw (entry-with_entry set.number (Some (kind_seen [] set.kind)) row.params q)
      (kind_if (set.number == q) set.number q (Some (kind_seen [] set.kind)) (kind_of row q) (eqb-true set.number q) h (g q))

  grounded_after : (b : ℕ) (block : Block) (row : Row) → block_at p.blocks b ≡ Some block → IsGrounded p row → IsGrounded p (after b block row)
  grounded_after b block row is g = λ q.
      subst (λ ps. IsKindGrounded p q (entry ps q)) (sym (after_params b block row)) (grounded_with (parameter_set b block) row (set_grounded b block is) g q)

  -- EXITS

  grounded_known : (who : Who) (row : Row) → IsGrounded p row → IsGrounded p (known_of who row)
  grounded_known Itself row g = g
  grounded_known (Copies n) row g = g

  sound_if : (used : Bool) (to : ℕ) (row : Row) → IsGrounded p row → may_enter (block_at p.blocks to) ≡ true
      → All IsSound (if used then move to row ∷ [] else [])
  sound_if true to row g e = All-cons IsSound (move to row) [] (g, e) (All-nil IsSound)
  sound_if false to row g e = All-nil IsSound

  sound_along : (b : ℕ) (es : List Exit) (passed : Row) → IsGrounded p passed → All (Enters b) es → All IsSound (edges_along b es passed)
  sound_along b [] passed g h = All-nil IsSound
  sound_along b (e ∷ es) passed g h =
      All-append IsSound (edge_along b passed e) (edges_along b es passed)
      (sound_if (is_used e.who) (leads_to b e.way) (known_of e.who passed) (grounded_known e.who passed g) (All-head (Enters b) e es h))
      (sound_along b es passed g (All-tail (Enters b) e es h))

  module _ (well : LeadsWell p) where
    ways_of : (b : ℕ) (block : Block) → block_at p.blocks b ≡ Some block
        → All (λ (way : Way). may_enter (block_at p.blocks (leads_to b way)) ≡ true) (ways_on block)
    ways_of b block is = well.ways b block is

    own_exits : (b : ℕ) (block : Block) → block_at p.blocks b ≡ Some block → All (Enters b) (exits block)
    own_exits b block is =
        All-unmap (λ (way : Way). may_enter (block_at p.blocks (leads_to b way)) ≡ true) (λ (exit : Exit). exit.way) (exits block)
        (All-front (λ (way : Way). may_enter (block_at p.blocks (leads_to b way)) ≡ true) (map (λ (exit : Exit). exit.way) (exits block))
        (option_to_list (other_way block)) (ways_of b block is))

    other_enters : (b : ℕ) (block : Block) → block_at p.blocks b ≡ Some block
        → All (λ (way : Way). may_enter (block_at p.blocks (leads_to b way)) ≡ true) (option_to_list (other_way block))
    other_enters b block is =
        All-back (λ (way : Way). may_enter (block_at p.blocks (leads_to b way)) ≡ true) (map (λ (exit : Exit). exit.way) (exits block))
        (option_to_list (other_way block)) (ways_of b block is)

    -- the block after one that calls a subroutine
    after_call : (b q : ℕ) (block : Option Block) → block_at p.blocks b ≡ block → sets_return block q ≡ true → may_enter (block_at p.blocks (b + 1)) ≡ true
    after_call b q (Some (blocks.TransferToSubroutine c)) is h =
        All-head (λ (way : Way). may_enter (block_at p.blocks (leads_to b way)) ≡ true) Falls [] (other_enters b (blocks.TransferToSubroutine c) is)
    after_call b q None is h = absurd (false≢true h)
    after_call b q (Some block) is h = absurd (false≢true h)

    returns_enter : (b q : ℕ) (bs : List ℕ) → ((c : ℕ) → lists bs c ≡ true → sets_return (block_at p.blocks c) q ≡ true) → All (Enters b) (map returns_to bs)
    returns_enter b q [] h = All-nil (Enters b)
    returns_enter b q (c ∷ bs) h =
        All-cons (Enters b) (returns_to c) (map returns_to bs)
        (after_call c q (block_at p.blocks c) refl (h c (rw (eq-eqb c c refl) refl)))
        (returns_enter b q bs (λ d has. h d (more (c == d) (lists bs d) has)))
      where
        more : (x y : Bool) → y ≡ true → (x || y) ≡ true
        more true y e = refl
        more false y e = e

    kind_enters : (b q : ℕ) (kind : Option ParamKind) → IsKindGrounded p q kind → All (Enters b) (map returns_to (return_blocks kind))
    kind_enters b q None h = All-nil (Enters b)
    kind_enters b q (Some Num) h = All-nil (Enters b)
    kind_enters b q (Some (Ret bs)) h = returns_enter b q bs h.each

    exits_enter : (b : ℕ) (block : Block) (row : Row) → ReturnUse block → block_at p.blocks b ≡ Some block → IsGrounded p row
        → All (Enters b) (exits_with (returns_read block row) block)
    exits_enter b _ row (Returns q) is g = kind_enters b q (kind_of row q) (g q)
    exits_enter b block row (Leads own) is g = subst (All (Enters b)) (sym (own (returns_read block row))) (own_exits b block is)

    -- CHAINS

    sound_members : (to : ℕ) (row : Option Row) → IfSome row (IsGrounded p) → may_enter (block_at p.blocks to) ≡ true → All IsSound (members_move to row)
    sound_members to None g e = All-nil IsSound
    sound_members to (Some row) g e = All-cons IsSound (record (move to row) { code = 26 }) [] (g, e) (All-nil IsSound)

    sound_chains : (table : Table) (b : ℕ) (block : Block) (row : Row) → ChainUse block → block_at p.blocks b ≡ Some block
        → IsGrounded p row → ((x : Target) → IfSome (table x) (IsGrounded p)) → All IsSound (chain_edges table block row)
    sound_chains table b _ row (Links l) is g h = All-cons IsSound (join l.chain row) [] (g, well.links b l is) (All-nil IsSound)
    sound_chains table b _ row (Unlinks u) is g h =
        sound_members u.target (table (targets.Chain u.chain)) (h (targets.Chain u.chain))
        (All-head (λ (way : Way). may_enter (block_at p.blocks (leads_to b way)) ≡ true) (Goes u.target) [] (other_enters b (blocks.Unlink u) is))
    sound_chains table b block row (Neither none members) is g h =
        subst (λ es. All IsSound (es ++ members_edges table block)) (sym (none row)) (subst (All IsSound) (sym (members table)) (All-nil IsSound))

    -- each edge of a block is sound
    pub sound_edges : (table : Table) (b : ℕ) (block : Block) (row : Row) → block_at p.blocks b ≡ Some block → IsGrounded p row
        → ((x : Target) → IfSome (table x) (IsGrounded p)) → All IsSound (edges p table b block row)
    sound_edges table b block row is g h =
        All-append IsSound (edges_from b block row) (chain_edges table block row)
        (sound_along b (exits_with (returns_read block row) block) (after b block row) (grounded_after b block row is g)
        (exits_enter b block row (return_use block) is g))
        (sound_chains table b block row (chain_use block) is g h)
