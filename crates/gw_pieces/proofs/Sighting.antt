-- Entities that are made one after the other.
use Rattle.std.proofs.Common.{◌≡◌, ◌≤◌, ℕ, ◌+◌, List, [], ◌∷◌, ◌++◌, length, drop, Option, Some, None, string_bytes, slice_get, sym, ap, subst, ◌∙◌}
use Rattle.std.proofs.Common.{append_assoc}
use Rattle.std.proofs.lemmas.List.{drop_all, append-nil}
use Rattle.gw_object.specs.declared.parts.Entity.{Entity}
use Rattle.gw_text.specs.declared.model.Statement.{Statement}
use Rattle.gw_compile.specs.Numbers.{Numbers}
use Rattle.gw_names.specs.declared.sights.Sighted.{Sighted}
use Rattle.gw_pieces.specs.declared.origins.Origin.{Origin}
use Rattle.gw_object.specs.declared.blocks.Numbered.{Numbered}
use Rattle.gw_object.specs.declared.blocks.Operand.{Operand}
use Rattle.gw_rules.specs.declared.entities.EntityKind.{EntityKind}
use Rattle.gw_object.specs.declared.parts.Kind.{Kind}
use Rattle.gw_pieces.specs.Entities.{GrowsBy, IsKindBy, IsSightedAs, AreSightedAs}
use Rattle.gw_pieces.specs.Numbers.{with_source}
use Rattle.gw_pieces.proofs.Walks.{split_at}

module _ (n : Numbers) (order : List Origin) (ss : List Statement) (sighted : List Sighted) (i : ℕ) where
  -- what is made so far and these
  abbrev pub WithRest : List Entity → Type 0
  WithRest es = (rest : List Entity) → AreSightedAs n order ss (drop i sighted) rest → AreSightedAs n order ss sighted (es ++ rest)

  pub one_more_sighted : (s : Sighted) → slice_get sighted i ≡ Some s → (old new : List Entity) → GrowsBy (IsSightedAs n order ss s) old new → WithRest old
      → (rest : List Entity) → AreSightedAs n order ss (drop (i + 1) sighted) rest → AreSightedAs n order ss sighted (new ++ rest)
  one_more_sighted s at old new g before rest h =
      let e = g.0 in
      let all = before (e ∷ rest) (subst (λ l. AreSightedAs n order ss l (e ∷ rest)) (sym (split_at sighted i s at)) (g.1, h)) in
      let same : new ++ rest ≡ old ++ e ∷ rest = ap (λ es. es ++ rest) g.2 ∙ append_assoc old (e ∷ []) rest in
      subst (AreSightedAs n order ss sighted) (sym same) all

  pub all_sighted : length sighted ≤ i → (es : List Entity) → WithRest es → AreSightedAs n order ss sighted es
  all_sighted past es h =
      let none = h [] (subst (λ l. AreSightedAs n order ss l []) (sym (drop_all i sighted past)) tt) in
      subst (AreSightedAs n order ss sighted) (append-nil es) none

module _ (n : Numbers) (source : Numbered → Operand) (order : List Origin) (ss : List Statement) where
  same_kind : (declaration : Option ℕ) (needed : EntityKind) (name : List ℕ) (kind : Kind)
      → IsKindBy n order ss declaration needed name kind → IsKindBy (with_source n source) order ss declaration needed name kind
  same_kind None needed name kind h = h
  same_kind (Some i) needed name kind h = (h.0, h.1, h.2)

  -- what is evaluated for attributes in the end doesn't matter for entities
  pub resourced : (sighted : List Sighted) (es : List Entity) → AreSightedAs n order ss sighted es → AreSightedAs (with_source n source) order ss sighted es
  resourced [] [] h = tt
  resourced (s ∷ sighted) (e ∷ es) h =
      (record { name = h.0.name; kind = same_kind s.declaration s.kind (string_bytes s.name) e.kind h.0.kind }, resourced sighted es h.1)
  resourced [] (e ∷ es) h = absurd h
  resourced (s ∷ sighted) [] h = absurd h
