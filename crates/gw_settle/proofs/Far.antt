-- Rows whose amounts have fallen are sound, also where no round has reached them.
use Rattle.std.proofs.Common.{◌≡◌, ℕ, zero, suc, List, [], ◌∷◌, Option, Some, None, refl, sym, subst, ◌∙◌, arith}
use Rattle.std.specs.Prelude.{All, IfSome}
use Rattle.std.proofs.lemmas.List.Elements.{All-cons, All-head, All-tail}
use Rattle.gw_object.specs.declared.parts.Parts.{Parts}
use Rattle.gw_object.specs.declared.parts.Entity.{Entity}
use Rattle.gw_rules.specs.Kinds.{chain_place, needs}
use Rattle.gw_rules.specs.declared.entities.EntityKind.TheVariants.{StorageOrQueue}
use Rattle.gw_rules.specs.KindsLaws.{IsEntity}
use Rattle.gw_rules.specs.declared.edges.Target.{Target}
use Rattle.gw_rules.specs.declared.edges.Target.TheVariants as targets
use Rattle.gw_rules.specs.Rows.{Row}
use Rattle.gw_settle.specs.Rounds.{TableRows, as_table}
use Rattle.gw_settle.specs.Keeps.{IsGrounded, IsNamed, NamesCalls, absent_in, absent, HasFew, AreSound}
use Rattle.gw_settle.specs.Jumps.{row_after, place_after, places_after, rows_after}
use Rattle.gw_settle.proofs.Ordering.{keep_all}
use Rattle.gw_settle.proofs.Slopes.{units_are_after, row_in_after, length-after}

-- what a row has that its amounts don't matter for it has then
after_has : (P : Row → Type 0) (n : ℕ) (place next : Option Row) → ((row other : Row) → P row → P (row_after n row other)) → IfSome place P
    → IfSome (place_after n place next) P
after_has P n (Some row) (Some next) keeps h = keeps row next h
after_has P n (Some row) None keeps h = h
after_has P n None next keeps h = tt

all_after : (P : Row → Type 0) (n : ℕ) (rows nexts : List (Option Row)) → ((row other : Row) → P row → P (row_after n row other))
    → All (λ row. IfSome row P) rows → All (λ row. IfSome row P) (places_after n rows nexts)
all_after P n [] nexts keeps h = h
all_after P n (row ∷ rows) [] keeps h =
    All-cons (λ r. IfSome r P) (place_after n row None) (places_after n rows [])
    (after_has P n row None keeps (All-head (λ r. IfSome r P) row rows h)) (all_after P n rows [] keeps (All-tail (λ r. IfSome r P) row rows h))
all_after P n (row ∷ rows) (next ∷ nexts) keeps h =
    All-cons (λ r. IfSome r P) (place_after n row next) (places_after n rows nexts)
    (after_has P n row next keeps (All-head (λ r. IfSome r P) row rows h)) (all_after P n rows nexts keeps (All-tail (λ r. IfSome r P) row rows h))

-- no row goes, and none comes
absent_after : (n : ℕ) (rows nexts : List (Option Row)) → absent_in (places_after n rows nexts) ≡ absent_in rows
absent_after n [] nexts = refl
absent_after n (None ∷ rows) [] = omega (arith, absent_after n rows [])
absent_after n (Some row ∷ rows) [] = absent_after n rows []
absent_after n (None ∷ rows) (next ∷ nexts) = omega (arith, absent_after n rows nexts)
absent_after n (Some row ∷ rows) (None ∷ nexts) = absent_after n rows nexts
absent_after n (Some row ∷ rows) (Some next ∷ nexts) = absent_after n rows nexts

named_after : (es : List Entity) (n : ℕ) (row other : Row) → IsNamed es row → IsNamed es (row_after n row other)
named_after es n row other h = record { facilities = h.facilities; units = keep_all (λ e. IsEntity es (needs StorageOrQueue e)) _ row.units h.units }

module _ (p : Parts) (n : ℕ) (near next : TableRows) (sound : AreSound p near) where
  looked_up : (x : Target) → as_table p (rows_after n near next) x ≡ place_after n (as_table p near x) (as_table p next x)
  looked_up (targets.Block zero) = refl
  looked_up (targets.Block (suc i)) = row_in_after n near.blocks next.blocks i
  looked_up (targets.Chain e) = row_in_after n near.chains next.chains (chain_place p.entities e)

  at_target : (P : Row → Type 0) → ((row other : Row) → P row → P (row_after n row other)) → ((x : Target) → IfSome (as_table p near x) P)
      → (x : Target) → IfSome (as_table p (rows_after n near next) x) P
  at_target P keeps h x = subst (λ o. IfSome o P) (sym (looked_up x)) (after_has P n (as_table p near x) (as_table p next x) keeps (h x))

  few_after : (row other : Row) → HasFew p near row → HasFew p near (row_after n row other)
  few_after row other h = λ e. omega (arith, h e, units_are_after n row other e)

  as_absent : absent (rows_after n near next) ≡ absent near
  as_absent = omega (arith, absent_after n near.blocks next.blocks, absent_after n near.chains next.chains)

  few_far : (o : Option Row) → IfSome o (HasFew p near) → IfSome o (HasFew p (rows_after n near next))
  few_far None h = tt
  few_far (Some row) h = λ e. omega (arith, h e, as_absent)

  pub after_sound : AreSound p (rows_after n near next)
  after_sound = record {
    shape = record {
      blocks = length-after n near.blocks next.blocks ∙ sound.shape.blocks;
      chains = length-after n near.chains next.chains
          ∙ sound.shape.chains;
    };
    grounded = at_target (IsGrounded p) (λ row other h. h) sound.grounded;
    named = at_target (IsNamed p.entities) (named_after p.entities n) sound.named;
    block_calls = all_after (NamesCalls p.blocks) n near.blocks next.blocks (λ row other h. h) sound.block_calls;
    chain_calls = all_after (NamesCalls p.blocks) n near.chains next.chains (λ row other h. h) sound.chain_calls;
    few = λ x. few_far (as_table p (rows_after n near next) x) (at_target (HasFew p near) few_after sound.few x);
  }
