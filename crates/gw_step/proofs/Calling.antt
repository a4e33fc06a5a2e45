-- Waiters that are called: hand-over of a facility, and admission to a storage.
use Rattle.std.proofs.Common.{◌≡◌, ℕ, suc, ◌+◌, ◌<◌, ◌≤◌, List, [], ◌∷◌, length, Option, Some, None, true, is_some, ◌==◌, refl, sym, ap, subst, arith}
use Rattle.std.proofs.Common.{IsSome, ◌∙◌}
use Rattle.std.specs.Prelude.{IfSome}
use Rattle.std.proofs.lemmas.Bool.{false≢true, eqb-true, leb-true}
use Rattle.gw_object.specs.declared.blocks.Units.{Units}
use Rattle.gw_object.specs.declared.blocks.Block.{Block}
use Rattle.gw_object.specs.declared.blocks.Block.TheVariants as blocks
use Rattle.gw_object.specs.declared.parts.Parts.{Parts}
use Rattle.gw_object.specs.declared.parts.Kind.TheVariants as kinds
use Rattle.gw_rules.specs.declared.entities.EntityKind.TheVariants as needed
use Rattle.gw_rules.specs.Kinds.{block_at}
use Rattle.gw_rules.specs.KindsLaws.{BlockHolds}
use Rattle.gw_rules.specs.Rows.{Row, units_of, with_facility, with_units}
use Rattle.gw_rules.specs.Flow.{own_table, own_row}
use Rattle.gw_rules.specs.FlowLaws.{FlowHolds}
use Rattle.gw_num.specs.Table.{at}
use Rattle.gw_num.proofs.Tables.{at-put}
use Rattle.gw_transactions.specs.declared.Transaction.{Transaction}
use Rattle.gw_entities.specs.Facility.{with_owner, is_idle}
use Rattle.gw_entities.specs.Storage as storages
use Rattle.gw_step.specs.State.{State, priority_of, delay_list, without}
use Rattle.gw_step.specs.Changes.{enters_and_falls, called_from, facility, storage, put_facility, put_storage}
use Rattle.gw_step.specs.Blocks.{is_seize, takes_over, hand_over, units_asked, enters_if_free, admit_by, looked_at, admission}
use Rattle.gw_step.specs.Residence.{occurrences}
use Rattle.gw_step.proofs.Outcomes.{choose, by_option}
use Rattle.gw_step.proofs.Residence.{one_if, same_number, occurrences-joined, occurrences-without}
use Rattle.gw_step.proofs.Follows.{asked-enter}
use Rattle.gw_step.specs.Typing.{IsPlaced, WellTyped}
use Rattle.gw_step.proofs.Balances.{balanced-seize, balanced-storage, came_in}
use Rattle.gw_step.proofs.Traces.{IsAt, place-free, its_chain, its_parameters, waiting_free, IsPresent, Goes, Called, Trace, Done, Then, trace_on, trace-keeps}
use Rattle.gw_step.proofs.AtBlock.{first_may_be_entered, is_storage, kind_below}
use Rattle.gw_step.proofs.Operands.{good_units}
use Rattle.gw_step.proofs.Moving.{at_first, unchanged}
use Rattle.gw_step.specs.Times.{parameters_of}
use Rattle.gw_step.proofs.Paying.{one_plain, its_weight, first_paid}
use Rattle.gw_rules.specs.declared.ways.Way.TheVariants.{Falls}
use Rattle.gw_transactions.specs.Transactions.{attributes_at, chain_of}
use Rattle.gw_step.proofs.Attributes.{bearer_at}
use Rattle.gw_step.proofs.PlainBlocks.{by_block}

-- what is there
pub some_of : {A : Type 0} (o : Option A) → is_some o ≡ true → (a : A) × (o ≡ Some a)
some_of None h = absurd (false≢true h)
some_of (Some a) h = (a, refl)

seize-is : (f : ℕ) (block : Option Block) → is_seize f block ≡ true → block ≡ Some (blocks.Seize f)
seize-is f None h = absurd (false≢true h)
seize-is f (Some block) h =
    by_block (λ x. is_seize f (Some x) ≡ true → Some x ≡ Some (blocks.Seize f))
    (λ g is. absurd (false≢true is)) (λ g is. ap (λ e. Some (blocks.Seize e)) (eqb-true g f is)) (λ u is. absurd (false≢true is))
    (λ x plain is. absurd (false≢true (sym (plain.seizes f) ∙ is)))
    block h

-- a waiter that was called is on the current events chain
called_is_present : (e n : ℕ) (s : State) → IsPresent (called_from e n s).lists n
called_is_present e n s = omega (arith, occurrences-joined n (priority_of s.transactions) n s.lists.current_events, same_number n n refl)

module _ (p : Parts) (each_block : (b : ℕ) (block : Block) → block_at p.blocks b ≡ Some block → BlockHolds p b block) (flow : FlowHolds p (own_table p)) where
  -- a live transaction at a block is at its row
  pub is_at : (s : State) → WellTyped p s → (n : ℕ) (t : Transaction) (block : Block) → attributes_at n s.transactions ≡ Some t
      → chain_of (at None s.transactions n) ≡ None → block_at p.blocks t.next ≡ Some block → (row : Row) × IsAt p s.transactions n t block row
  is_at s ty n t block live free there =
      let bears = bearer_at s.transactions n t live in
      let placed : IsPlaced p bears.0 = subst (λ o. IfSome o (IsPlaced p)) bears.1 (ty.placed n) in
      let row = some_of (own_row p t.next)
      (subst (λ at. IsSome (own_table p at)) (place-free bears.0 t (its_chain (at None s.transactions n) bears.0 None bears.1 free) bears.2) placed.row) in
      (row.0, record { found = live; block_is = there; row_is = row.1; free = free })

  -- HAND-OVER

  taken_over : (k ar : ℕ) (s : State) → WellTyped p s → (f w : ℕ) (t : Transaction) → f < length p.entities → is_idle (facility f s) ≡ true
      → 1 ≤ occurrences w (delay_list f s) → attributes_at w s.transactions ≡ Some t → block_at p.blocks t.next ≡ Some (blocks.Seize f)
      → Trace p (suc k) ar 0 s (suc k) ar 0 (put_facility f (with_owner w (facility f s)) (enters_and_falls w t (called_from f w s)))
  taken_over k ar s ty f w t below idle waits live there =
      let found = is_at s ty w t (blocks.Seize f) live (waiting_free p s.transactions s.lists s.entities ty f w waits) there in
      Then (Called f w waits below)
      (Then (Goes w (t.next + 1) t t (blocks.Seize f) found.0 (with_facility f found.0)
      (put_facility f (with_owner w (facility f s)) s).entities found.1 (unchanged (called_from f w s) t) (called_is_present f w s)
      (its_parameters p s ty w t (blocks.Seize f) found.0 found.1) (at_first _ [])
      (first_may_be_entered p t.next _ [] (each_block t.next (blocks.Seize f) there).exits)
      (balanced-seize p w f found.0 s.entities below idle)
      (λ weighted. omega (
        arith,
        first_paid p t.next (blocks.Seize f) found.0 there found.1.row_is Falls [] refl (parameters_of w s) (parameters_of w s)
            (λ q. refl) 0 weighted,
        its_weight p s.transactions w t (blocks.Seize f) found.0 found.1 (one_plain p t (blocks.Seize f) there refl),
      ))) Done)

  pub handed_over : (k ar : ℕ) (s : State) → WellTyped p s → (f : ℕ) (ws : List ℕ) → f < length p.entities → is_idle (facility f s) ≡ true
      → ((m : ℕ) → occurrences m ws ≤ occurrences m (delay_list f s)) → Trace p (suc k) ar 0 s (suc k) ar 0 (hand_over p.blocks f ws s)
  handed_over k ar s ty f [] below idle among = Done
  handed_over k ar s ty f (w ∷ ws) below idle among =
      by_option (Trace p (suc k) ar 0 s (suc k) ar 0) (attributes_at w s.transactions) (takes_over p.blocks f w s) s
      (λ t live.
      choose (Trace p (suc k) ar 0 s (suc k) ar 0) (is_seize f (block_at p.blocks t.next))
      (put_facility f (with_owner w (facility f s)) (enters_and_falls w t (called_from f w s))) s
      (λ is. taken_over k ar s ty f w t below idle (omega (arith, among w, same_number w w refl)) live (seize-is f (block_at p.blocks t.next) is))
      (λ not. Done))
      (λ none. Done)

  -- ADMISSION

  -- what the walk comes to at the waiter w: nobody else left the delay list
  record Looked (k ar e w : ℕ) (s t : State) : Type 0 where
    trace : Trace p (suc k) ar 0 s (suc k) ar 0 t
    left : (m : ℕ) → occurrences m (delay_list e s) ≤ occurrences m (delay_list e t) + one_if (w == m)

  unmoved : (k ar e w : ℕ) (s : State) → Looked k ar e w s s
  unmoved k ar e w s = record { trace = Done; left = λ m. omega arith }

  entered_free : (k ar : ℕ) (s : State) → WellTyped p s → (w : ℕ) (t : Transaction) (u : Units) → 1 ≤ occurrences w (delay_list u.entity s)
      → attributes_at w s.transactions ≡ Some t → block_at p.blocks t.next ≡ Some (blocks.Enter u) → storages.has_room u.number (storage u.entity s) ≡ true
      → Looked k ar u.entity w s (put_storage u.entity (storages.with_entries u.number (storage u.entity s)) (enters_and_falls w t (called_from u.entity w s)))
  entered_free k ar s ty w t u waits live there free =
      let found = is_at s ty w t (blocks.Enter u) live (waiting_free p s.transactions s.lists s.entities ty u.entity w waits) there in
      let holds = each_block t.next (blocks.Enter u) there in
      let kind = is_storage p.entities u.entity holds.entities in
      let old = delay_list u.entity s in
      record {
        trace = Then (Called u.entity w waits (kind_below p.entities u.entity (kinds.Storage kind.0) kind.1))
            (Then (Goes w (t.next + 1) t t (blocks.Enter u) found.0 (with_units u.entity (units_of found.0 u.entity + u.number) found.0)
            (put_storage u.entity (storages.with_entries u.number (storage u.entity s)) s).entities found.1
            (unchanged (called_from u.entity w s) t) (called_is_present u.entity w s)
            (its_parameters p s ty w t (blocks.Enter u) found.0 found.1) (at_first _ []) (first_may_be_entered p t.next _ [] holds.exits)
            (balanced-storage p w u.entity (units_of found.0 u.entity + u.number) (storages.with_entries u.number (storage u.entity s))
            found.0 s.entities kind.0 kind.1 refl (omega arith) (λ _. leb-true _ _ free) (came_in u.number _)
            (omega (arith, (good_units p needed.Storage u holds.entities holds.constants).number)))
            (λ weighted. omega (
              arith,
              first_paid p t.next (blocks.Enter u) found.0 there found.1.row_is Falls [] refl (parameters_of w s) (parameters_of w s)
                  (λ q. refl) 0 weighted,
              its_weight p s.transactions w t (blocks.Enter u) found.0 found.1 (one_plain p t (blocks.Enter u) there refl),
            ))) Done);
        left = λ m. omega (arith, occurrences-without m w old waits, ap (occurrences m) (at-put [] s.lists.delay_lists u.entity (without w old)));
      }

  looked_at_asking : (k ar : ℕ) (s : State) → WellTyped p s → (e w : ℕ) (t : Transaction) → 1 ≤ occurrences w (delay_list e s)
      → attributes_at w s.transactions ≡ Some t → Looked k ar e w s (admit_by p.blocks e w s t)
  looked_at_asking k ar s ty e w t waits live =
      by_option (Looked k ar e w s) (units_asked e (block_at p.blocks t.next)) (enters_if_free w t s) s
      (λ u asks.
      let is = asked-enter e (block_at p.blocks t.next) u asks in
      choose (Looked k ar e w s) (storages.has_room u.number (storage u.entity s))
      (put_storage u.entity (storages.with_entries u.number (storage u.entity s)) (enters_and_falls w t (called_from u.entity w s))) s
      (λ free. subst (λ d. Looked k ar d w s
      (put_storage u.entity (storages.with_entries u.number (storage u.entity s)) (enters_and_falls w t (called_from u.entity w s))))
      is.1 (entered_free k ar s ty w t u (subst (λ d. 1 ≤ occurrences w (delay_list d s)) (sym is.1) waits) live is.0 free))
      (λ full. unmoved k ar e w s))
      (λ none. unmoved k ar e w s)

  looked : (k ar : ℕ) (s : State) → WellTyped p s → (e w : ℕ) → 1 ≤ occurrences w (delay_list e s) → Looked k ar e w s (looked_at p.blocks e w s)
  looked k ar s ty e w waits =
      by_option (Looked k ar e w s) (attributes_at w s.transactions) (admit_by p.blocks e w s) s
      (λ t live. looked_at_asking k ar s ty e w t waits live) (λ none. unmoved k ar e w s)

  pub admits : (k ar : ℕ) (s : State) → WellTyped p s → (e : ℕ) (ws : List ℕ)
      → ((m : ℕ) → occurrences m ws ≤ occurrences m (delay_list e s)) → Trace p (suc k) ar 0 s (suc k) ar 0 (admission p.blocks e ws s)
  unfolding admission
  admits k ar s ty e [] among = Done
  admits k ar s ty e (w ∷ ws) among =
      let one = looked k ar s ty e w (omega (arith, among w, same_number w w refl)) in
      trace_on p one.trace (admits k ar (looked_at p.blocks e w s) (trace-keeps p flow one.trace ty) e ws (λ m. omega (arith, one.left m, among m)))
