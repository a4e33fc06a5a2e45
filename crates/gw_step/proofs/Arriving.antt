-- Arrivals: what a GENERATE does, and the state before the first step.
use Rattle.std.proofs.Common.{◌≡◌, ℕ, zero, suc, ◌+◌, ◌≤◌, ℤ, List, [], ◌∷◌, length, map, Option, Some, None, true, false, pos, ◌≤ℤ◌, refl, sym, ap}
use Rattle.std.proofs.Common.{◌∙◌, subst, arith}
use Rattle.std.specs.Prelude.{◌<ℤ◌, sum, slice_get, nat_le, IfSome}
use Rattle.std.proofs.lemmas.List.Elements.{All-nil}
use Rattle.gw_object.specs.declared.blocks.Generate.{Generate}
use Rattle.gw_object.specs.declared.parts.Entity.{Entity}
use Rattle.gw_object.specs.declared.blocks.Block.{Block}
use Rattle.gw_object.specs.declared.blocks.Block.TheVariants as blocks
use Rattle.gw_object.specs.declared.parts.Parts.{Parts}
use Rattle.gw_object.specs.Entities.{capacity_of}
use Rattle.gw_rules.specs.Kinds.{block_at, is_generate}
use Rattle.gw_rules.specs.FlowCodes as codes
use Rattle.gw_rules.specs.Rows.{Row, is_empty}
use Rattle.gw_rules.specs.Blocks.{capacity_at}
use Rattle.gw_rules.specs.Environment.{Environment}
use Rattle.gw_rules.specs.Flow.{own_table, own_row}
use Rattle.gw_rules.specs.FlowLaws.{FlowHolds}
use Rattle.gw_num.specs.Table.{at}
use Rattle.gw_num.proofs.Tables.{at-replicate}
use Rattle.gw_transactions.specs.declared.Transaction.{Transaction}
use Rattle.gw_transactions.specs.Transactions.{live_count, attributes_at, chain_of}
use Rattle.gw_entities.specs.declared.contents.Contents.{Contents}
use Rattle.gw_entities.specs.Contents.{empty}
use Rattle.gw_entities.specs.Laws.{Begins}
use Rattle.gw_entities.specs.Facility.{idle, is_owned_by}
use Rattle.gw_entities.specs.Storage as storages
use Rattle.gw_step.specs.Numbers.{made_in}
use Rattle.gw_step.specs.Outcome.{Outcome, Gives, EndsBy, HasNoCase}
use Rattle.gw_step.specs.State.{State, with_streams}
use Rattle.gw_step.specs.Times.{environment_of_next, drawn_moment, parameters_of}
use Rattle.gw_step.specs.Changes.{arrives}
use Rattle.gw_step.specs.Blocks.{is_owed, next_arrival, generate}
use Rattle.gw_step.specs.Start.{nothing, first_moment, first_arrival, first_arrivals, start_outcome, start}
use Rattle.gw_step.specs.Residence.{occurrences}
use Rattle.gw_step.proofs.Nothing.{no_transaction, resides-nothing}
use Rattle.gw_step.specs.Places.{row_of}
use Rattle.gw_step.specs.Typing.{IsPlaced, lists_facility, is_member, WellTyped, AreWithinCapacity, AreConserved, IsConserved}
use Rattle.gw_step.proofs.Balances.{balanced-nothing}
use Rattle.gw_step.proofs.Residence.{one_if}
use Rattle.gw_step.proofs.Agreeing.{IsMissing}
use Rattle.gw_step.proofs.Traces.{all_as_known, Goes, Arrives, Draws, Trace, Done, Then, trace_on, present, arrived}
use Rattle.gw_step.proofs.Unstopped.{Safe, Any, safe_bind, safe_then, safe_if, safe_given}
use Rattle.gw_step.proofs.Timed.{moment_passes}
use Rattle.gw_step.proofs.Within.{sum-raised}
use Rattle.gw_rules.specs.Exits.{takes_time}
use Rattle.gw_rules.specs.declared.ways.Way.TheVariants.{Falls}
use Rattle.gw_step.proofs.Drawn.{IsSound, AreRead, IsDrawn, safe_drawn}
use Rattle.gw_step.proofs.Asked.{interval_read}
use Rattle.gw_step.proofs.AtBlock.{first_may_be_entered}
use Rattle.gw_step.proofs.Paying.{one_plain, its_weight, first_paid}
use Rattle.gw_step.proofs.Moving.{Acts, Enters, safe_leads, at_first, the_rule}
use Rattle.gw_step.proofs.Calling.{some_of}
use Rattle.gw_step.proofs.PlainBlocks.{by_arrival}
use Rattle.gw_step.proofs.Attributes.{attributes-past, chain-past}

-- THE NEXT ARRIVAL

-- the next arrival is scheduled, and the active transaction n, which is t, is as it was
record Scheduled (p : Parts) (k : ℕ) (s : State) (n : ℕ) (t : Transaction) (after : State) : Type 0 where
  arrivals : ℕ
  trace : Trace p k (made_in k) 0 s k arrivals 0 after
  few : arrivals ≤ made_in (suc k)
  found : attributes_at n after.transactions ≡ Some t
  free : chain_of (at None after.transactions n) ≡ None
  active : after.lists.active ≡ s.lists.active
  clock : after.clock ≡ s.clock
  entries : after.entries ≡ s.entries

module _ (p : Parts) (sound : IsSound p) (s : State) (n : ℕ) (t : Transaction) (k : ℕ) (g : Generate) (row : Row)
    (acts : Acts p s n t (blocks.Generate g) row) where
  empty_row : is_empty row ≡ true
  empty_row = the_rule p t.next codes.edge_state (is_empty row) (blocks.Generate g) row refl acts.flow

  safe_next : Safe (Scheduled p k s n t) (next_arrival p t.next g s)
  safe_next =
      safe_if (Scheduled p k s n t) (is_owed g.limit (at 0 s.scheduled t.next)) _ (Gives s)
      (λ owed.
      let env = environment_of_next g.priority s in
      safe_bind (λ d. IsDrawn s.clock s.streams d × (takes_time g.interval.mean g.interval.half ≡ true → s.clock <ℤ d.0))
      (Scheduled p k s n t) (drawn_moment p env g.interval s.clock s.streams) _
      (safe_given (IsDrawn s.clock s.streams) (λ d. takes_time g.interval.mean g.interval.half ≡ true → s.clock <ℤ d.0)
      (drawn_moment p env g.interval s.clock s.streams)
      (safe_drawn p sound env g.interval s.clock s.streams
      (interval_read p sound.entities t.next g row acts.kinds acts.flow empty_row env)) (moment_passes p env g.interval s.clock s.streams))
      (λ d drawn.
      safe_if (Scheduled p k s n t) (nat_le (live_count s.transactions + 1) 65536) (Gives (arrives t.next g.priority d.0 (with_streams d.1 s))) _
      (λ few.
      record {
        arrivals = suc (made_in k);
        trace = Then (Draws d.1 drawn.0.keeps)
            (Then (Arrives t.next g row g.priority d.0 acts.is.block_is acts.is.row_is empty_row drawn.0.later drawn.1 owed few) Done);
        few = omega arith;
        found = attributes-past s.transactions n t _ acts.is.found;
        free = chain-past s.transactions n t _ acts.is.found ∙ acts.is.free;
        active = refl;
        clock = refl;
        entries = refl;
      })
      (λ many. tt)))
      (λ none. record {
        arrivals = made_in k;
        trace = Done;
        few = omega arith;
        found = acts.is.found;
        free = acts.is.free;
        active = refl;
        clock = refl;
        entries = refl;
      })

  pub safe_generate : Safe (Enters p k s n) (generate p n t g s)
  safe_generate =
      let may = first_may_be_entered p t.next _ [] acts.kinds.exits in
      safe_bind (Scheduled p k s n t) (Enters p k s n) (next_arrival p t.next g s) _ safe_next
      (λ after h.
      safe_leads p (Enters p k s n) (t.next + 1) _ may
      (record {
        entries = suc k;
        arrivals = h.arrivals;
        borrowed = 0;
        left = 0;
        trace = trace_on p h.trace
            (Then (Goes n (t.next + 1) t (record t { mark = s.clock }) (blocks.Generate g) row row after.entities
            (record { found = h.found; block_is = acts.is.block_is; row_is = acts.is.row_is; free = h.free })
            (record { next = refl; mark = λ clock mark. subst (λ z. pos 0 ≤ℤ z) h.clock clock })
            (present after.lists n (h.active ∙ acts.active)) (all_as_known row empty_row (parameters_of n after)) (at_first _ []) may
            (balanced-nothing p n row after.entities)
            (λ weighted. omega (
              arith,
              first_paid p t.next (blocks.Generate g) row acts.is.block_is acts.is.row_is Falls [] refl (parameters_of n after)
                  (parameters_of n after) (λ q. refl) 0 weighted,
              its_weight p after.transactions n t (blocks.Generate g) row
                  (record { found = h.found; block_is = acts.is.block_is; row_is = acts.is.row_is; free = h.free })
                  (one_plain p t (blocks.Generate g) acts.is.block_is refl),
            ))) Done);
        may = tt;
        settles = refl;
        few_entries = omega arith;
        few_arrivals = h.few;
        grows = omega (arith, sum-raised t.next after.entries, ap (λ (xs : List ℕ). sum xs) h.entries);
      }))

-- THE START

vacant_at : (es : List Entity) (e : ℕ) → (at (storages.vacant 0) (map (λ (x : Entity). storages.vacant (capacity_of x.kind)) es) e).contents ≡ empty
vacant_at [] e = refl
vacant_at (x ∷ es) zero = refl
vacant_at (x ∷ es) (suc e) = vacant_at es e

idle_at : (es : List Entity) (f n : ℕ) → is_owned_by n (at idle (map (λ _. idle) es) f) ≡ false
idle_at [] f n = refl
idle_at (x ∷ es) zero n = refl
idle_at (x ∷ es) (suc f) n = idle_at es f n

sized_at : (es : List Entity) (e : ℕ) → (at (storages.vacant 0) (map (λ (x : Entity). storages.vacant (capacity_of x.kind)) es) e).capacity ≡ capacity_at es e
sized_at [] e = refl
sized_at (x ∷ es) zero = refl
sized_at (x ∷ es) (suc e) = sized_at es e

module _ (p : Parts) (count : ℕ) (streams : List ℕ) where
  pub nothing_typed : WellTyped p (nothing p count streams)
  nothing_typed = record {
    resides = resides-nothing p count streams;
    placed = λ n. subst (λ o. IfSome o (IsPlaced p)) (sym (no_transaction n)) tt;
    owned = λ f n. idle_at p.entities f n ∙ sym (ap (λ o. lists_facility f (row_of p o)) (no_transaction n));
    promised = λ e. omega arith;
    waiting = λ e n h. absurd (omega (arith, h, ap (occurrences n) (at-replicate [] (length p.entities) e)));
    linked = λ c n. omega (arith, ap (occurrences n) (at-replicate [] (length p.entities) c), ap (λ o. one_if (is_member c (chain_of o))) (no_transaction n));
    assembling = All-nil IsMissing;
    sized = sized_at p.entities;
  }

  pub nothing_fills : AreWithinCapacity (nothing p count streams).entities
  nothing_fills = record { contents = λ e. omega (arith, ap (λ (c : Contents). c.content) (vacant_at p.entities e)) }

  pub nothing_conserved : AreConserved (nothing p count streams).entities
  nothing_conserved = record { units = λ e. subst IsConserved (sym (vacant_at p.entities e)) (0, Begins, refl) }

-- a state that comes of first arrivals
pub record Starts (p : Parts) (s : State) : Type 0 where
  pub typed : WellTyped p s
  pub within : AreWithinCapacity s.entities

module _ (p : Parts) (flow : FlowHolds p (own_table p)) (sound : IsSound p)
    (read : (b : ℕ) (g : Generate) → block_at p.blocks b ≡ Some (blocks.Generate g) → (env : Environment)
    → AreRead p env (g.interval.mean ∷ g.interval.half ∷ [])) where
  -- there is a time for a first arrival, or a named end
  moment_safe : (b : ℕ) (g : Generate) (s : State) → block_at p.blocks b ≡ Some (blocks.Generate g) → (first : Option ℤ) → Safe Any (first_moment p g s first)
  moment_safe b g s is (Some time) = tt
  moment_safe b g s is None =
      let env = environment_of_next g.priority s in
      safe_then (IsDrawn s.clock s.streams) Any (drawn_moment p env g.interval s.clock s.streams)
      (safe_drawn p sound env g.interval s.clock s.streams (read b g is env)) (λ _ _. tt)

  first_typed : (b : ℕ) (block : Block) (s : State) → block_at p.blocks b ≡ Some block → Starts p s → Safe (Starts p) (first_arrival p b block s)
  first_typed b block s =
      by_arrival (λ x. block_at p.blocks b ≡ Some x → Starts p s → Safe (Starts p) (first_arrival p b x s))
      (λ g is h.
      let row = some_of (own_row p b) (flow.arrivals b (ap is_generate is)) in
      let none = the_rule p b codes.edge_state (is_empty row.0) (blocks.Generate g) row.0 refl (flow.each_row b (blocks.Generate g) row.0 is row.1) in
      safe_bind Any (Starts p) (first_moment p g s g.first) _ (moment_safe b g s is g.first)
      (λ d found. record { typed = arrived p flow (with_streams d.1 s) h.typed b g row.0 g.priority d.0 is row.1 none; within = h.within }))
      (λ x none is h. subst (Safe (Starts p)) (sym (none p b s)) h)
      block

  firsts_typed : (b : ℕ) (bs : List Block) (s : State)
      → ((i : ℕ) (block : Block) → slice_get bs i ≡ Some block → block_at p.blocks (b + i) ≡ Some block) → Starts p s
      → Safe (Starts p) (first_arrivals p b bs s)
  unfolding first_arrivals
  firsts_typed b [] s there h = h
  firsts_typed b (block ∷ rest) s there h =
      safe_bind (Starts p) (Starts p) (first_arrival p b block s) (first_arrivals p (b + 1) rest)
      (first_typed b block s (subst (λ k. block_at p.blocks k ≡ Some block) (omega arith) (there 0 block refl)) h)
      (λ t h'. firsts_typed (b + 1) rest t (λ i x is. subst (λ k. block_at p.blocks k ≡ Some x) (omega arith) (there (suc i) x is)) h')

  started_typed : (o : Outcome State) (s : State) → Starts p s → Safe (Starts p) o → (first : State) × (start_outcome s o ≡ Some first) × Starts p first
  started_typed (Gives t) s h h' = (t, refl, h')
  started_typed (EndsBy end) s h h' = (record s { ended = Some end }, refl, record { typed = h.typed; within = h.within })
  started_typed HasNoCase s h h' = absurd h'

  pub start_typed : (count : ℕ) (streams : List ℕ) → (first : State) × (start p count streams ≡ Some first) × Starts p first
  start_typed count streams =
      let none : Starts p (nothing p count streams) = record { typed = nothing_typed p count streams; within = nothing_fills p count streams } in
      started_typed (first_arrivals p 1 p.blocks (nothing p count streams)) (nothing p count streams) none
      (firsts_typed 1 p.blocks (nothing p count streams)
      (λ i block is. let one : suc i ≡ 1 + i = omega arith in subst (λ k. block_at p.blocks k ≡ Some block) one is) none)
