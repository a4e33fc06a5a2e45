-- A job's state through its start and through a step.
use Rattle.gw_rules.specs.Kinds.{block_at, is_none_or, has_good_constants}
use Rattle.gw_rules.specs.Environment.{Environment}
use Rattle.gw_transactions.specs.Transactions.{LiveTransaction, live_count}
use Rattle.std.proofs.Common.{false, ◌≡◌, ℕ, zero, suc, ◌+◌, ◌≤◌, ℤ, pos, ◌≤ℤ◌, ◌<ℤ◌, List, [], ◌∷◌, map, length, replicate, Option, Some, None}
use Rattle.std.proofs.Common.{IfSome, refl, sym, ap, ◌∙◌, subst, arith, ◌<◌}
use Rattle.std.specs.Prelude.{sum, int_le, nat_lt, IfSome, IsTrue}
use Rattle.std.specs.List.{AllByRecursion}
use Rattle.std.proofs.lemmas.Bool.{and_parts, ltb-true}
use Rattle.std.proofs.lemmas.List.{length-map, length-replicate}
use Rattle.std.proofs.lemmas.Int.{ints}
use Rattle.gw_object.specs.declared.blocks.Generate.{Generate}
use Rattle.gw_object.specs.declared.blocks.Block.{Block}
use Rattle.gw_object.specs.declared.blocks.Block.TheVariants as blocks
use Rattle.gw_object.specs.declared.parts.Entity.{Entity}
use Rattle.gw_object.specs.declared.parts.Parts.{Parts}
use Rattle.gw_num.specs.Table.{at}
use Rattle.gw_num.proofs.Tables.{sum_by-replicate, length-put_next, by_entry, at-replicate}
use Rattle.gw_entities.specs.declared.facilities.Facility.{Facility}
use Rattle.gw_entities.specs.declared.contents.Contents.{Contents}
use Rattle.gw_entities.specs.Contents.{empty}
use Rattle.gw_entities.specs.Facility.{idle}
use Rattle.gw_object.specs.Entities.{capacity_of}
use Rattle.gw_entities.specs.Storage.{vacant}
use Rattle.gw_object.specs.declared.parts.Kind.{Kind}
use Rattle.gw_object.specs.declared.parts.Kind.TheVariants as kinds
use Rattle.gw_entities.specs.Table.{initial_setting, initial_value, nothing_entered, table_at}
use Rattle.gw_entities.specs.Numbered.{of_each}
use Rattle.gw_step.specs.declared.ends.End.{End}
use Rattle.gw_step.specs.Outcome.{Outcome, Gives, EndsBy, HasNoCase}
use Rattle.gw_step.specs.State.{State, with_streams}
use Rattle.gw_step.specs.Times.{environment_of_next, drawn_moment}
use Rattle.gw_step.specs.Changes.{newcomer, arrives}
use Rattle.gw_step.specs.Step.{scan, step_outcome, within_budget}
use Rattle.gw_step.specs.Start.{nothing, first_moment, first_arrival, first_arrivals, start_outcome}
use Rattle.gw_step.specs.Numbers.{made_in, IsWithin, AreWithinLimits, AreFewLive}
use Rattle.gw_step.specs.Operands.{OperandsFit}
use Rattle.gw_step.specs.Job.{Job, JobFits, IsBounded, IsReached, Step, Alone, after, then_step, start_of}
use Rattle.gw_step.proofs.Outcomes.{OnGives, on_both}
use Rattle.gw_step.proofs.Within.{sum-raised, within-arrives, within-streams, within-more, within-ended}
use Rattle.gw_step.proofs.Counting.{IsCounted, is_counted, is_woken, runs_still}
use Rattle.gw_step.proofs.Traces.{KeepStreams}
use Rattle.gw_step.proofs.Bounds.{trace-within, trace-limits, trace-live, trace-conserves, written-live}
use Rattle.gw_step.proofs.Arriving.{nothing_conserved}
use Rattle.gw_step.specs.Typing.{AreConserved, IsWoken}
use Rattle.gw_step.proofs.Unstopped.{given}
use Rattle.gw_step.proofs.Drawn.{IsSound, IsDrawn, AreRead, safe_drawn}
use Rattle.gw_step.proofs.Asked.{arrival_read}
use Rattle.gw_step.proofs.Safe.{kinds_of, flow_of, sound_of, reached_in_step, reached_states_are_well_typed, start_is_well_typed, steps_keep_types}
use Rattle.gw_step.proofs.Operands.{blocks_fit, all-blocks}
use Rattle.gw_step.proofs.Steps.{step-scan, by_budget, counts_more, some_is}
use Rattle.gw_step.proofs.PlainBlocks.{by_arrival}
use Rattle.gw_step.proofs.Nothing.{no_transaction}

-- ONE STEP MORE

one_more : (j : Job) (n : ℕ) (s t : State) → Alone j n s → Step j s t → Alone j (n + 1) t
unfolding after
one_more j n s t h next = let e : n + 1 ≡ suc n = omega arith in ap (λ k. after j k (start_of j)) e ∙ ap (then_step j) h ∙ next

-- the numbers after a step
record Numbered (j : Job) (k : ℕ) (t : State) : Type 0 where
  numbers : IsWithin (length j.parts.blocks) (length j.parts.entities) k (made_in k) t
  limits : AreWithinLimits j.parts.blocks t.scheduled
  live : AreFewLive t.transactions
  conserved : AreConserved t.entities

-- with the steps that are left, they bound a state
bounds : (j : Job) (t : State) → Numbered j t.steps t → t.steps ≤ j.budget → (t.ended ≡ None → t.steps < j.budget)
    → (t.ended ≡ None → pos 0 <ℤ t.count) → IsWoken t → IsBounded j t
bounds j t n steps runs counts woken = record {
  steps = steps;
  runs = runs;
  counts = counts;
  numbers = n.numbers;
  limits = n.limits;
  live = n.live;
  conserved = n.conserved;
  woken = woken;
}

-- what one step keeps of them
bounded_more : (j : Job) (s u : State) → IsBounded j s → s.ended ≡ None → IsCounted s u → IsWoken u
    → Numbered j (s.steps + 1) (within_budget j.budget (record u { steps = s.steps + 1 }))
    → IsBounded j (within_budget j.budget (record u { steps = s.steps + 1 }))
bounded_more j s u b runs c woken =
    by_budget (λ (v : State). Numbered j (s.steps + 1) v → IsBounded j v) j.budget (record u { steps = s.steps + 1 })
    (λ _ same n. bounds j _ n (omega (arith, b.runs runs)) (λ e. absurd (cc)) (λ e. absurd (cc)) (λ none. woken none))
    (λ other n. bounds j _ n (omega (arith, b.runs runs)) (λ e. omega (arith, b.runs runs, other e)) (λ e. runs_still s u c e (b.counts runs)) woken)

bounded_ended : (j : Job) (s : State) (end : End) → IsBounded j s → s.ended ≡ None → IsBounded j (record s { steps = s.steps + 1; ended = Some end })
bounded_ended j s end b runs =
    let bs = length j.parts.blocks in
    let es = length j.parts.entities in
    record {
      steps = omega (arith, b.runs runs);
      runs = λ e. absurd (cc);
      counts = λ e. absurd (cc);
      numbers = within-ended bs es (s.steps + 1) (made_in (s.steps + 1)) s
          (within-more bs es s.steps (made_in s.steps) s b.numbers (s.steps + 1) (made_in (s.steps + 1)) (omega arith) (omega arith)) (s.steps + 1) (Some end);
      limits = b.limits;
      live = b.live;
      conserved = b.conserved;
      woken = λ none. b.woken none;
    }

-- what a step leads to
record Leads (j : Job) (s t : State) : Type 0 where
  bounded : IsBounded j t
  steps : t.steps ≡ s.steps + 1

leads_from : (j : Job) (s t : State) (o : Outcome State) → IsBounded j s → s.ended ≡ None → scan j.parts s.lists.active s ≡ o
    → Numbered j (s.steps + 1) t → step_outcome j.budget s o ≡ Some t → Leads j s t
leads_from j s t (Gives u) b runs is n h =
    let same = some_is _ t h in
    subst (Leads j s) same
    (record {
      bounded = bounded_more j s u b runs (is_counted j.parts s u is) (is_woken j.parts s u is)
          (subst (Numbered j (s.steps + 1)) (sym same) n);
      steps = counts_more j.budget s u;
    })
leads_from j s t (EndsBy end) b runs is n h = subst (Leads j s) (some_is _ t h) (record { bounded = bounded_ended j s end b runs; steps = refl })
leads_from j s t HasNoCase b runs is n h = absurd cc

-- the numbers after a step, by its elementary changes
numbered_step : (j : Job) (s t : State) → IsReached (record { job = j; state = s }) → Step j s t → Numbered j (s.steps + 1) t
numbered_step j s t r next =
    let x = reached_in_step j s.steps s t r.fits.checked (reached_states_are_well_typed j s.steps s r.fits.checked r.alone) next in
    let live = trace-live j.parts x.trace r.bounded.live in
    record {
      numbers = within-more (length j.parts.blocks) (length j.parts.entities) x.entries x.arrivals t
          (trace-within j.parts x.trace r.bounded.numbers) (s.steps + 1) (made_in (s.steps + 1)) (omega (arith, x.few_entries)) (omega (arith, x.few_arrivals));
      limits = trace-limits j.parts x.trace r.bounded.limits;
      live = live;
      conserved = trace-conserves j.parts x.trace r.bounded.conserved;
    }

pub reached_more : (j : Job) (s t : State) → IsReached (record { job = j; state = s }) → s.ended ≡ None → Step j s t → IsReached (record { job = j; state = t })
reached_more j s t r runs next =
    let l = leads_from j s t (scan j.parts s.lists.active s) r.bounded runs refl (numbered_step j s t r next)
    (sym (step-scan j.parts j.budget s runs) ∙ next) in
    record {
      alone = subst (λ (k : ℕ). Alone j k t) (sym l.steps) (one_more j s.steps s t r.alone next);
      fits = r.fits;
      typed = steps_keep_types j s t r.fits.checked r.typed next;
      bounded = l.bounded;
    }

-- THE START

-- the first arrivals of so many blocks, or fewer, are scheduled
record Begun (bs es : ℕ) (count : ℤ) (k : ℕ) (t : State) : Type 0 where
  within : IsWithin bs es 0 k t
  made : length t.transactions ≤ k + 1
  scheduled : sum t.scheduled ≤ k
  clock : t.clock ≡ pos 0
  steps : t.steps ≡ 0
  counts : t.count ≡ count
  -- no block has more than its first arrival, and those to come have none
  first : (b : ℕ) → at 0 t.scheduled b ≤ 1
  none : (b : ℕ) → k < b → at 0 t.scheduled b ≡ 0
  live : live_count t.transactions ≤ k
  conserved : AreConserved t.entities
  stir : t.stir ≡ false

begun_more : (bs es : ℕ) (count : ℤ) (k l : ℕ) (t : State) → k ≤ l → Begun bs es count k t → Begun bs es count l t
begun_more bs es count k l t le b = record {
  within = within-more bs es 0 k t b.within 0 l (omega arith) le;
  made = omega (arith, b.made, le);
  scheduled = omega (arith, b.scheduled, le);
  clock = b.clock;
  steps = b.steps;
  counts = b.counts;
  first = b.first;
  none = λ c above. b.none c (omega (arith, above, le));
  live = omega (arith, b.live, le);
  conserved = b.conserved;
  stir = b.stir;
}

begun_arrives : (bs es : ℕ) (count : ℤ) (k : ℕ) (s : State) (b : ℕ) (priority time : ℤ) (streams : List ℕ) → b ≡ suc k → b ≤ bs
    → pos 0 ≤ℤ time → KeepStreams s.streams streams → Begun bs es count k s → Begun bs es count (suc k) (arrives b priority time (with_streams streams s))
begun_arrives bs es count k s b priority time streams here block least keeps h = record {
  within = within-arrives bs es 0 k (with_streams streams s) (within-streams bs es 0 k s h.within streams (keeps h.within.whole.streams)) b
      priority time block (rw h.clock least);
  made = omega (arith, h.made, length-put_next None s.transactions (Some (newcomer b priority s)));
  scheduled = omega (arith, h.scheduled, sum-raised b s.scheduled);
  clock = h.clock;
  steps = h.steps;
  counts = h.counts;
  first = by_entry 0 s.scheduled b (at 0 s.scheduled b + 1) (λ c n. n ≤ 1) (omega (arith, h.none b (omega (arith, here)))) (λ c apart. h.first c);
  none = by_entry 0 s.scheduled b (at 0 s.scheduled b + 1) (λ c n. suc k < c → n ≡ 0) (λ above. absurd (omega (arith, here, above)))
      (λ c apart above. h.none c (omega (arith, above)));
  live = omega (arith, h.live, written-live s.transactions (length s.transactions) (Some (newcomer b priority s)));
  conserved = h.conserved;
  stir = h.stir;
}

first-later : (p : Parts) → IsSound p → (g : Generate) (s : State) (o : Option ℤ) → s.clock ≡ pos 0 → IfSome o (λ time. pos 0 ≤ℤ time)
    → ((env : Environment) → AreRead p env (g.interval.mean ∷ g.interval.half ∷ [])) → OnGives (IsDrawn (pos 0) s.streams) (first_moment p g s o)
first-later p sound g s (Some time) clock least read = record { later = least; keeps = λ h. h }
first-later p sound g s None clock least read =
    let env = environment_of_next g.priority s in
    subst (λ c. OnGives (IsDrawn c s.streams) (drawn_moment p env g.interval s.clock s.streams)) clock
    (given (IsDrawn s.clock s.streams) _ (safe_drawn p sound env g.interval s.clock s.streams (read env)))

-- a block with which a job may begin: its operands fit, and if it is a GENERATE its interval asks for no parameter
record Begins (p : Parts) (block : Block) : Type 0 where
  operands : OperandsFit (length p.entities) block
  interval : (g : Generate) → block ≡ blocks.Generate g → (env : Environment) → AreRead p env (g.interval.mean ∷ g.interval.half ∷ [])

module _ (p : Parts) (sound : IsSound p) (bs es : ℕ) (count : ℤ) where
  first_begins : (b : ℕ) (block : Block) (k : ℕ) (s : State) → b ≡ suc k → b ≤ bs → Begins p block → Begun bs es count k s
      → OnGives (Begun bs es count (suc k)) (first_arrival p b block s)
  first_begins b block k s here below fits h =
      by_arrival (λ x. Begins p x → OnGives (Begun bs es count (suc k)) (first_arrival p b x s))
      (λ g begins.
      on_both (IsDrawn (pos 0) s.streams) (Begun bs es count (suc k)) (first_moment p g s g.first) _
      (first-later p sound g s g.first h.clock begins.operands (begins.interval g refl))
      (λ d drawn. begun_arrives bs es count k s b g.priority d.0 d.1 here below drawn.later drawn.keeps h))
      (λ x none _. subst (OnGives (Begun bs es count (suc k))) (sym (none p b s)) (begun_more bs es count k (suc k) s (omega arith) h))
      block fits

  firsts_begin : (b : ℕ) (xs : List Block) (k : ℕ) (s : State) → b ≡ suc k → b + length xs ≤ suc bs → AllByRecursion (Begins p) xs
      → Begun bs es count k s → OnGives (Begun bs es count (length xs + k)) (first_arrivals p b xs s)
  unfolding first_arrivals
  firsts_begin b [] k s here below fits h = begun_more bs es count k (length {A = Block} [] + k) s (omega arith) h
  firsts_begin b (x ∷ xs) k s here below fits h =
      let e : length xs + suc k ≡ suc (length xs) + k = omega arith in
      on_both (Begun bs es count (suc k)) (Begun bs es count (suc (length xs) + k)) (first_arrival p b x s) (first_arrivals p (b + 1) xs)
      (first_begins b x k s here (omega arith) fits.0 h)
      (λ u more. subst (λ l. OnGives (Begun bs es count l) (first_arrivals p (b + 1) xs u)) e
      (firsts_begin (b + 1) xs (suc k) u (omega (arith, here)) (omega arith) fits.1 more))

-- a table of one value has it at each number, and as its default
at-map_any : {X Y : Type 0} (xs : List X) (f : X → Y) (d : Y) (k : ℕ) → ((x : X) → f x ≡ d) → at d (map f xs) k ≡ d
at-map_any [] f d k same = refl
at-map_any (x ∷ xs) f d zero same = same x
at-map_any (x ∷ xs) f d (suc k) same = at-map_any xs f d k same

all_vacant : (es : List Entity) (k : ℕ) → (at (vacant 0) (map (λ (e : Entity). vacant (capacity_of e.kind)) es) k).contents.entries ≤ 0
all_vacant [] k = omega arith
all_vacant (e ∷ es) zero = omega arith
all_vacant (e ∷ es) (suc k) = all_vacant es k

none_entered : (es : List Entity) (t : ℕ) → (table_at t (of_each nothing_entered es)).count ≡ 0
none_entered [] t = refl
none_entered (e ∷ es) zero = by_kind e.kind
  where
    by_kind : (kind : Kind) → (nothing_entered kind).count ≡ 0
    by_kind (kinds.Table t) = refl
    by_kind kind = refl
none_entered (e ∷ es) (suc t) = none_entered es t

-- the job begins with nothing scheduled
nothing_begun : (j : Job) → JobFits j → Begun (length j.parts.blocks) (length j.parts.entities) (pos j.count) 0 (nothing j.parts j.count j.streams)
nothing_begun j fits =
    let bs = length j.parts.blocks in
    let es = j.parts.entities in
    let zero_sum = sum_by-replicate 0 (λ (x : ℕ). x) (bs + 1) refl in
    let none_wait = sum_by-replicate [] (λ (xs : List ℕ). length xs) (length es) refl in
    let table : length (replicate (bs + 1) zero) ≡ bs + 1 = length-replicate (bs + 1) zero in
    record {
      within = record {
        entries = omega (arith, zero_sum, none_wait);
        entity_entries = record {
          facilities = λ f. omega (arith, ap (λ (x : Facility). x.entries) (at-map_any es (λ _. idle) idle f (λ _. refl)));
          storages = λ e. omega (arith, all_vacant es e);
          queues = λ q. omega (arith, ap (λ (x : Contents). x.entries) (at-map_any es (λ _. empty) empty q (λ _. refl)));
          tables = λ t. omega (arith, none_entered es t);
          inside = λ q. subst (λ (x : Contents). x.content ≤ x.entries) (sym (at-map_any es (λ _. empty) empty q (λ _. refl))) (omega arith);
        };
        made = omega arith;
        scheduled = omega (arith, zero_sum);
        marked = record { marks = λ n. subst (λ o. IfSome o (λ (t : LiveTransaction). pos 0 ≤ℤ t.attributes.mark)) (sym (no_transaction n)) tt };
        whole = record {
          entries = table;
          scheduled = table;
          delay_lists = length-replicate (length es) [];
          user_chains = length-replicate (length es) [];
          entity_tables = record {
            facilities = length-map es (λ _. idle);
            storages = length-map es (λ (e : Entity). vacant (capacity_of e.kind));
            queues = length-map es (λ _. empty);
            switches = length-map es (λ (e : Entity). initial_setting e.kind);
            savevalues = length-map es (λ (e : Entity). initial_value e.kind);
            tables = length-map es (λ (e : Entity). nothing_entered e.kind);
          };
          streams = fits.streams;
        };
        clock = omega (arith, ints);
        future = tt;
      };
      made = omega arith;
      scheduled = omega (arith, zero_sum);
      clock = refl;
      steps = refl;
      counts = refl;
      first = λ b. omega (arith, at-replicate {X = ℕ} 0 (bs + 1) b);
      none = λ b above. at-replicate {X = ℕ} 0 (bs + 1) b;
      live = omega arith;
      conserved = nothing_conserved j.parts j.count j.streams;
      stir = refl;
    }

-- a first arrival is within any limit
within_limit : (limit : Option ℕ) (k : ℕ) → k ≤ 1 → IsTrue (is_none_or limit (nat_lt 0)) → IfSome limit (λ most. k ≤ most)
within_limit None k h some = tt
within_limit (Some most) k h some = omega (arith, h, ltb-true 0 most some)

-- a state with as many arrivals as blocks, and no steps
begun_bounded : (j : Job) (k : ℕ) (t : State) (end : Option End) → JobFits j → k ≤ 4096
    → Begun (length j.parts.blocks) (length j.parts.entities) (pos j.count) k t → IsBounded j (record t { ended = end })
begun_bounded j k t end fits few b =
    let w = within-ended (length j.parts.blocks) (length j.parts.entities) 0 k t b.within t.steps end in
    let live : AreFewLive t.transactions = record { live = omega (arith, b.live, few) } in
    record {
      steps = omega (arith, b.steps);
      runs = λ _. omega (arith, b.steps, fits.budget_least);
      counts = λ _. rw b.counts (omega (arith, ints, fits.count_least));
      numbers = subst (λ n. IsWithin (length j.parts.blocks) (length j.parts.entities) n (made_in n) (record t { ended = end })) (sym b.steps)
          (record {
            entries = w.entries;
            entity_entries = w.entity_entries;
            made = omega (arith, b.made, few);
            scheduled =
                omega (arith, b.scheduled, few);
            marked = w.marked;
            whole = w.whole;
            clock = w.clock;
            future = w.future;
          });
      limits = record {
        arrivals =
            λ c g is. within_limit g.limit (at 0 t.scheduled c) (b.first c)
            (and_parts (is_none_or g.first (int_le (pos 0))) (is_none_or g.limit (nat_lt 0)) (constants c g is)).1;
      };
      live = live;
      conserved = b.conserved;
      woken = λ _. b.stir;
    }
  where
    constants : (c : ℕ) (g : Generate) → block_at j.parts.blocks c ≡ Some (blocks.Generate g) → IsTrue (has_good_constants (blocks.Generate g))
    constants c g is = (kinds_of j.parts fits.checked c (blocks.Generate g) is).constants

-- what holds of the start state, however the first arrivals came out
record Starts (j : Job) (s : State) : Type 0 where
  bounded : IsBounded j s
  steps : s.steps ≡ 0

starts_from : (j : Job) (k : ℕ) (s : State) (o : Outcome State) → JobFits j → k ≤ 4096
    → OnGives (Begun (length j.parts.blocks) (length j.parts.entities) (pos j.count) k) o
    → start_outcome (nothing j.parts j.count j.streams) o ≡ Some s → Starts j s
starts_from j k s (Gives t) fits few b is = subst (Starts j) (some_is t s is) (record { bounded = begun_bounded j k t t.ended fits few b; steps = b.steps })
starts_from j k s (EndsBy end) fits few b is =
    let none : State = nothing j.parts j.count j.streams in
    subst (Starts j) (some_is (record none { ended = Some end }) s is)
    (record { bounded = begun_bounded j 0 none (Some end) fits (omega arith) (nothing_begun j fits); steps = refl })
starts_from j k s HasNoCase fits few b is = absurd cc

alone_at_start : (j : Job) (s : State) → start_of j ≡ Some s → Alone j 0 s
unfolding after
alone_at_start j s is = is

pub reached_first : (j : Job) (s : State) → JobFits j → start_of j ≡ Some s → IsReached (record { job = j; state = s })
reached_first j s fits is =
    let bs = j.parts.blocks in
    let n = nothing j.parts j.count j.streams in
    let fit = blocks_fit j.parts fits.checked fits.spelled in
    let sound = sound_of j.parts fits.checked in
    let read = arrival_read j.parts sound.entities (kinds_of j.parts fits.checked) (flow_of j.parts fits.checked) in
    let begins = all-blocks (Begins j.parts) bs
    (λ i block at. record { operands = fit.operands (suc i) block at; interval = λ g same. read (suc i) g (at ∙ ap Some same) }) in
    let b = firsts_begin j.parts sound (length bs) (length j.parts.entities) (pos j.count) 1 bs 0 n (omega arith) (omega arith) begins (nothing_begun j fits) in
    let starts = starts_from j (length bs + 0) s (first_arrivals j.parts 1 bs n) fits (omega (arith, fit.few)) b is in
    record {
      alone = subst (λ (k : ℕ). Alone j k s) (sym starts.steps) (alone_at_start j s is);
      fits = fits;
      typed = start_is_well_typed j s fits.checked is;
      bounded = starts.bounded;
    }
