-- What is known of those who wait, through the changes of a state.
use Rattle.std.proofs.Common.{◌⊎◌, inl, inr, ◌≡◌, ◌≢◌, ℕ, zero, suc, ◌+◌, ◌^◌, ◌≤◌, ◌<◌, ◌==◌, if◌then◌else◌, ℤ, Bool, true, false, List, [], ◌∷◌}
use Rattle.std.proofs.Common.{map, length, Option, Some, None, is_some, option_map, refl, sym, ap, ◌∙◌, subst, arith}
use Rattle.std.specs.Prelude.{int_le, sum}
use Rattle.std.proofs.lemmas.Bool.{cases_eq, eq-eqb, ne_eqb}
use Rattle.std.proofs.lemmas.List.{length-map}
use Rattle.std.proofs.lemmas.List.Sums.{sum_by-cons}
use Rattle.gw_num.specs.Table.{at, put}
use Rattle.gw_num.proofs.Tables.{at-put, at-put_other}
use Rattle.gw_transactions.specs.declared.Transaction.{Transaction}
use Rattle.gw_transactions.specs.Transactions.{LiveTransaction, attributes_at, put_attributes, put_parameter, with_parameter, put_chain, with_chain}
use Rattle.gw_step.specs.State.{State, delay_list, user_chain, priority_of, with_one_more_at, without}
use Rattle.gw_step.specs.Residence.{ResidesOnce, occurrences, occurrences_in}
use Rattle.gw_step.specs.Changes.{enter_next, waits_for, called_from}
use Rattle.gw_step.proofs.Lists.{occurrences-placed}
use Rattle.gw_step.proofs.Residence.{alone, at-le-sum, same_number, other_number, at_most_one, one_if, occurrences-one}
use Rattle.gw_members.specs.Chain.{first, behind, placed_behind}
use Rattle.gw_members.specs.declared.tx.Tx.{Tx}
use Rattle.gw_step.specs.Turning.{turn_to}
use Rattle.gw_machine.specs.Configuration.{Configuration}
use Rattle.gw_machine.specs.View.{state_of}
use Rattle.gw_machine.proofs.Changes.{user_chain-at}
use Rattle.gw_machine.proofs.AtChains.{begins-with}
use Rattle.gw_machine.specs.declared.wants.Want.{Want}
use Rattle.gw_machine.specs.Wants.{nobody, counted_at, want_count, AreTold, ArePast, CountsEntry, JoinsIfKnown, LeavesIfKnown, KeepsOthers, next_in}
use Rattle.gw_machine.specs.Wants.{next_of, nexts, IsCounted, IsKnown, AreKnown}

-- NEXT BLOCKS

-- all transactions but n have the next blocks that they had
abbrev pub SameBut : ℕ → List (Option LiveTransaction) → List (Option LiveTransaction) → Type 0
SameBut n ts us = (k : ℕ) → k ≢ n → next_of us k ≡ next_of ts k

pub put-same : (n : ℕ) (ts : List (Option LiveTransaction)) (o : Option LiveTransaction) → SameBut n ts (put None ts n o)
put-same n ts o k other = ap next_in (at-put_other None ts n k o other)

nexts-same : (ts us : List (Option LiveTransaction)) → ((k : ℕ) → next_of us k ≡ next_of ts k) → (ns : List ℕ) → map (next_of us) ns ≡ map (next_of ts) ns
nexts-same ts us same [] = refl
nexts-same ts us same (k ∷ ks) = ap (λ x. x ∷ map (next_of us) ks) (same k) ∙ ap (λ xs. next_of ts k ∷ xs) (nexts-same ts us same ks)

nexts-apart : (n : ℕ) (ts us : List (Option LiveTransaction)) → SameBut n ts us → (ns : List ℕ) → occurrences n ns ≡ 0
    → map (next_of us) ns ≡ map (next_of ts) ns
nexts-apart n ts us same [] none = refl
nexts-apart n ts us same (k ∷ ks) none =
    ap (λ x. x ∷ map (next_of us) ks) (same k (λ e. absurd (omega (arith, same_number k n e, none))))
    ∙ ap (λ xs. next_of ts k ∷ xs) (nexts-apart n ts us same ks (omega (arith, none)))

pub next-found : (n : ℕ) (ts : List (Option LiveTransaction)) (t : Transaction) → attributes_at n ts ≡ Some t → next_of ts n ≡ t.next
next-found n ts t found = found_in (at None ts n) found
  where
    found_in : (o : Option LiveTransaction) → option_map (λ (u : LiveTransaction). u.attributes) o ≡ Some t → next_in o ≡ t.next
    found_in None is = absurd cc
    found_in (Some u) is = let same : u.attributes ≡ t = cc in ap (λ (a : Transaction). a.next) same

-- who is in a list has its next block among those of the list
pub next-occurs : (f : ℕ → ℕ) (n : ℕ) (ns : List ℕ) → 0 < occurrences n ns → 0 < occurrences (f n) (map f ns)
next-occurs f n [] some = omega (arith, some)
next-occurs f n (k ∷ ks) some = elim (cases_eq k n) [
  | inl same ↦ omega (arith, same_number (f k) (f n) (ap f same))
  | inr other ↦ omega (arith, next-occurs f n ks (omega (arith, some, other_number k n other)))
]

occurrences-without : (f : ℕ → ℕ) (b n : ℕ) (ns : List ℕ) → 0 < occurrences n ns → occurrences b (map f (without n ns)) + one_if (f n == b)
    ≡ occurrences b (map f ns)
occurrences-without f b n [] some = absurd (omega (arith, some))
occurrences-without f b n (k ∷ ks) some = elim (cases_eq k n) [
  | inl same ↦ rw (eq-eqb k n same) (omega (arith, ap (λ j. one_if (f j == b)) same))
  | inr other ↦ rw (ne_eqb k n other) (omega (arith, occurrences-without f b n ks (omega (arith, some, other_number k n other))))
]

pub occurrences-few : (n : ℕ) (ns : List ℕ) → occurrences n ns ≤ length ns
occurrences-few n [] = omega arith
occurrences-few n (k ∷ ks) = omega (arith, at_most_one (k == n), occurrences-few n ks)

-- WHO IS ON NO DELAY LIST

pub called-apart : (n : ℕ) (s : State) → ResidesOnce s → 1 ≤ occurrences n s.lists.current_events → (e : ℕ) → occurrences n (delay_list e s) ≡ 0
called-apart n s h called e =
    let all : occurrences_in s.lists n ≡ one_if (is_some (at None s.transactions n)) = h n in
    omega (arith, all, called, at_most_one (is_some (at None s.transactions n)), occurrences-one n s.lists.delay_lists e)

pub chained-apart : (c n : ℕ) (s : State) → ResidesOnce s → 1 ≤ occurrences n (user_chain c s) → (e : ℕ) → occurrences n (delay_list e s) ≡ 0
chained-apart c n s h chained e =
    let all : occurrences_in s.lists n ≡ one_if (is_some (at None s.transactions n)) = h n in
    omega (
      arith,
      all,
      chained,
      at_most_one (is_some (at None s.transactions n)),
      occurrences-one n s.lists.delay_lists e,
      occurrences-one n s.lists.user_chains c,
    )

pub nowhere-apart : (n : ℕ) (s : State) → ResidesOnce s → at None s.transactions n ≡ None → (e : ℕ) → occurrences n (delay_list e s) ≡ 0
nowhere-apart n s h none e =
    let all : occurrences_in s.lists n ≡ one_if (is_some (at None s.transactions n)) = h n in
    omega (arith, all, ap (λ (o : Option LiveTransaction). one_if (is_some o)) none, occurrences-one n s.lists.delay_lists e)

-- ONE LIST

pub known-of : (ws : List Want) (e : ℕ) (s : State) → IsCounted ws e s → IsKnown ws e s
known-of [] e s h = tt
known-of (w ∷ ws) e s h = h

module _ (e : ℕ) (s new : State) where
  list-kept : (ws : List Want) → nexts e new ≡ nexts e s → ((b : ℕ) → at 0 s.entries b ≤ at 0 new.entries b) → IsKnown ws e s → IsKnown ws e new
  list-kept [] same more k = tt
  list-kept (w ∷ ws) same more k = record {
    past = λ i. omega (arith, k.past i, more (at nobody (w ∷ ws) i).block);
    counted = λ told b. k.counted (λ i some. let now = told i some in omega (arith, now, k.past i, more (at nobody (w ∷ ws) i).block)) b
        ∙ ap (occurrences b) (sym same);
  }

  list-joined : (ws us : List Want) (block entries : ℕ) → at 0 s.entries block ≡ entries → new.entries ≡ s.entries
      → ((b : ℕ) → occurrences b (nexts e new) ≡ occurrences b (nexts e s) + one_if (block == b))
      → JoinsIfKnown block entries ws us → IsKnown ws e s → IsKnown us e new
  list-joined [] us block entries is same more j k = subst (λ us. IsKnown us e new) (sym j) tt
  list-joined (w ∷ ws) us block entries is same more (inl none) k = subst (λ us. IsKnown us e new) (sym none) tt
  list-joined (w ∷ ws) us block entries is same more (inr c) k =
      known-of us e new (record {
        past = subst (λ es. ArePast es us) (sym same) (c.past s.entries is k.past);
        counted = λ told b. omega (arith, c.wanting b, k.counted (c.told s.entries is (subst (λ es. AreTold es us) same told)) b, more b);
      })

  list-left : (ws us : List Want) (block entries : ℕ) → at 0 s.entries block ≡ entries → new.entries ≡ s.entries
      → ((b : ℕ) → occurrences b (nexts e new) + one_if (block == b) ≡ occurrences b (nexts e s))
      → LeavesIfKnown block entries ws us → IsKnown ws e s → IsKnown us e new
  list-left ws us block entries is same fewer (inl none) k = subst (λ us. IsKnown us e new) (sym none) tt
  list-left [] us block entries is same fewer (inr c) k = absurd (omega (arith, c.wanting block, same_number block block refl))
  list-left (w ∷ ws) us block entries is same fewer (inr c) k =
      known-of us e new (record {
        past = subst (λ es. ArePast es us) (sym same) (c.past s.entries is k.past);
        counted = λ told b. omega (arith, c.wanting b, k.counted (c.told s.entries is (subst (λ es. AreTold es us) same told)) b, fewer b);
      })

  list-entered : (ws us : List Want) (block entries : ℕ) → at 0 s.entries block ≡ entries → new.entries ≡ with_one_more_at block s.entries
      → nexts e new ≡ nexts e s
      → CountsEntry block entries ws us → IsKnown ws e s → IsKnown us e new
  list-entered [] [] block entries is rise same c k = tt
  list-entered [] (u ∷ us) block entries is rise same c k = absurd (omega (arith, c.many))
  list-entered (w ∷ ws) us block entries is rise same c k =
      known-of us e new (record {
        past = subst (λ es. ArePast es us) (sym rise) (c.past s.entries is k.past);
        counted = λ told b. c.wanting b ∙ k.counted (c.told s.entries is k.past (subst (λ es. AreTold es us) rise told)) b ∙ ap (occurrences b) (sym same);
      })

-- somebody counted is counted somewhere
abbrev IsWantedAt : ℕ → List Want → Type 0
IsWantedAt b ws = (i : ℕ) × ((at nobody ws i).block ≡ b) × (0 < (at nobody ws i).waiting)

wanted-first : (b : ℕ) (w : Want) (ws : List Want) → (0 < want_count b ws → IsWantedAt b ws) → 0 < counted_at b w + want_count b ws → IsWantedAt b (w ∷ ws)
wanted-first b w ws others some = elim (cases_eq w.block b) [
  | inl same ↦ by_count w.waiting refl same
  | inr other ↦ later (rw (ne_eqb w.block b other) refl)
]
  where
    later : counted_at b w ≡ 0 → IsWantedAt b (w ∷ ws)
    later none = let r = others (omega (arith, some, none)) in (suc r.0, r.1, r.2)

    by_count : (n : ℕ) → w.waiting ≡ n → w.block ≡ b → IsWantedAt b (w ∷ ws)
    by_count zero is same =
        let r = others (let none : counted_at b w ≡ w.waiting = rw (eq-eqb w.block b same) refl in omega (arith, some, none, is)) in (suc r.0, r.1, r.2)
    by_count (suc n) is same = (0, same, omega (arith, is))

wanted-at : (b : ℕ) (ws : List Want) → 0 < want_count b ws → IsWantedAt b ws
wanted-at b [] some = absurd (omega (arith, some))
wanted-at b (w ∷ ws) some = wanted-first b w ws (λ more. wanted-at b ws more) (omega (arith, some, sum_by-cons (counted_at b) w ws))

risen : (es : List ℕ) (block b : ℕ) → at 0 es b ≤ at 0 (with_one_more_at block es) b
risen es block b = elim (cases_eq b block) [
  | inl same ↦ omega (arith, ap (λ k. at 0 (with_one_more_at block es) k) same, at-put 0 es block (at 0 es block + 1), ap (at 0 es) same)
  | inr other ↦ omega (arith, at-put_other 0 es block b (at 0 es block + 1) other)
]

-- ALL LISTS

module _ (known : List (List Want)) where
  -- where those who wait are for the same blocks, and no fewer entries were made
  pub known-kept : (s new : State) → ((e : ℕ) → nexts e new ≡ nexts e s) → ((b : ℕ) → at 0 s.entries b ≤ at 0 new.entries b)
      → AreKnown known s → AreKnown known new
  known-kept s new same more k e = list-kept e s new (at [] known e) (same e) more (k e)

  pub known-same : (s new : State) → new ≡ s → AreKnown known s → AreKnown known new
  known-same s new is k = subst (AreKnown known) (sym is) k

  -- one who is on no delay list has another next block, is new, or is gone
  pub known-apart : (n : ℕ) (s new : State) → SameBut n s.transactions new.transactions → new.lists.delay_lists ≡ s.lists.delay_lists
      → new.entries ≡ s.entries → ((e : ℕ) → occurrences n (delay_list e s) ≡ 0) → AreKnown known s → AreKnown known new
  known-apart n s new same lists entries none k =
      known-kept s new
      (λ e. ap (λ ds. map (next_of new.transactions) (at [] ds e)) lists ∙ nexts-apart n s.transactions new.transactions same (delay_list e s) (none e))
      (λ b. omega (arith, ap (λ es. at 0 es b) entries)) k

  -- all have the next blocks that they had
  pub known-nexts : (s new : State) → ((k : ℕ) → next_of new.transactions k ≡ next_of s.transactions k) → new.lists.delay_lists
      ≡ s.lists.delay_lists → new.entries ≡ s.entries → AreKnown known s → AreKnown known new
  known-nexts s new same lists entries k =
      known-kept s new
      (λ e. ap (λ ds. map (next_of new.transactions) (at [] ds e)) lists ∙ nexts-same s.transactions new.transactions same (delay_list e s))
      (λ b. omega (arith, ap (λ es. at 0 es b) entries)) k

  -- neither who waits nor a transaction changed
  pub known-by : (s new : State) → new.transactions ≡ s.transactions → new.lists.delay_lists ≡ s.lists.delay_lists → new.entries
      ≡ s.entries → AreKnown known s → AreKnown known new
  known-by s new same lists entries k = known-nexts s new (λ j. ap (λ ts. next_of ts j) same) lists entries k

  -- who is on no delay list enters its next block
  pub known-entered : (n : ℕ) (t : Transaction) (next : ℕ) (s : State) → ((e : ℕ) → occurrences n (delay_list e s) ≡ 0) → AreKnown known s
      → AreKnown known (enter_next n t next s)
  known-entered n t next s none k =
      known-kept s (enter_next n t next s)
      (λ e. nexts-apart n s.transactions (enter_next n t next s).transactions (put-same n s.transactions _) (delay_list e s) (none e))
      (risen s.entries t.next) k

  -- so does anybody whose attributes are known: who waits is told of, since its block has one more entry
  list-found : (n : ℕ) (t : Transaction) (next e : ℕ) (s : State) (ws : List Want) → attributes_at n s.transactions ≡ Some t → 0
      < occurrences n (delay_list e s) → IsKnown ws e s → IsKnown ws e (enter_next n t next s)
  list-found n t next e s [] found some k = tt
  list-found n t next e s (w ∷ ws) found some k =
      let es = s.entries in record {
        past = λ i. omega (arith, k.past i, risen es t.next (at nobody (w ∷ ws) i).block);
        counted = λ told b.
            let before : AreTold es (w ∷ ws) = λ i some. let now = told i some in omega (arith, now, k.past i, risen es t.next (at nobody (w ∷ ws) i).block) in
            let waits : 0 < occurrences t.next (nexts e s) =
            subst (λ j. 0 < occurrences j (nexts e s)) (next-found n s.transactions t found)
            (next-occurs (next_of s.transactions) n (delay_list e s) some) in
            let at_i = wanted-at t.next (w ∷ ws) (omega (arith, waits, k.counted before t.next)) in
            absurd (omega (
              arith,
              told at_i.0 at_i.2,
              k.past at_i.0,
              ap (λ j. at 0 (with_one_more_at t.next es) j) at_i.1,
              ap (at 0 es) at_i.1,
              at-put 0 es t.next (at 0 es t.next + 1),
            ));
      }

  pub known-found : (n : ℕ) (t : Transaction) (next : ℕ) (s : State) → attributes_at n s.transactions ≡ Some t → AreKnown known s
      → AreKnown known (enter_next n t next s)
  known-found n t next s found k e = by_count (occurrences n (delay_list e s)) refl
    where
      by_count : (m : ℕ) → occurrences n (delay_list e s) ≡ m → IsKnown (at [] known e) e (enter_next n t next s)
      by_count zero none =
          list-kept e s (enter_next n t next s) (at [] known e)
          (nexts-apart n s.transactions (enter_next n t next s).transactions (put-same n s.transactions _) (delay_list e s) none)
          (risen s.entries t.next) (k e)
      by_count (suc m) some = list-found n t next e s (at [] known e) found (omega (arith, some)) (k e)

-- what is known changes with the list of one entity
module _ (known knew : List (List Want)) (e : ℕ) (others : KeepsOthers e known knew) where
  -- one joins the list
  pub known-joined : (n : ℕ) (s : State) (block entries : ℕ) → next_of s.transactions n ≡ block → at 0 s.entries block ≡ entries
      → JoinsIfKnown block entries (at [] known e) (at [] knew e) → AreKnown known s → AreKnown knew (waits_for e n s)
  known-joined n s block entries next is joins k j = elim (cases_eq j e) [
    | inl same ↦ subst (λ i. IsKnown (at [] knew i) i (waits_for e n s)) (sym same)
        (list-joined e s (waits_for e n s) (at [] known e) (at [] knew e) block entries is refl more joins (k e))
    | inr other ↦ subst (λ ws. IsKnown ws j (waits_for e n s)) (sym (others j other))
        (list-kept j s (waits_for e n s) (at [] known j)
        (ap (map (next_of s.transactions)) (at-put_other [] s.lists.delay_lists e j _ other)) (λ b. omega arith) (k j))
  ]
    where
      more : (b : ℕ) → occurrences b (nexts e (waits_for e n s)) ≡ occurrences b (nexts e s) + one_if (block == b)
      more b =
          let rank = priority_of s.transactions in
          let here = ap (λ ns. occurrences b (map (next_of s.transactions) ns)) (at-put [] s.lists.delay_lists e (behind rank n (delay_list e s))) in
          let placed = occurrences-placed b (next_of s.transactions) (λ y. int_le (rank n) (rank y)) n (delay_list e s) in
          omega (arith, here, placed, ap (λ i. one_if (i == b)) next)

  -- one is called from the list
  pub known-left : (n : ℕ) (s : State) (block entries : ℕ) → next_of s.transactions n ≡ block → at 0 s.entries block ≡ entries
      → LeavesIfKnown block entries (at [] known e) (at [] knew e) → 0 < occurrences n (delay_list e s) → AreKnown known s → AreKnown knew (called_from e n s)
  known-left n s block entries next is leaves some k j = elim (cases_eq j e) [
    | inl same ↦ subst (λ i. IsKnown (at [] knew i) i (called_from e n s)) (sym same)
        (list-left e s (called_from e n s) (at [] known e) (at [] knew e) block entries is refl fewer leaves (k e))
    | inr other ↦ subst (λ ws. IsKnown ws j (called_from e n s)) (sym (others j other))
        (list-kept j s (called_from e n s) (at [] known j)
        (ap (map (next_of s.transactions)) (at-put_other [] s.lists.delay_lists e j _ other)) (λ b. omega arith) (k j))
  ]
    where
      fewer : (b : ℕ) → occurrences b (nexts e (called_from e n s)) + one_if (block == b) ≡ occurrences b (nexts e s)
      fewer b =
          let here = ap (λ ns. occurrences b (map (next_of s.transactions) ns)) (at-put [] s.lists.delay_lists e (without n (delay_list e s))) in
          omega (arith, here, occurrences-without (next_of s.transactions) b n (delay_list e s) some, ap (λ i. one_if (i == b)) next)

  -- who was called from the list enters its next block
  pub known-admitted : (n : ℕ) (t : Transaction) (next : ℕ) (s : State) (entries : ℕ) → at 0 s.entries t.next ≡ entries
      → ((k : ℕ) → occurrences n (delay_list k s) ≡ 0) → CountsEntry t.next entries (at [] known e) (at [] knew e) → AreKnown known s
      → AreKnown knew (enter_next n t next s)
  known-admitted n t next s entries is none c k j = elim (cases_eq j e) [
    | inl same ↦ subst (λ i. IsKnown (at [] knew i) i (enter_next n t next s)) (sym same)
        (list-entered e s (enter_next n t next s) (at [] known e) (at [] knew e) t.next entries is refl (kept e) c (k e))
    | inr other ↦ subst (λ ws. IsKnown ws j (enter_next n t next s)) (sym (others j other))
        (list-kept j s (enter_next n t next s) (at [] known j) (kept j) (risen s.entries t.next) (k j))
  ]
    where
      kept : (j : ℕ) → nexts j (enter_next n t next s) ≡ nexts j s
      kept j = nexts-apart n s.transactions (enter_next n t next s).transactions (put-same n s.transactions _) (delay_list j s) (none j)

  -- the list is counted anew
  pub known-counted : (s : State) → ((at [] knew e ≡ at [] known e) ⊎ IsKnown (at [] knew e) e s) → AreKnown known s → AreKnown knew s
  known-counted s here k j = elim (cases_eq j e) [
    | inl same ↦ subst (λ i. IsKnown (at [] knew i) i s) (sym same) (elim here [
      | inl old ↦ subst (λ ws. IsKnown ws e s) (sym old) (k e)
      | inr counted ↦ counted
    ])
    | inr other ↦ subst (λ ws. IsKnown ws j s) (sym (others j other)) (k j)
  ]

-- who joins the current events chain is on it
placed-there : (n : ℕ) (before : ℕ → Bool) (ns : List ℕ) → 1 ≤ occurrences n (placed_behind before n ns)
placed-there n before [] = omega (arith, same_number n n refl)
placed-there n before (k ∷ ks) = by_test (before k) (placed-there n before ks)
  where
    by_test : (b : Bool) → 1 ≤ occurrences n (placed_behind before n ks) → 1 ≤ occurrences n (if b then k ∷ placed_behind before n ks else n ∷ k ∷ ks)
    by_test true h = omega (arith, h)
    by_test false h = omega (arith, same_number n n refl)

pub called-there : (e n : ℕ) (s new : State) → new ≡ called_from e n s → 1 ≤ occurrences n new.lists.current_events
called-there e n s new is =
    let rank = priority_of s.transactions in
    subst (λ (x : State). 1 ≤ occurrences n x.lists.current_events) (sym is) (placed-there n (λ y. int_le (rank n) (rank y)) s.lists.current_events)

-- no more are counted than wait
pub known-few : (ws : List Want) (e : ℕ) (s : State) (b : ℕ) → length (delay_list e s) ≤ 2 ^ 62 → AreTold s.entries ws → IsKnown ws e s
    → want_count b ws ≤ 2 ^ 62
known-few [] e s b few told k = omega arith
known-few (w ∷ ws) e s b few told k = omega (arith, k.counted told b, occurrences-few b (nexts e s), length-map (delay_list e s) (next_of s.transactions), few)

-- an entry of a table is no more than all are
pub entry-within : (es : List ℕ) (b : ℕ) → at 0 es b ≤ sum es
entry-within es b = at-le-sum 0 (λ (x : ℕ). x) es b refl

pub counted-of : (ws : List Want) (e : ℕ) (s : State) → 0 < length ws → IsKnown ws e s → IsCounted ws e s
counted-of [] e s some k = absurd (omega (arith, some))
counted-of (w ∷ ws) e s some k = k

-- nothing is known, or what was known
pub known-none : (s : State) → AreKnown [] s
known-none s e = tt

-- WHAT CALLS MAKE OF NEXT BLOCKS

pub written-same : (n : ℕ) (ts us : List (Option LiveTransaction)) (o : Option LiveTransaction) → us ≡ put None ts n o → SameBut n ts us
written-same n ts us o is k other = ap (λ xs. next_of xs k) is ∙ put-same n ts o k other

parameter_kept : (p : ℕ) (value : ℤ) (o : Option LiveTransaction) → next_in (option_map (with_parameter p value) o) ≡ next_in o
parameter_kept p value None = refl
parameter_kept p value (Some t) = refl

chain_kept : (chain : Option ℕ) (o : Option LiveTransaction) → next_in (option_map (with_chain chain) o) ≡ next_in o
chain_kept chain None = refl
chain_kept chain (Some t) = refl

-- a transaction is written that keeps its next block
written-next : (n : ℕ) (ts us : List (Option LiveTransaction)) (o : Option LiveTransaction) → us ≡ put None ts n o → next_in o
    ≡ next_of ts n → (k : ℕ) → next_of us k ≡ next_of ts k
written-next n ts us o is same k = elim (cases_eq k n) [
  | inl e ↦ ap (λ xs. next_of xs k) is ∙ ap (next_of (put None ts n o)) e ∙ ap next_in (at-put None ts n o) ∙ same ∙ sym (ap (next_of ts) e)
  | inr other ↦ written-same n ts us o is k other
]

pub assigned-next : (n p : ℕ) (value : ℤ) (ts us : List (Option LiveTransaction)) → us ≡ put_parameter n p value ts → (k : ℕ) → next_of us k ≡ next_of ts k
assigned-next n p value ts us is k = written-next n ts us _ is (parameter_kept p value (at None ts n)) k

pub chained-next : (n : ℕ) (chain : Option ℕ) (ts us : List (Option LiveTransaction)) → us ≡ put_chain n chain ts → (k : ℕ) → next_of us k ≡ next_of ts k
chained-next n chain ts us is k = written-next n ts us _ is (chain_kept chain (at None ts n)) k

-- a transaction is written, and leaves its user chain
pub unlinked-same : (n : ℕ) (t : Transaction) (ts mid us : List (Option LiveTransaction)) → mid ≡ put_attributes n t ts → us
    ≡ put_chain n None mid → SameBut n ts us
unlinked-same n t ts mid us set put k other = chained-next n None mid us put k ∙ written-same n ts mid _ set k other

-- the first of a user chain is on it
pub first-chained : (m : Configuration) (c : ℕ) (tx : Tx) → first (at [] m.chains.lists c) ≡ Some tx → 1 ≤ occurrences tx.number (user_chain c (state_of m))
first-chained m c tx is =
    let all = ap (occurrences tx.number) (user_chain-at m c ∙ begins-with (at [] m.chains.lists c) tx is) in
    omega (arith, all, same_number tx.number tx.number refl)

-- who is active turns
pub known-turned : (known : List (List Want)) (n : ℕ) (t : Transaction) (next : ℕ) (s : State)
    → ((e : ℕ) → occurrences n (delay_list e s) ≡ 0) → AreKnown known s → AreKnown known (turn_to n t next s)
known-turned known n t next s none k = known-apart known n s (turn_to n t next s) (put-same n s.transactions _) refl refl none k

-- all that was known is known of the active transaction's turn or entry, or nothing is
pub forgotten-unless : (known knew : List (List Want)) (active : Option Tx) (tx : Tx) (s new : State) → s.lists.active
    ≡ option_map (λ (x : Tx). x.number) active → ResidesOnce s
    → (knew ≡ []) ⊎ ((knew ≡ known) × (option_map (λ (x : Tx). x.number) active ≡ Some tx.number))
    → (((e : ℕ) → occurrences tx.number (delay_list e s) ≡ 0) → AreKnown known new) → AreKnown knew new
forgotten-unless known knew active tx s new is h (inl none) kept = subst (λ ws. AreKnown ws new) (sym none) (known-none new)
forgotten-unless known knew active tx s new is h (inr same) kept =
    subst (λ ws. AreKnown ws new) (sym same.0) (kept (alone tx.number s (is ∙ same.1) h).delay_lists)
