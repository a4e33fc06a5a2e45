-- Hand-over and admission, as the machine walks its delay lists.
use Rattle.std.proofs.Common.{◌⊎◌, inl, inr, ◌≡◌, ℕ, zero, suc, ◌+◌, ◌^◌, ◌≤◌, ◌<◌, List, [], ◌∷◌, map, length, drop, Option, Some, None, Bool, true}
use Rattle.std.proofs.Common.{false, option_map, refl, sym, ap, ◌∙◌, subst, arith}
use Rattle.std.specs.Prelude.{slice_get, remove, sum_by}
use Rattle.std.proofs.lemmas.List.{length-map}
use Rattle.std.proofs.lemmas.List.Sums.{sum_by-cons}
use Rattle.std.specs.Option.{option_map_or}
use Rattle.gw_object.specs.declared.blocks.Block.{Block}
use Rattle.gw_num.specs.Table.{at}
use Rattle.gw_members.specs.declared.tx.Tx.{Tx}
use Rattle.gw_members.specs.declared.tx.Member.{Member}
use Rattle.gw_transactions.specs.Transactions.{attributes_at}
use Rattle.gw_entities.specs.declared.facilities.Facility.{Facility}
use Rattle.gw_entities.specs.Numbered.{ByNumber}
use Rattle.gw_machine.specs.Configuration.{Configuration}
use Rattle.gw_step.specs.State.{State, delay_list}
use Rattle.gw_step.specs.Blocks.{takes_over, hand_over, units_asked, enters_if_free, admit_by, looked_at, is_full, admission}
use Rattle.gw_step.specs.Changes.{storage, put_storage, called_from, enters_and_falls}
use Rattle.gw_step.specs.Operands.{BlocksFit}
use Rattle.gw_step.proofs.Outcomes.{choose, by_option}
use Rattle.gw_entities.specs.Storage.{has_room, with_entries}
use Rattle.gw_rules.specs.Kinds.{block_at}
use Rattle.gw_object.specs.declared.blocks.Units.{Units}
use Rattle.gw_object.specs.declared.blocks.Block.TheVariants as blocks
use Rattle.gw_transactions.specs.declared.Transaction.{Transaction}
use Rattle.std.proofs.lemmas.Bool.{leb-true}
use Rattle.gw_step.specs.Residence.{occurrences}
use Rattle.gw_step.specs.Numbers.{IsWithin, made_in}
use Rattle.gw_machine.specs.View.{state_of, member_number}
use Rattle.gw_machine.specs.Coherence.{IsSteady}
use Rattle.gw_machine.specs.Leaving.{Moves}
use Rattle.gw_machine.specs.Admission.{AsksInVain}
use Rattle.gw_machine.proofs.Changes.{delay_list-at}
use Rattle.gw_step.proofs.Follows.{within-looked_at, asked-enter}
use Rattle.gw_machine.proofs.Waiters.{occurs-at, length-remove}

abbrev pub handle : Member → Tx
handle m = m.tx

-- the number of who is at a place
numbered : (o : Option Member) (tx : Tx) → option_map handle o ≡ Some tx → option_map member_number o ≡ Some tx.number
numbered None tx h = absurd cc
numbered (Some x) tx h = let is : x.tx ≡ tx = cc in ap (λ (t : Tx). Some t.number) is

first-of : (bs : List Block) (f : ℕ) (s : State) (xs : List Member) (tx : Tx) → option_map handle (slice_get xs 0) ≡ Some tx
    → hand_over bs f (map member_number xs) s ≡ option_map_or (takes_over bs f tx.number s) (attributes_at tx.number s.transactions) s
first-of bs f s [] tx h = absurd cc
first-of bs f s (x ∷ xs) tx h = let is : x.tx ≡ tx = cc in
    ap (λ (t : Tx). option_map_or (takes_over bs f t.number s) (attributes_at t.number s.transactions) s) is

none-of : (bs : List Block) (f : ℕ) (s : State) (xs : List Member) → option_map handle (slice_get xs 0) ≡ None → hand_over bs f (map member_number xs) s ≡ s
none-of bs f s [] h = refl
none-of bs f s (x ∷ xs) h = absurd cc

module _ (bs : List Block) (m : Configuration) (e : ℕ) (below : e < length m.entities.facilities.values) where
  pub handed-first : (tx : Tx) → option_map handle (slice_get (at [] m.waits.lists e) 0) ≡ Some tx
      → hand_over bs e (delay_list e (state_of m)) (state_of m)
      ≡ option_map_or (takes_over bs e tx.number (state_of m)) (attributes_at tx.number m.transactions.txs) (state_of m)
  handed-first tx h = ap (λ ns. hand_over bs e ns (state_of m)) (delay_list-at m e) ∙ first-of bs e (state_of m) (at [] m.waits.lists e) tx h

  pub handed-none : option_map handle (slice_get (at [] m.waits.lists e) 0) ≡ None → hand_over bs e (delay_list e (state_of m)) (state_of m) ≡ state_of m
  handed-none h = ap (λ ns. hand_over bs e ns (state_of m)) (delay_list-at m e) ∙ none-of bs e (state_of m) (at [] m.waits.lists e) h

  pub steady-looked_at : (k : ℕ) → IsSteady bs k m → (i : ℕ) (tx : Tx) → option_map handle (slice_get (at [] m.waits.lists e) i) ≡ Some tx
      → (new : Configuration) → state_of new ≡ looked_at bs e tx.number (state_of m) → new.entities.facilities ≡ m.entities.facilities → IsSteady bs k new
  steady-looked_at k s i tx there new is fac =
      let waits : 1 ≤ occurrences tx.number (delay_list e (state_of m)) =
      rw (delay_list-at m e) (occurs-at tx.number (at [] m.waits.lists e) i (numbered (slice_get (at [] m.waits.lists e) i) tx there)) in
      record {
        fit = rw fac s.fit;
        within = subst (λ (n : ℕ). IsWithin (length bs) n k (made_in k) (state_of new)) (sym (ap (λ (f : ByNumber Facility). length f.values) fac))
            (subst (λ (t : State). IsWithin (length bs) (length m.entities.facilities.values) k (made_in k) t) (sym is)
            (within-looked_at bs (length m.entities.facilities.values) k (made_in k) s.fit (state_of m) s.within e tx.number waits));
        few = s.few;
      }

-- a delay list is no longer than all are
length-one : (xs : List (List ℕ)) (e : ℕ) → length (at [] xs e) ≤ sum_by length xs
length-one [] e = omega arith
length-one (x ∷ xs) zero = omega (arith, sum_by-cons length x xs)
length-one (x ∷ xs) (suc e) = omega (arith, sum_by-cons length x xs, length-one xs e)

pub few-wait : (bs : List Block) (k : ℕ) (m : Configuration) → IsSteady bs k m → (e : ℕ) → length (at [] m.waits.lists e) ≤ 2 ^ 41
few-wait bs k m s e =
    let here : length (delay_list e (state_of m)) ≡ length (at [] m.waits.lists e) = ap length (delay_list-at m e)
    ∙ length-map (at [] m.waits.lists e) member_number in
    omega (arith, here, length-one (state_of m).lists.delay_lists e, s.within.entries, s.few)

-- THE WALK

drop-at : (xs : List Member) (i : ℕ) (tx : Tx) → option_map handle (slice_get xs i) ≡ Some tx → drop i (map member_number xs) ≡ tx.number
    ∷ drop (i + 1) (map member_number xs)
drop-at [] i tx h = absurd cc
drop-at (x ∷ xs) zero tx h = let is : x.tx ≡ tx = cc in ap (λ (t : Tx). t.number ∷ map member_number xs) is
drop-at (x ∷ xs) (suc i) tx h =
    let e : suc i + 1 ≡ suc (i + 1) = omega arith in
    drop-at xs i tx h ∙ ap (λ k. tx.number ∷ drop k (map member_number (x ∷ xs))) (sym e)

drop-removed : (xs : List Member) (i : ℕ) (tx : Tx) → option_map handle (slice_get xs i) ≡ Some tx
    → drop i (map member_number (remove xs i)) ≡ drop (i + 1) (map member_number xs)
drop-removed [] i tx h = absurd cc
drop-removed (x ∷ xs) zero tx h = refl
drop-removed (x ∷ xs) (suc i) tx h =
    let e : suc i + 1 ≡ suc (i + 1) = omega arith in
    drop-removed xs i tx h ∙ ap (λ k. drop k (map member_number (x ∷ xs))) (sym e)

dropped-all : (xs : List Member) (i : ℕ) → option_map handle (slice_get xs i) ≡ None → drop i (map member_number xs) ≡ []
dropped-all [] zero h = refl
dropped-all [] (suc i) h = refl
dropped-all (x ∷ xs) zero h = absurd cc
dropped-all (x ∷ xs) (suc i) h = dropped-all xs i h

place-within : (xs : List Member) (i : ℕ) (tx : Tx) → option_map handle (slice_get xs i) ≡ Some tx → i < length xs
place-within [] i tx h = absurd cc
place-within (x ∷ xs) zero tx h = omega arith
place-within (x ∷ xs) (suc i) tx h = omega (arith, place-within xs i tx h)

admission-more : (bs : List Block) (e n : ℕ) (ns : List ℕ) (s : State) → admission bs e (n ∷ ns) s ≡ admission bs e ns (looked_at bs e n s)
unfolding admission
admission-more bs e n ns s = refl

pub admission-none : (bs : List Block) (e : ℕ) (s : State) → admission bs e [] s ≡ s
unfolding admission
admission-none bs e s = refl

-- what is left of a walk that came to this place
abbrev pub rest_of_walk : List Block → ℕ → ℕ → Configuration → State
rest_of_walk bs e i m = admission bs e (drop i (map member_number (at [] m.waits.lists e))) (state_of m)

-- the walk from its first place is the whole of it
pub walk-first : (bs : List Block) (e : ℕ) (m : Configuration) → rest_of_walk bs e 0 m ≡ admission bs e (delay_list e (state_of m)) (state_of m)
walk-first bs e m = ap (λ ns. admission bs e ns (state_of m)) (sym (delay_list-at m e))

-- the walk has come to its end
walk-last : (bs : List Block) (e i : ℕ) (m : Configuration) → option_map handle (slice_get (at [] m.waits.lists e) i) ≡ None
    → rest_of_walk bs e i m ≡ state_of m
walk-last bs e i m h = ap (λ ns. admission bs e ns (state_of m)) (dropped-all (at [] m.waits.lists e) i h) ∙ admission-none bs e (state_of m)

-- where nothing but the place of the walk and the rooms change, the same is left of it
pub walk-same : (bs : List Block) (e i : ℕ) (m new : Configuration) → new.waits.lists ≡ m.waits.lists → state_of new ≡ state_of m
    → rest_of_walk bs e i new ≡ rest_of_walk bs e i m
walk-same bs e i m new lists is =
    ap (λ (xs : List (List Member)). admission bs e (drop i (map member_number (at [] xs e))) (state_of new)) lists
    ∙ ap (admission bs e (drop i (map member_number (at [] m.waits.lists e)))) is

-- where no unit is free, nobody else enters
full-asks : (n : ℕ) (t : Transaction) (s : State) (u : Units) → is_full (storage u.entity s) ≡ true → 0 < u.number → enters_if_free n t s u ≡ s
full-asks n t s u full some =
    choose (λ x. x ≡ s) (has_room u.number (storage u.entity s))
    (put_storage u.entity (with_entries u.number (storage u.entity s)) (enters_and_falls n t (called_from u.entity n s))) s
    (λ free. absurd (omega (arith, leb-true _ _ full, leb-true _ _ free, some)))
    (λ none. refl)

full-looked_at : (bs : List Block) (es e n : ℕ) (s : State) → BlocksFit es bs → is_full (storage e s) ≡ true → looked_at bs e n s ≡ s
full-looked_at bs es e n s fit full =
    by_option (λ x. x ≡ s) (attributes_at n s.transactions) (admit_by bs e n s) s
    (λ t live.
    by_option (λ x. x ≡ s) (units_asked e (block_at bs t.next)) (enters_if_free n t s) s
    (λ u is.
    let a = asked-enter e (block_at bs t.next) u is in
    full-asks n t s u (subst (λ k. is_full (storage k s) ≡ true) (sym a.1) full) (fit.operands t.next (blocks.Enter u) a.0).some)
    (λ none. refl))
    (λ none. refl)

full-admission : (bs : List Block) (es e : ℕ) (ns : List ℕ) (s : State) → BlocksFit es bs → is_full (storage e s) ≡ true → admission bs e ns s ≡ s
full-admission bs es e [] s fit full = admission-none bs e s
full-admission bs es e (n ∷ ns) s fit full =
    admission-more bs e n ns s ∙ ap (admission bs e ns) (full-looked_at bs es e n s fit full) ∙ full-admission bs es e ns s fit full

-- where the units that the block of a waiter asks for aren't free, it doesn't enter
vain-enters : (n : ℕ) (t : Transaction) (s : State) (u : Units) → has_room u.number (storage u.entity s) ≡ false → enters_if_free n t s u ≡ s
vain-enters n t s u none = rw none refl

pub vain-looked_at : (bs : List Block) (e n : ℕ) (s : State) (t : Transaction) → attributes_at n s.transactions ≡ Some t
    → AsksInVain bs e t.next s → looked_at bs e n s ≡ s
vain-looked_at bs e n s t live vain =
    ap (λ o. option_map_or (admit_by bs e n s) o s) live
    ∙ by_option (λ x. x ≡ s) (units_asked e (block_at bs t.next)) (enters_if_free n t s) s (λ u is. vain-enters n t s u (vain u is)) (λ none. refl)

-- so nobody does where none of the others does
pub vain-first : (bs : List Block) (e n : ℕ) (ns : List ℕ) (s : State) → looked_at bs e n s ≡ s → admission bs e ns s ≡ s → admission bs e (n ∷ ns) s ≡ s
vain-first bs e n ns s stays rest = admission-more bs e n ns s ∙ ap (admission bs e ns) stays ∙ rest

-- the walk has come to its end, or may end since no unit is free
pub walk-ends : (bs : List Block) (es e i : ℕ) (m : Configuration) → BlocksFit es bs
    → (option_map handle (slice_get (at [] m.waits.lists e) i) ≡ None) ⊎ (is_full (storage e (state_of m)) ≡ true) → rest_of_walk bs e i m ≡ state_of m
walk-ends bs es e i m fit (inl none) = walk-last bs e i m none
walk-ends bs es e i m fit (inr full) = full-admission bs es e (drop i (map member_number (at [] m.waits.lists e))) (state_of m) fit full

-- one waiter was looked at: it left its place, or the walk goes on behind it
pub walk-on : (bs : List Block) (e i : ℕ) (m new : Configuration) (tx : Tx) (moved : Bool)
    → option_map handle (slice_get (at [] m.waits.lists e) i) ≡ Some tx → state_of new ≡ looked_at bs e tx.number (state_of m) → Moves moved e i m new
    → rest_of_walk bs e (elim moved [ true ↦ i | false ↦ i + 1 ]) new ≡ rest_of_walk bs e i m
walk-on bs e i m new tx true there is moves =
    let xs = at [] m.waits.lists e in
    ap (λ (ys : List Member). admission bs e (drop i (map member_number ys)) (state_of new)) moves.0
    ∙ ap (λ ns. admission bs e ns (state_of new)) (drop-removed xs i tx there)
    ∙ ap (admission bs e (drop (i + 1) (map member_number xs))) is
    ∙ sym (ap (λ ns. admission bs e ns (state_of m)) (drop-at xs i tx there) ∙ admission-more bs e tx.number (drop (i + 1) (map member_number xs)) (state_of m))
walk-on bs e i m new tx false there is moves =
    let xs = at [] m.waits.lists e in
    ap (λ (w : _). admission bs e (drop (i + 1) (map member_number (at [] w.lists e))) (state_of new)) moves.0
    ∙ ap (admission bs e (drop (i + 1) (map member_number xs))) is
    ∙ sym (ap (λ ns. admission bs e ns (state_of m)) (drop-at xs i tx there) ∙ admission-more bs e tx.number (drop (i + 1) (map member_number xs)) (state_of m))

pub left-moved : (e i : ℕ) (m new : Configuration) (tx : Tx) → option_map handle (slice_get (at [] m.waits.lists e) i) ≡ Some tx
    → Moves true e i m new → length (at [] new.waits.lists e) + 1 ≡ length (at [] m.waits.lists e)
left-moved e i m new tx there moves = ap (λ (xs : List Member). length xs + 1) moves.0 ∙ length-remove (at [] m.waits.lists e) i tx there

pub left-place : (e i : ℕ) (m : Configuration) (tx : Tx) → option_map handle (slice_get (at [] m.waits.lists e) i) ≡ Some tx → i
    < length (at [] m.waits.lists e)
left-place e i m tx there = place-within (at [] m.waits.lists e) i tx there
