-- What a state weighs, summed in memory as it is defined.
use Rattle.std.proofs.Common.{◌≡◌, ◌≢◌, ◌≤◌, ℕ, zero, suc, ◌+◌, ◌*◌, ℤ, List, [], ◌∷◌, map, length, Option, Some, None, IfSome, Bool, true, false}
use Rattle.std.proofs.Common.{if◌then◌else◌, ◌==◌, refl, sym, ap, subst, ◌∙◌, arith, inl, inr}
use Rattle.std.specs.Prelude.{All, sum, sum_by, slice_index_or, int_lt, ◌&&◌, ◌||◌, is_some, IsPermutation}
use Rattle.std.specs.List.{list_any}
use Rattle.std.proofs.lemmas.Bool.{cases_lt, eq-eqb, ne_eqb}
use Rattle.std.proofs.lemmas.List.{get_or_past}
use Rattle.std.proofs.lemmas.List.Sums.{sum_by-cons}
use Rattle.std.proofs.lemmas.List.Sorted.{sum_by-IsPermutation}
use Rattle.std.proofs.lemmas.Nat.{mul-le}
use Rattle.gw_object.specs.declared.parts.Parts.{Parts}
use Rattle.gw_object.specs.Limits.{greatest_weight}
use Rattle.gw_object.specs.Grammar.{SlopeFits, HasSpelling}
use Rattle.gw_num.specs.Table.{at, tabulate}
use Rattle.gw_num.proofs.Tables.{sum_by-replicate, tabulate-replicate, at_past}
use Rattle.gw_transactions.specs.Transactions.{LiveTransaction, ListedTransaction, listed_as, listed_transactions}
use Rattle.gw_rules.specs.Weights.{weight_at, slope_at}
use Rattle.gw_members.specs.declared.tx.Event.{Event}
use Rattle.gw_machine.specs.Configuration.{Configuration}
use Rattle.gw_machine.specs.View.{state_of, event_of}
use Rattle.gw_step.specs.State.{FutureEvent, State}
use Rattle.gw_step.specs.Changes.{numbers}
use Rattle.gw_step.specs.Residence.{occurrences, ResidesOnce}
use Rattle.gw_step.specs.Turning.{two_next}
use Rattle.gw_step.proofs.Sums.{sum-same, sum-but_one, sum-tabulate_at}
use Rattle.gw_step.proofs.Residence.{same_number, at_most_one}
use Rattle.gw_step.proofs.Weighing.{not_there}
use Rattle.gw_step.specs.Weight.{is_later, weight_by, weight_in, weighs, weight}
use Rattle.gw_scan.specs.Weighing.{later_weight, owed_weight}

-- AT MOST

-- a weight of a certificate, or none
listed_weighs : (weights : List ℕ) (i : ℕ) → All (λ weight. (1 ≤ weight) × (weight ≤ greatest_weight)) weights → slice_index_or weights i 0 ≤ greatest_weight
listed_weighs weights i each = elim (cases_lt i (length weights)) [
  | inl within ↦ (each i 0 within).1
  | inr beyond ↦ omega (arith, get_or_past weights i 0 beyond)
]

-- the weight of a block
pub block_weighs : (p : Parts) → HasSpelling p → (b : ℕ) → weight_at p.weights b ≤ greatest_weight
block_weighs p spelled zero = omega arith
block_weighs p spelled (suc i) = listed_weighs p.weights i spelled.limits.each_weight

-- the slope of a block
pub slope_fits : (p : Parts) → HasSpelling p → (b : ℕ) → IfSome (slope_at p.slopes b) SlopeFits
slope_fits p spelled zero = tt
slope_fits p spelled (suc i) = elim (cases_lt i (length p.slopes)) [
  | inl within ↦ spelled.limits.each_slope i None within
  | inr beyond ↦ subst (λ slope. IfSome slope SlopeFits) (sym (get_or_past p.slopes i None beyond)) tt
]

-- there is no block 0, and the others owe at most so much
pub owed_less : (p : Parts) (scheduled : List ℕ) (b most : ℕ) → owed_weight p scheduled b ≤ most → owed_weight p scheduled b ≤ b * most
owed_less p scheduled zero most few = omega arith
owed_less p scheduled (suc i) most few = omega (arith, few, mul-le 1 most (suc i) most (omega arith) (omega arith))

-- ALL THAT ARE LIVE

-- the weight of the place of a live transaction, as it is listed
abbrev pub listed_weight : Parts → ListedTransaction → ℕ
listed_weight p t = weight_by p t.1 t.0.next (two_next p t.0) t.2

all_listed : (p : Parts) (txs : List (Option LiveTransaction)) → sum_by (listed_weight p) (listed_transactions txs) ≡ sum_by (weight_in p) txs
all_listed p [] = refl
all_listed p (None ∷ txs) = omega (arith, all_listed p txs, sum_by-cons (weight_in p) None txs)
all_listed p (Some t ∷ txs) =
    omega (arith, all_listed p txs, sum_by-cons (weight_in p) (Some t) txs, sum_by-cons (listed_weight p) (listed_as t) (listed_transactions txs))

-- in whatever order they are listed, they weigh the same together
pub all_weigh : (p : Parts) (txs : List (Option LiveTransaction)) (all : List ListedTransaction)
    → IsPermutation (listed_transactions txs) all → sum_by (listed_weight p) all ≡ sum_by (weight_in p) txs
all_weigh p txs all same = sum_by-IsPermutation (listed_weight p) (listed_transactions txs) all same ∙ all_listed p txs

-- BY NUMBER

-- the sum of two functions' sums
sum-tabulate_both : (f g h : ℕ → ℕ) (n : ℕ) → ((k : ℕ) → f k + g k ≡ h k) → sum (tabulate f n) + sum (tabulate g n) ≡ sum (tabulate h n)
sum-tabulate_both f g h zero same = refl
sum-tabulate_both f g h (suc n) same =
    let later = λ (f : ℕ → ℕ) (k : ℕ). f (suc k) in
    omega (
      arith,
      same 0,
      sum-tabulate_both (later f) (later g) (later h) n (λ k. same (suc k)),
      sum_by-cons (λ (x : ℕ). x) (f 0) (tabulate (later f) n),
      sum_by-cons (λ (x : ℕ). x) (g 0) (tabulate (later g) n),
      sum_by-cons (λ (x : ℕ). x) (h 0) (tabulate (later h) n),
    )

-- THOSE THAT ARE SCHEDULED FOR LATER

-- what is counted of a number where one of these events schedules it for later than a time
abbrev part : (ℕ → ℕ) → ℤ → List FutureEvent → ℕ → ℕ
part f time es n = if list_any (λ (e : FutureEvent). (e.number == n) && int_lt time e.time) es then f n else 0

-- a number that may be counted, or not
counted_as : (b : Bool) (x : ℕ) → (if (b || false) then x else 0) ≡ (if b then x else 0)
counted_as true x = refl
counted_as false x = refl

counts_none : (b : Bool) (x : ℕ) → x ≡ 0 → (if b then x else 0) ≡ 0
counts_none true x none = none
counts_none false x none = refl

counted_once : (b : Bool) (x : ℕ) → (if b then 0 else x) + (if b then x else 0) ≡ x
counted_once true x = omega arith
counted_once false x = omega arith

-- where each number occurs at most once, the sum over the numbers is that over the events
later_weigh : (f : ℕ → ℕ) (most : ℕ) → ((n : ℕ) → most ≤ n → f n ≡ 0) → (time : ℤ) (es : List FutureEvent)
    → ((n : ℕ) → occurrences n (numbers es) ≤ 1) → sum (tabulate (part f time es) most)
    ≡ sum_by (λ (e : FutureEvent). if int_lt time e.time then f e.number else 0) es
later_weigh f most past time [] once = ap sum (tabulate-replicate 0 most) ∙ sum_by-replicate 0 (λ (x : ℕ). x) most refl
later_weigh f most past time (e ∷ es) once =
    let k = e.number in
    let later = int_lt time e.time in
    let others = λ (n : ℕ). list_any (λ (e : FutureEvent). (e.number == n) && int_lt time e.time) es in
    let single : occurrences k (numbers es) ≡ 0 = omega (arith, once k, same_number k k refl) in
    let none : others k ≡ false = not_there time k es single in
    let now : part f time (e ∷ es) k ≡ (if later then f k else 0) =
    ap (λ b. if ((b && later) || others k) then f k else 0) (eq-eqb k k refl)
    ∙ ap (λ b. if (later || b) then f k else 0) none
    ∙ counted_as later (f k) in
    let before : part f time es k ≡ 0 = ap (λ b. if b then f k else 0) none in
    let same : (j : ℕ) → j ≢ k → part f time (e ∷ es) j ≡ part f time es j =
    λ j other. ap (λ b. if ((b && later) || others j) then f j else 0) (ne_eqb k j (λ same. other (sym same))) in
    let sums = later_weigh f most past time es (λ n. omega (arith, once n)) in
    let first = sum_by-cons (λ (e : FutureEvent). if int_lt time e.time then f e.number else 0) e es in
    elim (cases_lt k most) [
      | inl within ↦ omega (arith, sums, first, now, before, sum-but_one (part f time es) (part f time (e ∷ es)) most k within same)
      | inr beyond ↦ omega (
        arith,
        sums,
        first,
        counts_none later (f k) (past k beyond),
        sum-same (part f time es) (part f time (e ∷ es)) most (λ j below. same j (λ is. absurd (omega (arith, is, below, beyond)))),
      )
    ]

-- THE WHOLE STATE

-- no number is scheduled twice
scheduled_once : (s : State) → ResidesOnce s → (n : ℕ) → occurrences n (numbers s.lists.future_events) ≤ 1
scheduled_once s h n = omega (arith, h n, at_most_one (is_some (at None s.transactions n)))

-- what a state weighs, and those of its transactions that are scheduled for later, is what all of them weigh and what is owed
pub weight-is : (p : Parts) (s : State) → ResidesOnce s → length s.scheduled ≡ length p.blocks + 1 → weight p s
    + sum_by (λ (e : FutureEvent). if int_lt s.clock e.time then weight_in p (at None s.transactions e.number) else 0)
    s.lists.future_events ≡ sum_by (weight_in p) s.transactions + sum (tabulate (owed_weight p s.scheduled) (length s.scheduled))
unfolding weight
weight-is p s resides whole =
    let f = λ (n : ℕ). weight_in p (at None s.transactions n) in
    let live = length s.transactions in
    omega (
      arith,
      sum-tabulate_both (weighs p s) (part f s.clock s.lists.future_events) f live (λ n. counted_once (is_later s n) (f n)),
      sum-tabulate_at (weight_in p) s.transactions,
      later_weigh f live (λ n beyond. ap (weight_in p) (at_past None s.transactions n beyond)) s.clock s.lists.future_events (scheduled_once s resides),
      ap (λ n. sum (tabulate (owed_weight p s.scheduled) n)) whole,
    )

-- THE SAME OF A MACHINE

-- the sum over a machine's events is that over the state's
later_events : (p : Parts) (txs : List (Option LiveTransaction)) (time : ℤ) (es : List Event)
    → sum_by (λ (e : FutureEvent). if int_lt time e.time then weight_in p (at None txs e.number) else 0) (map event_of es) ≡ sum_by (later_weight p txs time) es
later_events p txs time [] = refl
later_events p txs time (e ∷ es) =
    omega (
      arith,
      later_events p txs time es,
      sum_by-cons (later_weight p txs time) e es,
      sum_by-cons (λ (e : FutureEvent). if int_lt time e.time then weight_in p (at None txs e.number) else 0) (event_of e) (map event_of es),
    )

pub machine_weight-is : (p : Parts) (m : Configuration) → ResidesOnce (state_of m) → length m.scheduled ≡ length p.blocks + 1
    → weight p (state_of m) + sum_by (later_weight p m.transactions.txs m.clock) m.future_events.items
    ≡ sum_by (weight_in p) m.transactions.txs + sum (tabulate (owed_weight p m.scheduled) (length m.scheduled))
machine_weight-is p m resides whole =
    omega (arith, weight-is p (state_of m) resides whole, later_events p m.transactions.txs m.clock m.future_events.items)
