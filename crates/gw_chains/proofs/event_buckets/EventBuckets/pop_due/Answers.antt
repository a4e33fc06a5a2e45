use Rattle.std.proofs.Common.{rules, ◌≡◌, ◌∙◌, ℕ, ℤ, List, [], ◌∷◌, Option, Some, None, true, false, option_map, ap, subst}
use Rattle.std.specs.Prelude.{int_le}
use Rattle.slab.specs.Slab.{get}
use Rattle.gw_members.specs.Chain.{first}
use Rattle.gw_members.specs.Members.{first_due}
use Rattle.gw_members.specs.declared.tx.Event.{Event}
use Rattle.gw_chains.specs.Chunks.{all_of}
use Rattle.gw_chains.specs.Events.{Bucketed}
use Rattle.gw_chains.specs.Buckets.{members_of, AreBuckets}
use Rattle.gw_chains.specs.declared.bucket.Bucket.{Bucket}
use Rattle.gw_chains.specs.declared.bucket.Link.{Link}
use Rattle.gw_chains.proofs.Leaving.{first_rank_of}
use Rattle.gw_chains.proofs.event_buckets.EventBuckets.pop_due.Goals as goal

none_due : (now rank : ℤ) (xs : List Event) → Some rank ≡ option_map (λ (e : Event). e.time) (first xs) → int_le rank now ≡ false → None ≡ first_due now xs
none_due now rank [] is later = absurd cc
none_due now rank (x ∷ xs) is later =
    let same : rank ≡ x.time = cc in
    let fails : int_le x.time now ≡ false = subst (λ r. int_le r now ≡ false) same later in
    rw fails (λ i. None)

one_due : (now rank : ℤ) (xs : List Event) (e : Event) → Some rank ≡ option_map (λ (e : Event). e.time) (first xs) → int_le rank now ≡ true
    → Some e ≡ first xs → Some e.tx ≡ first_due now xs
one_due now rank [] e is due none = absurd cc
one_due now rank (x ∷ xs) e is due there =
    let same : rank ≡ x.time = cc in
    let passes : int_le x.time now ≡ true = subst (λ r. int_le r now ≡ true) same due in
    rw passes (ap (option_map (λ (e : Event). e.tx)) there)

-- the rank of the first bucket is the time of the first event
ranked : (S : ℕ → Option (Link Event)) (bs : List Bucket) (b : Bucket) (v : Bucketed) → AreBuckets (λ (e : Event). e.time) S bs
    → members_of S bs ≡ v.items → Some b ≡ first bs → Some b.rank ≡ option_map (λ (e : Event). e.time) (first v.items)
ranked S bs b v are shown there =
    ap (option_map (λ (b : Bucket). b.rank)) there
    ∙ first_rank_of (λ (e : Event). e.time) S bs are
    ∙ ap (λ es. option_map (λ (e : Event). e.time) (first es)) shown

pub returns-then-not-is_due-clause-first : goal.returns-then-not-is_due-clause-first
returns-then-not-is_due-clause-first c =
    let shown = ap (λ (v : Bucketed). v.items) c.self.view_is in
    let later : int_le c.in_ok-bucket.bucket.rank c.args.time ≡ false = search rules in
    none_due c.args.time c.in_ok-bucket.bucket.rank c.args.self.now.items
    (ranked (get c.self.inside.links) (all_of c.self.inside.chunks.items) c.in_ok-bucket.bucket c.args.self.now c.self.invariant.0.0 shown
    c.in_ok-bucket.ensures)
    later

pub returns-clause-first : goal.returns-clause-first
returns-clause-first c =
    let shown = ap (λ (v : Bucketed). v.items) c.self.view_is in
    let due_now : int_le c.in_ok-bucket.bucket.rank c.args.time ≡ true = search rules in
    one_due c.args.time c.in_ok-bucket.bucket.rank c.args.self.now.items c.pop_from-event.result
    (ranked (get c.self.inside.links) (all_of c.self.inside.chunks.items) c.in_ok-bucket.bucket c.args.self.now c.self.invariant.0.0 shown
    c.in_ok-bucket.ensures)
    due_now
    (c.pop_from-event.ensures.first.0 ∙ ap first shown)
