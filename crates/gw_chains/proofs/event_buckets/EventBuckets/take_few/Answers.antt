use Rattle.std.proofs.Common.{◌≡◌, ◌∙◌, [], length, ap, sym, subst, arith}
use Rattle.std.proofs.lemmas.List.{length-reverse}
use Rattle.slab.specs.Slab.{get}
use Rattle.gw_chains.specs.Chunks.{all_of, IsChunk, IsSpare}
use Rattle.gw_chains.specs.Buckets.{members_of, AreBuckets, AreCounted}
use Rattle.gw_chains.specs.Events.{Bucketed}
use Rattle.gw_members.specs.declared.tx.Event.{Event}
use Rattle.gw_chains.proofs.Few.{no_bucket, some_bucket, no_chunk, one_chunk, All-last, All-before, All-one}
use Rattle.gw_chains.proofs.event_buckets.EventBuckets.take_few.Goals as goal
use Rattle.gw_chains.proofs.event_buckets.EventBuckets.take_few.Goals.{After-push_back_reserved}

-- there was no chunk
none : (c : After-push_back_reserved) → c.self.inside.chunks.items ≡ []
none c =
    no_chunk c.self.inside.chunks.items c.self.invariant.1
    (no_bucket (λ (e : Event). e.time) (get c.self.inside.links) (all_of c.self.inside.chunks.items) c.self.inside.count c.self.invariant.0
    (ap (λ (b : Bucketed). b.items) c.self.view_is ∙ c.requires.none))

-- those of the one chunk are all
all : (c : After-push_back_reserved) → all_of c.push_back_reserved.new.self.items ≡ c.fill.new.row.items
all c = one_chunk _ _ c.fill.new.row (none c) c.push_back_reserved.ensures.items

pub fill-requires-clause-buckets : goal.fill-requires-clause-buckets
fill-requires-clause-buckets c =
    subst (AreBuckets (λ (e : Event). e.time) (get c.self.inside.links))
    (no_bucket (λ (e : Event). e.time) (get c.self.inside.links) (all_of c.self.inside.chunks.items) c.self.inside.count c.self.invariant.0
    (ap (λ (b : Bucketed). b.items) c.self.view_is ∙ c.requires.none))
    c.self.invariant.0.0

pub invariant_of-self : goal.invariant_of-self
invariant_of-self c =
    let spare = All-last IsSpare _ _ c.in-Some.chunk (c.in-Some.ensures).items c.self.invariant.2 in
    let some = some_bucket c.fill.new.row.items (omega (arith, c.fill.ensures.total, c.requires.few)) in (
      subst (λ bs. AreCounted (λ (e : Event). e.time) (get c.fill.new.links) bs c.len-self-inside.result) (sym (all c)) (
        c.fill.ensures.buckets,
        omega (arith, c.len-self-inside.ensures, ap length c.fill.ensures.members, length-reverse c.args.few.now.items),
        omega (arith, c.len-self-inside.ensures, c.fill.ensures.total),
        omega (arith, c.len-self-inside.ensures, c.requires.few),
      ),
      All-one IsChunk _ _ c.fill.new.row (none c) c.push_back_reserved.ensures.items (record {
        some = omega (arith, some, c.fill.new.row.ok.0);
        less = omega (arith, c.fill.ensures.len, c.requires.few);
        room = omega (arith, c.fill.ensures.capacity, spare.room);
      }),
      All-before IsSpare _ _ c.in-Some.chunk (c.in-Some.ensures).items c.self.invariant.2,
    )

pub returns-in-Some-clause-items : goal.returns-in-Some-clause-items
returns-in-Some-clause-items c = ap (members_of (get c.fill.new.links)) (all c) ∙ c.fill.ensures.members
