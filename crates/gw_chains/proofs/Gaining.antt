-- Members in buckets: what a newcomer makes of them, whether it goes behind its peers or ahead of them.
use Rattle.std.proofs.Common.{◌≡◌, ◌≢◌, ◌∙◌, ℕ, ℤ, ◌+◌, List, ◌∷◌, ◌++◌, Some, None, Bool, true, false, sym, ap, arith, inl, inr}
use Rattle.std.proofs.lemmas.Bool.{cases_eq}
use Rattle.std.specs.Prelude.{AllPairs}
use Rattle.std.specs.List.{AllByRecursion}
use Rattle.gw_members.specs.Chain.{placed_behind}
use Rattle.gw_chains.specs.Chunks.{begins_in}
use Rattle.gw_chains.specs.Buckets.{once, times, Links, run, links_of, member_at, members_at, members_of, total, bucket_of_one, one_if_there, Before}
use Rattle.gw_chains.specs.Buckets.{IsBucket, AreBuckets, GainMember}
use Rattle.gw_chains.specs.declared.bucket.Bucket.{Bucket}
use Rattle.gw_chains.proofs.Linking.{once-same, once-other, times-append, Alike, run-same, links-same, members-same, members-append, buckets-same}
use Rattle.gw_chains.proofs.Linking.{bucket-same, was_other, run_alone, alone_is_bucket, placed_past, placed_first, AreLed}

module _ {X : Type 0} (rank : X → ℤ) (S T : Links X) (e : X) (j x : ℕ) (vacant : S j ≡ None) (there : T j ≡ Some (record { member = e; next = x })) where
  -- links that were there are the same where only the newcomer's is new
  pub alike_led : (ks : List ℕ) → AreLed S ks → ((k : ℕ) → k ≢ j → T k ≡ S k) → Alike S T ks
  alike_led ks led others k some = others k (was_other S T e j x vacant there k (led.leads k some))

  module _ (p : X → Bool) where
    -- what buckets are after the newcomer
    pub record Gain (bs ws : List Bucket) : Type 0 where
      pub members : members_of T ws ≡ placed_behind p e (members_of S bs)
      pub links : (i : ℕ) → times i (links_of T ws) ≡ times i (links_of S bs) + once i j
      pub each : AllByRecursion (IsBucket rank T) ws
      pub many : total ws ≡ total bs + 1

    -- it stands before all buckets
    pub before_all : (bs : List Bucket) → Alike S T (links_of S bs) → AllByRecursion (IsBucket rank S) bs → begins_in p (members_of S bs)
        ≡ false → Gain bs (bucket_of_one rank e j ∷ bs)
    before_all bs alike each fails =
        let same = links-same S T bs alike in
        let whole : links_of T (bucket_of_one rank e j ∷ bs) ≡ j ∷ links_of S bs =
        ap (λ zs. zs ++ links_of T bs) (run_alone S T e j x vacant there) ∙ ap (λ zs. j ∷ zs) same in
        record {
          members =
              ap (members_at T) whole
              ∙ ap (λ o. member_at o ++ members_at T (links_of S bs)) there
              ∙ ap (λ zs. e ∷ zs) (members-same S T (links_of S bs) (λ k some. ap member_at (alike k some)))
              ∙ sym (placed_first p e (members_of S bs) fails);
          links = λ i. omega (arith, ap (times i) whole);
          each = (alone_is_bucket S T e j x vacant there rank, buckets-same rank S T bs alike each);
          many = omega arith;
        }

    -- or it goes past a bucket
    pub past : (b : Bucket) (bs ws : List Bucket) → Alike S T (run S b.count b.first)
        → AllByRecursion (λ y. p y ≡ true) (members_at S (run S b.count b.first)) → IsBucket rank S b → Gain bs ws → Gain (b ∷ bs) (b ∷ ws)
    past b bs ws alike passes is gain =
        let here = run S b.count b.first in
        let back = links_of S bs in
        let same = run-same S T b.count b.first alike in
        let old = members_at S here in
        record {
          members =
              ap (λ zs. members_at T (zs ++ links_of T ws)) same
              ∙ members-append T here (links_of T ws)
              ∙ ap (λ zs. zs ++ members_of T ws) (members-same S T here (λ k some. ap member_at (alike k some)))
              ∙ ap (λ zs. old ++ zs) gain.members
              ∙ sym (placed_past p e old (members_of S bs) passes)
              ∙ ap (placed_behind p e) (sym (members-append S here back));
          links = λ i. omega (
            arith,
            ap (λ zs. times i (zs ++ links_of T ws)) same,
            times-append i here (links_of T ws),
            times-append i here back,
            gain.links i,
          );
          each = (bucket-same rank S T b alike is, gain.each);
          many = omega (arith, gain.many);
        }

    -- all that is known of buckets then
    pub gain_member : (bs ws : List Bucket) → AreBuckets rank S bs → AllPairs Before ws
        → ((i : ℕ) → i ≢ j → one_if_there (T i) ≡ one_if_there (S i)) → Gain bs ws → GainMember rank p e S bs T ws
    gain_member bs ws are order as_before gain = (
      gain.members,
      record {
        order = order;
        each = gain.each;
        owned = λ i. elim (cases_eq i j) [
          | inl is ↦
              let none : times i (links_of S bs) ≡ 0 = are.owned i ∙ ap one_if_there (ap S is ∙ vacant) in
              let one : one_if_there (T i) ≡ 1 = ap one_if_there (ap T is ∙ there) in
              omega (arith, gain.links i, none, one, once-same i j (sym is))
          | inr other ↦ omega (arith, gain.links i, are.owned i, as_before i other, once-other i j (λ clash. other (sym clash)))
        ];
      },
      gain.many,
    )
