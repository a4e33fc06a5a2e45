-- Members in buckets: the first leaves them.
use Rattle.std.proofs.Common.{◌≡◌, ◌≢◌, ◌∙◌, ℕ, ℤ, zero, suc, ◌-◌, ◌<◌, List, [], ◌∷◌, ◌++◌, length, Option, Some, None, IsSome, Bool, true, false}
use Rattle.std.proofs.Common.{if◌then◌else◌, refl, sym, ap, subst, arith, inl, inr}
use Rattle.std.proofs.lemmas.Bool.{cases_eq}
use Rattle.std.proofs.lemmas.Grind.{common_steps}
use Rattle.std.specs.Prelude.{AllPairs, nat_le, option_map, option_to_list}
use Rattle.std.specs.List.{AllByRecursion}
use Rattle.gw_members.specs.Chain.{first, rest}
use Rattle.gw_chains.specs.Buckets.{times, last_or, Links, run, links_of, member_at, members_at, members_of, total, one_if_there, without_first_link}
use Rattle.gw_chains.specs.Buckets.{Before, IsBucket, AreBuckets, LoseFirst}
use Rattle.gw_chains.specs.declared.bucket.Bucket.{Bucket}
use Rattle.gw_chains.specs.declared.bucket.Link.{Link}
use Rattle.gw_chains.proofs.Places.{pairs_cons, pairs_first, pairs_rest}
use Rattle.gw_chains.proofs.Linking.{once-same, once-other, times-first, times-append, run_some, some_of, Alike, run-same, links-same, members-same}
use Rattle.gw_chains.proofs.Linking.{buckets-same}
use Rattle.gw_chains.proofs.Joining.{led_of}

pub last_or_run : {X : Type 0} (d : ℕ) (S : Links X) (n k : ℕ) → 0 < n → last_or d (run S n k) ≡ last_or k (run S n k)
last_or_run d S zero k some = absurd (omega (arith, some))
last_or_run d S (suc n) k some = refl

pub first_in_run : {X : Type 0} (S : Links X) (n k : ℕ) → 0 < n → 0 < times k (run S n k)
first_in_run S zero k some = absurd (omega (arith, some))
first_in_run S (suc n) k some = times-first k _

same_bucket : (a c : Bucket) → Some a ≡ Some c → a ≡ c
same_bucket a c e = cc

module _ {X : Type 0} (rank : X → ℤ) where
  module _ (S T : Links X) (l : Link X) (b : Bucket) (bs : List Bucket) (is : S b.first ≡ Some l) (gone : T b.first ≡ None)
      (others : (k : ℕ) → k ≢ b.first → T k ≡ S k) (are : AreBuckets rank S (b ∷ bs)) where
    abbrev tail : List ℕ
    tail = run S (b.count - 1) l.next

    abbrev back : List ℕ
    back = links_of S bs

    abbrev shorter : Bucket
    shorter = record b { first = l.next; count = b.count - 1 }

    step : run S b.count b.first ≡ b.first ∷ tail
    step =
        let one : suc (b.count - 1) ≡ b.count = omega (arith, are.each.0.some) in
        sym (ap (λ m. run S m b.first) one) ∙ run_some S (b.count - 1) b.first l is

    whole : links_of S (b ∷ bs) ≡ b.first ∷ (tail ++ back)
    whole = ap (λ zs. zs ++ back) step

    alone_there : times b.first (tail ++ back) ≡ 0
    alone_there = omega (arith, (led_of rank S (b ∷ bs) are).single b.first, ap (times b.first) whole, once-same b.first b.first refl)

    alike : Alike S T (tail ++ back)
    alike k some = others k (λ same. absurd (omega (arith, alone_there, subst (λ i. 0 < times i (tail ++ back)) same some)))

    alike_tail : Alike S T tail
    alike_tail k some = alike k (omega (arith, some, times-append k tail back))

    alike_back : Alike S T back
    alike_back k some = alike k (omega (arith, some, times-append k tail back))

    shown : members_of S (b ∷ bs) ≡ l.member ∷ members_at S (tail ++ back)
    shown = ap (members_at S) whole ∙ ap (λ o. member_at o ++ members_at S (tail ++ back)) is

    -- where these are the buckets that are left
    module _ (ws : List Bucket) (links : links_of T ws ≡ tail ++ back) (order : AllPairs Before ws) (each : AllByRecursion (IsBucket rank T) ws) where
      left_with : LoseFirst rank (Some l.member) S (b ∷ bs) T ws
      left_with = (
        sym (ap first shown),
        ap (members_at T) links ∙ members-same S T (tail ++ back) (λ k some. ap member_at (alike k some)) ∙ sym (ap rest shown),
        record {
          order = order;
          each = each;
          owned = λ i. elim (cases_eq i b.first) [
            | inl same ↦
                let none : times i (tail ++ back) ≡ 0 = ap (λ k. times k (tail ++ back)) same ∙ alone_there in
                let empty : one_if_there (T i) ≡ 0 = ap one_if_there (ap T same ∙ gone) in
                omega (arith, ap (times i) links, none, empty)
            | inr other ↦
                let as_before : one_if_there (T i) ≡ one_if_there (S i) = ap one_if_there (others i other) in
                omega (arith, ap (times i) links, are.owned i, ap (times i) whole, as_before, once-other i b.first (λ clash. other (sym clash)))
          ];
        },
      )

    left_one : nat_le b.count 1 ≡ true → LoseFirst rank (Some l.member) S (b ∷ bs) T bs
    left_one few =
        let none : b.count - 1 ≡ 0 = grind (arith, common_steps) in
        left_with bs (links-same S T bs alike_back ∙ sym (ap (λ m. run S m l.next ++ back) none)) (pairs_rest Before b bs are.order)
        (buckets-same rank S T bs alike_back are.each.1)

    left_more : nat_le b.count 1 ≡ false → LoseFirst rank (Some l.member) S (b ∷ bs) T (shorter ∷ bs)
    left_more many =
        let some : 0 < b.count - 1 = grind (arith, common_steps) in
        let same = run-same S T (b.count - 1) l.next alike_tail in
        let members : members_at S (run S b.count b.first) ≡ l.member ∷ members_at S tail = ap (members_at S) step
        ∙ ap (λ o. member_at o ++ members_at S tail) is in
        left_with (shorter ∷ bs) (ap (λ zs. zs ++ links_of T bs) same ∙ ap (λ zs. tail ++ zs) (links-same S T bs alike_back))
        (pairs_cons Before shorter bs (pairs_first Before b bs are.order) (pairs_rest Before b bs are.order)) (
          record {
            some = some;
            last = ap (last_or l.next) same ∙ sym (last_or_run b.first S (b.count - 1) l.next some) ∙ sym (ap (last_or b.first) step) ∙ are.each.0.last;
            alike = subst (AllByRecursion (λ (y : X). rank y ≡ b.rank))
                (sym (ap (members_at T) same ∙ members-same S T tail (λ k some. ap member_at (alike_tail k some))))
                (subst (AllByRecursion (λ (y : X). rank y ≡ b.rank)) members are.each.0.alike).1;
          },
          buckets-same rank S T bs alike_back are.each.1,
        )

    left_first : LoseFirst rank (Some l.member) S (b ∷ bs) T (without_first_link l.next (b ∷ bs))
    left_first = by_test (nat_le b.count 1) refl
      where
        by_test : (p : Bool) → nat_le b.count 1 ≡ p → LoseFirst rank (Some l.member) S (b ∷ bs) T (if p then bs else shorter ∷ bs)
        by_test true few = left_one few
        by_test false many = left_more many

  -- the first link of the first bucket is there
  pub first_leads : (S : Links X) (bs : List Bucket) (b : Bucket) → Some b ≡ first bs → AreBuckets rank S bs → IsSome (S b.first)
  first_leads S [] b is are = absurd cc
  first_leads S (c ∷ cs) b is are =
      subst (λ (d : Bucket). IsSome (S d.first)) (sym (same_bucket b c is))
      ((led_of rank S (c ∷ cs) are).leads c.first
      (omega (arith, first_in_run S c.count c.first are.each.0.some, times-append c.first (run S c.count c.first) (links_of S cs))))

  pub left : (S T : Links X) (l : Link X) (bs : List Bucket) (b : Bucket) → Some b ≡ first bs → S b.first ≡ Some l → T b.first ≡ None
      → ((k : ℕ) → k ≢ b.first → T k ≡ S k) → AreBuckets rank S bs → LoseFirst rank (Some l.member) S bs T (without_first_link l.next bs)
  left S T l [] b is there gone others are = absurd cc
  left S T l (c ∷ cs) b is there gone others are =
      let same : b ≡ c = same_bucket b c is in
      left_first S T l c cs (ap S (ap (λ (d : Bucket). d.first) (sym same)) ∙ there)
      (ap T (ap (λ (d : Bucket). d.first) (sym same)) ∙ gone) (λ k other. others k (λ clash. other (clash ∙ ap (λ (d : Bucket). d.first) same))) are

  -- the rank of the first member is that of the first bucket
  pub first_rank_of : (S : Links X) (bs : List Bucket) → AreBuckets rank S bs → option_map (λ (b : Bucket). b.rank) (first bs)
      ≡ option_map rank (first (members_of S bs))
  first_rank_of S [] are = refl
  first_rank_of S (b ∷ bs) are =
      let s = some_of (S b.first) (first_leads S (b ∷ bs) b refl are) in
      let one : suc (b.count - 1) ≡ b.count = omega (arith, are.each.0.some) in
      let behind = run S (b.count - 1) s.0.next in
      let step : run S b.count b.first ≡ b.first ∷ behind = sym (ap (λ m. run S m b.first) one) ∙ run_some S (b.count - 1) b.first s.0 s.1 in
      let whole : members_of S (b ∷ bs) ≡ s.0.member ∷ members_at S (behind ++ links_of S bs) =
      ap (λ zs. members_at S (zs ++ links_of S bs)) step ∙ ap (λ o. member_at o ++ members_at S (behind ++ links_of S bs)) s.1 in
      let shown : members_at S (run S b.count b.first) ≡ s.0.member ∷ members_at S behind = ap (members_at S) step
      ∙ ap (λ o. member_at o ++ members_at S behind) s.1 in
      ap Some (sym (subst (AllByRecursion (λ (y : X). rank y ≡ b.rank)) shown are.each.0.alike).0) ∙ sym (ap (λ es. option_map rank (first es)) whole)

  -- somebody is the first where there are some
  pub first_one : (S : Links X) (bs : List Bucket) → AreBuckets rank S bs → 0 < total bs → length (option_to_list (first (members_of S bs))) ≡ 1
  first_one S [] are some = absurd (omega (arith, some))
  first_one S (b ∷ bs) are some = by_case (first (members_of S (b ∷ bs))) (first_rank_of S (b ∷ bs) are)
    where
      by_case : (o : Option X) → Some b.rank ≡ option_map rank o → length (option_to_list o) ≡ 1
      by_case None ranked = absurd cc
      by_case (Some x) ranked = refl
