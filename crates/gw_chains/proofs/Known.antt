-- A newcomer whose like stands at a known position in chunks.
use Rattle.std.proofs.Common.{◌≡◌, ◌∙◌, ℕ, zero, suc, ◌+◌, ◌<◌, List, [], ◌∷◌, ◌++◌, length, take, drop, Some, Bool, true, refl, sym, ap, subst}
use Rattle.std.proofs.Common.{arith, get_or, set, append_assoc}
use Rattle.std.specs.List.Sorted.{IsPartitionedBy}
use Rattle.std.specs.declared.collections.VecDeque.{VecDeque}
use Rattle.gw_chains.specs.Newcomers.{host, with_newcomer, IsHostLast}
use Rattle.gw_chains.specs.Chunks.{all_of, StandsAt}
use Rattle.gw_chains.proofs.Newcoming.{newcomer_past, host_past}
use Rattle.gw_chains.proofs.Chunking.{all_before, around}

module _ {A : Type 0} where
  -- a list around one of its places
  parts_at : (xs : List A) (p : ℕ) (y : A) → p < length xs → y ≡ get_or xs p y → xs ≡ take p xs ++ y ∷ drop (suc p) xs
  parts_at [] p y within is = absurd (omega (arith, within))
  parts_at (x ∷ xs) zero y within is = ap (λ z. z ∷ xs) (sym is)
  parts_at (x ∷ xs) (suc p) y within is = ap (λ zs. x ∷ zs) (parts_at xs p y (omega arith) is)

  set_at : (xs : List A) (p : ℕ) (v : A) → p < length xs → set xs p v ≡ take p xs ++ v ∷ drop (suc p) xs
  set_at [] p v within = absurd (omega (arith, within))
  set_at (x ∷ xs) zero v within = refl
  set_at (x ∷ xs) (suc p) v within = ap (λ zs. x ∷ zs) (set_at xs p v (omega arith))

  regrouped : (front before : List A) (y : A) (behind back : List A) → front ++ ((before ++ y ∷ behind) ++ back) ≡ (front ++ before) ++ y ∷ (behind ++ back)
  regrouped front before y behind back =
      ap (λ ws. front ++ ws) (append_assoc before (y ∷ behind) back) ∙ sym (append_assoc front before (y ∷ (behind ++ back)))

module _ {X Z : Type 0} (goes : X → X → Bool) (x y : X) (passes : goes y x ≡ true) (takes : goes x y ≡ true) where
  -- the like of a newcomer stands at this position
  module _ (cs : List (VecDeque X Z)) (i p : ℕ) (there : StandsAt y i p cs) (parts : IsPartitionedBy (λ z. goes z x) (all_of cs))
      (last : IsHostLast goes x (all_of cs)) (d : VecDeque X Z) where
    abbrev front : List X
    front = all_of (take i cs) ++ take p (get_or cs i d).items

    abbrev back : List X
    back = drop (suc p) (get_or cs i d).items ++ all_of (drop (suc i) cs)

    whole : all_of cs ≡ front ++ y ∷ back
    whole =
        around cs i d there.0
        ∙ ap (λ ws. all_of (take i cs) ++ (ws ++ all_of (drop (suc i) cs))) (parts_at (get_or cs i d).items p y (there.1 d) (there.2 d))
        ∙ regrouped (all_of (take i cs)) (take p (get_or cs i d).items) y (drop (suc p) (get_or cs i d).items) (all_of (drop (suc i) cs))

    host_here : host goes x (all_of cs) ≡ Some y
    host_here =
        ap (host goes x) whole
        ∙ host_past goes x front (y ∷ back)
        (all_before goes x front y back (subst (IsPartitionedBy (λ z. goes z x)) whole parts) (subst (IsHostLast goes x) whole last) passes)
        ∙ rw (passes, takes) refl

    taken_here : (unite : X → X → X) → with_newcomer goes unite x (all_of cs) ≡ front ++ unite y x ∷ back
    taken_here unite =
        ap (with_newcomer goes unite x) whole
        ∙ newcomer_past goes x unite front (y ∷ back)
        (all_before goes x front y back (subst (IsPartitionedBy (λ z. goes z x)) whole parts) (subst (IsHostLast goes x) whole last) passes)
        ∙ rw (passes, takes) refl

    replaced_here : (v : X) → all_of (take i cs) ++ (set (get_or cs i d).items p v ++ all_of (drop (suc i) cs)) ≡ front ++ v ∷ back
    replaced_here v =
        ap (λ ws. all_of (take i cs) ++ (ws ++ all_of (drop (suc i) cs))) (set_at (get_or cs i d).items p v (there.1 d))
        ∙ regrouped (all_of (take i cs)) (take p (get_or cs i d).items) v (drop (suc p) (get_or cs i d).items) (all_of (drop (suc i) cs))

  -- it takes the newcomer in
  pub known_host : (cs : List (VecDeque X Z)) (i p : ℕ) → StandsAt y i p cs → IsPartitionedBy (λ z. goes z x) (all_of cs)
      → IsHostLast goes x (all_of cs) → Some y ≡ host goes x (all_of cs)
  known_host [] i p there parts last = absurd (omega (arith, there.0))
  known_host (c ∷ cs) i p there parts last = sym (host_here (c ∷ cs) i p there parts last c)

  pub known_taken : (unite : X → X → X) (cs ds : List (VecDeque X Z)) (i n p : ℕ) (v : X) → n ≡ i + 1 → StandsAt y i p cs
      → IsPartitionedBy (λ z. goes z x) (all_of cs) → IsHostLast goes x (all_of cs) → v ≡ unite y x
      → ((d : VecDeque X Z) → all_of ds ≡ all_of (take i cs) ++ (set (get_or cs i d).items p v ++ all_of (drop n cs))) → all_of ds
      ≡ with_newcomer goes unite x (all_of cs)
  known_taken unite [] ds i n p v next there parts last taken is = absurd (omega (arith, there.0))
  known_taken unite (c ∷ cs) ds i n p v next there parts last taken is =
      let one : n ≡ suc i = omega (arith, next) in
      is c
      ∙ ap (λ m. all_of (take i (c ∷ cs)) ++ (set (get_or (c ∷ cs) i c).items p v ++ all_of (drop m (c ∷ cs)))) one
      ∙ replaced_here (c ∷ cs) i p there parts last c v
      ∙ ap (λ w. front (c ∷ cs) i p there parts last c ++ w ∷ back (c ∷ cs) i p there parts last c) taken
      ∙ sym (taken_here (c ∷ cs) i p there parts last c unite)
