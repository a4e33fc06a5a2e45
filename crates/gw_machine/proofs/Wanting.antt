-- The wants of one list, of which one is written.
use Rattle.std.proofs.Common.{◌⊎◌, inl, inr, ◌≡◌, ℕ, zero, suc, ◌+◌, ◌≤◌, ◌<◌, ◌==◌, if◌then◌else◌, Bool, true, false, List, [], ◌∷◌, ◌++◌, length}
use Rattle.std.proofs.Common.{map, get_or, refl, sym, ap, ◌∙◌, subst, arith}
use Rattle.std.specs.Prelude.{slice_set}
use Rattle.std.proofs.lemmas.Bool.{cases_eq, eq-eqb}
use Rattle.gw_num.specs.Table.{at, put}
use Rattle.gw_num.proofs.Tables.{at-put, at-put_other, by_entry, length-put, sum_by-put}
use Rattle.gw_step.specs.State.{with_one_more_at}
use Rattle.gw_step.proofs.Residence.{at-le-sum}
use Rattle.gw_machine.specs.declared.wants.Want.{Want}
use Rattle.gw_machine.specs.Wants.{nobody, counted_at, want_count, IsAt, IsTold, CountsNewcomer, CountsLeaver, CountsEntry}

-- one more at the end is one written there
pub appended-put : {X : Type 0} (d : X) (xs : List X) (x : X) → xs ++ x ∷ [] ≡ put d xs (length xs) x
appended-put d [] x = refl
appended-put d (y ∷ ys) x = ap (λ zs. y ∷ zs) (appended-put d ys x)

either_way : (b : Bool) (n : ℕ) → (if b then n else n) ≡ n
either_way true n = refl
either_way false n = refl

pub none-counted : (b : ℕ) → counted_at b nobody ≡ 0
none-counted b = either_way (0 == b) 0

-- what a want counts, where it is for this block if it counts anybody
counts : (w : Want) (block b : ℕ) → (0 < w.waiting → w.block ≡ block) → counted_at b w ≡ (if block == b then w.waiting else 0)
counts w block b same = by_count w.waiting refl
  where
    by_count : (n : ℕ) → w.waiting ≡ n → counted_at b w ≡ (if block == b then w.waiting else 0)
    by_count zero is = rw is (either_way (w.block == b) 0 ∙ sym (either_way (block == b) 0))
    by_count (suc n) is = rw (same (omega (arith, is))) refl

-- a want counts no more than all do
pub counted-within : (b n i : ℕ) (ws : List Want) → IsAt b n i ws → (at nobody ws i).waiting ≤ want_count b ws
counted-within b n i ws there =
    let here : counted_at b (at nobody ws i) ≡ (at nobody ws i).waiting = rw (eq-eqb (at nobody ws i).block b there.block) refl in
    omega (arith, here, at-le-sum nobody (counted_at b) ws i (none-counted b))

-- where one is written at a place
module _ (ws : List Want) (i : ℕ) (v : Want) (block entries : ℕ) where
  abbrev was : Want
  was = at nobody ws i

  abbrev new : List Want
  new = put nobody ws i v

  written-wanting : (b : ℕ) → want_count b new + counted_at b was ≡ want_count b ws + counted_at b v
  written-wanting b = sum_by-put nobody (counted_at b) ws i v (none-counted b)

  pub newcomer-counted : v.block ≡ block → v.waiting ≡ was.waiting + 1
      → ((v.entries ≡ entries) ⊎ ((v.entries ≡ was.entries) × (was.block ≡ block)))
      → (0 < was.waiting → (was.block ≡ block) × (v.entries ≡ was.entries)) → CountsNewcomer block entries ws new
  newcomer-counted here more kept same = record {
    wanting = λ b.
        let before = counts was block b (λ some. (same some).0) in
        let after = counts v block b (λ some. here) in
        risen b (block == b) (before) (after);
    told = λ es is told j.
        elim (cases_eq j i) [
          | inl at_i ↦ subst (λ k. IsTold es (at nobody ws k)) (sym at_i)
              (λ some. let s = same some in
              let now : v.entries ≡ at 0 es v.block = (subst (IsTold es) (at-put nobody ws i v) (told i)) (omega (arith, more)) in
              sym s.1 ∙ now ∙ ap (at 0 es) (here ∙ sym s.0))
          | inr other ↦ subst (IsTold es) (at-put_other nobody ws i j v other) (told j)
        ];
    past = λ es is past.
        by_entry nobody ws i v (λ j w. w.entries ≤ at 0 es w.block)
        (elim kept [
          | inl e ↦ omega (arith, e, is, ap (at 0 es) here)
          | inr e ↦ omega (arith, e.0, past i, ap (at 0 es) (here ∙ sym e.1))
        ])
        (λ j other. past j);
  }
    where
      risen : (b : ℕ) (c : Bool) → counted_at b was ≡ (if c then was.waiting else 0) → counted_at b v ≡ (if c then v.waiting else 0)
          → want_count b new ≡ want_count b ws + (if c then 1 else 0)
      risen b true before after = omega (arith, written-wanting b, before, after, more)
      risen b false before after = omega (arith, written-wanting b, before, after)

  pub leaver-counted : IsAt block 1 i ws → was.entries ≡ entries → v.block ≡ was.block → v.entries ≡ was.entries → v.waiting + 1
      ≡ was.waiting → CountsLeaver block entries ws new
  leaver-counted there is_told blocks kept fewer = record {
    wanting = λ b. fallen b (block == b) (counts was block b (λ some. there.block)) (counts v block b (λ some. blocks ∙ there.block));
    told = λ es is told j.
        elim (cases_eq j i) [
          | inl at_i ↦ subst (λ k. IsTold es (at nobody ws k)) (sym at_i) (λ some. is_told ∙ sym is ∙ ap (at 0 es) (sym there.block))
          | inr other ↦ subst (IsTold es) (at-put_other nobody ws i j v other) (told j)
        ];
    past = λ es is past.
        by_entry nobody ws i v (λ j w. w.entries ≤ at 0 es w.block)
        (omega (arith, kept, past i, ap (at 0 es) blocks))
        (λ j other. past j);
  }
    where
      fallen : (b : ℕ) (c : Bool) → counted_at b was ≡ (if c then was.waiting else 0) → counted_at b v ≡ (if c then v.waiting else 0)
          → want_count b new + (if c then 1 else 0) ≡ want_count b ws
      fallen b true before after = omega (arith, written-wanting b, before, after, fewer)
      fallen b false before after = omega (arith, written-wanting b, before, after)

-- ENTRIES

risen-at : (es : List ℕ) (block b : ℕ) → at 0 es b ≤ at 0 (with_one_more_at block es) b
risen-at es block b = elim (cases_eq b block) [
  | inl same ↦ omega (arith, ap (λ k. at 0 (with_one_more_at block es) k) same, at-put 0 es block (at 0 es block + 1), ap (at 0 es) same)
  | inr other ↦ omega (arith, at-put_other 0 es block b (at 0 es block + 1) other)
]

-- a want that is told of all entries after one more was told of all before it, and has another block
told_before : (es : List ℕ) (block : ℕ) (w : Want) → w.entries ≤ at 0 es w.block → IsTold (with_one_more_at block es) w → IsTold es w
told_before es block w past told some = elim (cases_eq w.block block) [
  | inl same ↦ absurd (omega
      (arith, past, told some, ap (λ k. at 0 (with_one_more_at block es) k) same, at-put 0 es block (at 0 es block + 1), ap (at 0 es) same))
  | inr other ↦ told some ∙ at-put_other 0 es block w.block (at 0 es block + 1) other
]

-- where no want is told of an entry, none that was told of all before is told of all after
pub entry-untold : (ws : List Want) (block entries : ℕ) → CountsEntry block entries ws ws
entry-untold ws block entries = record {
  many = refl;
  wanting = λ b. refl;
  told = λ es is past told j. told_before es block (at nobody ws j) (past j) (told j);
  past = λ es is past j. omega (arith, past j, risen-at es block (at nobody ws j).block);
}

module _ (ws : List Want) (i : ℕ) (v : Want) (block entries : ℕ) where
  pub entry-told : IsAt block 1 i ws → (at nobody ws i).entries ≡ entries → v.block ≡ (at nobody ws i).block → v.waiting
      ≡ (at nobody ws i).waiting → v.entries ≡ entries + 1 → CountsEntry block entries ws (put nobody ws i v)
  entry-told there was_told blocks same told_now = record {
    many = length-put nobody ws i v there.within;
    wanting = λ b.
        let before = counts (at nobody ws i) block b (λ some. there.block) in
        let after = counts v block b (λ some. blocks ∙ there.block) in
        kept b (block == b) before after;
    told = λ es is past told j.
        elim (cases_eq j i) [
          | inl at_i ↦ subst (λ k. IsTold es (at nobody ws k)) (sym at_i) (λ some. was_told ∙ sym is ∙ ap (at 0 es) (sym there.block))
          | inr other ↦ told_before es block (at nobody ws j) (past j)
              (subst (IsTold (with_one_more_at block es)) (at-put_other nobody ws i j v other) (told j))
        ];
    past = λ es is past.
        by_entry nobody ws i v (λ j w. w.entries ≤ at 0 (with_one_more_at block es) w.block)
        (omega (arith, told_now, is, ap (λ k. at 0 (with_one_more_at block es) k) (blocks ∙ there.block), at-put 0 es block (at 0 es block + 1)))
        (λ j other. omega (arith, past j, risen-at es block (at nobody ws j).block));
  }
    where
      kept : (b : ℕ) (c : Bool) → counted_at b (at nobody ws i) ≡ (if c then (at nobody ws i).waiting else 0) → counted_at b v
          ≡ (if c then v.waiting else 0) → want_count b (put nobody ws i v) ≡ want_count b ws
      kept b true before after = omega (arith, sum_by-put nobody (counted_at b) ws i v (none-counted b), before, after, same)
      kept b false before after = omega (arith, sum_by-put nobody (counted_at b) ws i v (none-counted b), before, after)

-- THE LISTS OF SEVERAL ENTITIES

module _ {X Y : Type 0} (f : X → Y) (d : Y) where
  pub map-set : (xs : List X) (e : ℕ) (v : X) → e < length xs → map f (slice_set xs e v) ≡ put d (map f xs) e (f v)
  map-set [] e v there = absurd (omega (arith, there))
  map-set (x ∷ xs) zero v there = refl
  map-set (x ∷ xs) (suc e) v there = ap (λ ys. f x ∷ ys) (map-set xs e v (omega (arith, there)))

  pub read-map : (xs : List X) (e : ℕ) (was : X) → e < length xs → was ≡ get_or xs e was → at d (map f xs) e ≡ f was
  read-map [] e was there read = absurd (omega (arith, there))
  read-map (x ∷ xs) zero was there read = ap f (sym read)
  read-map (x ∷ xs) (suc e) was there read = read-map xs e was (omega (arith, there)) read

  -- one more at the end of which nothing is known
  pub appended-none : (xs : List X) (v : X) → f v ≡ d → (k : ℕ) → at d (map f (xs ++ v ∷ [])) k ≡ at d (map f xs) k
  appended-none [] v none zero = none
  appended-none [] v none (suc k) = refl
  appended-none (x ∷ xs) v none zero = refl
  appended-none (x ∷ xs) v none (suc k) = appended-none xs v none k
