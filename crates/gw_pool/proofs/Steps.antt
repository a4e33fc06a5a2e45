-- Each kind of step keeps the board's rule.
use Rattle.std.proofs.Common.{zero, suc, ◌≡◌, ℕ, ◌≤◌, ◌<◌, ⊎_elim, List, [], ◌∷◌, length, get_or, set, refl, sym, ◌∙◌, subst, arith}
use Rattle.std.specs.Prelude.{max, replicate}
use Rattle.std.proofs.lemmas.List.{get_or-set_same, get_or-set_other, length-set, get_or-replicate, length-replicate, get_or_past}
use Rattle.std.proofs.Math.Nat.{le-max_left, le-max_right, max-le}
use Rattle.std.proofs.Math.Decide.{dec_lt}
use mathlib.Core.Option.{some, none, some-injective, some-ne-none}
use mathlib.Core.Logic.{dite}
use native.Mathlib.Decide.{ℕ_discrete}
use lib.ListN.{get_elem?}
use Rattle.atomic_table.proofs.Lists.{at_set, at_snoc, set_again}
use Rattle.atomic_table.specs.Table.{Me, step, Allows, Splits, Joins, keeps}
use Rattle.gw_service.specs.Calls.{most_jobs}
use Rattle.gw_pool.specs.declared.view.View.{View}
use Rattle.gw_pool.specs.Board.{IsBoard, FitsWords, IsRaised, IsReading, Publishes, Reads, SameBut, most_count, empty_view}

-- THE FIRST STEP: THE BOARD IS MADE

abbrev zeros : List ℕ
zeros = replicate most_jobs 0

zero_at : (k : ℕ) → get_or zeros k 0 ≡ 0
zero_at k = dite (dec_lt k most_jobs) (λ h. get_or-replicate most_jobs k 0 0 h)
    (λ h. get_or_past zeros k 0 (omega (arith, length-replicate {A = ℕ} most_jobs 0)))

-- an empty view fits whatever words there are
empty_fits : (words : List ℕ) → FitsWords words empty_view
empty_fits words = record { len = length-replicate {A = ℕ} most_jobs 0; least = λ k. omega (arith, zero_at k) }

first_fits : (id : ℕ) (v : View) → get_elem? (empty_view ∷ []) id ≡ some v → FitsWords zeros v
first_fits zero v e = subst (FitsWords zeros) (some-injective empty_view v e) (empty_fits zeros)
first_fits (suc id) v e = absurd (some-ne-none v (sym e))

pub opens : IsBoard zeros (empty_view ∷ [])
opens = record {
  len = length-replicate {A = ℕ} most_jobs 0;
  most = λ k. omega (arith, zero_at k);
  fit = first_fits;
}

-- A WORD RISES

-- a word that rises leaves no count above its word
stays_under : (ws : List ℕ) (i n k : ℕ) → length ws ≡ most_jobs → i < most_jobs → get_or ws i 0 ≤ n → get_or ws k 0 ≤ get_or (set ws i n) k 0
stays_under ws i n k len small up =
    dite (ℕ_discrete k i)
    (λ e. let here = get_or-set_same ws i n 0 (omega arith) in
    let P : ℕ → Type 0 = λ j. get_or ws j 0 ≤ get_or (set ws i n) j 0 in subst P (sym e) (omega arith))
    (λ ne. let there = get_or-set_other ws i k n 0 ne in omega arith)

-- nor does it where a view is told x of it, at most what it became
told_under : (ws cs : List ℕ) (i n x k : ℕ) → length ws ≡ most_jobs → length cs ≡ most_jobs → i < most_jobs → get_or ws i 0 ≤ n → x ≤ n
    → get_or cs k 0 ≤ get_or ws k 0
    → get_or (set cs i x) k 0 ≤ get_or (set ws i n) k 0
told_under ws cs i n x k lw lc small up low fits =
    dite (ℕ_discrete k i)
    (λ e. let here = get_or-set_same ws i n 0 (omega arith) in let mine = get_or-set_same cs i x 0 (omega arith) in
    let P : ℕ → Type 0 = λ j. get_or (set cs i x) j 0 ≤ get_or (set ws i n) j 0 in subst P (sym e) (omega arith))
    (λ ne. let there = get_or-set_other ws i k n 0 ne in let mine = get_or-set_other cs i k x 0 ne in omega arith)

stays_bounded : (ws : List ℕ) (i n k : ℕ) → length ws ≡ most_jobs → i < most_jobs → n ≤ most_count → get_or ws k 0 ≤ most_count
    → get_or (set ws i n) k 0 ≤ most_count
stays_bounded ws i n k lw small top was =
    dite (ℕ_discrete k i)
    (λ e. let here = get_or-set_same ws i n 0 (omega arith) in
    let P : ℕ → Type 0 = λ j. get_or (set ws i n) j 0 ≤ most_count in subst P (sym e) (omega arith))
    (λ ne. let there = get_or-set_other ws i k n 0 ne in omega arith)

-- the view, with another count for a slot
abbrev with_count : View → ℕ → ℕ → View
with_count v i x = record { counts = set v.counts i x }

-- a word rises to n, and the view of the seat id is told x of it
rises : (ws : List ℕ) (vs : List View) (id i n x : ℕ) (v : View) → IsBoard ws vs → get_elem? vs id ≡ some v → i < most_jobs
    → get_or ws i 0 ≤ n → n ≤ most_count → x ≤ n → IsBoard (set ws i n) (set vs id (with_count v i x))
rises ws vs id i n x v kept at small up top low = record {
  len = length-set ws i n ∙ kept.len;
  most = λ k. stays_bounded ws i n k kept.len small top (kept.most k);
  fit = λ j w e. ⊎_elim
      (λ s. let P : View → Type 0 = λ u. FitsWords (set ws i n) u in
      let f = kept.fit id v at in
      let told : FitsWords (set ws i n) (with_count v i x) = record {
        len = length-set v.counts i x ∙ f.len;
        least = λ k. told_under ws v.counts i n x k kept.len f.len small up low (f.least k);
      } in
      subst P s.1 told)
      (λ s. let f = kept.fit j w s.1 in record {
        len = f.len;
        least = λ k. let g = stays_under ws i n k kept.len small up in let h = f.least k in omega arith;
      })
      (at_set vs id j (with_count v i x) w e);
}

same_but : (v : View) (i x : ℕ) → SameBut i v (with_count v i x)
same_but v i x k ne = get_or-set_other v.counts i k x 0 ne

-- THE STEPS OF SEATS

pub publishes : (id : ℕ) (me : Me ℕ View) (n i k : ℕ) → i < most_jobs → k ≤ most_count
    → Allows {S = ℕ} {V = View} (λ s. IsBoard s.words s.views) n id me i (λ found. max found k) (Publishes (step n i k 0 none) me)
publishes id me n i k small top s kept homes at fits =
    let v = me.0 in
    let found = get_or s.words i 0 in
    let mine = kept.fit id v at in
    let x = max (get_or v.counts i 0) k in
    let a = le-max_left found k in
    let b = le-max_right found k in
    let bound : max found k ≤ most_count = max-le (kept.most i) top in
    let knows = mine.least i in
    let low : x ≤ max found k = max-le (omega arith) b in
    let told : IsRaised i k v (with_count v i x) = record { count = get_or-set_same v.counts i x 0 (omega (arith, mine.len)); others = same_but v i x } in (
      with_count v i x,
      keeps,
      tt,
      rises s.words s.views id i (max found k) x v kept at small a bound low,
      (refl, told),
    )

pub reads : (id : ℕ) (me : Me ℕ View) (n i : ℕ) → i < most_jobs
    → Allows {S = ℕ} {V = View} (λ s. IsBoard s.words s.views) n id me i (λ found. found) (Reads (step n i 0 0 none) me)
reads id me n i small s kept homes at fits =
    let v = me.0 in
    let found = get_or s.words i 0 in
    let mine = kept.fit id v at in
    let told : IsReading i found v (with_count v i found) = record {
      least = mine.least i;
      most = kept.most i;
      count = get_or-set_same v.counts i found 0 (omega (arith, mine.len));
      others = same_but v i found;
    } in (
      with_count v i found,
      keeps,
      tt,
      rises s.words s.views id i found found v kept at small (omega arith) (kept.most i) (omega arith),
      (refl, told),
    )

pub splits : (id : ℕ) (v : View) → Splits {S = ℕ} {V = View} (λ s. IsBoard s.words s.views) id v v empty_view
splits id v s kept at = record {
  len = kept.len;
  most = kept.most;
  fit = λ j w e. ⊎_elim
      (λ there. kept.fit j w (let P : List View → Type 0 = λ vs. get_elem? vs j ≡ some w in subst P (set_again s.views id v at) there))
      (λ last. subst (FitsWords s.words) last (empty_fits s.words))
      (at_snoc (set s.views id v) empty_view w j e);
}

pub joins : (id : ℕ) (v : View) (other : ℕ) (w : View) → Joins {S = ℕ} {V = View} (λ s. IsBoard s.words s.views) id v other w v empty_view
joins id v other w s kept at apart other_at = record {
  len = kept.len;
  most = kept.most;
  fit = λ j u e. ⊎_elim
      (λ spent. subst (FitsWords s.words) spent.1 (empty_fits s.words))
      (λ there. kept.fit j u (let P : List View → Type 0 = λ vs. get_elem? vs j ≡ some u in subst P (set_again s.views id v at) there.1))
      (at_set (set s.views id v) other j empty_view u e);
}
