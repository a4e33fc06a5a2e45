-- Walks over the statements of a text, one statement after the other.
use Rattle.std.proofs.Common.{◌≡◌, ℕ, zero, suc, ◌+◌, List, [], ◌∷◌, ◌++◌, Some, None, slice_get, refl, sym, ap, subst, ◌∙◌, append_assoc, drop}
use Rattle.std.proofs.Common.{length, get_or, ◌<◌, ◌≤◌, arith}
use Rattle.std.proofs.lemmas.Option.{slice_get_read}
use Rattle.gw_object.specs.declared.blocks.Block.{Block}
use Rattle.gw_text.specs.declared.model.Statement.{Statement}
use Rattle.gw_compile.specs.Numbers.{Numbers}
use Rattle.gw_pieces.specs.declared.origins.Origin.{Origin}
use Rattle.gw_pieces.specs.Blocks.{block_at, blocks_from, IsRecorded, AllRecorded}

-- what is left at a place begins with what stands there
behind : {A : Type 0} (xs : List A) (i : ℕ) (x : A) → slice_get xs i ≡ Some x → drop i xs ≡ x ∷ drop (suc i) xs
behind [] i x h = absurd cc
behind (y ∷ ys) zero x h = let e : y ≡ x = cc in ap (λ z. z ∷ ys) e
behind (y ∷ ys) (suc i) x h = behind ys i x h

pub split_at : {A : Type 0} (xs : List A) (i : ℕ) (x : A) → slice_get xs i ≡ Some x → drop i xs ≡ x ∷ drop (i + 1) xs
split_at xs i x h =
    let next : suc i ≡ i + 1 = omega arith in
    behind xs i x h ∙ ap (λ k. x ∷ drop k xs) next

-- what was read at a place stands there
pub read_at : {A : Type 0} (xs ys : List A) (i : ℕ) (x : A) → ys ≡ xs → i < length ys → ((d : A) → x ≡ get_or ys i d) → slice_get xs i ≡ Some x
read_at xs ys i x same below is = subst (λ zs. slice_get zs i ≡ Some x) same (slice_get_read ys (length ys) i x refl below (is x))

past : {A : Type 0} (xs : List A) (i : ℕ) → length xs ≤ i → slice_get xs i ≡ None
past [] i h = refl
past (x ∷ xs) zero h = absurd (omega (arith, h))
past (x ∷ xs) (suc i) h = past xs i (omega (arith, h))

-- and behind the end nothing does
pub none_at : {A : Type 0} (xs ys : List A) (i : ℕ) → ys ≡ xs → length ys ≤ i → slice_get xs i ≡ None
none_at xs ys i same behind_all = subst (λ zs. slice_get zs i ≡ None) same (past ys i behind_all)

module _ (n : Numbers) (order : List Origin) (ss : List Statement) (i : ℕ) (s : Statement) (at : slice_get ss i ≡ Some s) where
  pub next_block : (before after whole : List Block) → after ≡ before ++ block_at n order s i → before ++ blocks_from n order i (drop i ss)
      ≡ whole → after ++ blocks_from n order (i + 1) (drop (i + 1) ss) ≡ whole
  next_block before after whole grown h =
      ap (λ bs. bs ++ blocks_from n order (i + 1) (drop (i + 1) ss)) grown
      ∙ append_assoc before (block_at n order s i) (blocks_from n order (i + 1) (drop (i + 1) ss))
      ∙ ap (λ left. before ++ blocks_from n order i left) (sym (split_at ss i s at))
      ∙ h

  pub next_recorded : IsRecorded n order s i → (AllRecorded n order i (drop i ss) → AllRecorded n order 0 ss)
      → AllRecorded n order (i + 1) (drop (i + 1) ss) → AllRecorded n order 0 ss
  next_recorded here before rest = before (subst (AllRecorded n order i) (sym (split_at ss i s at)) (here, rest))
