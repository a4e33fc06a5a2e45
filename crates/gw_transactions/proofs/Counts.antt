-- A table of counts of which one rises or falls by one.
use Rattle.std.proofs.Common.{◌≡◌, ℕ, ◌+◌, ◌-◌, ◌<◌, ◌==◌, if◌then◌else◌, List, length, get_or, set, false, refl, sym, ap, ◌∙◌, subst, inl, inr, arith}
use Rattle.std.proofs.lemmas.Bool.{cases_lt, eq-eqb, ne_eqb}
use Rattle.gw_num.specs.Table.{at, put}
use Rattle.gw_num.proofs.Tables.{at-get_or_any, at_past, set-put, by_entry}

module _ (items counts : List ℕ) (is : items ≡ counts) (block : ℕ) where
  -- a count that isn't 0 has a place in the table
  pub counted_within : 0 < at 0 counts block → block < length items
  counted_within some =
      elim (cases_lt block (length items))
      [ inl less ↦ less | inr past ↦ absurd (omega (arith, some, at_past 0 items block past, ap (λ xs. at 0 xs block) is)) ]

  module _ (there : block < length items) (was : ℕ) (read : was ≡ get_or items block was) where
    pub count-is : was ≡ at 0 counts block
    count-is = read ∙ sym (at-get_or_any 0 was items block there) ∙ ap (λ xs. at 0 xs block) is

    written : (v : ℕ) (P : ℕ → ℕ → Type 0) → P block v → ((b : ℕ) → (block == b) ≡ false → P b (at 0 counts b)) → (b : ℕ) → P b (at 0 (set items block v) b)
    written v P here others b =
        subst (λ xs. P b (at 0 xs b)) (sym (set-put 0 items block v there ∙ ap (λ xs. put 0 xs block v) is))
        (by_entry 0 counts block v P here (λ j other. others j (ne_eqb block j (λ same. other (sym same)))) b)

    pub count-risen : (b : ℕ) → at 0 (set items block (was + 1)) b ≡ at 0 counts b + (if block == b then 1 else 0)
    count-risen =
        written (was + 1) (λ b x. x ≡ at 0 counts b + (if block == b then 1 else 0))
        (rw (eq-eqb block block refl) (omega (arith, count-is)))
        (λ b other. rw other (omega arith))

    pub count-fallen : 0 < at 0 counts block → (b : ℕ) → at 0 (set items block (was - 1)) b + (if block == b then 1 else 0) ≡ at 0 counts b
    count-fallen some =
        written (was - 1) (λ b x. x + (if block == b then 1 else 0) ≡ at 0 counts b)
        (rw (eq-eqb block block refl) (omega (arith, count-is, some)))
        (λ b other. rw other (omega arith))
