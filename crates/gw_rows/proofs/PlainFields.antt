-- No field of a row that can be read needs quotes.
use Rattle.std.proofs.Common.{◌≡◌, ◌∙◌, ◌<◌, ◌≤◌, ◌+◌, ◌^◌, ◌/◌, ◌%◌, ◌==◌, ℕ, zero, suc, List, [], ◌∷◌, ◌++◌, map, Bool, true, false, cond, refl, ap}
use Rattle.std.proofs.Common.{arith, inl, inr}
use Rattle.std.specs.Prelude.{Option, None, Some, ℤ, pos, negsuc, codes}
use Rattle.std.specs.List.{All, list_any}
use Rattle.std.specs.Fmt.{decimal}
use Rattle.std.proofs.lemmas.Bool.{cases_Bool, cases_eq}
use Rattle.std.proofs.lemmas.List.Elements.{All-head, All-tail}
use Rattle.csv.specs.Writing.{default_writer, needs_byte}
use Rattle.gw_step.specs.declared.ends.End.{End}
use Rattle.gw_step.specs.declared.ends.End.TheVariants.{Done, Number, ZeroDivisor, NegativeTime, LoopLimit, NoMoreEvents, Budget, Live}
use Rattle.gw_scan.specs.declared.sim.Status.TheVariants.{Ended}
use Rattle.gw_report.specs.Report.{status_word}
use Rattle.gw_figures.specs.Labels.{Label}
use Rattle.gw_figures.specs.Trends.{value_at}
use Rattle.gw_figures.specs.declared.run.Overdraw.{Overdraw}
use Rattle.gw_figures.specs.declared.run.Run.{Run}
use Rattle.gw_rows.specs.Amounts.{amount_field, size_text, fraction}
use Rattle.gw_rows.specs.Names.{has_trend}
use Rattle.gw_rows.specs.Reading.{IsAmount, IsPlain, IsReadable, IsStreamInRange}
use Rattle.gw_rows.specs.Rows.{Source, fields, rows_field, overdraw_text, overdraws_text, between, trend_field, trend_fields}
use Rattle.gw_rows.proofs.Decimals.{FailsAtDigits, each_digit, none_in_decimal, none_in_last, any_append}
use Rattle.gw_rows.proofs.AmountFields.{amount_above, amount_below, fraction_none, fraction_is}
use Rattle.gw_rows.proofs.Parting.{ArePlain}

plain_digits : FailsAtDigits (needs_byte default_writer)
plain_digits = each_digit (λ d. needs_byte default_writer (48 + d) ≡ false) refl refl refl refl refl refl refl refl refl refl

pub plain_decimal : (n : ℕ) → n < 10 ^ 64 → IsPlain (decimal n)
plain_decimal n h = none_in_decimal (needs_byte default_writer) plain_digits n h

pub plain_append : (xs ys : List ℕ) → IsPlain xs → IsPlain ys → IsPlain (xs ++ ys)
plain_append xs ys = any_append (needs_byte default_writer) xs ys

plain_rows : (n : ℕ) → n < 10 ^ 64 → IsPlain (rows_field n)
plain_rows n h = elim (cases_Bool (n == 0)) [
  | inl none ↦ ap (λ b. list_any (needs_byte default_writer) (cond b [] (decimal n))) none
  | inr some ↦ ap (λ b. list_any (needs_byte default_writer) (cond b [] (decimal n))) some ∙ plain_decimal n h
]

plain_word : (end : End) → IsPlain (status_word (Ended end))
plain_word Done = refl
plain_word Number = refl
plain_word ZeroDivisor = refl
plain_word NegativeTime = refl
plain_word LoopLimit = refl
plain_word NoMoreEvents = refl
plain_word Budget = refl
plain_word Live = refl

plain_overdraw : (o : Overdraw) → IsStreamInRange o → IsPlain (overdraw_text o)
unfolding overdraw_text
plain_overdraw o h =
    plain_append (((codes "RN" ++ decimal o.stream) ++ codes "=") ++ decimal o.most ++ codes "/") (decimal o.own)
    (plain_append ((codes "RN" ++ decimal o.stream) ++ codes "=" ++ decimal o.most) (codes "/")
    (plain_append ((codes "RN" ++ decimal o.stream) ++ codes "=") (decimal o.most)
    (plain_append (codes "RN" ++ decimal o.stream) (codes "=")
    (plain_append (codes "RN") (decimal o.stream) refl (plain_decimal o.stream (omega (arith, h.stream)))) refl)
    (plain_decimal o.most (omega (arith, h.most)))) refl)
    (plain_decimal o.own (omega (arith, h.own)))

plain_between : (place : ℕ) → IsPlain (between place)
plain_between place = by_test (place == 0)
  where
    by_test : (b : Bool) → IsPlain (cond b [] (codes " "))
    by_test true = refl
    by_test false = refl

plain_overdraws : (place : ℕ) (os : List Overdraw) → All IsStreamInRange os → IsPlain (overdraws_text place os)
unfolding overdraws_text
plain_overdraws place [] h = refl
plain_overdraws place (o ∷ os) h =
    plain_append (between place ++ overdraw_text o) (overdraws_text (place + 1) os)
    (plain_append (between place) (overdraw_text o) (plain_between place) (plain_overdraw o (All-head IsStreamInRange o os h)))
    (plain_overdraws (place + 1) os (All-tail IsStreamInRange o os h))

plain_fraction : (m : ℕ) → m < 1000000 → IsPlain (fraction m)
plain_fraction m h = elim (cases_eq m 0) [
  | inl none ↦ ap (λ n. list_any (needs_byte default_writer) (fraction n)) none ∙ ap (list_any (needs_byte default_writer)) fraction_none
  | inr some ↦
      let is = fraction_is m (omega arith) h in
      ap (list_any (needs_byte default_writer)) is.text_is ∙ none_in_last (needs_byte default_writer) plain_digits is.k is.q
]

plain_size : (n : ℕ) → n ≤ 2 ^ 128 → IsPlain (size_text n)
plain_size n h = plain_append (decimal (n / 1000000)) (fraction (n % 1000000)) (plain_decimal (n / 1000000) (omega arith))
    (plain_fraction (n % 1000000) (omega arith))

pub plain_amount : (value : Option ℤ) → IsAmount value → IsPlain (amount_field value)
plain_amount None h = refl
plain_amount (Some (pos n)) h = let fits = h.sfits in ap (list_any (needs_byte default_writer)) (amount_above n) ∙ plain_size n (omega arith)
plain_amount (Some (negsuc n)) h = let fits = h.sfits in ap (list_any (needs_byte default_writer)) (amount_below n) ∙ plain_size (suc n) (omega arith)

pub plain_both : (xs ys : List (List ℕ)) → ArePlain xs → ArePlain ys → ArePlain (xs ++ ys)
plain_both [] ys h k = k
plain_both (x ∷ xs) ys (here, rest) k = (here, plain_both xs ys rest k)

plain_values : (values : List (Option ℤ)) → All IsAmount values → ArePlain (map amount_field values)
plain_values [] h = tt
plain_values (v ∷ vs) h = (plain_amount v (All-head IsAmount v vs h), plain_values vs (All-tail IsAmount v vs h))

plain_change : (label : Label) (t : Option ℤ) → IsAmount t → ArePlain (trend_field label t)
plain_change label t h = by_test (has_trend label)
  where
    by_test : (b : Bool) → ArePlain (cond b (amount_field t ∷ []) [])
    by_test true = (plain_amount t h, tt)
    by_test false = tt

plain_changes : (labels : List Label) (place : ℕ) (trends : List (Option ℤ)) → ((i : ℕ) → IsAmount (value_at i trends))
    → ArePlain (trend_fields labels place trends)
unfolding trend_fields
plain_changes [] place trends h = tt
plain_changes (label ∷ labels) place trends h =
    plain_both (trend_field label (value_at place trends)) (trend_fields labels (place + 1) trends) (plain_change label (value_at place trends) (h place))
    (plain_changes labels (place + 1) trends h)

any_amount : (trends : List (Option ℤ)) → All IsAmount trends → (i : ℕ) → IsAmount (value_at i trends)
any_amount [] h i = tt
any_amount (t ∷ ts) h zero = All-head IsAmount t ts h
any_amount (t ∷ ts) h (suc i) = any_amount ts (All-tail IsAmount t ts h) i

pub plain_fields : (labels : List Label) (s : Source) (number : ℕ) (run : Run) → IsReadable labels s number run → ArePlain (fields labels s number run)
plain_fields labels s number run h = (
  h.model,
  (
    plain_rows s.rows (omega (arith, h.source.rows)),
    (
      h.point,
      (
        plain_decimal s.count (omega (arith, h.source.most)),
        (
          plain_decimal s.from (omega (arith, h.source.from)),
          (
            plain_decimal number (omega (arith, h.source.number)),
            (
              plain_word run.end,
              (
                plain_decimal run.steps (omega (arith, h.range.steps)),
                (
                  plain_overdraws 0 run.overdraws.items h.range.overdraws,
                  plain_both (map amount_field run.values.items) (trend_fields labels 0 run.trend.items) (plain_values run.values.items h.range.values)
                      (plain_changes labels 0 run.trend.items (any_amount run.trend.items h.range.trend)),
                ),
              ),
            ),
          ),
        ),
      ),
    ),
  ),
)
